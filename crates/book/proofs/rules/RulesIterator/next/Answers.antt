use Rattle.std.proofs.Math.Logic.{∥∥₁_map}
use Rattle.std.proofs.lemmas.Grind.{not_there}
use Rattle.book.proofs.RuleReads.{rules_there, rules_after}
use Rattle.book.proofs.rules.RulesIterator.next.Goals as goal

pub unreachable-requires : goal.unreachable-requires
unreachable-requires c =
    let r = c.args.self.now in
    not_there r.coming (λ come. rules_there r.reader.text.now r.reader.at r.left come c.if-left-eq0.false (rw c.in_default.is at c.rule.ensures.read))

pub invariant_of-self : goal.invariant_of-self
invariant_of-self c =
    let r = c.args.self.now in
    record {
      coming = rw c.in-Ok.ensures.text
          (∥∥₁_map r.coming (λ come. rules_after r.reader.text.now r.reader.at c.rule.new.self.at r.left c.in-Ok.rule come c.if-left-eq0.false c.in-Ok.ensures.read));
    }
