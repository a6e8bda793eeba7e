use Rattle.std.proofs.Common.{◌≡◌, Bool, false, Decides, ◌∙◌, arith}
use Rattle.std.proofs.lemmas.Result.{MatchResult-from_err}
use Rattle.std.proofs.lemmas.Bool.{both_ways}
use Rattle.book.proofs.Books.{one_book}
use Rattle.book.proofs.RuleReads.{one_rule_more, book_read, no_rule_no_book, too_many_no_book}
use Rattle.book.proofs.book.read_book.Goals as goal

decided_not : {b : Bool} {P : Type 0} → Decides b P → b ≡ false → P → ⊥
decided_not {b} d h p = both_ways b h (d.1 p)

pub returns-then-count-eq-MOST_RULES : goal.returns-then-count-eq-MOST_RULES
returns-then-count-eq-MOST_RULES c =
    let s = c.args.text.now in
    let at = c.loop-reader.reader.at in
    let ends = rw c.loop-reader.invariant.text at c.is_at_end.ensures in
    record { says = too_many_no_book s at c.loop-reader.count c.loop-reader.invariant.read (decided_not ends c.loop-reader-test.true) c.if-count-eq-MOST_RULES.true; one = one_book s }

pub returns-in_err-rule : goal.returns-in_err-rule
returns-in_err-rule c =
    let s = c.args.text.now in
    let at = c.loop-reader.reader.at in
    let ends = rw c.loop-reader.invariant.text at c.is_at_end.ensures in
    let none = rw c.loop-reader.invariant.text at c.in_err-rule.ensures.read in
    record {
      says = MatchResult-from_err _ _ _ c.from_residual.ensures.0 (λ _. no_rule_no_book s at c.loop-reader.count c.loop-reader.invariant.read (decided_not ends c.loop-reader-test.true) none);
      one = one_book s;
    }

pub loop-reader-preserved : goal.loop-reader-preserved
loop-reader-preserved c =
    let s = c.args.text.now in
    let few = c.loop-reader.invariant.read.few in
    let one = rw c.loop-reader.invariant.text at c.in_ok-rule.ensures.read in
    record {
      text = c.in_ok-rule.ensures.text ∙ c.loop-reader.invariant.text;
      read = one_rule_more s c.loop-reader.reader.at c.rule.new.self.at c.loop-reader.count c.in_ok-rule.field-0 c.loop-reader.invariant.read (omega arith) one;
    }

pub returns : goal.returns
returns c =
    let s = c.args.text.now in
    let at = c.loop-reader.reader.at in
    let ends = rw c.loop-reader.invariant.text at c.is_at_end.ensures in
    record { says = book_read s at c.loop-reader.count c.loop-reader.invariant.read (ends.0 c.loop-reader-test.false); one = one_book s }
