use Rattle.std.proofs.Common.{◌∙◌}
use Rattle.std.proofs.lemmas.Result.{MatchResult-from_err}
use Rattle.book.proofs.RuleReads.{rule_expected, width_expected, needed_no_number, needed_expected}
use Rattle.book.proofs.reader.Reader.header.Goals as goal

pub returns-in_default : goal.returns-in_default
returns-in_default c = record {
  text = c.next.ensures.text;
  read = rule_expected c.args.self.now.text.now c.args.self.now.at c.next.new.self.at c.next.result c.next.ensures.next.2 c.in_default.not-Rule;
}

pub returns-in_default-try_from-clause-read : goal.returns-in_default-try_from-clause-read
returns-in_default-try_from-clause-read c =
    let f = c.in-Rule.ensures.next.2 in
    let bits = rw c.next.ensures.text at c.in_ok-bits.ensures.read in
    width_expected c.args.self.now.text.now c.args.self.now.at c.next.new.self.at c.number.new.self.at c.in_ok-bits.bits f bits c.in_default-try_from.ensures.1

pub returns-in_err-needed-clause-read : goal.returns-in_err-needed-clause-read
returns-in_err-needed-clause-read c =
    let f = c.in-Rule.ensures.next.2 in
    let bits = rw c.next.ensures.text at c.in_ok-bits.ensures.read in
    let needed = rw (c.in_ok-bits.ensures.text ∙ c.next.ensures.text) at c.in_err-needed.ensures.read in
    MatchResult-from_err _ _ _ c.from_residual-in_err-needed.ensures.0 (λ _. needed_no_number c.args.self.now.text.now c.args.self.now.at c.next.new.self.at c.number.new.self.at c.in_ok-bits.bits f bits needed)

pub returns-then-needed-gt-MOST_NEEDED-clause-read : goal.returns-then-needed-gt-MOST_NEEDED-clause-read
returns-then-needed-gt-MOST_NEEDED-clause-read c =
    let f = c.in-Rule.ensures.next.2 in
    let bits = rw c.next.ensures.text at c.in_ok-bits.ensures.read in
    let needed = rw (c.in_ok-bits.ensures.text ∙ c.next.ensures.text) at c.in_ok-needed.ensures.read in
    needed_expected c.args.self.now.text.now c.args.self.now.at c.next.new.self.at c.number.new.self.at c.number-2.new.self.at c.in_ok-bits.bits c.in_ok-needed.needed f bits needed c.if-needed-gt-MOST_NEEDED.true
