use Rattle.std.proofs.Common.{◌≡◌, ◌+◌, ◌*◌}
use Rattle.terms.specs.Items.{places_of}
use Rattle.book.specs.Reading.{IsTermsRead}
use Rattle.book.proofs.reader.Reader.+term_terms.Given as goal

-- an operation more may be read at each step from a term to its parts
abbrev pub decreases-term : goal.decreases-term
decreases-term l = 2 * l.draft.now.left

abbrev pub decreases-terms : goal.decreases-terms
decreases-terms l = 2 * l.draft.now.left + 1

abbrev pub invariant-terms-loop : goal.invariant-terms-loop
invariant-terms-loop l = record {
  text : l.self.text.now ≡ l.initial.self.text.now;
  read : IsTermsRead l.initial.self.text.now l.initial.self.at l.counter l.initial.draft.left l.initial.draft.rule l.draft.rule (places_of l.roots) l.self.at l.draft.left;
}
