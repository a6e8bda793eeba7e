use Rattle.std.proofs.Common.{◌≡◌, ℕ, ◌<◌, length, get_or}
use Rattle.words.specs.Words.{bits}
use Rattle.terms.specs.Nodes.{Stands}
use Rattle.terms.specs.Terms.{Term, eval}
use Rattle.terms.specs.Values.{AreWords}
use Rattle.terms.proofs.evaluation.evaluate.Given as goal

abbrev pub invariant-loop-i : goal.invariant-loop-i
invariant-loop-i l = record {
  long : length l.values ≡ 102;
  words : AreWords (bits l.assignment.width) l.i l.values;
  values : (j : ℕ) (e : Term) → j < l.i → Stands l.nodes j e → get_or l.values j 0 ≡ eval (bits l.assignment.width) (λ k. get_or l.assignment.any k 0) (λ k. get_or l.assignment.con k 0) e;
}
