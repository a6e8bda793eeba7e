use Rattle.book.proofs.Positions.{IsCounted}
use Rattle.book.proofs.place.locate.Given as goal

abbrev pub invariant-loop-c : goal.invariant-loop-c
invariant-loop-c l = IsCounted l.text l.c-index l.line l.word l.after_blank
