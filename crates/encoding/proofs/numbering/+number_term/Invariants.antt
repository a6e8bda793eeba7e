use Rattle.encoding.proofs.numbering.+number_term.Given as goal

-- the parts of a node come before it
abbrev pub decreases-number_term : goal.decreases-number_term
decreases-number_term l = l.i
