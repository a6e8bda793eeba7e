-- Gates: a new variable and the clauses that make it the gate's output. Where an input is a constant, or
-- two inputs are one literal or opposite ones, no gate is made: the output is another literal.
use Rattle.std.specs.Prelude.{cond, Option, Some, None, List, [], ◌∷◌}
use Rattle.clauses.specs.declared.literal.Literal.{Literal}
use Rattle.circuit.specs.declared.gates.Folded.{Folded}
use Rattle.circuit.specs.declared.gates.Folded.TheVariants.{Wire, And, Or}
use Rattle.clauses.specs.Literals.{negated}
use Rattle.circuit.specs.Nets.{Net, high, low, same, said_all, fresh, taken}

-- the clauses of an output o over its inputs
abbrev pub and_rows : Literal → Literal → Literal → List (List Literal)
and_rows o a b = (negated o ∷ a ∷ []) ∷ (negated o ∷ b ∷ []) ∷ (o ∷ negated a ∷ negated b ∷ []) ∷ []

abbrev pub xor_rows : Literal → Literal → Literal → List (List Literal)
xor_rows o a b = (negated o ∷ a ∷ b ∷ []) ∷ (negated o ∷ negated a ∷ negated b ∷ []) ∷ (o ∷ negated a ∷ b ∷ []) ∷ (o ∷ a ∷ negated b ∷ []) ∷ []

abbrev pub majority_rows : Literal → Literal → Literal → Literal → List (List Literal)
majority_rows o a b c = (negated o ∷ a ∷ b ∷ []) ∷ (negated o ∷ a ∷ c ∷ []) ∷ (negated o ∷ b ∷ c ∷ []) ∷ (o ∷ negated a ∷ negated b ∷ []) ∷ (o ∷ negated a ∷ negated c ∷ []) ∷ (o ∷ negated b ∷ negated c ∷ []) ∷ []

abbrev pub choice_rows : Literal → Literal → Literal → Literal → List (List Literal)
choice_rows o s a b = (negated s ∷ negated o ∷ a ∷ []) ∷ (negated s ∷ o ∷ negated a ∷ []) ∷ (s ∷ negated o ∷ b ∷ []) ∷ (s ∷ o ∷ negated b ∷ []) ∷ []

-- the gate's output, and the net with it
abbrev pub gate : (Literal → List (List Literal)) → Net → Net × Literal
gate rows n = (said_all (rows (fresh n)) (taken n), fresh n)

-- what a gate with these inputs is without a gate
abbrev pub fold_and : Literal → Literal → Option Literal
fold_and a b = cond (same a low) (Some low) (cond (same b low) (Some low) (cond (same a high) (Some b) (cond (same b high) (Some a) (cond (same a b) (Some a) (cond (same a (negated b)) (Some low) None)))))

abbrev pub fold_xor : Literal → Literal → Option Literal
fold_xor a b = cond (same a low) (Some b) (cond (same b low) (Some a) (cond (same a high) (Some (negated b)) (cond (same b high) (Some (negated a)) (cond (same a b) (Some low) (cond (same a (negated b)) (Some high) None)))))

abbrev pub fold_majority : Literal → Literal → Literal → Option Folded
fold_majority a b c = cond (same a low) (Some (And b c)) (cond (same a high) (Some (Or b c)) (cond (same b low) (Some (And a c)) (cond (same b high) (Some (Or a c)) (cond (same c low) (Some (And a b)) (cond (same c high) (Some (Or a b)) (cond (same a b) (Some (Wire a)) (cond (same a (negated b)) (Some (Wire c)) None)))))))

abbrev pub fold_choice : Literal → Literal → Literal → Option Folded
fold_choice s a b = cond (same s high) (Some (Wire a)) (cond (same s low) (Some (Wire b)) (cond (same a b) (Some (Wire a)) (cond (same a high) (Some (Or s b)) (cond (same a low) (Some (And (negated s) b)) (cond (same b high) (Some (Or (negated s) a)) (cond (same b low) (Some (And s a)) None))))))

-- a literal in place of a gate, or the gate
abbrev pub wire_or : Option Literal → Net × Literal → Net → Net × Literal
wire_or (Some l) g n = (n, l)
wire_or None g n = g

abbrev pub and_net : Literal → Literal → Net → Net × Literal
and_net a b n = wire_or (fold_and a b) (gate (λ o. and_rows o a b) n) n

abbrev pub or_net : Literal → Literal → Net → Net × Literal
or_net a b n = let r = and_net (negated a) (negated b) n in (r.0, negated r.1)

abbrev pub xor_net : Literal → Literal → Net → Net × Literal
xor_net a b n = wire_or (fold_xor a b) (gate (λ o. xor_rows o a b) n) n

-- a literal or a smaller gate in place of a gate, or the gate
abbrev pub smaller_net : Folded → Net → Net × Literal
smaller_net (Wire l) n = (n, l)
smaller_net (And x y) n = and_net x y n
smaller_net (Or x y) n = or_net x y n

abbrev pub smaller_or : Option Folded → Net × Literal → Net → Net × Literal
smaller_or (Some f) g n = smaller_net f n
smaller_or None g n = g

abbrev pub majority_net : Literal → Literal → Literal → Net → Net × Literal
majority_net a b c n = smaller_or (fold_majority a b c) (gate (λ o. majority_rows o a b c) n) n

-- a if s, else b
abbrev pub choice_net : Literal → Literal → Literal → Net → Net × Literal
choice_net s a b n = smaller_or (fold_choice s a b) (gate (λ o. choice_rows o s a b) n) n
