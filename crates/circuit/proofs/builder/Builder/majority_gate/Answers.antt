use Rattle.std.proofs.Common.{◌≡◌, List, [], ◌∷◌}
use Rattle.clauses.specs.declared.literal.Literal.{Literal}
use Rattle.clauses.specs.Literals.{negated}
use Rattle.circuit.specs.Nets.{fresh, taken}
use Rattle.circuit.specs.Gates.{majority_rows, gate}
use Rattle.circuit.specs.Built.{Written, Fits, Wrote}
use Rattle.circuit.proofs.Rows.{Rows, rows_fit, rows_written, gate_fresh, gate_rows}
use Rattle.circuit.proofs.builder.Builder.majority_gate.Goals as goal

-- the clauses as the code has their literals
abbrev clauses : Literal → Literal → Literal → Literal → Literal → Literal → Literal → Literal → List (List Literal)
clauses o p a na b nb c nc = (p ∷ a ∷ b ∷ []) ∷ (p ∷ a ∷ c ∷ []) ∷ (p ∷ b ∷ c ∷ []) ∷ (o ∷ na ∷ nb ∷ []) ∷ (o ∷ na ∷ nc ∷ []) ∷ (o ∷ nb ∷ nc ∷ []) ∷ []

start : {x y : Written} {o p a na b nb c nc : Literal} → Fits x (gate (λ o. majority_rows o a b c) x.net).0 → Wrote x y (taken x.net) → o ≡ fresh x.net → p ≡ negated o → na ≡ negated a → nb ≡ negated b → nc ≡ negated c → Rows x y (clauses o p a na b nb c nc) (gate (λ o. majority_rows o a b c) x.net).0
start {x} {y} {o} {p} {a} {na} {b} {nb} {c} {nc} f w e ep ea eb ec = gate_rows (λ o. majority_rows o a b c) o (clauses o p a na b nb c nc) f w e (rw (ep, ea, eb, ec))

pub fresh-output-requires : goal.fresh-output-requires
fresh-output-requires c = gate_fresh (λ o. majority_rows o c.args.a c.args.b c.args.c) c.requires

pub clauses-requires : goal.clauses-requires
clauses-requires c = rows_fit (start c.requires c.fresh-output.ensures.wrote c.fresh-output.ensures.literal c.negated-off.ensures.value c.negated-not_a.ensures.value c.negated-not_b.ensures.value c.negated-not_c.ensures.value)

pub returns : goal.returns
returns c = record { wrote = rows_written (start c.requires c.fresh-output.ensures.wrote c.fresh-output.ensures.literal c.negated-off.ensures.value c.negated-not_a.ensures.value c.negated-not_b.ensures.value c.negated-not_c.ensures.value) c.clauses.ensures; output = c.fresh-output.ensures.literal }
