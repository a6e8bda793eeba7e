use Rattle.std.proofs.Common.{◌≡◌, List, [], ◌∷◌}
use Rattle.clauses.specs.declared.literal.Literal.{Literal}
use Rattle.clauses.specs.Literals.{negated}
use Rattle.circuit.specs.Nets.{fresh, taken}
use Rattle.circuit.specs.Gates.{xor_rows, gate}
use Rattle.circuit.specs.Built.{Written, Fits, Wrote}
use Rattle.circuit.proofs.Rows.{Rows, rows_fit, rows_written, gate_fresh, gate_rows}
use Rattle.circuit.proofs.builder.Builder.xor_gate.Goals as goal

-- the clauses as the code has their literals
abbrev clauses : Literal → Literal → Literal → Literal → Literal → Literal → List (List Literal)
clauses o p a na b nb = (p ∷ a ∷ b ∷ []) ∷ (p ∷ na ∷ nb ∷ []) ∷ (o ∷ na ∷ b ∷ []) ∷ (o ∷ a ∷ nb ∷ []) ∷ []

start : {x y : Written} {o p a na b nb : Literal} → Fits x (gate (λ o. xor_rows o a b) x.net).0 → Wrote x y (taken x.net) → o ≡ fresh x.net → p ≡ negated o → na ≡ negated a → nb ≡ negated b → Rows x y (clauses o p a na b nb) (gate (λ o. xor_rows o a b) x.net).0
start {x} {y} {o} {p} {a} {na} {b} {nb} f w e ep ea eb = gate_rows (λ o. xor_rows o a b) o (clauses o p a na b nb) f w e (rw (ep, ea, eb))

pub fresh-output-requires : goal.fresh-output-requires
fresh-output-requires c = gate_fresh (λ o. xor_rows o c.args.a c.args.b) c.requires

pub clauses-requires : goal.clauses-requires
clauses-requires c = rows_fit (start c.requires c.fresh-output.ensures.wrote c.fresh-output.ensures.literal c.negated-off.ensures.value c.negated-not_a.ensures.value c.negated-not_b.ensures.value)

pub returns : goal.returns
returns c = record { wrote = rows_written (start c.requires c.fresh-output.ensures.wrote c.fresh-output.ensures.literal c.negated-off.ensures.value c.negated-not_a.ensures.value c.negated-not_b.ensures.value) c.clauses.ensures; output = c.fresh-output.ensures.literal }
