-- A gate's clauses, one after the other.
use Rattle.std.proofs.Common.{◌≡◌, List, sym, refl, ap, ◌∙◌, subst}
use Rattle.clauses.specs.declared.literal.Literal.{Literal}
use Rattle.circuit.specs.Nets.{Net, said_all, fresh, taken}
use Rattle.circuit.specs.Gates.{gate}
use Rattle.circuit.specs.Built.{Written, Fits, Wrote}
use Rattle.circuit.proofs.Growing.{said_all_grows}
use Rattle.circuit.proofs.Writing.{fits_first, fits_here}

-- b began as a, and has to write the clauses cs to have written the net m
pub record Rows (a b : Written) (cs : List (List Literal)) (m : Net) : Type 0 where
  pub wrote : Wrote a b b.net
  pub room : Fits b m
  pub left : said_all cs b.net ≡ m

pub rows_fit : {a b : Written} {cs : List (List Literal)} {m : Net} → Rows a b cs m → Fits b (said_all cs b.net)
rows_fit {a} {b} r = subst (Fits b) (sym r.left) r.room

pub rows_written : {a b b' : Written} {cs : List (List Literal)} {m : Net} → Rows a b cs m → Wrote b b' (said_all cs b.net) → Wrote a b' m
rows_written r w = record { net = w.net ∙ r.left; size = w.size ∙ r.wrote.size }

-- a gate takes a variable, and then writes its clauses
pub gate_fresh : {a : Written} (rows : Literal → List (List Literal)) → Fits a (gate rows a.net).0 → Fits a (taken a.net)
gate_fresh {a} rows f = fits_first (said_all_grows (rows (fresh a.net)) (taken a.net)) f

pub gate_rows : {a b : Written} (rows : Literal → List (List Literal)) (o : Literal) (cs : List (List Literal)) → Fits a (gate rows a.net).0 → Wrote a b (taken a.net) → o ≡ fresh a.net → cs ≡ rows o → Rows a b cs (gate rows a.net).0
gate_rows {a} {b} rows o cs f w e is = record {
  wrote = record { net = refl; size = w.size };
  room = fits_here (record { net = refl; size = w.size }) f;
  left = ap (said_all cs) w.net ∙ ap (λ rs. said_all rs (taken a.net)) (is ∙ ap rows e);
}
