-- A builder's steps: each has room if the whole has, and together they write what they write one after the other.
use Rattle.std.proofs.Common.{◌≡◌, List, [], ◌∷◌, sym, refl, ap, ◌∙◌, subst, append_assoc, arith}
use Rattle.clauses.specs.declared.literal.Literal.{Literal}
use Rattle.circuit.specs.Nets.{Net, clause, said}
use Rattle.circuit.specs.Parts.{appended}
use Rattle.circuit.specs.Built.{Written, Fits, Wrote}
use Rattle.circuit.proofs.Growing.{Grows, said_grows}

-- nothing is written yet
pub wrote_none : (b : Written) → Wrote b b b.net
wrote_none b = record { net = refl; size = refl }

-- the first step of a whole net
pub fits_first : {b : Written} {n m : Net} → Grows n m → Fits b m → Fits b n
fits_first g f = record { numbers = omega arith; variables = omega arith }

-- the step c of a whole net, after the net n
pub fits_next : (c : Net → Net) {b b' : Written} {n m : Net} → Wrote b b' n → Grows (c n) m → Fits b m → Fits b' (c b'.net)
fits_next c {b} {b'} {n} {m} w g f = subst (λ k. Fits b' (c k)) (sym w.net) (record { numbers = omega arith; variables = omega arith })

pub wrote_next : (c : Net → Net) {b b' b'' : Written} {n : Net} → Wrote b b' n → Wrote b' b'' (c b'.net) → Wrote b b'' (c n)
wrote_next c w v = record { net = v.net ∙ ap c w.net; size = v.size ∙ w.size }

-- a clause by its first literal and the others
pub said_cons : (l : Literal) (ls : List Literal) (n : Net) → said ls (appended (l.0 ∷ []) n) ≡ said (l ∷ ls) n
said_cons l ls n = ap (λ o. record { next = n.next; out = o }) (append_assoc n.out (l.0 ∷ []) (clause ls))

-- room for a net is room for it later on, too, and what is written stays written
pub fits_here : {b b' : Written} {m : Net} → Wrote b b' b'.net → Fits b m → Fits b' m
fits_here w f = record { numbers = omega arith; variables = f.variables }

pub wrote_here : {b b' b'' : Written} {n : Net} → Wrote b b' b'.net → Wrote b' b'' n → Wrote b b'' b''.net
wrote_here w v = record { net = refl; size = v.size ∙ w.size }

-- the first number of a clause, and then the others
pub fits_literal : {b : Written} (l : Literal) (ls : List Literal) → Fits b (said (l ∷ ls) b.net) → Fits b (appended (l.0 ∷ []) b.net)
fits_literal {b} l ls f = fits_first (subst (Grows (appended (l.0 ∷ []) b.net)) (said_cons l ls b.net) (said_grows ls (appended (l.0 ∷ []) b.net))) f

-- a step that goes on from the literals s of the step before, which the code has as r
pub fits_then : {R : Type 0} (c : R → Net → Net) {b b' : Written} {n m : Net} {r s : R} → Wrote b b' n → r ≡ s → Grows (c s n) m → Fits b m → Fits b' (c r b'.net)
fits_then c {b} {b'} {n} {m} w e g f = subst (λ t. Fits b' (c t b'.net)) (sym e) (fits_next (c _) w g f)

pub wrote_then : {R : Type 0} (c : R → Net → Net) {b b' b'' : Written} {n : Net} {r s : R} → Wrote b b' n → r ≡ s → Wrote b' b'' (c r b'.net) → Wrote b b'' (c s n)
wrote_then c {b} {b'} {b''} {n} w e v = wrote_next (c _) w (subst (λ t. Wrote b' b'' (c t b'.net)) e v)

pub gives_then : {R V : Type 0} (c : R → Net → V) {b b' : Written} {n : Net} {r s : R} {v : V} → Wrote b b' n → r ≡ s → v ≡ c r b'.net → v ≡ c s n
gives_then c {b} {b'} {n} {r} {s} w e is = is ∙ ap (c r) w.net ∙ ap (λ t. c t n) e
