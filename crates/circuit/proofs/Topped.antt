-- A borrow from words whose top bits are exchanged: one from the words without them, and then one from these bits.
use Rattle.std.proofs.Common.{◌≡◌, ℕ, suc, ◌-◌, ◌<◌, List, [], ◌∷◌, length, get_or, take, sym, refl, ap, ◌∙◌, arith}
use Rattle.clauses.specs.declared.literal.Literal.{Literal}
use Rattle.clauses.specs.Literals.{negated}
use Rattle.circuit.specs.Bits.{topped}
use Rattle.circuit.specs.Nets.{Net}
use Rattle.circuit.specs.Gates.{majority_net}
use Rattle.circuit.specs.Circuits.{borrow_net}
use Rattle.circuit.proofs.Steps.{blank}

pub borrow_topped : (xs ys : List Literal) (c : Literal) (n : Net) → length ys ≡ length xs → 0 < length xs → let k = length xs - 1 in let b = borrow_net (take k xs) (take k ys) c n in borrow_net (topped xs ys) (topped ys xs) c n ≡ majority_net (get_or ys k blank) (negated (get_or xs k blank)) b.1 b.0
borrow_topped [] ys c n e h = let z : ⊥ = omega arith in absurd z
borrow_topped (x ∷ xs) [] c n e h = let z : ⊥ = omega arith in absurd z
borrow_topped (x ∷ []) (y ∷ []) c n e h = refl
borrow_topped (x ∷ []) (y ∷ y' ∷ ys) c n e h = let z : ⊥ = omega arith in absurd z
borrow_topped (x ∷ x' ∷ xs) (y ∷ []) c n e h = let z : ⊥ = omega arith in absurd z
borrow_topped (x ∷ x' ∷ xs) (y ∷ y' ∷ ys) c n e h =
    let m = majority_net x (negated y) c n in
    let place : suc (suc (length xs)) - 1 ≡ suc (suc (length xs) - 1) = omega arith in
    let at : ℕ → Net × Literal = λ k. let b = borrow_net (take k (x ∷ x' ∷ xs)) (take k (y ∷ y' ∷ ys)) c n in majority_net (get_or (y ∷ y' ∷ ys) k blank) (negated (get_or (x ∷ x' ∷ xs) k blank)) b.1 b.0 in
    borrow_topped (x' ∷ xs) (y' ∷ ys) m.1 m.0 (omega arith) (omega arith) ∙ ap at (sym place)
