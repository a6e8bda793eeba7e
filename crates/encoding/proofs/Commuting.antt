-- Operations whose operands may be exchanged.
use Rattle.std.proofs.Common.{◌≡◌, ℕ, zero, suc, ◌+◌, ◌*◌, ◌/◌, ◌%◌, ◌^◌, Bool, true, false, ◌&&◌, ◌||◌, eqb, sym, refl, ap, ◌∙◌, ap₂, inl, inr, mul_comm, arith}
use Rattle.std.proofs.lemmas.Bool.{cases_eq, eq-eqb, ne_eqb}
use Rattle.words.specs.Words.{pick, odd, xor, bitwise, do2}
use Rattle.words.specs.declared.BinaryOp.{BinaryOp}
use Rattle.words.specs.declared.BinaryOp.TheVariants.{Add, Mul, And, Or, Xor, Comp}

abbrev pub Commutes : ℕ → BinaryOp → Type 0
Commutes w o = (x y : ℕ) → do2 w o x y ≡ do2 w o y x

bitwise_commutes : (f : Bool → Bool → Bool) → ((a b : Bool) → f a b ≡ f b a) → (w x y : ℕ) → bitwise f w x y ≡ bitwise f w y x
bitwise_commutes f c zero x y = refl
bitwise_commutes f c (suc w) x y = ap₂ (λ b r. pick b 1 0 + 2 * r) (c (odd x) (odd y)) (bitwise_commutes f c w (x / 2) (y / 2))

and_swaps : (a b : Bool) → (a && b) ≡ (b && a)
and_swaps true true = refl
and_swaps true false = refl
and_swaps false true = refl
and_swaps false false = refl

or_swaps : (a b : Bool) → (a || b) ≡ (b || a)
or_swaps true true = refl
or_swaps true false = refl
or_swaps false true = refl
or_swaps false false = refl

xor_swaps : (a b : Bool) → xor a b ≡ xor b a
xor_swaps true true = refl
xor_swaps true false = refl
xor_swaps false true = refl
xor_swaps false false = refl

eqb_swaps : (x y : ℕ) → eqb x y ≡ eqb y x
eqb_swaps x y = elim (cases_eq x y) [ inl e ↦ eq-eqb x y e ∙ sym (eq-eqb y x (sym e)) | inr f ↦ ne_eqb x y f ∙ sym (ne_eqb y x (λ q. f (sym q))) ]

pub add_commutes : (w : ℕ) → Commutes w Add
add_commutes w x y = ap (λ z. z % 2 ^ w) (omega arith)

pub mul_commutes : (w : ℕ) → Commutes w Mul
mul_commutes w x y = ap (λ z. z % 2 ^ w) (mul_comm x y)

pub and_commutes : (w : ℕ) → Commutes w And
and_commutes w x y = bitwise_commutes ◌&&◌ and_swaps w x y

pub or_commutes : (w : ℕ) → Commutes w Or
or_commutes w x y = bitwise_commutes ◌||◌ or_swaps w x y

pub xor_commutes : (w : ℕ) → Commutes w Xor
xor_commutes w x y = bitwise_commutes xor xor_swaps w x y

pub comp_commutes : (w : ℕ) → Commutes w Comp
comp_commutes w x y = ap (λ b. pick b 1 0) (eqb_swaps x y)
