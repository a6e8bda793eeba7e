-- A clause of a word's literals says that the word isn't 0; words differ if some bits do.
use Rattle.std.proofs.Common.{◌≡◌, ℕ, ◌+◌, ◌*◌, ◌<◌, Bool, true, false, ◌||◌, List, [], ◌∷◌, map, length, sym, refl, ap, subst, ap₂, inl, inr, arith}
use Rattle.std.proofs.lemmas.Bool.{cases_eq, true≢false}
use Rattle.words.specs.Words.{xor}
use Rattle.clauses.specs.declared.literal.Literal.{Literal}
use Rattle.circuit.specs.Bits.{bit, val, zip_bits}
use Rattle.circuit.specs.Meaning.{truth_of}
use Rattle.circuit.proofs.Models.{some}
use Rattle.circuit.proofs.Numbers.{val_inj}

or_positive : (b t : Bool) (v : ℕ) → (b || t) ≡ true → (t ≡ true → 0 < v) → 0 < bit b + 2 * v
or_positive true t v h f = omega arith
or_positive false t v h f = omega (arith, f h)

pub some_positive : (s : ℕ → Bool) (ls : List Literal) → some s ls ≡ true → 0 < val (map (truth_of s) ls)
some_positive s [] h = absurd (true≢false (sym h))
some_positive s (l ∷ ls) h = or_positive (truth_of s l) (some s ls) (val (map (truth_of s) ls)) h (some_positive s ls)

positive_or : (b t : Bool) (v : ℕ) → 0 < bit b + 2 * v → (0 < v → t ≡ true) → (b || t) ≡ true
positive_or true t v h f = refl
positive_or false t v h f = f (omega arith)

pub positive_some : (s : ℕ → Bool) (ls : List Literal) → 0 < val (map (truth_of s) ls) → some s ls ≡ true
positive_some s [] h = absurd (omega arith)
positive_some s (l ∷ ls) h = positive_or (truth_of s l) (some s ls) (val (map (truth_of s) ls)) h (positive_some s ls)

xor_self : (xs : List Bool) → val (zip_bits xor xs xs) ≡ 0
xor_self [] = refl
xor_self (true ∷ xs) = omega (arith, xor_self xs)
xor_self (false ∷ xs) = omega (arith, xor_self xs)

pub bits_differ_values_differ : (xs ys : List Bool) → length xs ≡ length ys → 0 < val (zip_bits xor xs ys) → val xs ≡ val ys → ⊥
bits_differ_values_differ xs ys l h e = omega (arith, subst (λ zs. 0 < val (zip_bits xor xs zs)) (sym (val_inj xs ys l e)) h, xor_self xs)

same_bit : (x y : Bool) (v : ℕ) → bit (xor x y) + 2 * v ≡ 0 → (x ≡ y) × (v ≡ 0)
same_bit true true v e = (refl, omega arith)
same_bit true false v e = absurd (omega arith)
same_bit false true v e = absurd (omega arith)
same_bit false false v e = (refl, omega arith)

no_bit_differs : (xs ys : List Bool) → length xs ≡ length ys → val (zip_bits xor xs ys) ≡ 0 → xs ≡ ys
no_bit_differs [] [] l e = refl
no_bit_differs [] (y ∷ ys) l e = absurd (omega (arith, l))
no_bit_differs (x ∷ xs) [] l e = absurd (omega (arith, l))
no_bit_differs (x ∷ xs) (y ∷ ys) l e = let p = same_bit x y (val (zip_bits xor xs ys)) e in ap₂ ◌∷◌ p.0 (no_bit_differs xs ys (omega (arith, l)) p.1)

pub values_differ_bits_differ : (xs ys : List Bool) → length xs ≡ length ys → (val xs ≡ val ys → ⊥) → 0 < val (zip_bits xor xs ys)
values_differ_bits_differ xs ys l f = elim (cases_eq (val (zip_bits xor xs ys)) 0) [ inl e ↦ absurd (f (ap val (no_bit_differs xs ys l e))) | inr g ↦ omega (arith, positive_of (val (zip_bits xor xs ys)) g) ]
  where
    positive_of : (v : ℕ) → (v ≡ 0 → ⊥) → 0 < v
    positive_of v g = elim (cases_eq v 0) [ inl e ↦ absurd (g e) | inr h ↦ omega arith ]
