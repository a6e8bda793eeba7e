-- Sets of names as numbers: bit i is 1 exactly if name i is in the set.
use Rattle.std.proofs.Common.{◌≡◌, ℕ, ◌+◌, ◌^◌, eqb, List, [], ◌∷◌, sym, refl, ap, ◌∙◌, inl, inr, arith}
use lib.Bits.{bit_or}
use Rattle.std.specs.Int.{bit_at}
use Rattle.std.proofs.lemmas.Nat.Bits.{bit_at-zero, bit_at_or, bit_at-lt, bit_at-pow_same, bit_at-pow_other, same_from_bits}
use Rattle.std.proofs.lemmas.Bool.{cases_eq, eq-eqb, ne_eqb}
use Rattle.words.specs.Words.{pick}
use Rattle.terms.specs.Terms.{Term, any, con, lit, unary, binary, ite, anys, cons}
use Rattle.terms.specs.Usable.{sum_of}
use Rattle.terms.specs.Measures.{any_set, con_set, union}

-- name i is in the set s exactly if it stands somewhere, n times in all
abbrev pub Tells : ℕ → ℕ → ℕ → Type 0
Tells i s n = (n ≡ 0 → bit_at s i ≡ 0) × (bit_at s i ≡ 0 → n ≡ 0)

tells_none : (i : ℕ) → Tells i 0 0
tells_none i = (λ _. bit_at-zero i, λ _. refl)

pub tells_both : (i s m t n : ℕ) → Tells i s m → Tells i t n → Tells i (bit_or s t) (m + n)
tells_both i s m t n p q = (
  λ h. omega (arith, bit_at_or s t i, p.0 (omega arith), q.0 (omega arith)),
  λ h. omega (arith, p.1 (omega (arith, bit_at_or s t i)), q.1 (omega (arith, bit_at_or s t i))),
)

tells_one : (i j : ℕ) → Tells i (2 ^ j) (pick (eqb i j) 1 0)
tells_one i j =
    elim (cases_eq i j) [
      | inl e ↦ rw (eq-eqb i j e, e) (λ h. omega arith, λ h. omega (arith, bit_at-pow_same j))
      | inr ne ↦ rw (ne_eqb i j ne) (λ h. bit_at-pow_other j i ne, λ h. refl)
    ]

pub any_tells : (i : ℕ) (e : Term) → Tells i (any_set e) (anys i e)
any_tells i (any j) = tells_one i j
any_tells i (con j) = tells_none i
any_tells i (lit n) = tells_none i
any_tells i (unary o x) = any_tells i x
any_tells i (binary o x y) = tells_both i (any_set x) (anys i x) (any_set y) (anys i y) (any_tells i x) (any_tells i y)
any_tells i (ite t x y) = tells_both i (any_set t) (anys i t) (bit_or (any_set x) (any_set y)) (anys i x + anys i y) (any_tells i t) (tells_both i (any_set x) (anys i x) (any_set y) (anys i y) (any_tells i x) (any_tells i y))

pub con_tells : (i : ℕ) (e : Term) → Tells i (con_set e) (cons i e)
con_tells i (any j) = tells_none i
con_tells i (con j) = tells_one i j
con_tells i (lit n) = tells_none i
con_tells i (unary o x) = con_tells i x
con_tells i (binary o x y) = tells_both i (con_set x) (cons i x) (con_set y) (cons i y) (con_tells i x) (con_tells i y)
con_tells i (ite t x y) = tells_both i (con_set t) (cons i t) (bit_or (con_set x) (con_set y)) (cons i x + cons i y) (con_tells i t) (tells_both i (con_set x) (cons i x) (con_set y) (cons i y) (con_tells i x) (con_tells i y))

-- the same of several terms, for what is told of each
pub all_tell : (i : ℕ) (f g : Term → ℕ) (es : List Term) → ((e : Term) → Tells i (f e) (g e)) → Tells i (union f es) (sum_of g es)
all_tell i f g [] each = tells_none i
all_tell i f g (e ∷ es) each = tells_both i (f e) (g e) (union f es) (sum_of g es) (each e) (all_tell i f g es each)

-- a set each of whose elements is in another does not change that one
pub part : (a b : ℕ) → ((i : ℕ) → bit_at a i ≡ 0 → bit_at b i ≡ 0) → bit_or a b ≡ a
part a b each =
    same_from_bits (bit_or a b) a (λ i. elim (cases_eq (bit_at a i) 0) [
      | inl e ↦ omega (arith, bit_at_or a b i, each i e)
      | inr ne ↦ omega (arith, bit_at_or a b i, bit_at-lt a i, bit_at-lt b i)
    ])

-- a set that has no element is 0
pub empty : (s : ℕ) → ((i : ℕ) → bit_at s i ≡ 0) → s ≡ 0
empty s none = same_from_bits s 0 (λ i. none i ∙ sym (bit_at-zero i))

-- what a union with another set has not, that one has not
pub part_bit : (a b i : ℕ) → bit_or a b ≡ a → bit_at a i ≡ 0 → bit_at b i ≡ 0
part_bit a b i e h = omega (arith, bit_at_or a b i, ap (λ n. bit_at n i) e)

pub empty_bit : (s i : ℕ) → s ≡ 0 → bit_at s i ≡ 0
empty_bit s i e = ap (λ n. bit_at n i) e ∙ bit_at-zero i
