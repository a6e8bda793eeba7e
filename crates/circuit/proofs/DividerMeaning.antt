-- The divider's net: over words for quotient and remainder it can be met exactly where the divider's test holds, and in one way.
use Rattle.std.proofs.Common.{◌≡◌, ℕ, ◌≤◌, Bool, true, false, cond, not, ◌&&◌, ◌||◌, List, [], ◌∷◌, map, sym, refl, ap, ◌∙◌, ap₂, arith}
use Rattle.std.proofs.lemmas.Bool.{and_parts, and_from}
use Rattle.clauses.specs.declared.literal.Literal.{Literal}
use Rattle.clauses.specs.Flat.{Model}
use Rattle.circuit.specs.Bits.{not_bits, add_bits, carry_bits, ult_bits, equal_bits, any_bits, mul_bits, carries_bits, all_bits, divides_bits}
use Rattle.clauses.specs.Literals.{negated}
use Rattle.circuit.specs.Nets.{Net, low, said}
use Rattle.circuit.specs.Circuits.{add_net, less_net, any_net, equated_net, unless_net, divides_net}
use Rattle.circuit.specs.Meaning.{truth_of, Agree, WordBelow, Whole, Defines, Spells}
use Rattle.circuit.proofs.Models.{truth_agree}
use Rattle.circuit.proofs.Nets.{defines_then, spells_itself, below_later, carries_later, spells_later, carries_low, carries_negated}
use Rattle.circuit.proofs.WordMeaning.{add_makes, less_makes, any_makes}
use Rattle.circuit.proofs.ClauseMeaning.{Says, says_as, says_then, says_not, says_either, below_said, denied_says, apart_says, equated_says, unless_says}

-- an assignment that meets n extends to one that meets m exactly if the test P holds of it, and to one only
pub record Asks (n m : Net) (P : (ℕ → Bool) → Bool) : Type 0 where
  pub grows : n.next ≤ m.next
  pub whole : Whole m
  pub parts : (s : ℕ → Bool) → Model s m.out → Model s n.out × (P s ≡ true)
  pub extends : (s : ℕ → Bool) → Model s n.out → P s ≡ true → (t : ℕ → Bool) × (Agree n.next s t) × Model t m.out
  pub unique : (s t : ℕ → Bool) → Model s m.out → Model t m.out → Agree n.next s t → Agree m.next s t

spells_said : {n m : Net} {ls : List Literal} {P : (ℕ → Bool) → Bool} {f : (ℕ → Bool) → List Bool} → Says n m P → Spells n ls f → Spells m ls f
spells_said {ls = ls} c w = record { below = below_said c ls w.below; means = λ s h. w.means s (c.parts s h).0 }

asks_what_is_said : {n m : Net} {P : (ℕ → Bool) → Bool} → Says n m P → Asks n m P
asks_what_is_said c = record {
  grows = omega (arith, c.next);
  whole = c.whole;
  parts = c.parts;
  extends = λ s h p. (s, (λ v l. refl), c.both s h p);
  unique = λ s t h k a v l. a v (omega (arith, c.next));
}

asks_after_said : {n m p : Net} {P Q : (ℕ → Bool) → Bool} → Says n m P → Asks m p Q → Asks n p (λ s. P s && Q s)
asks_after_said {P = P} {Q = Q} c a = record {
  grows = omega (arith, c.next, a.grows);
  whole = a.whole;
  parts = λ s h. let r = a.parts s h in let q = c.parts s r.0 in (q.0, and_from (P s) (Q s) q.1 r.1);
  extends = λ s h t.
      let p = and_parts (P s) (Q s) t in
      let x = a.extends s (c.both s h p.0) p.1 in
      (x.0, (λ v l. x.1 v (omega (arith, c.next))), x.2);
  unique = λ s t h k e. a.unique s t h k (λ v l. e v (omega (arith, c.next)));
}

-- the test is about variables of n
pub asks_after_defined : {n m p : Net} {P : (ℕ → Bool) → Bool} → Whole n → Defines n m → ((s t : ℕ → Bool) → Agree n.next s t → P s ≡ P t) → Asks m p P → Asks n p P
asks_after_defined w d sees a = record {
  grows = omega (arith, d.grows, a.grows);
  whole = a.whole;
  parts = λ s h. let r = a.parts s h in (d.keeps s w r.0, r.1);
  extends = λ s h p.
      let x = d.extends w s h in
      let y = a.extends x.0 x.2 (sym (sees s x.0 x.1) ∙ p) in
      (y.0, (λ v l. x.1 v l ∙ y.1 v (omega (arith, d.grows))), y.2);
  unique = λ s t h k e. a.unique s t h k (d.unique w s t (a.parts s h).0 (a.parts t k).0 e);
}

pub word_agree : (n : ℕ) (s t : ℕ → Bool) → Agree n s t → (ls : List Literal) → WordBelow n ls → map (truth_of s) ls ≡ map (truth_of t) ls
word_agree n s t a [] b = refl
word_agree n s t a (l ∷ ls) b = ap₂ ◌∷◌ (truth_agree n s t a l b.0) (word_agree n s t a ls b.1)

-- a test of four words sees no more than their variables
pub test_sees : (n : ℕ) (xs ys qs rs : List Literal) → WordBelow n xs → WordBelow n ys → WordBelow n qs → WordBelow n rs → (F : List Bool → List Bool → List Bool → List Bool → Bool) (s t : ℕ → Bool) → Agree n s t
    → F (map (truth_of s) xs) (map (truth_of s) ys) (map (truth_of s) qs) (map (truth_of s) rs) ≡ F (map (truth_of t) xs) (map (truth_of t) ys) (map (truth_of t) qs) (map (truth_of t) rs)
test_sees n xs ys qs rs bx by bq br F s t a =
    let same = word_agree n s t a in
    ap₂ (λ x y. F x y (map (truth_of s) qs) (map (truth_of s) rs)) (same xs bx) (same ys by) ∙ ap₂ (F (map (truth_of t) xs) (map (truth_of t) ys)) (same qs bq) (same rs br)

-- the parts of the divider's net from the end on: the bound of the remainder, the sum, and the whole
abbrev bound_n : List Literal → List Literal → List Literal → Net → Net
bound_n ys qs rs n =
    let l = less_net rs ys n in
    let a = any_net ys low l.0 in
    unless_net a.1 qs (said (negated a.1 ∷ l.1 ∷ []) a.0)

abbrev bound_b : List Bool → List Bool → List Bool → Bool
bound_b ys qs rs = cond (any_bits ys false) (ult_bits rs ys) (all_bits qs)

bound_asks : (ys qs rs : List Literal) {n : Net} → Whole n → WordBelow n.next ys → WordBelow n.next qs → WordBelow n.next rs
    → Asks n (bound_n ys qs rs n) (λ s. bound_b (map (truth_of s) ys) (map (truth_of s) qs) (map (truth_of s) rs))
bound_asks ys qs rs {n} w by bq br =
    let l = less_makes w (spells_itself br) (spells_itself by) in
    let a = any_makes {xs = ys} (l.defines.whole w) (spells_later w l.defines (spells_itself by)) (carries_low (l.defines.whole w)) in
    let d = defines_then l.defines a.defines in
    let na = carries_negated a.carries in
    let below = carries_later (l.defines.whole w) a.defines l.carries in
    let c = says_as (λ s h. ap₂ ◌||◌ (na.means s h) (below.means s h)) (says_either (d.whole w) na.below below.below) in
    let e =
    says_as (λ s h. ap (λ x. x || all_bits (map (truth_of s) qs)) (a.carries.means s (c.parts s h).0))
    (unless_says qs c.whole (below_said c (_ ∷ []) (a.carries.below, tt)).0 (below_said c qs (below_later d qs bq))) in
    asks_after_defined w d (test_sees n.next ys ys qs rs by by bq br (λ x y q r. bound_b y q r))
    (asks_what_is_said (says_as (λ s h. either_bound (any_bits (map (truth_of s) ys) false) (ult_bits (map (truth_of s) rs) (map (truth_of s) ys)) (all_bits (map (truth_of s) qs))) (says_then c e)))
  where
    either_bound : (x y z : Bool) → ((not x || y) && (x || z)) ≡ cond x y z
    either_bound true true z = refl
    either_bound true false z = refl
    either_bound false y z = refl

abbrev sum_n : List Literal → List Literal → List Literal → List Literal → List Literal → Net → Net
sum_n xs ys qs rs ps n =
    let s = add_net ps rs low n in
    bound_n ys qs rs (equated_net s.1.0 xs (said (negated s.1.1 ∷ []) s.0))

abbrev sum_b : List Bool → List Bool → List Bool → List Bool → Bool
sum_b xs ys qs rs = not (carry_bits (mul_bits ys qs) rs false) && (equal_bits (add_bits (mul_bits ys qs) rs false) xs true && bound_b ys qs rs)

sum_asks : (xs ys qs rs : List Literal) {ps : List Literal} {n : Net} → Whole n → WordBelow n.next xs → WordBelow n.next ys → WordBelow n.next qs → WordBelow n.next rs
    → Spells n ps (λ s. mul_bits (map (truth_of s) ys) (map (truth_of s) qs))
    → Asks n (sum_n xs ys qs rs ps n) (λ s. sum_b (map (truth_of s) xs) (map (truth_of s) ys) (map (truth_of s) qs) (map (truth_of s) rs))
sum_asks xs ys qs rs {n = n} w bx by bq br p =
    let sum = add_makes w p (spells_itself br) (carries_low w) in
    let d = sum.defines in
    let c = says_as (λ s h. ap not (sum.carries.means s h)) (says_not (d.whole w) sum.carries.below) in
    let total = spells_said c sum.spells in
    let e = says_as (λ s h. ap (λ t. equal_bits t (map (truth_of s) xs) true) (total.means s h)) (equated_says _ xs c.whole total.below (below_said c xs (below_later d xs bx))) in
    let up : (ls : List Literal) → WordBelow n.next ls → WordBelow _ ls = λ ls b. below_said e ls (below_said c ls (below_later d ls b)) in
    asks_after_defined w d (test_sees n.next xs ys qs rs bx by bq br sum_b)
    (asks_after_said c (asks_after_said e (bound_asks ys qs rs e.whole (up ys by) (up qs bq) (up rs br))))

pub divides_asks : (xs ys qs rs : List Literal) {ps ls : List Literal} {n : Net} → Whole n → WordBelow n.next xs → WordBelow n.next ys → WordBelow n.next qs → WordBelow n.next rs
    → Spells n ps (λ s. mul_bits (map (truth_of s) ys) (map (truth_of s) qs)) → Spells n ls (λ s. carries_bits (map (truth_of s) ys) (map (truth_of s) qs))
    → Asks n (divides_net xs ys qs rs ps ls n) (λ s. divides_bits (map (truth_of s) xs) (map (truth_of s) ys) (map (truth_of s) qs) (map (truth_of s) rs))
divides_asks xs ys qs rs {ls = ls} {n = n} w bx by bq br p l =
    let c = says_as (λ s h. ap (λ t. all_bits (not_bits t)) (l.means s h)) (denied_says ls w l.below) in
    let e = apart_says ys qs c.whole (below_said c ys by) (below_said c qs bq) in
    let up : (ls : List Literal) → WordBelow n.next ls → WordBelow _ ls = λ ls b. below_said e ls (below_said c ls b) in
    asks_after_said c (asks_after_said e (sum_asks xs ys qs rs e.whole (up xs bx) (up ys by) (up qs bq) (up rs br) (spells_said e (spells_said c p))))
