-- The rows of a product and the stages of a shift make words that spell the product with its carries, and the shifted word.
use Rattle.std.proofs.Common.{ℕ, ◌+◌, Bool, true, false, cond, ◌&&◌, ltb, List, [], ◌∷◌, map, ap, ap₂}
use Rattle.circuit.specs.declared.shifting.Direction.{Direction}
use Rattle.clauses.specs.declared.literal.Literal.{Literal}
use Rattle.circuit.specs.Bits.{zip_bits, add_bits, carry_bits, lower, mul_bits, carries_bits, shift_bits}
use Rattle.circuit.specs.Nets.{Net}
use Rattle.circuit.specs.Circuits.{row_net, product_net, shift_net}
use Rattle.circuit.specs.Meaning.{truth_of, WordBelow, Whole, Carries, Spells, MakesWord, MakesBoth, MakesWords}
use Rattle.circuit.proofs.Nets.{defines_none, defines_then, carries_itself, spells_itself, below_later, carries_later, spells_later, spells_none, spells_bit, carries_low, spells_as, makes_word_as, makes_both_as, makes_word_none, makes_word_after}
use Rattle.circuit.proofs.GateMeaning.{and_makes}
use Rattle.circuit.proofs.WireMeaning.{spells_fill, spells_lower, spells_moved}
use Rattle.circuit.proofs.WordMeaning.{makes_both_none, makes_both_digit, full_makes, any_makes, choose_makes}

-- a row
module _ {x : Literal} {e : (ℕ → Bool) → Bool} where
  row_each : (ys qs : List Literal) {n : Net} {c : Literal} {h : (ℕ → Bool) → Bool} → Whole n → Carries n x e → WordBelow n.next ys → WordBelow n.next qs → Carries n c h
      → MakesBoth n (row_net x ys qs c n)
      (λ s. add_bits (zip_bits (λ a b. e s && a) (map (truth_of s) ys) (map (truth_of s) ys)) (map (truth_of s) qs) (h s))
      (λ s. carry_bits (zip_bits (λ a b. e s && a) (map (truth_of s) ys) (map (truth_of s) ys)) (map (truth_of s) qs) (h s))
  row_each [] qs w cx by bq c = makes_both_none c
  row_each (y ∷ ys) [] w cx by bq c = makes_both_none c
  row_each (y ∷ ys) (q ∷ qs) w cx by bq c =
      let a = and_makes w cx (carries_itself by.0) in
      let b = full_makes (a.defines.whole w) a.carries (carries_later w a.defines (carries_itself bq.0)) (carries_later w a.defines c) in
      let d = defines_then a.defines b.defines in
      makes_both_digit w (record { defines = d; first = b.first; second = b.second })
      (row_each ys qs (d.whole w) (carries_later w d cx) (below_later d ys by.1) (below_later d qs bq.1) b.second)

  pub row_makes : {n : Net} {ys qs : List Literal} {c : Literal} {f g : (ℕ → Bool) → List Bool} {h : (ℕ → Bool) → Bool} → Whole n → Carries n x e → Spells n ys f → Spells n qs g → Carries n c h
      → MakesBoth n (row_net x ys qs c n) (λ s. add_bits (zip_bits (λ a b. e s && a) (f s) (f s)) (g s) (h s)) (λ s. carry_bits (zip_bits (λ a b. e s && a) (f s) (f s)) (g s) (h s))
  row_makes {ys = ys} {qs = qs} {h = h} w cx y q c =
      makes_both_as w
      (λ s k. ap₂ (λ u v. add_bits (zip_bits (λ a b. e s && a) u u) v (h s)) (y.means s k) (q.means s k))
      (λ s k. ap₂ (λ u v. carry_bits (zip_bits (λ a b. e s && a) u u) v (h s)) (y.means s k) (q.means s k))
      (row_each ys qs w cx y.below q.below c)

-- all rows
product_each : (xs ys : List Literal) {n : Net} → Whole n → WordBelow n.next xs → WordBelow n.next ys
    → MakesWords n (product_net xs ys n) (λ s. mul_bits (map (truth_of s) xs) (map (truth_of s) ys)) (λ s. carries_bits (map (truth_of s) xs) (map (truth_of s) ys))
product_each [] ys {n} w bx by = record { defines = defines_none n; first = spells_none; second = spells_none }
product_each (x ∷ xs) [] {n} w bx by = record { defines = defines_none n; first = spells_none; second = spells_none }
product_each (x ∷ xs) (y ∷ ys) {n} w bx by =
    let l : Spells n (lower y ys) (λ s. lower (truth_of s y) (map (truth_of s) ys)) = spells_lower (carries_itself by.0) (spells_itself by.1) in
    let q = product_each xs (lower y ys) w bx.1 l.below in
    let wq = q.defines.whole w in
    let p = and_makes wq (carries_later w q.defines (carries_itself bx.0)) (carries_later w q.defines (carries_itself by.0)) in
    let d = defines_then q.defines p.defines in
    let r =
    row_makes (d.whole w) (carries_later w d (carries_itself bx.0)) (spells_later w d (spells_itself by.1))
    (spells_later wq p.defines (spells_as (λ s k. ap (mul_bits (map (truth_of s) xs)) (l.means s (q.defines.keeps s w k))) q.first))
    (carries_low (d.whole w)) in
    record {
      defines = defines_then d r.defines;
      first = spells_bit (carries_later (d.whole w) r.defines p.carries) r.spells;
      second = spells_bit r.carries (spells_later wq (defines_then p.defines r.defines) (spells_as (λ s k. ap (carries_bits (map (truth_of s) xs)) (l.means s (q.defines.keeps s w k))) q.second));
    }

pub product_makes : {n : Net} {xs ys : List Literal} {f g : (ℕ → Bool) → List Bool} → Whole n → Spells n xs f → Spells n ys g
    → MakesWords n (product_net xs ys n) (λ s. mul_bits (f s) (g s)) (λ s. carries_bits (f s) (g s))
product_makes {xs = xs} {ys = ys} w x y =
    let r = product_each xs ys w x.below y.below in
    record {
      defines = r.defines;
      first = spells_as (λ s k. let h = r.defines.keeps s w k in ap₂ mul_bits (x.means s h) (y.means s h)) r.first;
      second = spells_as (λ s k. let h = r.defines.keeps s w k in ap₂ carries_bits (x.means s h) (y.means s h)) r.second;
    }

-- the stages of a barrel
makes_word_cond : {n : Net} {a b : Net × List Literal} {f g : (ℕ → Bool) → List Bool} (t : Bool) → MakesWord n a f → MakesWord n b g → MakesWord n (cond t a b) (λ s. cond t (f s) (g s))
makes_word_cond true a b = a
makes_word_cond false a b = b

pub shift_makes : {n : Net} {b : Literal} {xs cs : List Literal} {h : (ℕ → Bool) → Bool} {f g : (ℕ → Bool) → List Bool} (direction : Direction) (v k : ℕ) → Whole n → Carries n b h → Spells n xs f → Spells n cs g
    → MakesWord n (shift_net direction b v k xs cs n) (λ s. shift_bits direction (h s) v k (f s) (g s))
shift_makes {b = b} {cs = cs} {h = h} {f = f} direction v k w cb x c = makes_word_as w (λ s e. ap (shift_bits direction (h s) v k (f s)) (c.means s e)) (each cs k w cb x c.below)
  where
    each : (cs : List Literal) (k : ℕ) {n : Net} {xs : List Literal} {f : (ℕ → Bool) → List Bool} → Whole n → Carries n b h → Spells n xs f → WordBelow n.next cs
        → MakesWord n (shift_net direction b v k xs cs n) (λ s. shift_bits direction (h s) v k (f s) (map (truth_of s) cs))
    each [] k w cb x bc = makes_word_none x
    each (c ∷ cs) k w cb x bc =
        let r = choose_makes w (carries_itself bc.0) (spells_moved direction k cb x) x in
        let a = any_makes {xs = c ∷ cs} w (spells_itself bc) (carries_low w) in
        makes_word_cond (ltb k v)
        (makes_word_after r.defines (each cs (k + k) (r.defines.whole w) (carries_later w r.defines cb) r.spells (below_later r.defines cs bc.1)))
        (makes_word_after a.defines (choose_makes (a.defines.whole w) a.carries (spells_later w a.defines (spells_fill cb x)) (spells_later w a.defines x)))
