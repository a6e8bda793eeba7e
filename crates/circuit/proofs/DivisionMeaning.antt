-- Quotient and remainder are new words that exactly one choice fits, so the clauses of a division define them, and spell them.
use Rattle.std.proofs.Common.{◌≡◌, ℕ, ◌+◌, Bool, true, List, ◌++◌, map, length, sym, ap, ◌∙◌, ap₂, inl, inr, arith}
use lib.ListN.{length-map}
use Rattle.std.proofs.lemmas.Bool.{cases_lt}
use Rattle.words.specs.Words.{do2}
use Rattle.words.specs.declared.BinaryOp.TheVariants.{Udiv, Urem}
use Rattle.clauses.specs.declared.literal.Literal.{Literal}
use Rattle.clauses.specs.Flat.{Model}
use Rattle.circuit.specs.Bits.{val, bits_of, mul_bits, divides_bits}
use Rattle.circuit.specs.Nets.{Net, wires, free}
use Rattle.circuit.specs.Circuits.{divide_net}
use Rattle.circuit.specs.Meaning.{truth_of, Agree, WordBelow, Whole, Spells, MakesWord}
use Rattle.circuit.proofs.Numbers.{bits_of_val}
use Rattle.circuit.proofs.Quotients.{divides_one, divides_right}
use Rattle.circuit.proofs.Models.{word_lift}
use Rattle.circuit.proofs.Nets.{spells_itself, below_later}
use Rattle.circuit.proofs.WireMeaning.{spells_append}
use Rattle.circuit.proofs.ProductMeaning.{product_makes}
use Rattle.circuit.proofs.DividerMeaning.{asks_after_defined, word_agree, test_sees, divides_asks}
use Rattle.circuit.proofs.NewWords.{free_whole, defines_choice, length_wires, wires_below, wires_agree, with_word, with_word_before, with_word_spells}

-- words that pass the divider's test are those of quotient and remainder
pub divides_words : (w : ℕ) (xs ys qs rs : List Bool) → length xs ≡ w → length ys ≡ w → length qs ≡ w → length rs ≡ w → divides_bits xs ys qs rs ≡ true
    → (qs ≡ bits_of w (do2 w Udiv (val xs) (val ys))) × (rs ≡ bits_of w (do2 w Urem (val xs) (val ys)))
divides_words w xs ys qs rs lx ly lq lr h =
    let d = (divides_right xs ys qs rs (lx ∙ sym lq) (ly ∙ sym lq) (lr ∙ sym lq)).0 h in (
      sym (bits_of_val qs) ∙ (ap₂ bits_of lq d.0 ∙ ap (λ k. bits_of w (do2 k Udiv (val xs) (val ys))) lq),
      sym (bits_of_val rs) ∙ (ap₂ bits_of lr d.1 ∙ ap (λ k. bits_of w (do2 k Urem (val xs) (val ys))) lq),
    )

-- of words for quotient and remainder, w variables each from v on, one choice passes the test
module _ (w v : ℕ) (xs ys : List Literal) (lx : length xs ≡ w) (ly : length ys ≡ w) (bx : WordBelow v xs) (by : WordBelow v ys) where
  abbrev fits : (ℕ → Bool) → Bool
  fits s = divides_bits (map (truth_of s) xs) (map (truth_of s) ys) (map (truth_of s) (wires w v)) (map (truth_of s) (wires w (v + w)))

  long : (s : ℕ → Bool) (ls : List Literal) → length ls ≡ w → length (map (truth_of s) ls) ≡ w
  long s ls e = length-map ls (truth_of s) ∙ e

  fits_some : (s : ℕ → Bool) → (t : ℕ → Bool) × (Agree v s t) × (fits t ≡ true)
  fits_some s =
      let a = divides_one (map (truth_of s) xs) (map (truth_of s) ys) (long s xs lx ∙ sym (long s ys ly)) in
      let p : ℕ → Bool = with_word s v a.0 in
      let t : ℕ → Bool = with_word p (v + w) a.1 in
      let g : Agree v t s = λ u l. with_word_before p (v + w) a.1 u (omega arith) ∙ with_word_before s v a.0 u l in
      let q : map (truth_of t) (wires w v) ≡ a.0 =
      word_agree (v + w) t p (with_word_before p (v + w) a.1) (wires w v) (wires_below w v (v + w) (omega arith)) ∙ with_word_spells s w v a.0 (a.2 ∙ long s xs lx) in
      let r : map (truth_of t) (wires w (v + w)) ≡ a.1 = with_word_spells p w (v + w) a.1 (a.3 ∙ long s xs lx) in (
        t,
        (λ u l. sym (g u l)),
        ap₂ (λ x y. divides_bits x y (map (truth_of t) (wires w v)) (map (truth_of t) (wires w (v + w)))) (word_agree v t s g xs bx) (word_agree v t s g ys by)
            ∙ (ap₂ (divides_bits (map (truth_of s) xs) (map (truth_of s) ys)) q r ∙ a.4),
      )

  fits_words : (s : ℕ → Bool) → fits s ≡ true
      → (map (truth_of s) (wires w v) ≡ bits_of w (do2 w Udiv (val (map (truth_of s) xs)) (val (map (truth_of s) ys))))
      × (map (truth_of s) (wires w (v + w)) ≡ bits_of w (do2 w Urem (val (map (truth_of s) xs)) (val (map (truth_of s) ys))))
  fits_words s h = divides_words w _ _ _ _ (long s xs lx) (long s ys ly) (long s (wires w v) (length_wires w v)) (long s (wires w (v + w)) (length_wires w (v + w))) h

  fits_one : (s t : ℕ → Bool) → Agree v s t → fits s ≡ true → fits t ≡ true → Agree (v + (w + w)) s t
  fits_one s t g h k u l =
      let x = word_agree v s t g xs bx in
      let y = word_agree v s t g ys by in
      let a = fits_words s h in
      let b = fits_words t k in
      elim (cases_lt u v) [
        | inl e ↦ g u e
        | inr e ↦ elim (cases_lt u (v + w)) [
          | inl i ↦ wires_agree s t w v (a.0 ∙ (ap₂ (λ c d. bits_of w (do2 w Udiv (val c) (val d))) x y ∙ sym b.0)) u e i
          | inr i ↦ wires_agree s t w (v + w) (a.1 ∙ (ap₂ (λ c d. bits_of w (do2 w Urem (val c) (val d))) x y ∙ sym b.1)) u i (omega arith)
        ]
      ]

pub divide_makes : {n : Net} {w : ℕ} {xs ys : List Literal} {f g : (ℕ → Bool) → List Bool} → Whole n → length xs ≡ w → length ys ≡ w → Spells n xs f → Spells n ys g
    → MakesWord n (divide_net w xs ys n)
    (λ s. bits_of w (do2 w Udiv (val (f s)) (val (g s))) ++ (bits_of w (do2 w Urem (val (f s)) (val (g s))) ++ mul_bits (g s) (bits_of w (do2 w Udiv (val (f s)) (val (g s))))))
divide_makes {n} {w} {xs} {ys} {f} {g} whole lx ly x y =
    let v = n.next in
    let m = free (w + w) n in
    let wm = free_whole (w + w) whole in
    let bx : WordBelow m.next xs = word_lift v m.next (omega arith) xs x.below in
    let by : WordBelow m.next ys = word_lift v m.next (omega arith) ys y.below in
    let bq : WordBelow m.next (wires w v) = wires_below w v m.next (omega arith) in
    let br : WordBelow m.next (wires w (v + w)) = wires_below w (v + w) m.next (omega arith) in
    let p = product_makes {n = m} wm (spells_itself by) (spells_itself bq) in
    let up = below_later p.defines in
    let a = divides_asks xs ys (wires w v) (wires w (v + w)) (p.defines.whole wm) (up xs bx) (up ys by) (up (wires w v) bq) (up (wires w (v + w)) br) p.first p.second in
    let b = asks_after_defined wm p.defines (test_sees m.next xs ys (wires w v) (wires w (v + w)) bx by bq br divides_bits) a in
    let d = defines_choice (w + w) whole b (fits_some w v xs ys lx ly x.below y.below) (fits_one w v xs ys lx ly x.below y.below) in
    let is : (s : ℕ → Bool) → Model s (divide_net w xs ys n).0.out
    → (map (truth_of s) (wires w v) ≡ bits_of w (do2 w Udiv (val (f s)) (val (g s)))) × (map (truth_of s) (wires w (v + w)) ≡ bits_of w (do2 w Urem (val (f s)) (val (g s)))) =
    λ s h.
    let k = d.keeps s whole h in
    let e = fits_words w v xs ys lx ly x.below y.below s (b.parts s h).1 in (
      e.0 ∙ ap₂ (λ c d. bits_of w (do2 w Udiv (val c) (val d))) (x.means s k) (y.means s k),
      e.1 ∙ ap₂ (λ c d. bits_of w (do2 w Urem (val c) (val d))) (x.means s k) (y.means s k),
    ) in
    record {
      defines = d;
      spells =
          spells_append (record { below = word_lift m.next _ b.grows (wires w v) bq; means = λ s h. (is s h).0 })
          (spells_append (record { below = word_lift m.next _ b.grows (wires w (v + w)) br; means = λ s h. (is s h).1 })
          (record {
            below = word_lift _ _ a.grows _ p.first.below;
            means = λ s h. p.first.means s (a.parts s h).0 ∙ ap₂ mul_bits (y.means s (d.keeps s whole h)) (is s h).0;
          }));
    }
