-- Words that are made of others with no gate: inverted, joined, filled, exchanged at the top, cut and moved. They spell what is done to the bits.
use Rattle.std.proofs.Common.{ℕ, zero, suc, ◌+◌, ◌-◌, Bool, true, false, cond, ltb, List, [], ◌∷◌, ◌++◌, map, length, get_or, sym, ap, ap₂}
use Rattle.circuit.specs.declared.shifting.Direction.{Direction}
use Rattle.circuit.specs.declared.shifting.Direction.TheVariants.{Left, Right}
use lib.ListN.{length-map}
use Rattle.clauses.specs.declared.literal.Literal.{Literal}
use Rattle.circuit.specs.Bits.{not_bits, fill, flag, topped, lower, top, top_of, up_one, down_one, table, moved}
use Rattle.circuit.specs.Nets.{Net}
use Rattle.circuit.specs.Circuits.{inverted}
use Rattle.circuit.specs.Meaning.{truth_of, WordBelow, Carries, Spells}
use Rattle.circuit.proofs.Nets.{carries_itself, spells_itself, carries_negated, carries_as, spells_none, spells_bit, spells_as}

module _ {n : Net} where
  pub spells_inverted : {ls : List Literal} {f : (ℕ → Bool) → List Bool} → Spells n ls f → Spells n (inverted ls) (λ s. not_bits (f s))
  spells_inverted {ls} w = spells_as (λ s k. ap not_bits (w.means s k)) (each ls w.below)
    where
      each : (ls : List Literal) → WordBelow n.next ls → Spells n (inverted ls) (λ s. not_bits (map (truth_of s) ls))
      each [] b = spells_none
      each (l ∷ ls) b = spells_bit (carries_negated (carries_itself b.0)) (each ls b.1)

  pub spells_append : {xs ys : List Literal} {f g : (ℕ → Bool) → List Bool} → Spells n xs f → Spells n ys g → Spells n (xs ++ ys) (λ s. f s ++ g s)
  spells_append {xs} {ys} {f} {g} x y = spells_as (λ s k. ap (λ u. u ++ g s) (x.means s k)) (each xs x.below)
    where
      each : (xs : List Literal) → WordBelow n.next xs → Spells n (xs ++ ys) (λ s. map (truth_of s) xs ++ g s)
      each [] b = y
      each (l ∷ ls) b = spells_bit (carries_itself b.0) (each ls b.1)

  pub spells_fill : {l : Literal} {ls : List Literal} {h : (ℕ → Bool) → Bool} {f : (ℕ → Bool) → List Bool} → Carries n l h → Spells n ls f → Spells n (fill l ls) (λ s. fill (h s) (f s))
  spells_fill {l} {ls} {h} c w = spells_as (λ s k. ap (fill (h s)) (w.means s k)) (each ls)
    where
      each : (ls : List Literal) → Spells n (fill l ls) (λ s. fill (h s) (map (truth_of s) ls))
      each [] = spells_none
      each (x ∷ ls) = spells_bit c (each ls)

  pub spells_flag : {z l : Literal} {ls : List Literal} {d h : (ℕ → Bool) → Bool} {f : (ℕ → Bool) → List Bool}
      → Carries n z d → Carries n l h → Spells n ls f → Spells n (flag z l ls) (λ s. flag (d s) (h s) (f s))
  spells_flag {z} {l} {ls} {d} {h} cz c w = spells_as (λ s k. ap (flag (d s) (h s)) (w.means s k)) (each ls w.below)
    where
      each : (ls : List Literal) → WordBelow n.next ls → Spells n (flag z l ls) (λ s. flag (d s) (h s) (map (truth_of s) ls))
      each [] b = spells_none
      each (x ∷ ls) b = spells_bit c (spells_fill cz (spells_itself b.1))

  pub spells_topped : {xs ys : List Literal} {f g : (ℕ → Bool) → List Bool} → Spells n xs f → Spells n ys g → Spells n (topped xs ys) (λ s. topped (f s) (g s))
  spells_topped {xs} {ys} x y = spells_as (λ s k. ap₂ topped (x.means s k) (y.means s k)) (each xs ys x.below y.below)
    where
      each : (xs ys : List Literal) → WordBelow n.next xs → WordBelow n.next ys → Spells n (topped xs ys) (λ s. topped (map (truth_of s) xs) (map (truth_of s) ys))
      each [] ys bx by = spells_none
      each (x ∷ xs) [] bx by = spells_none
      each (x ∷ []) (y ∷ ys) bx by = spells_bit (carries_itself by.0) spells_none
      each (x ∷ x' ∷ xs) (y ∷ ys) bx by = spells_bit (carries_itself bx.0) (each (x' ∷ xs) ys bx.1 by.1)

  -- b is the lowest bit, as in the definitions
  lower_each : (ls : List Literal) {b : Literal} {h : (ℕ → Bool) → Bool} → WordBelow n.next ls → Carries n b h → Spells n (lower b ls) (λ s. lower (h s) (map (truth_of s) ls))
  lower_each [] b c = spells_none
  lower_each (l ∷ ls) b c = spells_bit c (lower_each ls b.1 (carries_itself b.0))

  pub spells_lower : {b : Literal} {ls : List Literal} {h : (ℕ → Bool) → Bool} {f : (ℕ → Bool) → List Bool} → Carries n b h → Spells n ls f → Spells n (lower b ls) (λ s. lower (h s) (f s))
  spells_lower {ls = ls} {h = h} c w = spells_as (λ s k. ap (lower (h s)) (w.means s k)) (lower_each ls w.below c)

  top_each : (ls : List Literal) {b : Literal} {h : (ℕ → Bool) → Bool} → WordBelow n.next ls → Carries n b h → Carries n (top b ls) (λ s. top (h s) (map (truth_of s) ls))
  top_each [] b c = c
  top_each (l ∷ ls) b c = top_each ls b.1 (carries_itself b.0)

  pub carries_top : {b : Literal} {ls : List Literal} {h : (ℕ → Bool) → Bool} {f : (ℕ → Bool) → List Bool} → Carries n b h → Spells n ls f → Carries n (top b ls) (λ s. top (h s) (f s))
  carries_top {ls = ls} {h = h} c w = carries_as (λ s k. ap (top (h s)) (w.means s k)) (top_each ls w.below c)

  pub carries_top_of : {z : Literal} {ls : List Literal} {h : (ℕ → Bool) → Bool} {f : (ℕ → Bool) → List Bool} → Carries n z h → Spells n ls f → Carries n (top_of z ls) (λ s. top_of (h s) (f s))
  carries_top_of {z} {ls} {h} c w = carries_as (λ s k. ap (top_of (h s)) (w.means s k)) (each ls w.below)
    where
      each : (ls : List Literal) → WordBelow n.next ls → Carries n (top_of z ls) (λ s. top_of (h s) (map (truth_of s) ls))
      each [] b = c
      each (l ∷ ls) b = top_each ls b.1 (carries_itself b.0)

  -- moved by places
  carries_cond : (t : Bool) {a b : Literal} {f g : (ℕ → Bool) → Bool} → Carries n a f → Carries n b g → Carries n (cond t a b) (λ s. cond t (f s) (g s))
  carries_cond true ca cb = ca
  carries_cond false ca cb = cb

  carries_at : (ls : List Literal) (i : ℕ) {z : Literal} {h : (ℕ → Bool) → Bool} → WordBelow n.next ls → Carries n z h → Carries n (get_or ls i z) (λ s. get_or (map (truth_of s) ls) i (h s))
  carries_at [] i b c = c
  carries_at (l ∷ ls) zero b c = carries_itself b.0
  carries_at (l ∷ ls) (suc i) b c = carries_at ls i b.1 c

  spells_table : (m i : ℕ) (t : ℕ → Literal) (u : (ℕ → Bool) → ℕ → Bool) → ((i : ℕ) → Carries n (t i) (λ s. u s i)) → Spells n (table t m i) (λ s. table (u s) m i)
  spells_table zero i t u c = spells_none
  spells_table (suc m) i t u c = spells_bit (c i) (spells_table m (suc i) t u c)

  pub spells_moved : (direction : Direction) (k : ℕ) {b : Literal} {ls : List Literal} {h : (ℕ → Bool) → Bool} {f : (ℕ → Bool) → List Bool}
      → Carries n b h → Spells n ls f → Spells n (moved direction b k ls) (λ s. moved direction (h s) k (f s))
  spells_moved direction k {b} {ls} {h} c w = spells_as (λ s e. ap (moved direction (h s) k) (w.means s e)) (each direction)
    where
      each : (direction : Direction) → Spells n (moved direction b k ls) (λ s. moved direction (h s) k (map (truth_of s) ls))
      each Left =
          spells_as (λ s e. ap (λ m. table (up_one (h s) k (map (truth_of s) ls)) m 0) (sym (length-map ls (truth_of s))))
          (spells_table (length ls) 0 (up_one b k ls) (λ s. up_one (h s) k (map (truth_of s) ls)) (λ i. carries_cond (ltb i k) c (carries_at ls (i - k) w.below c)))
      each Right =
          spells_as (λ s e. ap (λ m. table (down_one (h s) k (map (truth_of s) ls)) m 0) (sym (length-map ls (truth_of s))))
          (spells_table (length ls) 0 (down_one b k ls) (λ s. down_one (h s) k (map (truth_of s) ls)) (λ i. carries_at ls (i + k) w.below c))
