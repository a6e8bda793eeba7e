-- The circuit of each operation makes a word that spells what the operation's circuit on bits gives.
use Rattle.std.proofs.Common.{◌≡◌, ℕ, Bool, false, List, length, sym, ap, ◌∙◌}
use Rattle.circuit.specs.declared.shifting.Direction.{Direction}
use Rattle.circuit.specs.declared.shifting.Direction.TheVariants.{Left, Right}
use lib.ListN.{length-map}
use Rattle.words.specs.declared.UnaryOp.{UnaryOp}
use Rattle.words.specs.declared.UnaryOp.TheVariants.{Not, Neg}
use Rattle.words.specs.declared.BinaryOp.{BinaryOp}
use Rattle.words.specs.declared.BinaryOp.TheVariants.{Add, Sub, Mul, Udiv, Urem, And, Or, Xor, Shl, Lshr, Ashr, Comp, Ult, Slt}
use Rattle.clauses.specs.declared.literal.Literal.{Literal}
use Rattle.clauses.specs.Flat.{Model}
use Rattle.circuit.specs.declared.gates.Bitwise.TheVariants.{Conjunction, Disjunction, Exclusive}
use Rattle.circuit.specs.Bits.{flag, shift_bits, unary_bits, binary_bits}
use Rattle.circuit.specs.Nets.{Net}
use Rattle.circuit.specs.Circuits.{shift_net, unary_net, flagged, binary_net}
use Rattle.circuit.specs.Meaning.{truth_of, Whole, Carries, Spells, Makes, MakesWord, MakesBoth}
use Rattle.circuit.proofs.Nets.{spells_later, carries_high, carries_low, makes_word_as, makes_word_none}
use Rattle.circuit.proofs.WireMeaning.{spells_inverted, spells_fill, spells_flag, spells_topped, carries_top_of}
use Rattle.circuit.proofs.WordMeaning.{bitwise_makes, add_makes, less_makes, equal_makes}
use Rattle.circuit.proofs.ProductMeaning.{product_makes, shift_makes}

pub length_spelled : {n : Net} {ls : List Literal} {f : (ℕ → Bool) → List Bool} → Spells n ls f → (s : ℕ → Bool) → Model s n.out → length (f s) ≡ length ls
length_spelled {ls = ls} w s h = sym (ap length (w.means s h)) ∙ length-map ls (truth_of s)

sum_word : {n : Net} {r : Net × (List Literal × Literal)} {f : (ℕ → Bool) → List Bool} {g : (ℕ → Bool) → Bool} → MakesBoth n r f g → MakesWord n (r.0, r.1.0) f
sum_word m = record { defines = m.defines; spells = m.spells }

pub unary_makes : {n : Net} {xs : List Literal} {f : (ℕ → Bool) → List Bool} (o : UnaryOp) → Whole n → Spells n xs f → MakesWord n (unary_net o xs n) (λ s. unary_bits o (f s))
unary_makes Not w x = makes_word_none (spells_inverted x)
unary_makes Neg w x = sum_word (add_makes w (spells_fill (carries_low w) x) (spells_inverted x) (carries_high w))

module _ {n : Net} {xs ys : List Literal} {f g : (ℕ → Bool) → List Bool} (w : Whole n) (x : Spells n xs f) (y : Spells n ys g) where
  barrel : {b : Literal} {h : (ℕ → Bool) → Bool} (direction : Direction) → Carries n b h → MakesWord n (shift_net direction b (length xs) 1 xs ys n) (λ s. shift_bits direction (h s) (length (f s)) 1 (f s) (g s))
  barrel {h = h} direction c = makes_word_as w (λ s k. ap (λ v. shift_bits direction (h s) v 1 (f s) (g s)) (sym (length_spelled x s k))) (shift_makes direction (length xs) 1 w c x y)

  flagged_makes : {r : Net × Literal} {h : (ℕ → Bool) → Bool} → Makes n r h → MakesWord n (flagged xs r) (λ s. flag false (h s) (f s))
  flagged_makes m = record { defines = m.defines; spells = spells_flag (carries_low (m.defines.whole w)) m.carries (spells_later w m.defines x) }

  pub binary_makes : (o : BinaryOp) → MakesWord n (binary_net o xs ys n) (λ s. binary_bits o (f s) (g s))
  binary_makes Add = sum_word (add_makes w x y (carries_low w))
  binary_makes Sub = sum_word (add_makes w x (spells_inverted y) (carries_high w))
  binary_makes Mul = let m = product_makes w x y in record { defines = m.defines; spells = m.first }
  binary_makes Udiv = makes_word_none (spells_fill (carries_low w) x)
  binary_makes Urem = makes_word_none (spells_fill (carries_low w) x)
  binary_makes And = bitwise_makes Conjunction w x y
  binary_makes Or = bitwise_makes Disjunction w x y
  binary_makes Xor = bitwise_makes Exclusive w x y
  binary_makes Shl = barrel Left (carries_low w)
  binary_makes Lshr = barrel Right (carries_low w)
  binary_makes Ashr = barrel Right (carries_top_of (carries_low w) x)
  binary_makes Comp = flagged_makes (equal_makes w x y (carries_high w))
  binary_makes Ult = flagged_makes (less_makes w x y)
  binary_makes Slt = flagged_makes (less_makes w (spells_topped x y) (spells_topped y x))
