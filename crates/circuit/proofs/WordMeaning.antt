-- The circuits on words of literals make words that spell what the circuits on bits give: sums, comparisons and choices.
use Rattle.std.proofs.Common.{ℕ, Bool, cond, ◌&&◌, ◌||◌, List, [], ◌∷◌, map, ap, ap₂}
use Rattle.words.specs.Words.{xor}
use Rattle.clauses.specs.declared.literal.Literal.{Literal}
use Rattle.circuit.specs.declared.gates.Bitwise.{Bitwise}
use Rattle.circuit.specs.declared.gates.Bitwise.TheVariants.{Conjunction, Disjunction, Exclusive}
use Rattle.circuit.specs.Bits.{maj, not_bits, zip_bits, add_bits, carry_bits, ult_bits, equal_bits, any_bits, ite_bits}
use Rattle.circuit.specs.Nets.{Net}
use Rattle.circuit.specs.Circuits.{bit_net, bitwise_net, choose_net, full_net, add_net, borrow_net, less_net, equal_net, any_net, ite_net}
use Rattle.circuit.specs.Meaning.{truth_of, WordBelow, Whole, Carries, Spells, Makes, MakesTwo, MakesWord, MakesBoth}
use Rattle.circuit.proofs.Nets.{defines_none, defines_then, carries_itself, below_later, carries_later, spells_later, spells_none, spells_bit, carries_high, carries_low, carries_negated, makes_as, makes_word_as, makes_both_as, makes_none, makes_word_none, makes_after, makes_word_after}
use Rattle.circuit.proofs.GateMeaning.{and_makes, or_makes, xor_makes, majority_makes, choice_makes}

-- one bit before a word
makes_word_bit : {n : Net} {b : Net × Literal} {r : Net × List Literal} {f : (ℕ → Bool) → Bool} {g : (ℕ → Bool) → List Bool}
    → Whole n → Makes n b f → MakesWord b.0 r g → MakesWord n (r.0, b.1 ∷ r.1) (λ s. f s ∷ g s)
makes_word_bit w b r = record {
  defines = defines_then b.defines r.defines;
  spells = spells_bit (carries_later (b.defines.whole w) r.defines b.carries) r.spells;
}

-- bit by bit
abbrev pub bit_b : Bitwise → Bool → Bool → Bool
bit_b Conjunction a b = a && b
bit_b Disjunction a b = a || b
bit_b Exclusive a b = xor a b

bit_makes : {n : Net} {a b : Literal} {f g : (ℕ → Bool) → Bool} (o : Bitwise) → Whole n → Carries n a f → Carries n b g → Makes n (bit_net o a b n) (λ s. bit_b o (f s) (g s))
bit_makes Conjunction w ca cb = and_makes w ca cb
bit_makes Disjunction w ca cb = or_makes w ca cb
bit_makes Exclusive w ca cb = xor_makes w ca cb

pub bitwise_makes : {n : Net} {xs ys : List Literal} {f g : (ℕ → Bool) → List Bool} (o : Bitwise) → Whole n → Spells n xs f → Spells n ys g → MakesWord n (bitwise_net o xs ys n) (λ s. zip_bits (bit_b o) (f s) (g s))
bitwise_makes {n} {xs} {ys} o w x y = makes_word_as w (λ s k. ap₂ (zip_bits (bit_b o)) (x.means s k) (y.means s k)) (each xs ys w x.below y.below)
  where
    each : (xs ys : List Literal) {n : Net} → Whole n → WordBelow n.next xs → WordBelow n.next ys → MakesWord n (bitwise_net o xs ys n) (λ s. zip_bits (bit_b o) (map (truth_of s) xs) (map (truth_of s) ys))
    each [] ys w bx by = makes_word_none spells_none
    each (x ∷ xs) [] w bx by = makes_word_none spells_none
    each (x ∷ xs) (y ∷ ys) w bx by =
        let b = bit_makes o w (carries_itself bx.0) (carries_itself by.0) in
        makes_word_bit w b (each xs ys (b.defines.whole w) (below_later b.defines xs bx.1) (below_later b.defines ys by.1))

pub choose_makes : {n : Net} {c : Literal} {xs ys : List Literal} {h : (ℕ → Bool) → Bool} {f g : (ℕ → Bool) → List Bool}
    → Whole n → Carries n c h → Spells n xs f → Spells n ys g → MakesWord n (choose_net c xs ys n) (λ s. zip_bits (cond (h s)) (f s) (g s))
choose_makes {n} {c} {xs} {ys} {h} w cc x y = makes_word_as w (λ s k. ap₂ (zip_bits (cond (h s))) (x.means s k) (y.means s k)) (each xs ys w cc x.below y.below)
  where
    each : (xs ys : List Literal) {n : Net} → Whole n → Carries n c h → WordBelow n.next xs → WordBelow n.next ys → MakesWord n (choose_net c xs ys n) (λ s. zip_bits (cond (h s)) (map (truth_of s) xs) (map (truth_of s) ys))
    each [] ys w cc bx by = makes_word_none spells_none
    each (x ∷ xs) [] w cc bx by = makes_word_none spells_none
    each (x ∷ xs) (y ∷ ys) w cc bx by =
        let b = choice_makes w cc (carries_itself bx.0) (carries_itself by.0) in
        makes_word_bit w b (each xs ys (b.defines.whole w) (carries_later w b.defines cc) (below_later b.defines xs bx.1) (below_later b.defines ys by.1))

-- sum and carry
pub full_makes : {n : Net} {x y c : Literal} {f g h : (ℕ → Bool) → Bool} → Whole n → Carries n x f → Carries n y g → Carries n c h
    → MakesTwo n (full_net x y c n) (λ s. xor (xor (f s) (g s)) (h s)) (λ s. maj (f s) (g s) (h s))
full_makes w x y c =
    let p = xor_makes w x y in
    let s = makes_after p.defines (xor_makes (p.defines.whole w) p.carries (carries_later w p.defines c)) in
    let d = s.defines in
    let m = majority_makes (d.whole w) (carries_later w d x) (carries_later w d y) (carries_later w d c) in
    record { defines = defines_then d m.defines; first = carries_later (d.whole w) m.defines s.carries; second = m.carries }

-- one digit before a sum
pub makes_both_digit : {n : Net} {b : Net × (Literal × Literal)} {r : Net × (List Literal × Literal)} {f g h : (ℕ → Bool) → Bool} {t : (ℕ → Bool) → List Bool}
    → Whole n → MakesTwo n b f g → MakesBoth b.0 r t h → MakesBoth n (r.0, (b.1.0 ∷ r.1.0, r.1.1)) (λ s. f s ∷ t s) h
makes_both_digit w b r = record {
  defines = defines_then b.defines r.defines;
  spells = spells_bit (carries_later (b.defines.whole w) r.defines b.first) r.spells;
  carries = r.carries;
}

pub makes_both_none : {n : Net} {c : Literal} {h : (ℕ → Bool) → Bool} → Carries n c h → MakesBoth n (n, ([], c)) (λ s. []) h
makes_both_none {n} c = record { defines = defines_none n; spells = spells_none; carries = c }

pub add_makes : {n : Net} {xs ys : List Literal} {c : Literal} {f g : (ℕ → Bool) → List Bool} {h : (ℕ → Bool) → Bool}
    → Whole n → Spells n xs f → Spells n ys g → Carries n c h → MakesBoth n (add_net xs ys c n) (λ s. add_bits (f s) (g s) (h s)) (λ s. carry_bits (f s) (g s) (h s))
add_makes {xs = xs} {ys = ys} {h = h} w x y c =
    makes_both_as w (λ s k. ap₂ (λ a b. add_bits a b (h s)) (x.means s k) (y.means s k)) (λ s k. ap₂ (λ a b. carry_bits a b (h s)) (x.means s k) (y.means s k))
    (each xs ys w x.below y.below c)
  where
    each : (xs ys : List Literal) {n : Net} {c : Literal} {h : (ℕ → Bool) → Bool} → Whole n → WordBelow n.next xs → WordBelow n.next ys → Carries n c h
        → MakesBoth n (add_net xs ys c n) (λ s. add_bits (map (truth_of s) xs) (map (truth_of s) ys) (h s)) (λ s. carry_bits (map (truth_of s) xs) (map (truth_of s) ys) (h s))
    each [] ys w bx by c = makes_both_none c
    each (x ∷ xs) [] w bx by c = makes_both_none c
    each (x ∷ xs) (y ∷ ys) w bx by c =
        let b = full_makes w (carries_itself bx.0) (carries_itself by.0) c in
        makes_both_digit w b (each xs ys (b.defines.whole w) (below_later b.defines xs bx.1) (below_later b.defines ys by.1) b.second)

-- comparisons
pub borrow_makes : {n : Net} {xs ys : List Literal} {c : Literal} {f g : (ℕ → Bool) → List Bool} {h : (ℕ → Bool) → Bool}
    → Whole n → Spells n xs f → Spells n ys g → Carries n c h → Makes n (borrow_net xs ys c n) (λ s. carry_bits (f s) (not_bits (g s)) (h s))
borrow_makes {xs = xs} {ys = ys} {h = h} w x y c = makes_as w (λ s k. ap₂ (λ a b. carry_bits a (not_bits b) (h s)) (x.means s k) (y.means s k)) (each xs ys w x.below y.below c)
  where
    each : (xs ys : List Literal) {n : Net} {c : Literal} {h : (ℕ → Bool) → Bool} → Whole n → WordBelow n.next xs → WordBelow n.next ys → Carries n c h
        → Makes n (borrow_net xs ys c n) (λ s. carry_bits (map (truth_of s) xs) (not_bits (map (truth_of s) ys)) (h s))
    each [] ys w bx by c = makes_none c
    each (x ∷ xs) [] w bx by c = makes_none c
    each (x ∷ xs) (y ∷ ys) w bx by c =
        let b = majority_makes w (carries_itself bx.0) (carries_negated (carries_itself by.0)) c in
        makes_after b.defines (each xs ys (b.defines.whole w) (below_later b.defines xs bx.1) (below_later b.defines ys by.1) b.carries)

pub less_makes : {n : Net} {xs ys : List Literal} {f g : (ℕ → Bool) → List Bool} → Whole n → Spells n xs f → Spells n ys g → Makes n (less_net xs ys n) (λ s. ult_bits (f s) (g s))
less_makes w x y = let r = borrow_makes w x y (carries_high w) in record { defines = r.defines; carries = carries_negated r.carries }

pub equal_makes : {n : Net} {xs ys : List Literal} {c : Literal} {f g : (ℕ → Bool) → List Bool} {h : (ℕ → Bool) → Bool}
    → Whole n → Spells n xs f → Spells n ys g → Carries n c h → Makes n (equal_net xs ys c n) (λ s. equal_bits (f s) (g s) (h s))
equal_makes {xs = xs} {ys = ys} {h = h} w x y c = makes_as w (λ s k. ap₂ (λ a b. equal_bits a b (h s)) (x.means s k) (y.means s k)) (each xs ys w x.below y.below c)
  where
    each : (xs ys : List Literal) {n : Net} {c : Literal} {h : (ℕ → Bool) → Bool} → Whole n → WordBelow n.next xs → WordBelow n.next ys → Carries n c h
        → Makes n (equal_net xs ys c n) (λ s. equal_bits (map (truth_of s) xs) (map (truth_of s) ys) (h s))
    each [] ys w bx by c = makes_none c
    each (x ∷ xs) [] w bx by c = makes_none c
    each (x ∷ xs) (y ∷ ys) w bx by c =
        let d = xor_makes w (carries_itself bx.0) (carries_itself by.0) in
        let e = makes_after d.defines (and_makes (d.defines.whole w) (carries_later w d.defines c) (carries_negated d.carries)) in
        makes_after e.defines (each xs ys (e.defines.whole w) (below_later e.defines xs bx.1) (below_later e.defines ys by.1) e.carries)

pub any_makes : {n : Net} {xs : List Literal} {c : Literal} {f : (ℕ → Bool) → List Bool} {h : (ℕ → Bool) → Bool} → Whole n → Spells n xs f → Carries n c h → Makes n (any_net xs c n) (λ s. any_bits (f s) (h s))
any_makes {xs = xs} {h = h} w x c = makes_as w (λ s k. ap (λ a. any_bits a (h s)) (x.means s k)) (each xs w x.below c)
  where
    each : (xs : List Literal) {n : Net} {c : Literal} {h : (ℕ → Bool) → Bool} → Whole n → WordBelow n.next xs → Carries n c h → Makes n (any_net xs c n) (λ s. any_bits (map (truth_of s) xs) (h s))
    each [] w bx c = makes_none c
    each (x ∷ xs) w bx c =
        let e = or_makes w c (carries_itself bx.0) in
        makes_after e.defines (each xs (e.defines.whole w) (below_later e.defines xs bx.1) e.carries)

pub ite_makes : {n : Net} {ts xs ys : List Literal} {e f g : (ℕ → Bool) → List Bool} → Whole n → Spells n ts e → Spells n xs f → Spells n ys g → MakesWord n (ite_net ts xs ys n) (λ s. ite_bits (e s) (f s) (g s))
ite_makes w t x y =
    let a = any_makes w t (carries_low w) in
    makes_word_after a.defines (choose_makes (a.defines.whole w) a.carries (spells_later w a.defines x) (spells_later w a.defines y))
