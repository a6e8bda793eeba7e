-- Loops over the bits of words: what the whole circuit gives is what the rest of it gives from here, with
-- the bits so far in front.
use Rattle.std.proofs.Common.{◌≡◌, ℕ, ◌+◌, ◌<◌, ◌≤◌, List, [], ◌∷◌, ◌++◌, length, take, set, sym, ap, ◌∙◌, subst, append_assoc, append-nil, arith}
use Rattle.std.proofs.lemmas.List.{take_more_set, take_all}
use Rattle.clauses.specs.declared.literal.Literal.{Literal}
use Rattle.circuit.specs.Nets.{Net}
use Rattle.circuit.specs.Built.{Written, Fits, Wrote}
use Rattle.circuit.proofs.Growing.{Grows}
use Rattle.circuit.proofs.Writing.{fits_first, fits_here}

-- the bits ls in front of what r gives
abbrev pub after : {S : Type 0} → List Literal → Net × (List Literal × S) → Net × (List Literal × S)
after ls r = (r.0, (ls ++ r.1.0, r.1.1))

-- a word with nothing carried
abbrev pub alone : Net × List Literal → Net × (List Literal × Unit {0})
alone r = (r.0, (r.1, tt))

-- a step of a net m, whose rest is m'
pub loop_fits : {b b' : Written} {n m m' : Net} → Wrote b b' b'.net → m ≡ m' → Grows n m' → Fits b m → Fits b' n
loop_fits {b} w e g f = fits_first g (fits_here w (subst (Fits b) e f))

pub loop_room : {b b' : Written} {m m' : Net} → Wrote b b' b'.net → m ≡ m' → Fits b m → Fits b' m'
loop_room {b} w e f = fits_here w (subst (Fits b) e f)

-- what is written from inside a loop on
pub loop_last : {b b' b'' : Written} {m m' : Net} → Wrote b b' b'.net → m ≡ m' → Wrote b' b'' m' → Wrote b b'' m
loop_last w e v = record { net = v.net ∙ sym e; size = v.size ∙ w.size }

pub loop_wrote : {b b' : Written} {m : Net} → Wrote b b' b'.net → m ≡ b'.net → Wrote b b' m
loop_wrote {b} {b'} w e = subst (Wrote b b') (sym e) w

-- Two words are read side by side: after n bits of w, xs and ys are left.
pub record Side (w n : ℕ) (xs ys : List Literal) : Type 0 where
  pub left : n + length xs ≡ w
  pub alike : length ys ≡ length xs

pub side_more : {w v n m : ℕ} {xs ys xs' ys' : List Literal} {x y : Literal} → Side w n xs ys → (xs ≡ x ∷ xs') × (ys ≡ y ∷ ys') → m ≡ n + 1 → v ≡ w → Side v m xs' ys'
side_more s e k u = record { left = omega (arith, s.left, ap length e.0); alike = omega (arith, s.alike, ap length e.0, ap length e.1) }

pub side_inside : {w n i : ℕ} {xs ys xs' ys' : List Literal} {x y : Literal} → Side w n xs ys → (xs ≡ x ∷ xs') × (ys ≡ y ∷ ys') → i ≡ n → i < w
side_inside s e k = omega (arith, s.left, ap length e.0)

pub pair_step : {R : Type 0} (f : List Literal → List Literal → R) {xs ys xs' ys' : List Literal} {x y : Literal} → (xs ≡ x ∷ xs') × (ys ≡ y ∷ ys') → f xs ys ≡ f (x ∷ xs') (y ∷ ys')
pair_step f {xs} {ys} {xs'} {ys'} {x} {y} e = ap (λ l. f l ys) e.0 ∙ ap (f (x ∷ xs')) e.1

-- one more bit of a word
pub bit_more : {S : Type 0} {b b' : Written} {whole : Net × (List Literal × S)} (rest : S → Net → Net × (List Literal × S)) (t : Net × (Literal × S)) (out : List Literal) (n i m : ℕ) (bit : Literal) (s : S) → i ≡ n → m ≡ n + 1 → i < length out → whole ≡ after (take n out) (after (t.1.0 ∷ []) (rest t.1.1 t.0)) → Wrote b b' t.0 → bit ≡ t.1.0 → s ≡ t.1.1 → whole ≡ after (take m (set out i bit)) (rest s b'.net)
bit_more {S} {b} {b'} rest t out n i m bit s here next h e w eb es =
    let more : take (i + 1) (set out i bit) ≡ take i out ++ (t.1.0 ∷ []) = take_more_set out i bit h ∙ ap (λ x. take i out ++ (x ∷ [])) eb in
    let past : m ≡ i + 1 = omega arith in
    let front : take m (set out i bit) ≡ take n out ++ (t.1.0 ∷ []) = ap (λ k. take k (set out i bit)) past ∙ more ∙ ap (λ k. take k out ++ (t.1.0 ∷ [])) here in
    let q = rest t.1.1 t.0 in
    e ∙ ap (λ ls. (q.0, (ls, q.1.1))) (sym (append_assoc (take n out) (t.1.0 ∷ []) q.1.0))
    ∙ sym (ap (λ ls. after ls (rest s b'.net)) front ∙ ap (λ z. after (take n out ++ (t.1.0 ∷ [])) (rest z b'.net)) es ∙ ap (λ k. after (take n out ++ (t.1.0 ∷ [])) (rest t.1.1 k)) w.net)

-- all bits of a word
pub bits_all : {S : Type 0} {whole : Net × (List Literal × S)} (out : List Literal) (i : ℕ) (n : Net) (s : S) → length out ≤ i → whole ≡ after (take i out) (n, ([], s)) → whole ≡ (n, (out, s))
bits_all out i n s h e = e ∙ ap (λ ls. (n, (ls, s))) (append-nil (take i out) ∙ take_all i out h)

-- one more bit of which only what is carried stays
pub carried_more : {S W : Type 0} {b b' : Written} {whole : W} (rest : S → Net → W) (t : Net × S) (s : S) → whole ≡ rest t.1 t.0 → Wrote b b' t.0 → s ≡ t.1 → whole ≡ rest s b'.net
carried_more {S} {W} {b} {b'} rest t s e w es = e ∙ sym (ap (λ z. rest z b'.net) es ∙ ap (rest t.1) w.net)

-- one more step of which nothing is carried
pub net_more : {b b' : Written} {whole : Net} (rest : Net → Net) (t : Net) → whole ≡ rest t → Wrote b b' t → whole ≡ rest b'.net
net_more rest t e w = e ∙ ap rest (sym w.net)
