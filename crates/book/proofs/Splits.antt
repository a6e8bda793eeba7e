-- The words of a text, from a place on.
use Rattle.std.proofs.Common.{◌≡◌, ℕ, ◌+◌, ◌<◌, ◌≤◌, false, not, List, [], ◌∷◌, length, get_or, take, drop, add-zero, sym, refl, ap, ◌∙◌, inl, inr, arith}
use Rattle.std.specs.List.{prefix_len}
use Rattle.std.proofs.Math.Numerals.{one-add}
use Rattle.std.proofs.lemmas.Bool.{cases_Bool}
use Rattle.std.proofs.lemmas.List.{drop-drop, get_or-drop, length-drop}
use Rattle.std.proofs.lemmas.List.Folds.{length-prefix_len}
use Rattle.std.proofs.lemmas.List.Sums.{prefix_len_stops, prefix_len-le-length}
use Rattle.book.specs.declared.token.Token.{Token}
use Rattle.book.specs.declared.token.Token.TheVariants as token
use Rattle.book.specs.Text.{blank, close, split, words}
use Rattle.book.specs.Tokens.{Is}
use Rattle.book.specs.Scan.{rest, Found, At}

-- blanks in front of a text add no word
words_skip_blanks : (t : List ℕ) → words (drop (prefix_len blank t) t) ≡ words t
words_skip_blanks [] = refl
words_skip_blanks (c ∷ cs) =
    elim (cases_Bool (blank c)) [
      | inl h ↦ rw (h, one-add) (words_skip_blanks cs)
      | inr h ↦ rw (h, h) refl
    ]

pub rest_skip_blanks : (s : List ℕ) (p : ℕ) → rest s (p + prefix_len blank (drop p s)) ≡ rest s p
rest_skip_blanks s p = sym (ap words (drop-drop (prefix_len blank (drop p s)) p s)) ∙ words_skip_blanks (drop p s)

-- how long the word is that a text begins with
abbrev pub word_len : List ℕ → ℕ
word_len t = prefix_len (λ c. not (blank c)) t

split_word : (t : List ℕ) → split t ≡ (take (word_len t) t, words (drop (word_len t) t))
split_word [] = refl
split_word (c ∷ cs) =
    elim (cases_Bool (blank c)) [
      | inl h ↦ rw (h, h) refl
      | inr h ↦ rw (h, one-add) (ap (λ r. (c ∷ r.0, r.1)) (split_word cs))
    ]

close_word : (w : List ℕ) (ws : List (List ℕ)) → 0 < length w → close w ws ≡ w ∷ ws
close_word [] ws h = absurd (omega arith)
close_word (c ∷ cs) ws h = refl

-- the first word of a text
words_word : (t : List ℕ) → 0 < word_len t → words t ≡ take (word_len t) t ∷ words (drop (word_len t) t)
words_word t some = ap (λ r. close r.0 r.1) (split_word t) ∙ close_word _ _ (omega (arith, length-prefix_len (λ c. not (blank c)) t))

pub rest_word : (s : List ℕ) (p : ℕ) → 0 < word_len (drop p s) → rest s p ≡ take (word_len (drop p s)) (drop p s) ∷ rest s (p + word_len (drop p s))
rest_word s p some = words_word (drop p s) some ∙ ap (λ t. take (word_len (drop p s)) (drop p s) ∷ words t) (drop-drop (word_len (drop p s)) p s)

-- a place at which blanks end, and no word begins, is the text's end
pub rest_none : (s : List ℕ) (p : ℕ) → word_len (drop p s) ≡ 0 → (p < length s → blank (get_or s p 0) ≡ false) → rest s p ≡ []
rest_none s p none stops = words_none (drop p s) none (λ some. rw (get_or-drop p s 0 0, add-zero) (stops (omega (arith, length-drop p s))))
  where
    words_none : (t : List ℕ) → word_len t ≡ 0 → (0 < length t → blank (get_or t 0 0) ≡ false) → words t ≡ []
    words_none [] none first = refl
    words_none (c ∷ cs) none first =
        let h : blank c ≡ false = first (omega arith) in
        let some : 1 + word_len cs ≡ 0 = rw h at none in
        absurd (omega arith)

pub rest_stops : (s : List ℕ) (p : ℕ) → p + prefix_len blank (drop p s) < length s → blank (get_or s (p + prefix_len blank (drop p s)) 0) ≡ false
rest_stops s p lt = ap blank (sym (get_or-drop p s _ 0)) ∙ prefix_len_stops blank (drop p s) 0 (omega (arith, length-drop p s))

-- a word that is this token stands from p on, after blanks
pub rest_found : (s : List ℕ) (p q : ℕ) (t : Token) → p ≤ q → q ≤ length s → rest s q ≡ rest s p → 0 < word_len (drop q s) → Is t (take (word_len (drop q s)) (drop q s)) → At s p t (q + word_len (drop q s))
rest_found s p q t le within same some is = at t is
  where
    ends : q + word_len (drop q s) ≤ length s
    ends = omega (arith, prefix_len-le-length (λ c. not (blank c)) (drop q s), length-drop q s)

    found : (u : Token) → Is u (take (word_len (drop q s)) (drop q s)) → Found s p u (q + word_len (drop q s))
    found u is = record { word = take (word_len (drop q s)) (drop q s); is = is; before = sym same ∙ rest_word s q some; longer = omega arith; within = ends }

    at : (u : Token) → Is u (take (word_len (drop q s)) (drop q s)) → At s p u (q + word_len (drop q s))
    at token.End is = absurd is
    at token.Rule is = found token.Rule is
    at (token.Leaf l) is = found (token.Leaf l) is
    at (token.Operation o) is = found (token.Operation o) is
    at (token.Number n) is = found (token.Number n) is
    at token.Other is = found token.Other is
