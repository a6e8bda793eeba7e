-- Lines and words, counted character by character.
use Rattle.std.proofs.Common.{◌≡◌, ◌≢◌, ℕ, ◌+◌, ◌-◌, ◌≤◌, Bool, true, false, not, ◌&&◌, ◌||◌, ◌==◌, List, get_or, sym, refl, ap, ◌∙◌, add-one, arith}
use Rattle.std.proofs.lemmas.Bool.{eq-eqb, ne_eqb}
use Rattle.book.specs.Text.{blank}
use Rattle.book.specs.Place.{begins, line_at, word_at}

-- what is known of the counts before place k
pub record IsCounted (s : List ℕ) (k line word : ℕ) (after_blank : Bool) : Type 0 where
  pub line_is : line ≡ line_at s k
  pub word_is : word ≡ word_at s k
  pub after_is : after_blank ≡ (k == 0 || blank (get_or s (k - 1) 0))
  pub line_fits : line ≤ k + 1
  pub word_fits : word ≤ k + 1

after_more : (s : List ℕ) (k : ℕ) → blank (get_or s k 0) ≡ (k + 1 == 0 || blank (get_or s (k + 1 - 1) 0))
after_more s k =
    let z = ne_eqb (k + 1) 0 (omega arith) in
    let e : k + 1 - 1 ≡ k = omega arith in
    rw (z, e) refl

line_same : (s : List ℕ) (k : ℕ) → get_or s k 0 ≢ 10 → line_at s (k + 1) ≡ line_at s k
line_same s k h = let e = ne_eqb (get_or s k 0) 10 h in rw (add-one, e) (omega arith)

module _ {s : List ℕ} {k line word : ℕ} {after_blank : Bool} (i : IsCounted s k line word after_blank) where
  -- one character more: a line end, the first of a word, or another
  pub counted_line_end : get_or s k 0 ≡ 10 → IsCounted s (k + 1) (line + 1) 1 (blank (get_or s k 0))
  counted_line_end h =
      let e = eq-eqb (get_or s k 0) 10 h in
      let l : line_at s (k + 1) ≡ line_at s k + 1 = rw (add-one, e) refl in
      record { line_is = ap (λ n. n + 1) i.line_is ∙ sym l; word_is = rw (add-one, e) refl; after_is = after_more s k; line_fits = omega (arith, i.line_fits); word_fits = omega arith }

  begins_is : begins s k ≡ (not (blank (get_or s k 0)) && after_blank)
  begins_is = ap (λ b. not (blank (get_or s k 0)) && b) (sym i.after_is)

  pub counted_begins : get_or s k 0 ≢ 10 → (not (blank (get_or s k 0)) && after_blank) ≡ true → IsCounted s (k + 1) line (word + 1) (blank (get_or s k 0))
  counted_begins h some =
      let e = ne_eqb (get_or s k 0) 10 h in
      let w : begins s k ≡ true = begins_is ∙ some in
      let more : word_at s (k + 1) ≡ word_at s k + 1 = rw (add-one, w, e) refl in
      record { line_is = i.line_is ∙ sym (line_same s k h); word_is = ap (λ n. n + 1) i.word_is ∙ sym more; after_is = after_more s k; line_fits = omega (arith, i.line_fits); word_fits = omega (arith, i.word_fits) }

  pub counted_other : get_or s k 0 ≢ 10 → (not (blank (get_or s k 0)) && after_blank) ≡ false → IsCounted s (k + 1) line word (blank (get_or s k 0))
  counted_other h none =
      let e = ne_eqb (get_or s k 0) 10 h in
      let w : begins s k ≡ false = begins_is ∙ none in
      let same : word_at s (k + 1) ≡ word_at s k = rw (add-one, w, e) (omega arith) in
      record { line_is = i.line_is ∙ sym (line_same s k h); word_is = i.word_is ∙ sym same; after_is = after_more s k; line_fits = omega (arith, i.line_fits); word_fits = omega (arith, i.word_fits) }
