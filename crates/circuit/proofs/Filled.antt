-- Words of one literal, and words whose lowest bit alone may be another.
use Rattle.std.proofs.Common.{◌≡◌, ℕ, suc, ◌+◌, ◌-◌, ◌<◌, ◌≤◌, List, [], ◌∷◌, ◌++◌, length, get_or, take, drop, set, replicate, sym, refl, ap, ◌∙◌, append_assoc, append-nil, Some, arith}
use Rattle.std.specs.Prelude.{slice_get}
use Rattle.std.specs.Option.{unwrap_or}
use Rattle.std.proofs.lemmas.List.{at_drop_more, at_drop_all, take_all, take_more_set, take-replicate}
use Rattle.std.proofs.Math.Seq.{take-append_seam}
use Rattle.clauses.specs.declared.literal.Literal.{Literal}
use Rattle.circuit.specs.Bits.{fill, flag, top, top_of}
use Rattle.clauses.specs.Literals.{negated}
use Rattle.circuit.specs.Nets.{low}
use Rattle.circuit.specs.Circuits.{inverted}
use Rattle.circuit.proofs.Steps.{blank}

pub fill_replicate : (b : Literal) (xs : List Literal) → fill b xs ≡ replicate (length xs) b
fill_replicate b [] = refl
fill_replicate b (x ∷ xs) = ap (λ l. b ∷ l) (fill_replicate b xs)

flag_replicate : (z b : Literal) (xs : List Literal) → flag z b xs ≡ set (replicate (length xs) z) 0 b
flag_replicate z b [] = refl
flag_replicate z b (x ∷ xs) = ap (λ l. b ∷ l) (fill_replicate z xs)

pub flag_alike : (z b : Literal) (xs ys : List Literal) → length xs ≡ length ys → flag z b xs ≡ flag z b ys
flag_alike z b xs ys e = flag_replicate z b xs ∙ ap (λ n. set (replicate n z) 0 b) e ∙ sym (flag_replicate z b ys)

pub flag_written : (z b : Literal) (xs os : List Literal) → os ≡ replicate (length xs) z → set os 0 b ≡ flag z b xs
flag_written z b xs os e = ap (λ l. set l 0 b) e ∙ sym (flag_replicate z b xs)

-- a word that was written with 0
pub zero_word : (zs xs os : List Literal) → length zs ≡ length xs → os ≡ replicate (length zs) low → os ≡ fill low xs
zero_word zs xs os e is = is ∙ ap (λ k. replicate k low) e ∙ sym (fill_replicate low xs)

-- a word of zeros, cut to the length of xs
pub zero_front : (w : ℕ) (xs : List Literal) → length xs ≤ w → take (length xs) (replicate w low) ≡ fill low xs
zero_front w xs h = take-replicate (length xs) w low h ∙ sym (fill_replicate low xs)

-- what was written to the front of a longer word
pub front_written : (w : ℕ) (xs ys : List Literal) → length xs ≡ w → take w (xs ++ ys) ≡ xs
front_written w xs ys e = ap (λ k. take k (xs ++ ys)) (sym e) ∙ take-append_seam xs ys

last_top : (x : Literal) (xs : List Literal) → slice_get (x ∷ xs) (length xs) ≡ Some (top x xs)
last_top x [] = refl
last_top x (y ∷ ys) = last_top y ys

pub top_of_last : (z : Literal) (xs : List Literal) → unwrap_or (slice_get xs (length xs - 1)) z ≡ top_of z xs
top_of_last z [] = refl
top_of_last z (x ∷ xs) = let e : suc (length xs) - 1 ≡ length xs = omega arith in ap (λ k. unwrap_or (slice_get (x ∷ xs) k) z) e ∙ ap (λ o. unwrap_or o z) (last_top x xs)

pub inverted_more : (xs os : List Literal) (i : ℕ) (x : Literal) → i < length xs → i < length os → x ≡ negated (get_or xs i blank) → inverted xs ≡ take i os ++ inverted (drop i xs) → inverted xs ≡ take (i + 1) (set os i x) ++ inverted (drop (i + 1) xs)
inverted_more xs os i x h k e is =
    let rest = inverted (drop (i + 1) xs) in
    is ∙ ap (λ l. take i os ++ l) (at_drop_more inverted xs i blank h ∙ ap (λ z. z ∷ rest) (sym e))
    ∙ sym (append_assoc (take i os) (x ∷ []) rest) ∙ ap (λ l. l ++ rest) (sym (take_more_set os i x k))

pub inverted_all : (xs os : List Literal) (i : ℕ) → length xs ≤ i → length os ≤ i → inverted xs ≡ take i os ++ inverted (drop i xs) → os ≡ inverted xs
inverted_all xs os i h k is = sym (is ∙ ap (λ l. take i os ++ l) (at_drop_all inverted xs i h) ∙ append-nil (take i os) ∙ take_all i os k)
