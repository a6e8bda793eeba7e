-- A word that is moved, as it is written: what stays is copied between what comes in.
use Rattle.std.proofs.Common.{◌≡◌, ℕ, ◌+◌, ◌-◌, ◌<◌, ◌≤◌, List, [], ◌++◌, length, get_or, take, drop, replicate, sym, ap, ◌∙◌, inl, inr, append-nil, length-append, length-take, length-drop, arith}
use Rattle.std.proofs.Math.ListN.{get_or-append}
use Rattle.std.proofs.lemmas.List.{get_or_past, ext_get_or, get_or-take, get_or-drop, get_or-replicate, get_or-append_right, take-replicate, drop-replicate, length-replicate, take_rest, drop_all}
use Rattle.std.proofs.lemmas.Bool.{cases_lt}
use borrow.Rule.Slice.PartMut.{put_mid, post_of}
use Rattle.clauses.specs.declared.literal.Literal.{Literal}
use Rattle.circuit.specs.declared.shifting.Direction.{Direction}
use Rattle.circuit.specs.declared.shifting.Direction.TheVariants.{Left, Right}
use Rattle.circuit.specs.Bits.{moved}
use Rattle.circuit.proofs.Moving.{length_moved, get_d_moved, moved_out, up_below, up_from}
use Rattle.circuit.proofs.Filled.{fill_replicate}

joined_left : (b : Literal) (k : ℕ) (xs : List Literal) → k < length xs → replicate k b ++ take (length xs - k) xs ≡ moved Left b k xs
joined_left b k xs h =
    let long = length_moved Left b k xs in
    let front = length-replicate k b in
    let word : length (replicate k b ++ take (length xs - k) xs) ≡ length xs = omega (arith, length-append (replicate k b) (take (length xs - k) xs), front, length-take (length xs - k) xs) in
    ext_get_or b (replicate k b ++ take (length xs - k) xs) (moved Left b k xs) (omega arith)
    (λ i l.
    elim (cases_lt i k) [
      | inl m ↦ get_or-append (replicate k b) (take (length xs - k) xs) b i (omega arith) ∙ get_or-replicate k i b b m ∙ sym (get_d_moved Left b k xs i (omega arith) ∙ up_below b k i xs m)
      | inr m ↦ get_or-append_right (replicate k b) (take (length xs - k) xs) k i b front m ∙ get_or-take (length xs - k) xs (i - k) b (omega arith) ∙ sym (get_d_moved Left b k xs i (omega arith) ∙ up_from b k i xs m)
    ])

pub moved_left : (b : Literal) (k : ℕ) (xs os ys : List Literal) → os ≡ replicate (length xs) b → k < length xs → ys ≡ take (length xs - k) xs → put_mid k (length os - k) os ys ≡ moved Left b k xs
moved_left b k xs os ys e h is =
    let w = length xs in
    let m = length (replicate w b) - k in
    let back : post_of k m (replicate w b) ≡ [] = drop_all m (drop k (replicate w b)) (omega (arith, length-drop k (replicate w b))) in
    ap (λ l. put_mid k (length l - k) l ys) e
    ∙ ap (λ l. l ++ (ys ++ post_of k m (replicate w b))) (take-replicate k w b (omega arith))
    ∙ ap (λ l. replicate k b ++ (ys ++ l)) back ∙ ap (λ l. replicate k b ++ l) (append-nil ys ∙ is)
    ∙ joined_left b k xs h

joined_right : (b : Literal) (k : ℕ) (xs : List Literal) → k < length xs → drop k xs ++ replicate k b ≡ moved Right b k xs
joined_right b k xs h =
    let long = length_moved Right b k xs in
    let back = length-replicate k b in
    let front = length-drop k xs in
    let word : length (drop k xs ++ replicate k b) ≡ length xs = omega (arith, length-append (drop k xs) (replicate k b), back, front) in
    ext_get_or b (drop k xs ++ replicate k b) (moved Right b k xs) (omega arith)
    (λ i l.
    elim (cases_lt i (length xs - k)) [
      | inl m ↦ get_or-append (drop k xs) (replicate k b) b i (omega arith) ∙ get_or-drop k xs i b ∙ ap (λ n. get_or xs n b) (omega arith) ∙ sym (get_d_moved Right b k xs i (omega arith))
      | inr m ↦ get_or-append_right (drop k xs) (replicate k b) (length xs - k) i b front m ∙ get_or-replicate k (i - (length xs - k)) b b (omega arith) ∙ sym (get_d_moved Right b k xs i (omega arith) ∙ get_or_past xs (i + k) b (omega arith))
    ])

pub moved_right : (b : Literal) (k : ℕ) (xs os ys : List Literal) → os ≡ replicate (length xs) b → k < length xs → ys ≡ take (length xs - k) (drop k xs) → ys ++ drop (length xs - k) os ≡ moved Right b k xs
moved_right b k xs os ys e h is =
    let w = length xs in
    let n : w - (w - k) ≡ k = omega arith in
    ap (λ l. ys ++ drop (w - k) l) e
    ∙ ap (λ l. l ++ drop (w - k) (replicate w b)) (is ∙ take_rest xs k)
    ∙ ap (λ l. drop k xs ++ l) (drop-replicate (w - k) w b ∙ ap (λ j. replicate j b) n)
    ∙ joined_right b k xs h

pub moved_away : (d : Direction) (b : Literal) (k : ℕ) (xs os : List Literal) → os ≡ replicate (length xs) b → length xs ≤ k → os ≡ moved d b k xs
moved_away d b k xs os e h = e ∙ sym (moved_out d b k xs h ∙ fill_replicate b xs)
