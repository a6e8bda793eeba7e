-- One more bit of each circuit on words.
use Rattle.std.proofs.Common.{◌≡◌, ℕ, ◌+◌, ◌<◌, ◌≤◌, Bool, true, false, ltb, cond, List, [], ◌∷◌, length, get_or, drop, sym, refl, ap, ◌∙◌}
use Rattle.circuit.specs.declared.shifting.Direction.{Direction}
use Rattle.std.proofs.lemmas.List.{at_drop_more, at_drop_all}
use Rattle.std.proofs.lemmas.Bool.{lt-ltb, le-ltb, cond-true, cond-false}
use Rattle.clauses.specs.declared.literal.Literal.{Literal}
use Rattle.circuit.specs.declared.gates.Bitwise.{Bitwise}
use Rattle.circuit.specs.Bits.{fill, moved}
use Rattle.clauses.specs.Literals.{negated}
use Rattle.circuit.specs.Nets.{Net, low}
use Rattle.circuit.specs.Gates.{or_net, majority_net, choice_net}
use Rattle.circuit.specs.Circuits.{turned, bit_net, bitwise_net, choose_net, full_net, add_net, borrow_net, equal_net, any_net, shift_net, row_net}
use Rattle.circuit.specs.Parts.{equal_bit_net, row_bit_net}
use Rattle.circuit.proofs.Loops.{after, alone, pair_step}
use Rattle.circuit.proofs.Moving.{moved_out}

-- the literal that an array starts with
abbrev pub blank : Literal
blank = record { 0 = 0 }

turned_cons : (v : Bool) (y : Literal) (ys : List Literal) → turned v (y ∷ ys) ≡ cond v (negated y) y ∷ turned v ys
turned_cons true y ys = refl
turned_cons false y ys = refl

pub add_next : {xs ys xs' ys' : List Literal} {x y : Literal} (v : Bool) (o c : Literal) (n : Net) → (xs ≡ x ∷ xs') × (ys ≡ y ∷ ys') → o ≡ cond v (negated y) y → let t = full_net x o c n in add_net xs (turned v ys) c n ≡ after (t.1.0 ∷ []) (add_net xs' (turned v ys') t.1.1 t.0)
add_next {xs' = xs'} {ys'} {x} {y} v o c n e f =
    pair_step (λ l m. add_net l (turned v m) c n) e ∙ ap (λ l. add_net (x ∷ xs') l c n) (turned_cons v y ys' ∙ ap (λ z. z ∷ turned v ys') (sym f))

pub any_more : (xs : List Literal) (i : ℕ) (c : Literal) (n : Net) → i < length xs → let t = or_net c (get_or xs i blank) n in any_net (drop i xs) c n ≡ any_net (drop (i + 1) xs) t.1 t.0
any_more xs i c n h = at_drop_more (λ l. any_net l c n) xs i blank h

pub equal_next : {xs ys xs' ys' : List Literal} {x y : Literal} (c : Literal) (n : Net) → (xs ≡ x ∷ xs') × (ys ≡ y ∷ ys') → let t = equal_bit_net x y c n in equal_net xs ys c n ≡ equal_net xs' ys' t.1 t.0
unfolding equal_bit_net
equal_next c n e = pair_step (λ l m. equal_net l m c n) e

pub borrow_next : {xs ys xs' ys' : List Literal} {x y : Literal} (q c : Literal) (n : Net) → (xs ≡ x ∷ xs') × (ys ≡ y ∷ ys') → q ≡ negated y → let t = majority_net x q c n in borrow_net xs ys c n ≡ borrow_net xs' ys' t.1 t.0
borrow_next {xs' = xs'} {ys'} {x} q c n e f = pair_step (λ l m. borrow_net l m c n) e ∙ ap (λ p. borrow_net xs' ys' (majority_net x p c n).1 (majority_net x p c n).0) (sym f)

pub bitwise_next : (o : Bitwise) {xs ys xs' ys' : List Literal} {x y : Literal} (n : Net) → (xs ≡ x ∷ xs') × (ys ≡ y ∷ ys') → let t = bit_net o x y n in alone (bitwise_net o xs ys n) ≡ after (t.1 ∷ []) (alone (bitwise_net o xs' ys' t.0))
bitwise_next o n e = pair_step (λ l m. alone (bitwise_net o l m n)) e

pub choose_next : (s : Literal) {xs ys xs' ys' : List Literal} {x y : Literal} (n : Net) → (xs ≡ x ∷ xs') × (ys ≡ y ∷ ys') → let t = choice_net s x y n in alone (choose_net s xs ys n) ≡ after (t.1 ∷ []) (alone (choose_net s xs' ys' t.0))
choose_next s n e = pair_step (λ l m. alone (choose_net s l m n)) e

pub row_more : (x : Literal) (ys qs : List Literal) (i : ℕ) (c : Literal) (n : Net) → i < length ys → i < length qs → let t = row_bit_net x (get_or ys i blank) (get_or qs i blank) c n in row_net x (drop i ys) (drop i qs) c n ≡ after (t.1.0 ∷ []) (row_net x (drop (i + 1) ys) (drop (i + 1) qs) t.1.1 t.0)
unfolding row_bit_net
row_more x ys qs i c n h k = at_drop_more (λ l. row_net x l (drop i qs) c n) ys i blank h ∙ at_drop_more (λ l. row_net x (get_or ys i blank ∷ drop (i + 1) ys) l c n) qs i blank k

pub row_all : (x : Literal) (ys qs : List Literal) (i : ℕ) (c : Literal) (n : Net) → length ys ≤ i → row_net x (drop i ys) qs c n ≡ (n, ([], c))
row_all x ys qs i c n h = at_drop_all (λ l. row_net x l qs c n) ys i h

pub shift_past : (direction : Direction) (b : Literal) (w k : ℕ) (xs cs ds : List Literal) (i : ℕ) (n : Net) → i < length cs → w ≤ k → length xs ≤ k → ds ≡ drop i cs → let a = any_net ds low n in shift_net direction b w k xs (drop i cs) n ≡ choose_net a.1 (moved direction b k xs) xs a.0
shift_past direction b w k xs cs ds i n h past long rest =
    let c = get_or cs i blank in
    let stage = choose_net c (moved direction b k xs) xs n in
    let on : List Literal → Net × List Literal = λ l. choose_net (any_net l low n).1 (fill b xs) xs (any_net l low n).0 in
    let a = any_net ds low n in
    at_drop_more (λ l. shift_net direction b w k xs l n) cs i blank h
    ∙ cond-false (ltb k w) (shift_net direction b w (k + k) stage.1 (drop (i + 1) cs) stage.0) (on (c ∷ drop (i + 1) cs)) (le-ltb k w past)
    ∙ sym (at_drop_more on cs i blank h) ∙ ap on (sym rest) ∙ ap (λ l. choose_net a.1 l xs a.0) (sym (moved_out direction b k xs long))

pub shift_more : (direction : Direction) (b : Literal) (w k : ℕ) (xs cs : List Literal) (i : ℕ) (n : Net) → i < length cs → k < w → let t = choose_net (get_or cs i blank) (moved direction b k xs) xs n in shift_net direction b w k xs (drop i cs) n ≡ shift_net direction b w (k + k) t.1 (drop (i + 1) cs) t.0
shift_more direction b w k xs cs i n h below =
    let c = get_or cs i blank in
    let on : List Literal → Net × List Literal = λ l. shift_net direction b w (k + k) (choose_net c (moved direction b k l) l n).1 (drop (i + 1) cs) (choose_net c (moved direction b k l) l n).0 in
    let a = any_net (c ∷ drop (i + 1) cs) low n in
    at_drop_more (λ l. shift_net direction b w k xs l n) cs i blank h ∙ cond-true (ltb k w) (on xs) (choose_net a.1 (fill b xs) xs a.0) (lt-ltb k w below)
