-- The rows of a product, from the highest down.
use Rattle.std.proofs.Common.{◌≡◌, ℕ, zero, suc, ◌+◌, ◌-◌, ◌<◌, ◌≤◌, List, [], ◌∷◌, ◌++◌, length, get_or, take, drop, set, sym, refl, ap, ◌∙◌, subst, append-nil, arith, drop-cons}
use borrow.Rule.Slice.PartMut.{put_mid}
use Rattle.std.proofs.lemmas.List.{take_all, take_rest, drop_all, drop_at, drop-drop, drop-set, length-take-le, length-drop}
use Rattle.clauses.specs.declared.literal.Literal.{Literal}
use Rattle.circuit.specs.Bits.{lower}
use Rattle.circuit.specs.Nets.{Net, low}
use Rattle.circuit.specs.Gates.{and_net}
use Rattle.circuit.specs.Circuits.{row_net, product_net}
use Rattle.circuit.specs.Parts.{product_row_net}
use Rattle.circuit.specs.Built.{Written, Wrote}
use Rattle.circuit.proofs.Growing.{Grows, grows_same, grows_then}
use Rattle.circuit.proofs.Circuits.{product_row_grows}
use Rattle.circuit.proofs.Steps.{blank}

-- what is lent of a word from place i on
pub part_rest : (xs : List Literal) (i w : ℕ) → w ≡ length xs → take (w - i) (drop i xs) ≡ drop i xs
part_rest xs i w e = ap (λ n. take (n - i) (drop i xs)) e ∙ take_rest xs i

-- a word after its part from place k on was written
pub drop_written : (xs ys : List Literal) (k m : ℕ) → k ≤ length xs → length xs ≤ k + m → drop k (put_mid k m xs ys) ≡ ys
drop_written xs ys k m h l =
    let none = drop_all m (drop k xs) (omega (arith, length-drop k xs)) in
    drop_at (take k xs) (ys ++ drop m (drop k xs)) k (length-take-le k xs h) ∙ ap (λ l. ys ++ l) none ∙ append-nil ys

pub first_written : (xs ys : List Literal) (v : Literal) (m : ℕ) → 0 < length xs → length xs ≤ 1 + m → set (put_mid 1 m xs ys) 0 v ≡ v ∷ ys
first_written [] ys v m h l = let z : ⊥ = omega arith in absurd z
first_written (x ∷ xs) ys v m h l = ap (λ r. v ∷ (ys ++ r)) (drop_all m xs (omega arith)) ∙ ap (λ r. v ∷ r) (append-nil ys)

pub product_row_is : (x : Literal) (ys qs : List Literal) (n : Net) → 0 < length ys → let p = and_net x (get_or ys 0 blank) n in let r = row_net x (drop 1 ys) qs low p.0 in product_row_net x ys qs n ≡ (r.0, (p.1 ∷ r.1.0, r.1.1))
product_row_is x [] qs n h = let z : ⊥ = omega arith in absurd z
product_row_is x (y ∷ ys) qs n h = refl

pub lower_take : (y : Literal) (ys : List Literal) (m : ℕ) → m ≤ length ys → lower y (take m ys) ≡ take m (y ∷ ys)
lower_take y ys zero h = refl
lower_take y [] (suc m) h = let z : ⊥ = omega arith in absurd z
lower_take y (z ∷ zs) (suc m) h = ap (λ l. y ∷ l) (lower_take z zs m (omega arith))

-- a row under what the rows above give
abbrev pub under : Literal → List Literal → Net × (List Literal × List Literal) → Net × (List Literal × List Literal)
under x ys q = let r = product_row_net x ys q.1.0 q.0 in (r.0, (r.1.0, r.1.1 ∷ q.1.1))

product_step : (x : Literal) (xs ys : List Literal) (m : ℕ) (n : Net) → m < length ys → product_net (x ∷ xs) (take (suc m) ys) n ≡ under x (take (suc m) ys) (product_net xs (take m ys) n)
product_step x xs [] m n h = let z : ⊥ = omega arith in absurd z
product_step x xs (y ∷ ys) m n h = ap (λ l. under x (y ∷ take m ys) (product_net xs l n)) (lower_take y ys m (omega arith))

-- the rows from k on
abbrev pub rows_from : ℕ → List Literal → List Literal → Net → Net × (List Literal × List Literal)
rows_from k xs ys n = product_net (drop k xs) (take (length xs - k) ys) n

pub rows_more : (xs ys : List Literal) (k : ℕ) (n : Net) → k < length xs → length ys ≡ length xs → rows_from k xs ys n ≡ under (get_or xs k blank) (take (length xs - k) ys) (rows_from (suc k) xs ys n)
rows_more xs ys k n h e =
    let left : length xs - k ≡ suc (length xs - suc k) = omega arith in
    ap (λ l. product_net l (take (length xs - k) ys) n) (drop-cons xs k blank h)
    ∙ ap (λ m. product_net (get_or xs k blank ∷ drop (suc k) xs) (take m ys) n) left
    ∙ product_step (get_or xs k blank) (drop (suc k) xs) ys (length xs - suc k) n (omega arith)
    ∙ ap (λ m. under (get_or xs k blank) (take m ys) (rows_from (suc k) xs ys n)) (sym left)

rows_zero : (xs ys : List Literal) (n : Net) → length ys ≡ length xs → rows_from 0 xs ys n ≡ product_net xs ys n
rows_zero xs ys n e = ap (λ l. product_net xs l n) (take_all (length xs - 0) ys (omega arith))

pub rows_grow : (xs ys : List Literal) (k : ℕ) (n : Net) → k ≤ length xs → length ys ≡ length xs → Grows (rows_from k xs ys n).0 (product_net xs ys n).0
rows_grow xs ys zero n h e = subst (λ q. Grows (rows_from 0 xs ys n).0 q.0) (rows_zero xs ys n e) (grows_same _)
rows_grow xs ys (suc k) n h e =
    let q = rows_from (suc k) xs ys n in
    let row = product_row_grows (get_or xs k blank) (take (length xs - k) ys) q.1.0 q.0 in
    grows_then (subst (λ r. Grows q.0 r.0) (sym (rows_more xs ys k n (omega arith) e)) row) (rows_grow xs ys k n (omega arith) e)

-- one more row, as the code has its words
abbrev pub row_at : ℕ → List Literal → List Literal → List Literal → Net → Net × (List Literal × Literal)
row_at k xs ys os n = product_row_net (get_or xs k blank) (take (length xs - k - 0) ys) (drop 1 (take (length xs - k) (drop k os))) n

pub row_is : (xs ys os cs : List Literal) (i : ℕ) (n m : Net) → 0 < i → i ≤ length xs → length ys ≡ length xs → length os ≡ length xs → rows_from i xs ys n ≡ (m, (drop i os, drop i cs)) → let r = row_at (i - 1) xs ys os m in rows_from (i - 1) xs ys n ≡ (r.0, (r.1.0, r.1.1 ∷ drop i cs))
row_is xs ys os cs i n m pos h e o is =
    let k = i - 1 in
    let up : suc k ≡ i = omega arith in
    let place : k + 1 ≡ i = omega arith in
    let part : drop 1 (take (length xs - k) (drop k os)) ≡ drop i os = ap (drop 1) (part_rest os k (length xs) (sym o)) ∙ drop-drop 1 k os ∙ ap (λ j. drop j os) place in
    let width : length xs - k - 0 ≡ length xs - k = omega arith in
    let row : List Literal → List Literal → Net × (List Literal × List Literal) = λ zs qs. under (get_or xs k blank) zs (m, (qs, drop i cs)) in
    rows_more xs ys k n (omega arith) e ∙ ap (λ j. under (get_or xs k blank) (take (length xs - k) ys) (rows_from j xs ys n)) up ∙ ap (under (get_or xs k blank) (take (length xs - k) ys)) is
    ∙ ap (λ j. row (take j ys) (drop i os)) (sym width) ∙ ap (row (take (length xs - k - 0) ys)) (sym part)

pub row_again : {b b' : Written} (xs ys os cs new : List Literal) (over : Literal) (i : ℕ) (n m : Net) → 0 < i → i ≤ length xs → length ys ≡ length xs → length os ≡ length xs → length cs ≡ length xs → rows_from i xs ys n ≡ (m, (drop i os, drop i cs)) → let r = row_at (i - 1) xs ys os m in Wrote b b' r.0 → new ≡ r.1.0 → over ≡ r.1.1 → rows_from (i - 1) xs ys n ≡ (b'.net, (drop (i - 1) (put_mid (i - 1) (length xs - (i - 1)) os new), drop (i - 1) (set cs (i - 1) over)))
row_again {b} {b'} xs ys os cs new over i n m pos h e o c is w en eo =
    let k = i - 1 in
    let r = row_at k xs ys os m in
    let place : k + 1 ≡ i = omega arith in
    let word : drop k (put_mid k (length xs - k) os new) ≡ r.1.0 = drop_written os new k (length xs - k) (omega arith) (omega arith) ∙ en in
    let carries : drop k (set cs k over) ≡ r.1.1 ∷ drop i cs = drop-set cs k over (omega arith) ∙ ap (λ j. over ∷ drop j cs) place ∙ ap (λ x. x ∷ drop i cs) eo in
    row_is xs ys os cs i n m pos h e o is
    ∙ sym (ap (λ q. (q, (drop k (put_mid k (length xs - k) os new), drop k (set cs k over)))) w.net ∙ ap (λ l. (r.0, (l, drop k (set cs k over)))) word ∙ ap (λ l. (r.0, (r.1.0, l))) carries)
