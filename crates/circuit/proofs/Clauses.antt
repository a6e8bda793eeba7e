-- One more bit of the clauses that say that words are a division.
use Rattle.std.proofs.Common.{◌≡◌, ℕ, ◌+◌, ◌<◌, List, [], ◌∷◌, ◌++◌, length, get_or, drop, sym, refl, ap, ◌∙◌, arith}
use Rattle.std.proofs.lemmas.List.{at_drop_more}
use Rattle.clauses.specs.declared.literal.Literal.{Literal}
use Rattle.circuit.specs.Bits.{lower, top}
use Rattle.clauses.specs.Literals.{negated}
use Rattle.circuit.specs.Nets.{Net, said}
use Rattle.circuit.specs.Circuits.{denied_net, none_net, apart_net, equated_net, unless_net}
use Rattle.circuit.proofs.Loops.{pair_step}
use Rattle.circuit.proofs.Steps.{blank}

pub denied_more : (xs : List Literal) (i : ℕ) (x : Literal) (n : Net) → i < length xs → x ≡ negated (get_or xs i blank) → denied_net (drop i xs) n ≡ denied_net (drop (i + 1) xs) (said (x ∷ []) n)
denied_more xs i x n h e = at_drop_more (λ l. denied_net l n) xs i blank h ∙ ap (λ z. denied_net (drop (i + 1) xs) (said (z ∷ []) n)) (sym e)

pub none_more : (b : Literal) (xs : List Literal) (i : ℕ) (x c : Literal) (n : Net) → i < length xs → x ≡ negated (get_or xs i blank) → c ≡ negated b → none_net b (drop i xs) n ≡ none_net b (drop (i + 1) xs) (said (x ∷ c ∷ []) n)
none_more b xs i x c n h e f =
    at_drop_more (λ l. none_net b l n) xs i blank h ∙ ap (λ z. none_net b (drop (i + 1) xs) (said (z ∷ negated b ∷ []) n)) (sym e) ∙ ap (λ z. none_net b (drop (i + 1) xs) (said (x ∷ z ∷ []) n)) (sym f)

pub unless_more : (a : Literal) (xs : List Literal) (i : ℕ) (n : Net) → i < length xs → unless_net a (drop i xs) n ≡ unless_net a (drop (i + 1) xs) (said (a ∷ get_or xs i blank ∷ []) n)
unless_more a xs i n h = at_drop_more (λ l. unless_net a l n) xs i blank h

pub equated_next : {xs ys xs' ys' : List Literal} {x y : Literal} (p q : Literal) (n : Net) → (xs ≡ x ∷ xs') × (ys ≡ y ∷ ys') → p ≡ negated x → q ≡ negated y → equated_net xs ys n ≡ equated_net xs' ys' (said (x ∷ q ∷ []) (said (p ∷ y ∷ []) n))
equated_next {xs' = xs'} {ys'} {x} {y} p q n e f g =
    let rest : Literal → Literal → Net = λ u v. equated_net xs' ys' (said (x ∷ v ∷ []) (said (u ∷ y ∷ []) n)) in
    pair_step (λ l m. equated_net l m n) e ∙ ap (λ u. rest u (negated y)) (sym f) ∙ ap (rest p) (sym g)

lower_push : (y b : Literal) (ys : List Literal) → lower y (ys ++ (b ∷ [])) ≡ y ∷ ys
lower_push y b [] = refl
lower_push y b (z ∷ zs) = ap (λ l. y ∷ l) (lower_push z b zs)

top_push : (y b : Literal) (ys : List Literal) → top y (ys ++ (b ∷ [])) ≡ b
top_push y b [] = refl
top_push y b (z ∷ zs) = top_push z b zs

apart_step : (x b : Literal) (xs ys : List Literal) (n : Net) → apart_net (x ∷ xs) (ys ++ (b ∷ [])) n ≡ apart_net xs ys (none_net b xs n)
apart_step x b xs [] n = refl
apart_step x b xs (y ∷ ys) n = ap (λ l. apart_net xs l (none_net (top y (ys ++ (b ∷ []))) xs n)) (lower_push y b ys) ∙ ap (λ t. apart_net xs (y ∷ ys) (none_net t xs n)) (top_push y b ys)

-- the places i of xs that are read from the lowest up, and ys from the highest down; zs is what is lent of xs
pub apart_next : (xs zs ys' : List Literal) {ys : List Literal} (b : Literal) (k i m : ℕ) (n : Net) → i ≡ k → m ≡ k + 1 → i < length xs → ys ≡ ys' ++ (b ∷ []) → zs ≡ drop (i + 1) xs → apart_net (drop k xs) ys n ≡ apart_net (drop m xs) ys' (none_net b zs n)
apart_next xs zs ys' {ys} b k i m n here next h e part =
    let past : m ≡ i + 1 = omega arith in
    ap (λ j. apart_net (drop j xs) ys n) (sym here) ∙ ap (λ l. apart_net (drop i xs) l n) e
    ∙ at_drop_more (λ l. apart_net l (ys' ++ (b ∷ [])) n) xs i blank h
    ∙ apart_step (get_or xs i blank) b (drop (i + 1) xs) ys' n
    ∙ sym (ap (λ j. apart_net (drop j xs) ys' (none_net b zs n)) past ∙ ap (λ l. apart_net (drop (i + 1) xs) ys' (none_net b l n)) part)
