-- A text is the writing of one term, of one rule and of one book at most.
use Rattle.std.proofs.Common.{◌≡◌, ℕ, ◌+◌, ◌^◌, ◌<◌, Bool, true, false, ◌&&◌, ltb, List, [], ◌∷◌, ◌++◌, length, get_or, codes, sym, refl, ap, ◌∙◌, subst, append_assoc, append-nil, arith}
use Rattle.std.proofs.lemmas.Bool.{and_parts, ltb-true}
use Rattle.words.specs.declared.UnaryOp.{UnaryOp}
use Rattle.words.specs.declared.BinaryOp.{BinaryOp}
use Rattle.words.specs.declared.Width.{Width}
use Rattle.words.specs.declared.Width.TheVariants.{W8, W16, W32, W64}
use Rattle.words.specs.Words.{bits}
use Rattle.terms.specs.Terms.{Term, any, con, lit, unary, binary, ite, ops, ops_all}
use Rattle.terms.specs.Limits.{ok_term, ok_terms}
use Rattle.book.specs.declared.token.Leaf.{Leaf}
use Rattle.book.specs.declared.token.Leaf.TheVariants.{Any, Con, Lit}
use Rattle.book.specs.declared.token.Operation.{Operation}
use Rattle.book.specs.declared.token.Operation.TheVariants.{Unary, Binary, Ite}
use Rattle.book.specs.declared.token.Token.{Token}
use Rattle.book.specs.declared.token.Token.TheVariants as token
use Rattle.book.specs.Text.{decimal, unary_name, binary_name, write_term, write_terms}
use Rattle.book.specs.Tokens.{leaf_term, operation_name, arity, applied, Writes}
use Rattle.book.proofs.Numbers.{value_from, value_decimal}
use Rattle.book.proofs.Tokens.{one_token}

-- equal lists of words have equal first words and equal rests
pub first_same : {A : Type 0} (x y : A) (xs ys : List A) → x ∷ xs ≡ y ∷ ys → x ≡ y
first_same x y xs ys e = cc

pub rest_same : {A : Type 0} (x y : A) (xs ys : List A) → x ∷ xs ≡ y ∷ ys → xs ≡ ys
rest_same x y xs ys e = cc

pub never_empty : {A : Type 0} (x : A) (xs : List A) → x ∷ xs ≡ [] → ⊥
never_empty x xs e = let z : ◌≡◌ {A = ℕ} 0 1 = cc in omega arith

-- ---- a term that begins with a word

-- the token that a term begins with
abbrev pub head : Term → Token
head (any i) = token.Leaf Any
head (con i) = token.Leaf Con
head (lit n) = token.Leaf Lit
head (unary o x) = token.Operation (Unary o)
head (binary o x y) = token.Operation (Binary o)
head (ite t x y) = token.Operation Ite

-- a term that begins with this token, and whose writing goes on with ws
abbrev pub Begins : Token → Term → List (List ℕ) → List (List ℕ) → Type 0
Begins token.End f ws r = ⊥
Begins token.Rule f ws r = ⊥
Begins (token.Leaf l) f ws r = (n : ℕ) × (f ≡ leaf_term l n) × (ws ≡ decimal n ∷ r)
Begins (token.Operation o) f ws r = (es : List Term) × (length es ≡ arity o) × (f ≡ applied o es) × (ws ≡ write_terms es ++ r)
Begins (token.Number n) f ws r = ⊥
Begins token.Other f ws r = ⊥

pub head_writes : (f : Term) (w : List ℕ) (ws r : List (List ℕ)) → w ∷ ws ≡ write_term f ++ r → Writes (head f) w
head_writes (any i) w ws r e = first_same _ _ _ _ e
head_writes (con i) w ws r e = first_same _ _ _ _ e
head_writes (lit n) w ws r e = first_same _ _ _ _ e
head_writes (unary o x) w ws r e = first_same _ _ _ _ e
head_writes (binary o x y) w ws r e = first_same _ _ _ _ e
head_writes (ite t x y) w ws r e = first_same _ _ _ _ e

head_begins : (f : Term) (w : List ℕ) (ws r : List (List ℕ)) → w ∷ ws ≡ write_term f ++ r → Begins (head f) f ws r
head_begins (any i) w ws r e = (i, refl, rest_same _ _ _ _ e)
head_begins (con i) w ws r e = (i, refl, rest_same _ _ _ _ e)
head_begins (lit n) w ws r e = (n, refl, rest_same _ _ _ _ e)
head_begins (unary o x) w ws r e = (x ∷ [], refl, refl, rest_same _ _ _ _ e ∙ ap (λ l. l ++ r) (sym (append-nil (write_term x))))
head_begins (binary o x y) w ws r e =
    (x ∷ y ∷ [], refl, refl, rest_same _ _ _ _ e ∙ ap (λ l. (write_term x ++ l) ++ r) (sym (append-nil (write_term y))))
head_begins (ite t x y) w ws r e =
    (t ∷ x ∷ y ∷ [], refl, refl, rest_same _ _ _ _ e ∙ ap (λ l. (write_term t ++ (write_term x ++ l)) ++ r) (sym (append-nil (write_term y))))

pub begins : (t : Token) (w : List ℕ) (ws : List (List ℕ)) (f : Term) (r : List (List ℕ)) → Writes t w → w ∷ ws ≡ write_term f ++ r → Begins t f ws r
begins t w ws f r h e = subst (λ u. Begins u f ws r) (one_token (head f) t w (head_writes f w ws r e) h) (head_begins f w ws r e)

-- ---- one term

pub decimal_same : (n m : ℕ) → n < 10 ^ 20 → m < 10 ^ 20 → decimal n ≡ decimal m → n ≡ m
decimal_same n m h k e = sym (value_decimal n h) ∙ ap (value_from 0) e ∙ value_decimal m k

-- a literal of a width is short enough to be written
pub short : (v : Width) (n : ℕ) → ltb n (2 ^ bits v) ≡ true → n < 10 ^ 20
short W8 n h = let k = ltb-true n (2 ^ 8) h in omega arith
short W16 n h = let k = ltb-true n (2 ^ 16) h in omega arith
short W32 n h = let k = ltb-true n (2 ^ 32) h in omega arith
short W64 n h = let k = ltb-true n (2 ^ 64) h in omega arith

leaf_short : (v : Width) (l : Leaf) (n : ℕ) → ok_term (bits v) (leaf_term l n) ≡ true → n < 10 ^ 20
leaf_short v Any n h = let k = ltb-true n 16 h in omega arith
leaf_short v Con n h = let k = ltb-true n 16 h in omega arith
leaf_short v Lit n h = short v n h

-- ---- an operation by its parts

-- as many terms as an operation has parts
pub data Parts : Operation → List Term → Type 0 where
  one : {o : UnaryOp} {x : Term} → Parts (Unary o) (x ∷ [])
  two : {o : BinaryOp} {x y : Term} → Parts (Binary o) (x ∷ y ∷ [])
  three : {t x y : Term} → Parts Ite (t ∷ x ∷ y ∷ [])

pub parts : (o : Operation) (es : List Term) → length es ≡ arity o → Parts o es
parts (Unary o) [] h = absurd (omega arith)
parts (Unary o) (x ∷ []) h = one
parts (Unary o) (x ∷ y ∷ es) h = absurd (omega arith)
parts (Binary o) [] h = absurd (omega arith)
parts (Binary o) (x ∷ []) h = absurd (omega arith)
parts (Binary o) (x ∷ y ∷ []) h = two
parts (Binary o) (x ∷ y ∷ z ∷ es) h = absurd (omega arith)
parts Ite [] h = absurd (omega arith)
parts Ite (t ∷ []) h = absurd (omega arith)
parts Ite (t ∷ x ∷ []) h = absurd (omega arith)
parts Ite (t ∷ x ∷ y ∷ []) h = three
parts Ite (t ∷ x ∷ y ∷ z ∷ es) h = absurd (omega arith)

pub applied_writes : {o : Operation} {es : List Term} → Parts o es → write_term (applied o es) ≡ operation_name o ∷ write_terms es
applied_writes (one {o} {x}) = ap (λ l. unary_name o ∷ l) (sym (append-nil (write_term x)))
applied_writes (two {o} {x} {y}) = ap (λ l. binary_name o ∷ (write_term x ++ l)) (sym (append-nil (write_term y)))
applied_writes (three {t} {x} {y}) = ap (λ l. codes "ite" ∷ (write_term t ++ (write_term x ++ l))) (sym (append-nil (write_term y)))

and_true : (b : Bool) → (b && true) ≡ b
and_true true = refl
and_true false = refl

pub applied_ok : (w : ℕ) {o : Operation} {es : List Term} → Parts o es → ok_term w (applied o es) ≡ ok_terms w es
applied_ok w (one {o} {x}) = sym (and_true (ok_term w x))
applied_ok w (two {o} {x} {y}) = ap (λ b. ok_term w x && b) (sym (and_true (ok_term w y)))
applied_ok w (three {t} {x} {y}) = ap (λ b. ok_term w t && (ok_term w x && b)) (sym (and_true (ok_term w y)))

pub applied_ops : {o : Operation} {es : List Term} → Parts o es → ops (applied o es) ≡ 1 + ops_all es
applied_ops (one {o} {x}) = omega arith
applied_ops (two {o} {x} {y}) = omega arith
applied_ops (three {t} {x} {y}) = omega arith

-- the writing of an operation's parts, part by part
abbrev parts_write : Operation → List Term → List (List ℕ) → List (List ℕ)
parts_write (Unary o) es s = write_term (get_or es 0 (any 0)) ++ s
parts_write (Binary o) es s = write_term (get_or es 0 (any 0)) ++ (write_term (get_or es 1 (any 0)) ++ s)
parts_write Ite es s = write_term (get_or es 0 (any 0)) ++ (write_term (get_or es 1 (any 0)) ++ (write_term (get_or es 2 (any 0)) ++ s))

parts_write_lem : {o : Operation} {es : List Term} (s : List (List ℕ)) → Parts o es → write_terms es ++ s ≡ parts_write o es s
parts_write_lem s (one {o} {x}) = ap (λ l. l ++ s) (append-nil (write_term x))
parts_write_lem s (two {o} {x} {y}) = append_assoc (write_term x) (write_term y ++ []) s ∙ ap (λ l. write_term x ++ (l ++ s)) (append-nil (write_term y))
parts_write_lem s (three {t} {x} {y}) =
    append_assoc (write_term t) (write_term x ++ (write_term y ++ [])) s
    ∙ ap (λ l. write_term t ++ l) (append_assoc (write_term x) (write_term y ++ []) s ∙ ap (λ l. write_term x ++ (l ++ s)) (append-nil (write_term y)))

-- ---- one term, and one list of terms

-- what two writings of terms that end alike have to do with each other
abbrev pub Same : {A : Type 0} → A → A → List (List ℕ) → List (List ℕ) → Type 0
Same a b r s = (a ≡ b) × (r ≡ s)

leaf_same : (v : Width) (l : Leaf) (n : ℕ) (f : Term) (r s : List (List ℕ)) → ok_term (bits v) (leaf_term l n) ≡ true → ok_term (bits v) f ≡ true → Begins (token.Leaf l) f (decimal n ∷ r) s → Same (leaf_term l n) f r s
leaf_same v l n f r s h k b =
    let e : n ≡ b.0 = decimal_same n b.0 (leaf_short v l n h) (leaf_short v l b.0 (subst (λ g. ok_term (bits v) g ≡ true) b.1 k)) (first_same _ _ _ _ b.2) in
    (ap (leaf_term l) e ∙ sym b.1, rest_same _ _ _ _ b.2)

-- an operation that the same words write: its parts, one by one
operation_same : (v : Width) (o : Operation) (f : Term) (ws s : List (List ℕ)) → ok_term (bits v) f ≡ true → operation_name o ∷ ws ≡ write_term f ++ s → (es : List Term) × (f ≡ applied o es) × (ws ≡ parts_write o es s) × (ok_term (bits v) (applied o es) ≡ true)
operation_same v o f ws s k q =
    let b = begins (token.Operation o) (operation_name o) ws f s refl q in
    (b.0, b.2, b.3 ∙ parts_write_lem s (parts o b.0 b.1), subst (λ g. ok_term (bits v) g ≡ true) b.2 k)

pub one_term : (v : Width) (e f : Term) (r s : List (List ℕ)) → ok_term (bits v) e ≡ true → ok_term (bits v) f ≡ true → write_term e ++ r ≡ write_term f ++ s → Same e f r s
one_term v (any i) f r s h k q = leaf_same v Any i f r s h k (begins (token.Leaf Any) _ _ f s refl q)
one_term v (con i) f r s h k q = leaf_same v Con i f r s h k (begins (token.Leaf Con) _ _ f s refl q)
one_term v (lit n) f r s h k q = leaf_same v Lit n f r s h k (begins (token.Leaf Lit) _ _ f s refl q)
one_term v (unary o x) f r s h k q =
    let b = operation_same v (Unary o) f _ s k q in
    let p = one_term v x (get_or b.0 0 (any 0)) r s h b.3 b.2 in
    (ap (unary o) p.0 ∙ sym b.1, p.1)
one_term v (binary o x y) f r s h k q =
    let b = operation_same v (Binary o) f _ s k q in
    let hs = and_parts _ _ h in
    let ks = and_parts _ _ b.3 in
    let p = one_term v x (get_or b.0 0 (any 0)) (write_term y ++ r) (write_term (get_or b.0 1 (any 0)) ++ s) hs.0 ks.0 (sym (append_assoc (write_term x) (write_term y) r) ∙ b.2) in
    let q = one_term v y (get_or b.0 1 (any 0)) r s hs.1 ks.1 p.1 in
    ((λ i. binary o (p.0 i) (q.0 i)) ∙ sym b.1, q.1)
one_term v (ite t x y) f r s h k q =
    let b = operation_same v Ite f _ s k q in
    let hs = and_parts _ _ h in
    let ks = and_parts _ _ b.3 in
    let hs' = and_parts _ _ hs.1 in
    let ks' = and_parts _ _ ks.1 in
    let es = b.0 in
    let w : write_term t ++ (write_term x ++ (write_term y ++ r)) ≡ write_term (get_or es 0 (any 0)) ++ (write_term (get_or es 1 (any 0)) ++ (write_term (get_or es 2 (any 0)) ++ s)) =
    ap (λ l. write_term t ++ l) (sym (append_assoc (write_term x) (write_term y) r)) ∙ sym (append_assoc (write_term t) (write_term x ++ write_term y) r) ∙ b.2 in
    let p = one_term v t (get_or es 0 (any 0)) _ _ hs.0 ks.0 w in
    let q = one_term v x (get_or es 1 (any 0)) _ _ hs'.0 ks'.0 p.1 in
    let z = one_term v y (get_or es 2 (any 0)) r s hs'.1 ks'.1 q.1 in
    ((λ i. ite (p.0 i) (q.0 i) (z.0 i)) ∙ sym b.1, z.1)

pub one_list : (v : Width) (es fs : List Term) (r s : List (List ℕ)) → length es ≡ length fs → ok_terms (bits v) es ≡ true → ok_terms (bits v) fs ≡ true → write_terms es ++ r ≡ write_terms fs ++ s → Same es fs r s
one_list v [] [] r s n h k q = (refl, q)
one_list v [] (f ∷ fs) r s n h k q = absurd (omega arith)
one_list v (e ∷ es) [] r s n h k q = absurd (omega arith)
one_list v (e ∷ es) (f ∷ fs) r s n h k q =
    let hs = and_parts _ _ h in
    let ks = and_parts _ _ k in
    let w = sym (append_assoc (write_term e) (write_terms es) r) ∙ q ∙ append_assoc (write_term f) (write_terms fs) s in
    let p = one_term v e f (write_terms es ++ r) (write_terms fs ++ s) hs.0 ks.0 w in
    let z = one_list v es fs r s (omega arith) hs.1 ks.1 p.1 in
    ((λ i. p.0 i ∷ z.0 i), z.1)

-- terms that are written by the words that more terms are written by are the first of these
pub list_begins : (v : Width) (es fs : List Term) (r s : List (List ℕ)) → length es < length fs → ok_terms (bits v) es ≡ true → ok_terms (bits v) fs ≡ true → write_terms es ++ r ≡ write_terms fs ++ s → (f : Term) × (gs : List Term) × (fs ≡ es ++ (f ∷ gs)) × (r ≡ write_term f ++ (write_terms gs ++ s))
list_begins v [] [] r s n h k q = absurd (omega arith)
list_begins v [] (f ∷ fs) r s n h k q = (f, fs, refl, q ∙ append_assoc (write_term f) (write_terms fs) s)
list_begins v (e ∷ es) [] r s n h k q = absurd (omega arith)
list_begins v (e ∷ es) (f ∷ fs) r s n h k q =
    let hs = and_parts _ _ h in
    let ks = and_parts _ _ k in
    let w = sym (append_assoc (write_term e) (write_terms es) r) ∙ q ∙ append_assoc (write_term f) (write_terms fs) s in
    let p = one_term v e f (write_terms es ++ r) (write_terms fs ++ s) hs.0 ks.0 w in
    let z = list_begins v es fs r s (omega arith) hs.1 ks.1 p.1 in
    (z.0, z.1, (λ i. sym p.0 i ∷ z.2 i), z.3)
