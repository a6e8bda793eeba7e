-- What a term is, from the node that it stands at.
use Rattle.std.proofs.Common.{◌≡◌, ℕ, ◌<◌, List, get_or, sym, refl, ap, ◌∙◌, subst, arith}
use Rattle.words.specs.declared.UnaryOp.{UnaryOp}
use Rattle.words.specs.declared.UnaryOp.TheVariants.{Not}
use Rattle.words.specs.declared.BinaryOp.{BinaryOp}
use Rattle.words.specs.declared.BinaryOp.TheVariants.{Add}
use Rattle.terms.specs.declared.node.Node.{Node}
use Rattle.terms.specs.declared.node.Node.TheVariants.{Any, Con, Lit, Unary, Binary, Ite}
use Rattle.terms.specs.Terms.{Term, any, con, lit, unary, binary, ite}
use Rattle.terms.specs.Nodes.{Stands}

-- a node's kind, operation and numbers
abbrev kind : Node → ℕ
kind (Any k) = 0
kind (Con k) = 1
kind (Lit x) = 2
kind (Unary o j) = 3
kind (Binary o j k) = 4
kind (Ite h j k) = 5

abbrev unary_in : Node → UnaryOp
unary_in (Any k) = Not
unary_in (Con k) = Not
unary_in (Lit x) = Not
unary_in (Unary o j) = o
unary_in (Binary o j k) = Not
unary_in (Ite h j k) = Not

abbrev binary_in : Node → BinaryOp
binary_in (Any k) = Add
binary_in (Con k) = Add
binary_in (Lit x) = Add
binary_in (Unary o j) = Add
binary_in (Binary o j k) = o
binary_in (Ite h j k) = Add

abbrev first : Node → ℕ
first (Any k) = k
first (Con k) = k
first (Lit x) = x
first (Unary o j) = j
first (Binary o j k) = j
first (Ite h j k) = h

abbrev second : Node → ℕ
second (Any k) = 0
second (Con k) = 0
second (Lit x) = 0
second (Unary o j) = 0
second (Binary o j k) = k
second (Ite h j k) = j

abbrev third : Node → ℕ
third (Any k) = 0
third (Con k) = 0
third (Lit x) = 0
third (Unary o j) = 0
third (Binary o j k) = 0
third (Ite h j k) = k

-- the kind of a term's node
abbrev term_kind : Term → ℕ
term_kind (any k) = 0
term_kind (con k) = 1
term_kind (lit x) = 2
term_kind (unary o x) = 3
term_kind (binary o x y) = 4
term_kind (ite h x y) = 5

module _ (ns : List Node) (i : ℕ) where
  stands_kind : (e : Term) → Stands ns i e → kind (get_or ns i (Any 0)) ≡ term_kind e
  stands_kind (any k) s = ap kind s
  stands_kind (con k) s = ap kind s
  stands_kind (lit x) s = ap kind s
  stands_kind (unary o x) s = ap kind s.1
  stands_kind (binary o x y) s = ap kind s.2
  stands_kind (ite h x y) s = ap kind s.3

  -- of one kind
  same_kind : (e : Term) (n : Node) → get_or ns i (Any 0) ≡ n → Stands ns i e → term_kind e ≡ kind n
  same_kind e n g s = sym (stands_kind e s) ∙ ap kind g

  pub stands_any : (k : ℕ) (e : Term) → get_or ns i (Any 0) ≡ Any k → Stands ns i e → e ≡ any k
  stands_any k (any j) g s = ap any (ap first (sym s ∙ g))
  stands_any k (con j) g s = absurd (omega (arith, same_kind (con j) (Any k) g s))
  stands_any k (lit x) g s = absurd (omega (arith, same_kind (lit x) (Any k) g s))
  stands_any k (unary o x) g s = absurd (omega (arith, same_kind (unary o x) (Any k) g s))
  stands_any k (binary o x y) g s = absurd (omega (arith, same_kind (binary o x y) (Any k) g s))
  stands_any k (ite h x y) g s = absurd (omega (arith, same_kind (ite h x y) (Any k) g s))

  pub stands_con : (k : ℕ) (e : Term) → get_or ns i (Any 0) ≡ Con k → Stands ns i e → e ≡ con k
  stands_con k (any j) g s = absurd (omega (arith, same_kind (any j) (Con k) g s))
  stands_con k (con j) g s = ap con (ap first (sym s ∙ g))
  stands_con k (lit x) g s = absurd (omega (arith, same_kind (lit x) (Con k) g s))
  stands_con k (unary o x) g s = absurd (omega (arith, same_kind (unary o x) (Con k) g s))
  stands_con k (binary o x y) g s = absurd (omega (arith, same_kind (binary o x y) (Con k) g s))
  stands_con k (ite h x y) g s = absurd (omega (arith, same_kind (ite h x y) (Con k) g s))

  pub stands_lit : (k : ℕ) (e : Term) → get_or ns i (Any 0) ≡ Lit k → Stands ns i e → e ≡ lit k
  stands_lit k (any j) g s = absurd (omega (arith, same_kind (any j) (Lit k) g s))
  stands_lit k (con j) g s = absurd (omega (arith, same_kind (con j) (Lit k) g s))
  stands_lit k (lit x) g s = ap lit (ap first (sym s ∙ g))
  stands_lit k (unary o x) g s = absurd (omega (arith, same_kind (unary o x) (Lit k) g s))
  stands_lit k (binary o x y) g s = absurd (omega (arith, same_kind (binary o x y) (Lit k) g s))
  stands_lit k (ite h x y) g s = absurd (omega (arith, same_kind (ite h x y) (Lit k) g s))

  -- an operation, and the terms of its parts
  pub stands_unary : (o : UnaryOp) (j : ℕ) (e : Term) → get_or ns i (Any 0) ≡ Unary o j → Stands ns i e → (x : Term) × (e ≡ unary o x) × (j < i) × Stands ns j x
  stands_unary o j (any k) g s = absurd (omega (arith, same_kind (any k) (Unary o j) g s))
  stands_unary o j (con k) g s = absurd (omega (arith, same_kind (con k) (Unary o j) g s))
  stands_unary o j (lit k) g s = absurd (omega (arith, same_kind (lit k) (Unary o j) g s))
  stands_unary o j (unary p x) g s =
      let q = sym s.1 ∙ g in
      let at = ap first q in
      (x, ap (λ f. unary f x) (ap unary_in q), subst (λ n. n < i) at s.2, subst (λ n. Stands ns n x) at s.3)
  stands_unary o j (binary p x y) g s = absurd (omega (arith, same_kind (binary p x y) (Unary o j) g s))
  stands_unary o j (ite h x y) g s = absurd (omega (arith, same_kind (ite h x y) (Unary o j) g s))

  pub stands_binary : (o : BinaryOp) (j k : ℕ) (e : Term) → get_or ns i (Any 0) ≡ Binary o j k → Stands ns i e → (x : Term) × (y : Term) × (e ≡ binary o x y) × (j < i) × (k < i) × Stands ns j x × Stands ns k y
  stands_binary o j k (any m) g s = absurd (omega (arith, same_kind (any m) (Binary o j k) g s))
  stands_binary o j k (con m) g s = absurd (omega (arith, same_kind (con m) (Binary o j k) g s))
  stands_binary o j k (lit m) g s = absurd (omega (arith, same_kind (lit m) (Binary o j k) g s))
  stands_binary o j k (unary p x) g s = absurd (omega (arith, same_kind (unary p x) (Binary o j k) g s))
  stands_binary o j k (binary p x y) g s =
      let q = sym s.2 ∙ g in
      let a = ap first q in
      let b = ap second q in
      (x, y, ap (λ f. binary f x y) (ap binary_in q), subst (λ n. n < i) a s.3, subst (λ n. n < i) b s.4, subst (λ n. Stands ns n x) a s.5, subst (λ n. Stands ns n y) b s.6)
  stands_binary o j k (ite h x y) g s = absurd (omega (arith, same_kind (ite h x y) (Binary o j k) g s))

  pub stands_ite : (h j k : ℕ) (e : Term) → get_or ns i (Any 0) ≡ Ite h j k → Stands ns i e → (t : Term) × (x : Term) × (y : Term) × (e ≡ ite t x y) × (h < i) × (j < i) × (k < i) × Stands ns h t × Stands ns j x × Stands ns k y
  stands_ite h j k (any m) g s = absurd (omega (arith, same_kind (any m) (Ite h j k) g s))
  stands_ite h j k (con m) g s = absurd (omega (arith, same_kind (con m) (Ite h j k) g s))
  stands_ite h j k (lit m) g s = absurd (omega (arith, same_kind (lit m) (Ite h j k) g s))
  stands_ite h j k (unary p x) g s = absurd (omega (arith, same_kind (unary p x) (Ite h j k) g s))
  stands_ite h j k (binary p x y) g s = absurd (omega (arith, same_kind (binary p x y) (Ite h j k) g s))
  stands_ite h j k (ite t x y) g s =
      let q = sym s.3 ∙ g in
      let a = ap first q in
      let b = ap second q in
      let c = ap third q in
      (t, x, y, refl, subst (λ n. n < i) a s.4, subst (λ n. n < i) b s.5, subst (λ n. n < i) c s.6, subst (λ n. Stands ns n t) a s.7, subst (λ n. Stands ns n x) b s.8, subst (λ n. Stands ns n y) c s.9)
