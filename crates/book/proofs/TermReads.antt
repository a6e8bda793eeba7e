-- Reading terms: what a step of it shows, and what a fault shows.
use Rattle.std.proofs.Common.{◌≡◌, ℕ, ◌+◌, ◌^◌, ◌<◌, ◌≤◌, true, false, List, [], ◌∷◌, ◌++◌, length, get_or, sym, refl, ap, ◌∙◌, subst, append_assoc, append-nil, arith}
use Rattle.terms.specs.Items.{nodes_of}
use Rattle.std.proofs.lemmas.List.{length-append, get_or_at}
use Rattle.std.proofs.lemmas.Bool.{and_parts, and_from, both_ways, ltb-true, lt-ltb}
use Rattle.words.specs.declared.Width.{Width}
use Rattle.words.specs.declared.Width.TheVariants.{W8, W16, W32, W64}
use Rattle.words.specs.Words.{bits}
use Rattle.terms.specs.declared.node.Node.{Node}
use Rattle.terms.specs.declared.node.Node.TheVariants as node
use Rattle.terms.specs.declared.rule.RuleNodes.{RuleNodes}
use Rattle.terms.specs.Terms.{Term, any, con, lit, unary, binary, ite, ops, ops_all}
use Rattle.terms.specs.Limits.{ok_term, ok_terms}
use Rattle.terms.specs.Nodes.{Stands, Rooted, sound}
use Rattle.book.specs.declared.token.Leaf.{Leaf}
use Rattle.book.specs.declared.token.Leaf.TheVariants.{Any, Con, Lit}
use Rattle.book.specs.declared.token.Operation.{Operation}
use Rattle.book.specs.declared.token.Operation.TheVariants.{Unary, Binary, Ite}
use Rattle.book.specs.declared.token.Token.{Token}
use Rattle.book.specs.declared.token.Token.TheVariants as token
use Rattle.book.specs.Text.{decimal, write_term, write_terms}
use Rattle.book.specs.Tokens.{leaf_name, leaf_term, leaf_node, operation_name, operation_node, arity, applied, Writes, Is}
use Rattle.book.specs.Scan.{rest, Found, At}
use Rattle.book.specs.Reading.{IsNumberRead, NoNumber, Pushed, IsLeafRead, NoLeaf, IsTermRead, NoTerm, IsTermsRead, NoTerms}
use Rattle.book.proofs.Tokens.{one_token}
use Rattle.book.proofs.Unique.{first_same, rest_same, never_empty, head, head_writes, Begins, begins, Parts, one, two, three, parts, applied_writes, applied_ok, applied_ops, list_begins, decimal_same}
use Rattle.terms.proofs.Roots.{rooted_at}
use Rattle.book.proofs.Places.{rooted_kept, rooted_push, pushed_kept, kept_trans}

-- ---- the word at a place

-- a word that is this token is no other
pub found_same : (s : List ℕ) (p q : ℕ) (t u : Token) (w : List ℕ) (r : List (List ℕ)) → Found s p t q → ((v : List ℕ) → Is t v → Writes u v → t ≡ u) → Writes u w → rest s p ≡ w ∷ r → (t ≡ u) × (rest s q ≡ r)
found_same s p q t u w r f tells h e =
    let same = sym f.before ∙ e in
    (tells f.word f.is (subst (Writes u) (sym (first_same _ _ _ _ same)) h), rest_same _ _ _ _ same)

pub token_at : (s : List ℕ) (p q : ℕ) (t u : Token) (w : List ℕ) (r : List (List ℕ)) → At s p t q → Writes u w → rest s p ≡ w ∷ r → (t ≡ u) × (rest s q ≡ r)
token_at s p q token.End u w r f h e = absurd (never_empty w r (sym e ∙ f))
token_at s p q token.Rule u w r f h e = found_same s p q token.Rule u w r f (λ v. one_token token.Rule u v) h e
token_at s p q (token.Leaf l) u w r f h e = found_same s p q (token.Leaf l) u w r f (λ v. one_token (token.Leaf l) u v) h e
token_at s p q (token.Operation o) u w r f h e = found_same s p q (token.Operation o) u w r f (λ v. one_token (token.Operation o) u v) h e
token_at s p q (token.Number n) u w r f h e = found_same s p q (token.Number n) u w r f (λ v. one_token (token.Number n) u v) h e
token_at s p q token.Other u w r f h e = found_same s p q token.Other u w r f (λ v is h'. absurd (is u h')) h e

pub not_number : (s : List ℕ) (p q : ℕ) (t : Token) → At s p t q → ((n : ℕ) → t ≡ token.Number n → ⊥) → NoNumber s p
not_number s p q t f none n r lt e = none n (token_at s p q t (token.Number n) (decimal n) r f (refl, lt) e).0

-- a term whose first word is a leaf's or an operation's goes on after it
pub term_begins : (s : List ℕ) (p q : ℕ) (t : Token) → (f : Found s p t q) → Writes t f.word → (e : Term) (r : List (List ℕ)) → rest s p ≡ write_term e ++ r → Begins t e (rest s q) r
term_begins s p q t f w e r h = begins t f.word (rest s q) e r w (sym f.before ∙ h)

-- a term begins with no other word
pub term_expected : (s : List ℕ) (p q left : ℕ) (v : Width) (t : Token) → At s p t q → ((l : Leaf) → t ≡ token.Leaf l → ⊥) → ((o : Operation) → t ≡ token.Operation o → ⊥) → NoTerm s p left v
term_expected s p q left v token.End f leaf op e r ok small h = absurd (empty_term e (sym f ∙ h))
  where
    empty_term : (e : Term) → [] ≡ write_term e ++ r → ⊥
    empty_term (any i) h = never_empty _ _ (sym h)
    empty_term (con i) h = never_empty _ _ (sym h)
    empty_term (lit n) h = never_empty _ _ (sym h)
    empty_term (unary o x) h = never_empty _ _ (sym h)
    empty_term (binary o x y) h = never_empty _ _ (sym h)
    empty_term (ite t x y) h = never_empty _ _ (sym h)
term_expected s p q left v token.Rule f leaf op e r ok small h = term_begins s p q token.Rule f f.is e r h
term_expected s p q left v (token.Leaf l) f leaf op e r ok small h = leaf l refl
term_expected s p q left v (token.Operation o) f leaf op e r ok small h = op o refl
term_expected s p q left v (token.Number n) f leaf op e r ok small h = term_begins s p q (token.Number n) f f.is e r h
term_expected s p q left v token.Other f leaf op e r ok small h = f.is (head e) (head_writes e f.word (rest s q) r (sym f.before ∙ h))

-- ---- leaves

pub leaf_sound : (w i n : ℕ) (l : Leaf) → sound w i (leaf_node l n) ≡ ok_term w (leaf_term l n)
leaf_sound w i n Any = refl
leaf_sound w i n Con = refl
leaf_sound w i n Lit = refl

leaf_stands : (ns : List Node) (i n : ℕ) (l : Leaf) → get_or ns i (node.Any 0) ≡ leaf_node l n → Stands ns i (leaf_term l n)
leaf_stands ns i n Any e = e
leaf_stands ns i n Con e = e
leaf_stands ns i n Lit e = e

leaf_writes : (l : Leaf) (n : ℕ) → write_term (leaf_term l n) ≡ leaf_name l ∷ decimal n ∷ []
leaf_writes Any n = refl
leaf_writes Con n = refl
leaf_writes Lit n = refl

leaf_ops : (l : Leaf) (n : ℕ) → ops (leaf_term l n) ≡ 0
leaf_ops Any n = refl
leaf_ops Con n = refl
leaf_ops Lit n = refl

-- a number that may stand in a leaf is one that the code reads
pub leaf_small : (v : Width) (l : Leaf) (n : ℕ) → ok_term (bits v) (leaf_term l n) ≡ true → n < 2 ^ 64
leaf_small v Any n h = let k = ltb-true n 16 h in omega arith
leaf_small v Con n h = let k = ltb-true n 16 h in omega arith
leaf_small W8 Lit n h = let k = ltb-true n (2 ^ 8) h in omega arith
leaf_small W16 Lit n h = let k = ltb-true n (2 ^ 16) h in omega arith
leaf_small W32 Lit n h = let k = ltb-true n (2 ^ 32) h in omega arith
leaf_small W64 Lit n h = let k = ltb-true n (2 ^ 64) h in omega arith

pub leaf_read : (s : List ℕ) (p m q left root : ℕ) (l : Leaf) (x x' : RuleNodes) → At s p (token.Leaf l) m → IsLeafRead s m l x x' root q → IsTermRead s p left x x' root q left
leaf_read s p m q left root l x x' f t =
    let n = t.number in
    let none = leaf_ops l n in
    let more = ap length t.pushed.nodes ∙ length-append (nodes_of x.nodes) (leaf_node l n ∷ []) in
    let a = f.longer in
    let b = t.read.longer in
    let last = t.last in
    record {
      term = leaf_term l n;
      text = f.before ∙ ap (λ w. w ∷ rest s m) f.is ∙ ap (λ ws. leaf_name l ∷ ws) t.read.text ∙ ap (λ ws. ws ++ rest s q) (sym (leaf_writes l n));
      ok = t.ok;
      counted = omega arith;
      longer = omega arith;
      within = t.read.within;
      rooted = omega arith;
      stands = leaf_stands (nodes_of x'.nodes) root n l (rw (t.pushed.nodes, last) (get_or_at (nodes_of x.nodes) (leaf_node l n) [] (node.Any 0) _ refl));
      kept = pushed_kept t.pushed;
      size = omega arith;
    }

pub leaf_missing : (s : List ℕ) (p m left : ℕ) (l : Leaf) (v : Width) → At s p (token.Leaf l) m → NoLeaf s m l v → NoTerm s p left v
leaf_missing s p m left l v f none e r ok small h =
    let b = term_begins s p m (token.Leaf l) f f.is e r h in
    none b.0 r (subst (λ g. ok_term (bits v) g ≡ true) b.1 ok) b.2

-- too large a number
pub leaf_too_large : (s : List ℕ) (p q n : ℕ) (l : Leaf) (v : Width) → IsNumberRead s p n q → ok_term (bits v) (leaf_term l n) ≡ false → NoLeaf s p l v
leaf_too_large s p q n l v num bad m r ok h =
    let small_n = num.small in
    let small-m = leaf_small v l m ok in
    let same : n ≡ m = decimal_same n m (omega arith) (omega arith) (first_same _ _ _ _ (sym num.text ∙ h)) in
    both_ways (ok_term (bits v) (leaf_term l n)) bad (ap (λ k. ok_term (bits v) (leaf_term l k)) same ∙ ok)

-- ---- operations

-- the node of an operation, added after its parts, stands for the operation
part_stands : {o : Operation} {es : List Term} (ns : List Node) (roots : List ℕ) → Parts o es → Rooted ns roots es → Stands (ns ++ operation_node o roots ∷ []) (length ns) (applied o es)
part_stands ns roots (one {o} {x}) r =
    let es = x ∷ [] in
    let kept = rooted_kept ns _ roots es r in
    (get_or roots 0 0, get_or_at ns _ [] (node.Any 0) (length ns) refl, (rooted_at ns roots es 0 (omega arith) r).0, (rooted_at _ roots es 0 (omega arith) kept).1)
part_stands ns roots (two {o} {x} {y}) r =
    let es = x ∷ y ∷ [] in
    let kept = rooted_kept ns _ roots es r in (
      get_or roots 0 0,
      get_or roots 1 0,
      get_or_at ns _ [] (node.Any 0) (length ns) refl,
      (rooted_at ns roots es 0 (omega arith) r).0,
      (rooted_at ns roots es 1 (omega arith) r).0,
      (rooted_at _ roots es 0 (omega arith) kept).1,
      (rooted_at _ roots es 1 (omega arith) kept).1,
    )
part_stands ns roots (three {t} {x} {y}) r =
    let es = t ∷ x ∷ y ∷ [] in
    let kept = rooted_kept ns _ roots es r in (
      get_or roots 0 0,
      get_or roots 1 0,
      get_or roots 2 0,
      get_or_at ns _ [] (node.Any 0) (length ns) refl,
      (rooted_at ns roots es 0 (omega arith) r).0,
      (rooted_at ns roots es 1 (omega arith) r).0,
      (rooted_at ns roots es 2 (omega arith) r).0,
      (rooted_at _ roots es 0 (omega arith) kept).1,
      (rooted_at _ roots es 1 (omega arith) kept).1,
      (rooted_at _ roots es 2 (omega arith) kept).1,
    )

-- the node of an operation may be added after its parts
pub operation_sound : {es : List Term} (w : ℕ) (o : Operation) (ns : List Node) (roots : List ℕ) → Parts o es → Rooted ns roots es → sound w (length ns) (operation_node o roots) ≡ true
operation_sound w o ns roots (one {o = u} {x}) r = lt-ltb _ _ (rooted_at ns roots (x ∷ []) 0 (omega arith) r).0
operation_sound w o ns roots (two {o = b} {x} {y}) r =
    and_from _ _ (lt-ltb _ _ (rooted_at ns roots (x ∷ y ∷ []) 0 (omega arith) r).0) (lt-ltb _ _ (rooted_at ns roots (x ∷ y ∷ []) 1 (omega arith) r).0)
operation_sound w o ns roots (three {t} {x} {y}) r =
    and_from _ _ (lt-ltb _ _ (rooted_at ns roots (t ∷ x ∷ y ∷ []) 0 (omega arith) r).0)
    (and_from _ _ (lt-ltb _ _ (rooted_at ns roots (t ∷ x ∷ y ∷ []) 1 (omega arith) r).0) (lt-ltb _ _ (rooted_at ns roots (t ∷ x ∷ y ∷ []) 2 (omega arith) r).0))

pub arity_few : (o : Operation) → arity o ≤ 3
arity_few (Unary o) = omega arith
arity_few (Binary o) = omega arith
arity_few Ite = omega arith

pub operation_read : (s : List ℕ) (p m q left left' : ℕ) (o : Operation) (x y z : RuleNodes) (roots : List ℕ) → At s p (token.Operation o) m → IsTermsRead s m (arity o) left x y roots q left' → Pushed y z (operation_node o roots) → IsTermRead s p (left + 1) x z (length (nodes_of y.nodes)) q left'
operation_read s p m q left left' o x y z roots f t push =
    let es = t.terms in
    let view = parts o es t.count in
    let some = applied_ops view in
    let more = ap length push.nodes ∙ length-append (nodes_of y.nodes) (operation_node o roots ∷ []) in
    let a = f.longer in
    let b = t.longer in
    let c = t.counted in
    let size = t.size in
    let few = arity_few o in
    record {
      term = applied o es;
      text = f.before ∙ ap (λ w. w ∷ rest s m) f.is ∙ ap (λ ws. operation_name o ∷ ws) t.text ∙ ap (λ ws. ws ++ rest s q) (sym (applied_writes view));
      ok = applied_ok (bits x.width) view ∙ t.ok;
      counted = omega arith;
      longer = omega arith;
      within = t.within;
      rooted = omega arith;
      stands = rw push.nodes (part_stands (nodes_of y.nodes) roots view t.rooted);
      kept = kept_trans t.kept (pushed_kept push);
      size = omega arith;
    }

-- no parts, or no operation more allowed
pub operation_no_parts : (s : List ℕ) (p m left : ℕ) (o : Operation) (v : Width) → At s p (token.Operation o) m → NoTerms s m (arity o) left v → NoTerm s p (left + 1) v
operation_no_parts s p m left o v f none e r ok small h =
    let b = term_begins s p m (token.Operation o) f f.is e r h in
    let view = parts o b.0 b.1 in
    let some = applied_ops view in
    let n : ops e ≡ ops (applied o b.0) = ap ops b.2 in
    none b.0 r b.1 (sym (applied_ok (bits v) view) ∙ subst (λ g. ok_term (bits v) g ≡ true) b.2 ok) (omega arith) b.3

pub operation_too_many : (s : List ℕ) (p m : ℕ) (o : Operation) (v : Width) → At s p (token.Operation o) m → NoTerm s p 0 v
operation_too_many s p m o v f e r ok small h =
    let b = term_begins s p m (token.Operation o) f f.is e r h in
    let some = applied_ops (parts o b.0 b.1) in
    let n : ops e ≡ ops (applied o b.0) = ap ops b.2 in
    omega arith

-- ---- several terms

writes_append : (es fs : List Term) → write_terms (es ++ fs) ≡ write_terms es ++ write_terms fs
writes_append [] fs = refl
writes_append (e ∷ es) fs = ap (λ ws. write_term e ++ ws) (writes_append es fs) ∙ sym (append_assoc (write_term e) (write_terms es) (write_terms fs))

ok_append : (w : ℕ) (es fs : List Term) → ok_terms w es ≡ true → ok_terms w fs ≡ true → ok_terms w (es ++ fs) ≡ true
ok_append w [] fs h k = k
ok_append w (e ∷ es) fs h k = let p = and_parts _ _ h in and_from _ _ p.0 (ok_append w es fs p.1 k)

ok_parts : (w : ℕ) (es fs : List Term) → ok_terms w (es ++ fs) ≡ true → ok_terms w fs ≡ true
ok_parts w [] fs h = h
ok_parts w (e ∷ es) fs h = ok_parts w es fs (and_parts _ _ h).1

ops_append : (es fs : List Term) → ops_all (es ++ fs) ≡ ops_all es + ops_all fs
ops_append [] fs = omega arith
ops_append (e ∷ es) fs = let h = ops_append es fs in omega arith

pub one_term_more : (s : List ℕ) (p q q' n left left' left'' root : ℕ) (x y z : RuleNodes) (roots : List ℕ) → IsTermsRead s p n left x y roots q left' → IsTermRead s q left' y z root q' left'' → IsTermsRead s p (n + 1) left x z (roots ++ root ∷ []) q' left''
one_term_more s p q q' n left left' left'' root x y z roots t u =
    let es = t.terms in
    let e = u.term in
    let ends = t.longer in
    let ends' = u.longer in
    let a = t.counted in
    let b = u.counted in
    let size = t.size in
    let size' = u.size in
    let all = ops_append es (e ∷ []) in
    let width = t.kept.width in
    record {
      terms = es ++ (e ∷ []);
      count = length-append es (e ∷ []) ∙ ap (λ k. k + 1) t.count;
      text = t.text ∙ ap (λ ws. write_terms es ++ ws) u.text ∙ sym (append_assoc (write_terms es) (write_term e) (rest s q'))
          ∙ ap (λ ws. (write_terms es ++ ws) ++ rest s q') (sym (append-nil (write_term e))) ∙ ap (λ ws. ws ++ rest s q') (sym (writes_append es (e ∷ [])));
      ok = ok_append (bits x.width) es (e ∷ []) t.ok (and_from _ _ (subst (λ v. ok_term (bits v) e ≡ true) width u.ok) refl);
      counted = omega arith;
      longer = omega arith;
      within = u.within;
      rooted = rooted_push (nodes_of z.nodes) roots es root e (rw u.kept.nodes (rooted_kept (nodes_of y.nodes) u.kept.more roots es t.rooted)) u.rooted u.stands;
      kept = kept_trans t.kept u.kept;
      size = omega arith;
    }

-- where one term of several can't be read, the several can't
pub one_term_missing : (s : List ℕ) (p q n m left left' : ℕ) (x y : RuleNodes) (roots : List ℕ) → n < m → IsTermsRead s p n left x y roots q left' → NoTerm s q left' y.width → NoTerms s p m left x.width
one_term_missing s p q n m left left' x y roots lt t none es r count ok small h =
    let done = t.count in
    let a = t.counted in
    let b = list_begins x.width t.terms es (rest s q) r (omega arith) t.ok ok (sym t.text ∙ h) in
    let total = ops_append t.terms (b.0 ∷ b.1) in
    let same : ops_all es ≡ ops_all (t.terms ++ (b.0 ∷ b.1)) = ap ops_all b.2 in
    let oks = ok_parts (bits x.width) t.terms (b.0 ∷ b.1) (subst (λ fs. ok_terms (bits x.width) fs ≡ true) b.2 ok) in
    none b.0 (write_terms b.1 ++ r) (subst (λ v. ok_term (bits v) b.0 ≡ true) (sym t.kept.width) (and_parts _ _ oks).0) (omega arith) b.3
