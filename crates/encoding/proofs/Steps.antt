-- One step of numbering: a term after its parts.
use Rattle.std.proofs.Common.{◌≡◌, ℕ, ◌+◌, ◌≤◌, List, length, get_or, sym, ap, ◌∙◌, arith}
use Rattle.words.specs.declared.UnaryOp.{UnaryOp}
use Rattle.words.specs.declared.BinaryOp.{BinaryOp}
use Rattle.terms.specs.declared.node.Node.{Node}
use Rattle.terms.specs.declared.node.Node.TheVariants.{Any, Unary, Binary, Ite}
use Rattle.terms.specs.Nodes.{Stands}
use Rattle.terms.specs.Terms.{Term, unary, binary, ite}
use Rattle.encoding.specs.declared.entry.Entry.{Entry}
use Rattle.encoding.specs.declared.entry.Entry.TheVariants.{Unary as UnaryEntry, Ite as IteEntry}
use Rattle.encoding.specs.Table.{place, operated, numbered, entries_in, Numbers}
use Rattle.encoding.proofs.Standing.{stands_unary, stands_binary, stands_ite}

module _ (ns : List Node) (i : ℕ) (old new : List Entry) (r : ℕ) where
  -- a node that stands for one term
  pub numbers_one : (t : Term) → ((e : Term) → Stands ns i e → e ≡ t) → new ≡ (numbered t old).0 → r ≡ (numbered t old).1 → length new ≤ length old + entries_in t → Numbers ns i old new r
  numbers_one t is p q m = record {
    table = λ e s. p ∙ sym (ap (λ f. (numbered f old).0) (is e s));
    place = λ e s. q ∙ sym (ap (λ f. (numbered f old).1) (is e s));
    more = λ e s. omega (arith, m, ap entries_in (is e s));
  }

-- an operation on one part: mid is the table with the part, at place a
module _ (ns : List Node) (i j : ℕ) (o : UnaryOp) (is : get_or ns i (Any 0) ≡ Unary o j) (old mid new : List Entry) (a r : ℕ) (part : Numbers ns j old mid a) where
  pub numbers_unary : new ≡ (place (UnaryEntry o a) mid).0 → r ≡ (place (UnaryEntry o a) mid).1 → length new ≤ length mid + 1 → Numbers ns i old new r
  numbers_unary p q l = record {
    table = λ e s. let u = stands_unary ns i o j e is s in p ∙ (ap (λ f. f.0) (now_is e s) ∙ sym (ap (λ f. (numbered f old).0) u.1));
    place = λ e s. let u = stands_unary ns i o j e is s in q ∙ (ap (λ f. f.1) (now_is e s) ∙ sym (ap (λ f. (numbered f old).1) u.1));
    more = λ e s. let u = stands_unary ns i o j e is s in omega (arith, l, part.more u.0 u.3, ap entries_in u.1);
  }
    where
      now_is : (e : Term) (s : Stands ns i e) → place (UnaryEntry o a) mid ≡ numbered (unary o (stands_unary ns i o j e is s).0) old
      now_is e s = let u = stands_unary ns i o j e is s in (λ k. place (UnaryEntry o (part.place u.0 u.3 k)) (part.table u.0 u.3 k))

-- an operation on two
module _ (ns : List Node) (i j h : ℕ) (o : BinaryOp) (is : get_or ns i (Any 0) ≡ Binary o j h) (old mid two new : List Entry) (a b r : ℕ) (left : Numbers ns j old mid a) (right : Numbers ns h mid two b) where
  pub numbers_binary : new ≡ (operated o a b two).0 → r ≡ (operated o a b two).1 → length new ≤ length two + 2 → Numbers ns i old new r
  numbers_binary p q f = record {
    table = λ e s. let u = stands_binary ns i o j h e is s in p ∙ (ap (λ f. f.0) (now_is e s) ∙ sym (ap (λ f. (numbered f old).0) u.2));
    place = λ e s. let u = stands_binary ns i o j h e is s in q ∙ (ap (λ f. f.1) (now_is e s) ∙ sym (ap (λ f. (numbered f old).1) u.2));
    more = λ e s. let u = stands_binary ns i o j h e is s in omega (arith, f, left.more u.0 u.5, right.more u.1 u.6, ap entries_in u.2);
  }
    where
      second : (x y : Term) → Stands ns j x → Stands ns h y → (two, b) ≡ numbered y (numbered x old).0
      second x y sx sy = (λ k. (right.table y sy k, right.place y sy k)) ∙ ap (numbered y) (left.table x sx)

      now_is : (e : Term) (s : Stands ns i e) → operated o a b two ≡ numbered (binary o (stands_binary ns i o j h e is s).0 (stands_binary ns i o j h e is s).1) old
      now_is e s =
          let u = stands_binary ns i o j h e is s in
          let g = second u.0 u.1 u.5 u.6 in
          (λ k. operated o (left.place u.0 u.5 k) (g k).1 (g k).0)

-- a choice
module _ (ns : List Node) (i g j h : ℕ) (is : get_or ns i (Any 0) ≡ Ite g j h) (old one two three new : List Entry) (a b d r : ℕ) (test : Numbers ns g old one a) (then : Numbers ns j one two b) (other : Numbers ns h two three d) where
  pub numbers_ite : new ≡ (place (IteEntry a b d) three).0 → r ≡ (place (IteEntry a b d) three).1 → length new ≤ length three + 1 → Numbers ns i old new r
  numbers_ite p q f = record {
    table = λ e s. let u = stands_ite ns i g j h e is s in p ∙ (ap (λ f. f.0) (now_is e s) ∙ sym (ap (λ f. (numbered f old).0) u.3));
    place = λ e s. let u = stands_ite ns i g j h e is s in q ∙ (ap (λ f. f.1) (now_is e s) ∙ sym (ap (λ f. (numbered f old).1) u.3));
    more = λ e s. let u = stands_ite ns i g j h e is s in omega (arith, f, test.more u.0 u.7, then.more u.1 u.8, other.more u.2 u.9, ap entries_in u.3);
  }
    where
      second : (t x : Term) → Stands ns g t → Stands ns j x → (two, b) ≡ numbered x (numbered t old).0
      second t x st sx = (λ k. (then.table x sx k, then.place x sx k)) ∙ ap (numbered x) (test.table t st)

      third : (t x y : Term) → Stands ns g t → Stands ns j x → Stands ns h y → (three, d) ≡ numbered y (numbered x (numbered t old).0).0
      third t x y st sx sy = (λ k. (other.table y sy k, other.place y sy k)) ∙ ap (λ f. numbered y f.0) (second t x st sx)

      now_is : (e : Term) (s : Stands ns i e) → place (IteEntry a b d) three ≡ numbered (ite (stands_ite ns i g j h e is s).0 (stands_ite ns i g j h e is s).1 (stands_ite ns i g j h e is s).2) old
      now_is e s =
          let u = stands_ite ns i g j h e is s in
          let v = second u.0 u.1 u.7 u.8 in
          let w = third u.0 u.1 u.2 u.7 u.8 u.9 in
          (λ k. place (IteEntry (test.place u.0 u.7 k) (v k).1 (w k).1) (w k).0)
