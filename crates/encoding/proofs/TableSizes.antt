-- The load of a rule's table is less than the rule's weight by a word for each term.
use Rattle.std.proofs.Common.{◌≡◌, ℕ, ◌+◌, ◌*◌, ◌≤◌, min, max, Bool, true, false, cond, eqb, ltb, List, [], ◌∷◌, ◌++◌, length, get_or, suc-mul, arith}
use Rattle.words.specs.declared.BinaryOp.{BinaryOp}
use Rattle.words.specs.declared.BinaryOp.TheVariants.{Add, Sub, Mul, Udiv, Urem, And, Or, Xor, Shl, Lshr, Ashr, Comp, Ult, Slt}
use Rattle.terms.specs.Terms.{Term, any, con, lit, unary, binary, ite, load2, load, load_all}
use Rattle.encoding.specs.declared.entry.DivisionWord.{DivisionWord}
use Rattle.encoding.specs.declared.entry.DivisionWord.TheVariants.{Quotient, Remainder, Product, Other}
use Rattle.encoding.specs.declared.entry.Entry.{Entry}
use Rattle.encoding.specs.declared.entry.Entry.TheVariants.{Any, Con, Number, Unary, Binary, Ite, Divide, Part}
use Rattle.encoding.specs.Sizes.{entry_load, table_load}
use Rattle.encoding.specs.Table.{find, place, sorted, by_divider, by_quotient, product, divided, operated, numbered, numbered_all}

module _ (w : ℕ) where
  load_append : (es fs : List Entry) → table_load w (es ++ fs) ≡ table_load w es + table_load w fs
  load_append [] fs = omega arith
  load_append (e ∷ es) fs = omega (arith, load_append es fs)

  -- a placed entry adds its load at most
  place_load : (e : Entry) (t : List Entry) → table_load w (place e t).0 ≤ table_load w t + entry_load w e
  place_load e t = go (ltb (find e t) (length t))
    where
      go : (b : Bool) → table_load w (cond b t (t ++ (e ∷ []))) ≤ table_load w t + entry_load w e
      go true = omega arith
      go false = omega (arith, load_append t (e ∷ []))

  divider_load : (e : Entry) (k i j : ℕ) → entry_load w (by_divider e k i j) ≤ 16 * (w * w)
  divider_load (Any x) k i j = omega arith
  divider_load (Con x) k i j = omega arith
  divider_load (Number x) k i j = omega arith
  divider_load (Unary o x) k i j = omega arith
  divider_load (Binary o x y) k i j = omega arith
  divider_load (Ite h x y) k i j = omega arith
  divider_load (Part x p) k i j = omega arith
  divider_load (Divide x y) k i j = go (eqb y i)
    where
      go : (b : Bool) → entry_load w (cond b (Part k Product) (Binary Mul i j)) ≤ 16 * (w * w)
      go true = omega arith
      go false = omega arith

  quotient_load : (t : List Entry) (e : Entry) (i j : ℕ) → entry_load w (by_quotient t e i j) ≤ 16 * (w * w)
  quotient_load t (Any x) i j = omega arith
  quotient_load t (Con x) i j = omega arith
  quotient_load t (Number x) i j = omega arith
  quotient_load t (Unary o x) i j = omega arith
  quotient_load t (Binary o x y) i j = omega arith
  quotient_load t (Ite h x y) i j = omega arith
  quotient_load t (Divide x y) i j = omega arith
  quotient_load t (Part k Quotient) i j = divider_load (get_or t k (Any 0)) k i j
  quotient_load t (Part k Remainder) i j = omega arith
  quotient_load t (Part k Product) i j = omega arith
  quotient_load t (Part k (Other p)) i j = omega arith

  divided_load : (p : DivisionWord) (i j : ℕ) (t : List Entry) → table_load w (divided p i j t).0 ≤ table_load w t + 32 * (w * w)
  divided_load p i j t = let d = place (Divide i j) t in omega (arith, place_load (Divide i j) t, place_load (Part d.1 p) d.0)

  operated_load : (o : BinaryOp) (i j : ℕ) (t : List Entry) → table_load w (operated o i j t).0 ≤ table_load w t + load2 w o
  operated_load Add i j t = place_load (sorted Add i j) t
  operated_load Sub i j t = place_load (Binary Sub i j) t
  operated_load Mul i j t = let e = product t (min i j) (max i j) in omega (arith, place_load e t, quotient_load t (get_or t (max i j) (Any 0)) (min i j) (max i j))
  operated_load Udiv i j t = divided_load Quotient i j t
  operated_load Urem i j t = divided_load Remainder i j t
  operated_load And i j t = place_load (sorted And i j) t
  operated_load Or i j t = place_load (sorted Or i j) t
  operated_load Xor i j t = place_load (sorted Xor i j) t
  operated_load Shl i j t = place_load (Binary Shl i j) t
  operated_load Lshr i j t = place_load (Binary Lshr i j) t
  operated_load Ashr i j t = place_load (Binary Ashr i j) t
  operated_load Comp i j t = place_load (sorted Comp i j) t
  operated_load Ult i j t = place_load (Binary Ult i j) t
  operated_load Slt i j t = place_load (Binary Slt i j) t

  -- each term has a name or a literal, which weighs a word and takes no clause
  term_load : (e : Term) (t : List Entry) → table_load w (numbered e t).0 + w ≤ table_load w t + load w e
  term_load (any k) t = omega (arith, place_load (Any k) t)
  term_load (con k) t = omega (arith, place_load (Con k) t)
  term_load (lit x) t = omega (arith, place_load (Number x) t)
  term_load (unary o x) t = let a = numbered x t in omega (arith, term_load x t, place_load (Unary o a.1) a.0)
  term_load (binary o x y) t =
      let a = numbered x t in
      let b = numbered y a.0 in
      omega (arith, term_load x t, term_load y a.0, operated_load o a.1 b.1 b.0)
  term_load (ite h x y) t =
      let c = numbered h t in
      let a = numbered x c.0 in
      let b = numbered y a.0 in
      omega (arith, term_load h t, term_load x c.0, term_load y a.0, place_load (Ite c.1 a.1 b.1) b.0)

  pub terms_load : (es : List Term) (t : List Entry) → table_load w (numbered_all es t).0 + length es * w ≤ table_load w t + load_all w es
  terms_load [] t = omega arith
  terms_load (e ∷ es) t = let a = numbered e t in omega (arith, term_load e t, terms_load es a.0, suc-mul (length es) w)
