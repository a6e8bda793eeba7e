-- The terms of a rule are numbered one after the other.
use Rattle.std.proofs.Common.{◌≡◌, ℕ, ◌+◌, ◌*◌, ◌<◌, ◌≤◌, true, List, [], ◌∷◌, ◌++◌, length, get_or, drop, sym, refl, ap, ◌∙◌, arith}
use Rattle.terms.specs.Items.{nodes_of, places_of}
use Rattle.std.proofs.lemmas.List.{append_assoc, append-nil, length-append, drop_more, drop_all}
use Rattle.terms.specs.declared.rule.RuleNodes.{RuleNodes}
use Rattle.terms.specs.Limits.{ok_rule}
use Rattle.terms.specs.Represents.{Represents}
use Rattle.terms.specs.Terms.{Term, Rule, any, con, lit, unary, binary, ite, terms, ops, ops_all}
use Rattle.terms.proofs.Roots.{Root, rooted_count, root_count, term_root}
use Rattle.terms.proofs.Weights.{few_needs, few_operations}
use Rattle.encoding.specs.declared.entry.Entry.{Entry}
use Rattle.encoding.specs.Table.{numbered_all, entries_in, entries_all, Numbers}

-- a term's entries are few
few_entries : (e : Term) → entries_in e ≤ 4 * ops e + 1
few_entries (any k) = omega arith
few_entries (con k) = omega arith
few_entries (lit x) = omega arith
few_entries (unary o x) = omega (arith, few_entries x)
few_entries (binary o x y) = omega (arith, few_entries x, few_entries y)
few_entries (ite h x y) = omega (arith, few_entries h, few_entries x, few_entries y)

few_all : (es : List Term) → entries_all es ≤ 4 * ops_all es + length es
few_all [] = omega arith
few_all (e ∷ es) = omega (arith, few_entries e, few_all es)

operations_append : (es fs : List Term) → ops_all (es ++ fs) ≡ ops_all es + ops_all fs
operations_append [] fs = omega arith
operations_append (e ∷ es) fs = omega (arith, operations_append es fs)

pub rule_entries : (r : Rule) → ok_rule r ≡ true → entries_all (terms r) ≤ 134
rule_entries r ok =
    let all = terms r in
    omega (arith, few_all all, operations_append r.needs (r.from ∷ r.to ∷ []), length-append r.needs (r.from ∷ r.to ∷ []), few_needs r ok, few_operations r ok)

-- the first k terms of the rule are numbered: what is left gives the rest, and has room
pub record NumberedSoFar (x : RuleNodes) (k : ℕ) (t : List Entry) (places : List ℕ) : Type 0 where
  pub rest : (r : Rule) → Represents x r → numbered_all (terms r) [] ≡ ((numbered_all (drop k (terms r)) t).0, places ++ (numbered_all (drop k (terms r)) t).1)
  pub room : (r : Rule) → Represents x r → ok_rule r ≡ true → length t + entries_all (drop k (terms r)) ≤ 134

length_terms : (x : RuleNodes) (r : Rule) → Represents x r → length (terms r) ≡ length (places_of x.roots)
length_terms x r rep = sym (rooted_count (nodes_of x.nodes) (places_of x.roots) (terms r) rep.rooted)

pub numbered_none : (x : RuleNodes) → NumberedSoFar x 0 [] []
numbered_none x = record { rest = λ r rep. refl; room = λ r rep ok. omega (arith, rule_entries r ok) }

module _ (x : RuleNodes) (k : ℕ) (lt : k < length (places_of x.roots)) where
  -- the term at root k
  pub root_at : (r : Rule) → Represents x r → Root x (get_or (places_of x.roots) k 0) (get_or (terms r) k (any 0))
  root_at r rep = term_root x r k rep (omega (arith, root_count x r rep))

  cut : (r : Rule) → Represents x r → drop k (terms r) ≡ get_or (terms r) k (any 0) ∷ drop (k + 1) (terms r)
  cut r rep = drop_more (terms r) k (any 0) (omega (arith, length_terms x r rep))

  pub root_room : (t : List Entry) (places : List ℕ) (r : Rule) → Represents x r → ok_rule r ≡ true → NumberedSoFar x k t places → length t + entries_in (get_or (terms r) k (any 0)) ≤ 134
  root_room t places r rep ok so = omega (arith, so.room r rep ok, ap entries_all (cut r rep))

  pub numbered_more : (t t' : List Entry) (p : ℕ) (places : List ℕ) → NumberedSoFar x k t places → Numbers (nodes_of x.nodes) (get_or (places_of x.roots) k 0) t t' p → NumberedSoFar x (k + 1) t' (places ++ (p ∷ []))
  numbered_more t t' p places so now = record {
    rest = λ r rep.
        let e = get_or (terms r) k (any 0) in
        let s = (root_at r rep).1 in
        so.rest r rep
        ∙ (ap (λ ts. ((numbered_all ts t).0, places ++ (numbered_all ts t).1)) (cut r rep)
        ∙ ((λ i. let u = sym (now.table e s) i in ((numbered_all (drop (k + 1) (terms r)) u).0, places ++ (sym (now.place e s) i ∷ (numbered_all (drop (k + 1) (terms r)) u).1)))
        ∙ ap (λ ps. ((numbered_all (drop (k + 1) (terms r)) t').0, ps)) (sym (append_assoc places (p ∷ []) _))));
    room = λ r rep ok. omega (arith, so.room r rep ok, ap entries_all (cut r rep), now.more (get_or (terms r) k (any 0)) (root_at r rep).1);
  }

-- all terms
pub numbered_all_lem : (x : RuleNodes) (k : ℕ) (t : List Entry) (places : List ℕ) (r : Rule) → length (places_of x.roots) ≤ k → Represents x r → NumberedSoFar x k t places → numbered_all (terms r) [] ≡ (t, places)
numbered_all_lem x k t places r h rep so =
    so.rest r rep
    ∙ (ap (λ ts. ((numbered_all ts t).0, places ++ (numbered_all ts t).1)) (drop_all k (terms r) (omega (arith, length_terms x r rep)))
    ∙ ap (λ ps. (t, ps)) (append-nil places))
