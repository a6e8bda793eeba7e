-- The measures of nodes are those of the terms that they stand for.
use Rattle.std.proofs.Common.{◌≡◌, ℕ, ◌+◌, ◌*◌, ◌^◌, ◌<◌, List, [], ◌∷◌, ◌++◌, length, get_or, sym, refl, ap, ◌∙◌, ap₂, arith}
use Rattle.terms.specs.Items.{nodes_of}
use lib.Bits.{bit_or, or_zero_l, or_zero_r}
use Rattle.std.proofs.lemmas.Nat.Bits.{same_from_bits, bit_at_or}
use Rattle.words.specs.declared.Width.{Width}
use Rattle.words.specs.declared.Width.TheVariants.{W8, W16, W32, W64}
use Rattle.words.specs.Words.{bits}
use Rattle.terms.specs.declared.measure.Measure.{Measure}
use Rattle.terms.specs.declared.node.Node.{Node}
use Rattle.terms.specs.declared.node.Node.TheVariants.{Any}
use Rattle.terms.specs.declared.rule.RuleNodes.{RuleNodes}
use Rattle.terms.specs.Terms.{Term, Rule, any, con, lit, unary, binary, ite, ops, ops_all, load, load_all, load2}
use Rattle.terms.specs.Nodes.{Stands}
use Rattle.terms.specs.Represents.{Represents}
use Rattle.terms.specs.Measures.{any_set, con_set, measured, measure_of, measure_all, union, nothing, leaf, operation, together, node_measure}
use Rattle.terms.proofs.Roots.{Root}

pub bits_small : (w : Width) → bits w < 65
bits_small W8 = omega arith
bits_small W16 = omega arith
bits_small W32 = omega arith
bits_small W64 = omega arith

same_measure : (n o s t n' o' s' t' : ℕ) → n ≡ n' → o ≡ o' → s ≡ s' → t ≡ t' → ◌≡◌ {A = Measure} (record { load = n; operations = o; anys = s; cons = t }) (record { load = n'; operations = o'; anys = s'; cons = t' })
same_measure n o s t n' o' s' t' p q u v = rw (p, q, u, v)

measured_together : (n o s t n' o' s' t' : ℕ) → together (measured n o s t) (measured n' o' s' t') ≡ measured (n + n') (o + o') (bit_or s s') (bit_or t t')
measured_together n o s t n' o' s' t' = same_measure _ _ _ _ _ _ _ _ (omega arith) (omega arith) refl refl

measured_operation : (m n o s t : ℕ) → together (operation m) (measured n o s t) ≡ measured (m + n) (1 + o) s t
measured_operation m n o s t = same_measure _ _ _ _ _ _ _ _ (omega arith) (omega arith) (or_zero_l s) (or_zero_l t)

measured_leaf : (w s t : ℕ) → w < 65 → leaf w s t ≡ measured w 0 s t
measured_leaf w s t h = same_measure _ _ _ _ _ _ _ _ (omega arith) refl refl refl

measure_two : (w : ℕ) (x y : Term) → together (measure_of w x) (measure_of w y) ≡ measured (load w x + load w y) (ops x + ops y) (bit_or (any_set x) (any_set y)) (bit_or (con_set x) (con_set y))
measure_two w x y = measured_together _ _ (any_set x) (con_set x) _ _ (any_set y) (con_set y)

or_assoc : (a b c : ℕ) → bit_or (bit_or a b) c ≡ bit_or a (bit_or b c)
or_assoc a b c = same_from_bits _ _ (λ i. omega (arith, bit_at_or (bit_or a b) c i, bit_at_or a b i, bit_at_or a (bit_or b c) i, bit_at_or b c i))

union_push : (f : Term → ℕ) (es : List Term) (e : Term) → union f (es ++ e ∷ []) ≡ bit_or (union f es) (f e)
union_push f [] e = or_zero_r (f e)
union_push f (x ∷ es) e = ap (bit_or (f x)) (union_push f es e) ∙ sym (or_assoc (f x) (union f es) (f e))

load_all_append : (w : ℕ) (es fs : List Term) → load_all w (es ++ fs) ≡ load_all w es + load_all w fs
load_all_append w [] fs = omega arith
load_all_append w (e ∷ es) fs = omega (arith, load_all_append w es fs)

pub ops_all_append : (es fs : List Term) → ops_all (es ++ fs) ≡ ops_all es + ops_all fs
ops_all_append [] fs = omega arith
ops_all_append (e ∷ es) fs = omega (arith, ops_all_append es fs)

-- one more term
pub measure_push : (w : ℕ) (es : List Term) (e : Term) → together (measure_all w es) (measure_of w e) ≡ measure_all w (es ++ e ∷ [])
measure_push w es e = same_measure _ _ _ _ _ _ _ _ (omega (arith, load_all_append w es (e ∷ []))) (omega (arith, ops_all_append es (e ∷ []))) (sym (union_push any_set es e)) (sym (union_push con_set es e))

-- the measure of a node is that of its term, where those of the nodes before it are
pub node_measure_lem : (w : ℕ) (ns : List Node) (ms : List Measure) (i : ℕ) (e : Term) → w < 65 → ((j : ℕ) (f : Term) → j < i → Stands ns j f → get_or ms j nothing ≡ measure_of w f) → Stands ns i e → node_measure w ms (get_or ns i (Any 0)) ≡ measure_of w e
node_measure_lem w ns ms i (any k) h all s = ap (node_measure w ms) s ∙ measured_leaf w (2 ^ k) 0 h
node_measure_lem w ns ms i (con k) h all s = ap (node_measure w ms) s ∙ measured_leaf w 0 (2 ^ k) h
node_measure_lem w ns ms i (lit n) h all s = ap (node_measure w ms) s ∙ measured_leaf w 0 0 h
node_measure_lem w ns ms i (unary o x) h all s =
    let p = all s.0 x s.2 s.3 in
    ap (node_measure w ms) s.1 ∙ ap (together (operation (16 * w))) p ∙ measured_operation (16 * w) (load w x) (ops x) (any_set x) (con_set x)
node_measure_lem w ns ms i (binary o x y) h all s =
    let p = all s.0 x s.3 s.5 in
    let q = all s.1 y s.4 s.6 in
    ap (node_measure w ms) s.2
    ∙ ap (together (operation (load2 w o))) (ap₂ together p q ∙ measure_two w x y)
    ∙ measured_operation _ _ _ _ _
node_measure_lem w ns ms i (ite t x y) h all s =
    let o = all s.0 t s.4 s.7 in
    let p = all s.1 x s.5 s.8 in
    let q = all s.2 y s.6 s.9 in
    ap (node_measure w ms) s.3
    ∙ ap (together (operation (16 * w))) (ap₂ together o (ap₂ together p q ∙ measure_two w x y) ∙ measured_together _ _ (any_set t) (con_set t) _ _ (bit_or (any_set x) (any_set y)) (bit_or (con_set x) (con_set y)))
    ∙ measured_operation _ _ _ _ _

-- what the nodes of a rule have as measures
abbrev pub Measured : RuleNodes → List Measure → Type 0
Measured x ms = (i : ℕ) (e : Term) → i < length (nodes_of x.nodes) → Stands (nodes_of x.nodes) i e → get_or ms i nothing ≡ measure_of (bits x.width) e

pub root_measure : (x : RuleNodes) (r : Rule) (ms : List Measure) (p : ℕ) (e : Term) → Measured x ms → Represents x r → Root x p e → get_or ms p nothing ≡ measure_of (bits r.width) e
root_measure x r ms p e all rep root = all p e root.0 root.1 ∙ ap (λ w. measure_of (bits w) e) rep.width
