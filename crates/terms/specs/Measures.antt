-- What the limits of rules speak of, as the measures of terms. Load and operations are kept modulo
-- 2 ^ 64, and the names as sets: bit i is 1 exactly if name i is in the set.
use Rattle.std.specs.Prelude.{ℕ, ◌+◌, ◌*◌, ◌%◌, ◌^◌, List, [], ◌∷◌, bit_or, slice_index_or}
use Rattle.words.specs.Words.{bits}
use Rattle.terms.specs.declared.measure.Measure.{Measure}
use Rattle.terms.specs.declared.measure.RuleMeasure.{RuleMeasure}
use Rattle.terms.specs.declared.node.Node.{Node}
use Rattle.terms.specs.declared.node.Node.TheVariants.{Any, Con, Lit, Unary, Binary, Ite}
use Rattle.terms.specs.Terms.{Term, any, con, lit, unary, binary, ite, Rule, ops, ops_all, load2, load, load_all}

-- the names any in a term, and the names con in it
abbrev pub any_set : Term → ℕ
any_set (any i) = 2 ^ i
any_set (con i) = 0
any_set (lit n) = 0
any_set (unary o x) = any_set x
any_set (binary o x y) = bit_or (any_set x) (any_set y)
any_set (ite t x y) = bit_or (any_set t) (bit_or (any_set x) (any_set y))

abbrev pub con_set : Term → ℕ
con_set (any i) = 0
con_set (con i) = 2 ^ i
con_set (lit n) = 0
con_set (unary o x) = con_set x
con_set (binary o x y) = bit_or (con_set x) (con_set y)
con_set (ite t x y) = bit_or (con_set t) (bit_or (con_set x) (con_set y))

-- the union of the sets of several terms
abbrev pub union : (Term → ℕ) → List Term → ℕ
union f [] = 0
union f (e ∷ es) = bit_or (f e) (union f es)

-- a measure, from its parts before they wrap
abbrev pub measured : ℕ → ℕ → ℕ → ℕ → Measure
measured n o s t = record { load = n % 2 ^ 64; operations = o % 2 ^ 64; anys = s; cons = t }

abbrev pub measure_of : ℕ → Term → Measure
measure_of w e = measured (load w e) (ops e) (any_set e) (con_set e)

-- of several terms together
abbrev pub measure_all : ℕ → List Term → Measure
measure_all w es = measured (load_all w es) (ops_all es) (union any_set es) (union con_set es)

abbrev pub measure_rule : Rule → RuleMeasure
measure_rule r = record { needs = measure_all (bits r.width) r.needs; from = measure_of (bits r.width) r.from; to = measure_of (bits r.width) r.to }

-- of no term
abbrev pub nothing : Measure
nothing = record { load = 0; operations = 0; anys = 0; cons = 0 }

-- of a name or a literal
abbrev pub leaf : ℕ → ℕ → ℕ → Measure
leaf n s t = record { load = n; operations = 0; anys = s; cons = t }

-- of an operation without its parts
abbrev pub operation : ℕ → Measure
operation n = record { load = n; operations = 1; anys = 0; cons = 0 }

-- of two together
abbrev pub together : Measure → Measure → Measure
together x y = record { load = (x.load + y.load) % 2 ^ 64; operations = (x.operations + y.operations) % 2 ^ 64; anys = bit_or x.anys y.anys; cons = bit_or x.cons y.cons }

-- of a node, from those of the nodes before it
abbrev pub node_measure : ℕ → List Measure → Node → Measure
node_measure w ms (Any k) = leaf w (2 ^ k) 0
node_measure w ms (Con k) = leaf w 0 (2 ^ k)
node_measure w ms (Lit n) = leaf w 0 0
node_measure w ms (Unary o j) = together (operation (16 * w)) (slice_index_or ms j nothing)
node_measure w ms (Binary o j k) = together (operation (load2 w o)) (together (slice_index_or ms j nothing) (slice_index_or ms k nothing))
node_measure w ms (Ite h j k) = together (operation (16 * w)) (together (slice_index_or ms h nothing) (together (slice_index_or ms j nothing) (slice_index_or ms k nothing)))
