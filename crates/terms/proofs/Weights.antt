-- The weight of a rule within the limits is far below 2 ^ 64.
use Rattle.std.proofs.Common.{◌≡◌, ℕ, ◌+◌, ◌*◌, ◌^◌, ◌<◌, ◌≤◌, true, ◌&&◌, leb, List, [], ◌∷◌, length, arith}
use Rattle.std.proofs.lemmas.Nat.{mul-le}
use Rattle.std.proofs.lemmas.Bool.{and_parts, leb-true}
use Rattle.words.specs.declared.BinaryOp.{BinaryOp}
use Rattle.words.specs.declared.BinaryOp.TheVariants.{Add, Sub, Mul, Udiv, Urem, And, Or, Xor, Shl, Lshr, Ashr, Comp, Ult, Slt}
use Rattle.words.specs.Words.{bits}
use Rattle.terms.specs.Terms.{Term, any, con, lit, unary, binary, ite, Rule, terms, ops, ops_all, load2, load, load_all, weight}
use Rattle.terms.specs.Limits.{ok_terms, ok_rule}
use Rattle.terms.specs.Measures.{measure_rule, together}
use Rattle.terms.proofs.Measured.{bits_small, ops_all_append}

square_le : (w : ℕ) → w < 65 → w * w ≤ 4096
square_le w h = mul-le w w 64 64 (omega arith) (omega arith)

load2_le : (w : ℕ) (o : BinaryOp) → w < 65 → load2 w o ≤ 131072
load2_le w Add h = omega arith
load2_le w Sub h = omega arith
load2_le w Mul h = omega (arith, square_le w h)
load2_le w Udiv h = omega (arith, square_le w h)
load2_le w Urem h = omega (arith, square_le w h)
load2_le w And h = omega arith
load2_le w Or h = omega arith
load2_le w Xor h = omega arith
load2_le w Shl h = omega arith
load2_le w Lshr h = omega arith
load2_le w Ashr h = omega arith
load2_le w Comp h = omega arith
load2_le w Ult h = omega arith
load2_le w Slt h = omega arith

-- at most 131072 for an operation, and 64 for each of its parts that is a name or a literal
load_le : (w : ℕ) (e : Term) → w < 65 → load w e ≤ 131200 * ops e + 64
load_le w (any i) h = omega arith
load_le w (con i) h = omega arith
load_le w (lit n) h = omega arith
load_le w (unary o x) h = omega (arith, load_le w x h)
load_le w (binary o x y) h = omega (arith, load2_le w o h, load_le w x h, load_le w y h)
load_le w (ite t x y) h = omega (arith, load_le w t h, load_le w x h, load_le w y h)

load_all_le : (w : ℕ) (es : List Term) → w < 65 → load_all w es ≤ 131200 * ops_all es + 64 * length es
load_all_le w [] h = omega arith
load_all_le w (e ∷ es) h = omega (arith, load_le w e h, load_all_le w es h)

pub few_needs : (r : Rule) → ok_rule r ≡ true → length r.needs ≤ 4
few_needs r ok = leb-true (length r.needs) 4 (and_parts (leb (length r.needs) 4) _ ok).0

pub few_operations : (r : Rule) → ok_rule r ≡ true → ops_all r.needs + (ops r.from + ops r.to) ≤ 32
few_operations r ok =
    let rest = (and_parts (leb (length r.needs) 4) (leb (ops_all (terms r)) 32 && ok_terms (bits r.width) (terms r)) ok).1 in
    let h = leb-true (ops_all (terms r)) 32 (and_parts (leb (ops_all (terms r)) 32) (ok_terms (bits r.width) (terms r)) rest).0 in
    omega (arith, h, ops_all_append r.needs (r.from ∷ r.to ∷ []))

weight_small : (r : Rule) → ok_rule r ≡ true → weight r < 2 ^ 64
weight_small r ok =
    let w = bits_small r.width in
    omega (arith, few_needs r ok, few_operations r ok, load_all_le (bits r.width) r.needs w, load_le (bits r.width) r.from w, load_le (bits r.width) r.to w)

-- so the loads of its terms add up to it without wrapping
pub weight_measured : (r : Rule) → ok_rule r ≡ true → (together (measure_rule r).needs (together (measure_rule r).from (measure_rule r).to)).load ≡ weight r
weight_measured r ok = omega (arith, weight_small r ok)
