-- A rule may be used exactly if its measures are accepted.
use Rattle.std.proofs.Common.{◌≡◌, ℕ, ◌+◌, ◌≤◌, true, subst, arith}
use lib.Bits.{bit_or}
use Rattle.terms.specs.Terms.{Rule, anys, cons, limit}
use Rattle.terms.specs.Limits.{ok_rule}
use Rattle.terms.specs.Usable.{Usable, sum_of}
use Rattle.terms.specs.Measures.{any_set, con_set, union, measure_rule}
use Rattle.terms.specs.Accepted.{Accepted}
use Rattle.terms.proofs.NameSets.{Tells, any_tells, con_tells, all_tell, tells_both, part, part_bit, empty, empty_bit}
use Rattle.terms.proofs.Weights.{few_operations, weight_measured}

-- the names con of the second side and of the needed terms
bound_tells : (r : Rule) (i : ℕ) → Tells i (bit_or (con_set r.to) (union con_set r.needs)) (cons i r.to + sum_of (cons i) r.needs)
bound_tells r i = tells_both i (con_set r.to) (cons i r.to) (union con_set r.needs) (sum_of (cons i) r.needs) (con_tells i r.to) (all_tell i con_set (cons i) r.needs (con_tells i))

pub accepted_usable : (r : Rule) → ok_rule r ≡ true → Accepted (measure_rule r) → Usable r
accepted_usable r ok a = record {
  saves = omega (arith, few_operations r ok, a.saves);
  any_found = λ i h. (any_tells i r.to).1 (part_bit (any_set r.from) (any_set r.to) i a.any_found ((any_tells i r.from).0 h));
  con_found = λ i h. (bound_tells r i).1 (part_bit (con_set r.from) (bit_or (con_set r.to) (union con_set r.needs)) i a.con_found ((con_tells i r.from).0 h));
  needs_con = λ i. (all_tell i any_set (anys i) r.needs (any_tells i)).1 (empty_bit (union any_set r.needs) i a.needs_con);
  light = subst (λ n. n ≤ limit) (weight_measured r ok) a.light;
}

pub usable_accepted : (r : Rule) → ok_rule r ≡ true → Usable r → Accepted (measure_rule r)
usable_accepted r ok u = record {
  saves = omega (arith, few_operations r ok, u.saves);
  any_found = part (any_set r.from) (any_set r.to) (λ i h. (any_tells i r.to).0 (u.any_found i ((any_tells i r.from).1 h)));
  con_found = part (con_set r.from) (bit_or (con_set r.to) (union con_set r.needs)) (λ i h. (bound_tells r i).0 (u.con_found i ((con_tells i r.from).1 h)));
  needs_con = empty (union any_set r.needs) (λ i. (all_tell i any_set (anys i) r.needs (any_tells i)).0 (u.needs_con i));
  light = rw (weight_measured r ok) u.light;
}
