-- What is left to do falls with each step on, and with each start over that is paid for.
use Rattle.std.proofs.Common.{◌≡◌, ℕ, ◌+◌, ◌-◌, ◌*◌, ◌^◌, ◌<◌, length, sym, ap, ◌∙◌, add-mul, one-mul, arith}
use Rattle.kernel.specs.Trail.{Trailed, Further, rank}
use Rattle.kernel.specs.Budget.{left}
use Rattle.kernel.proofs.Ranks.{rank_below}

-- one start over: the trail may be any of as many variables
pub left_over : (t t' : Trailed) (b : ℕ) → length t'.values ≡ length t.values → 0 < b → left t' (b - 1) < left t b
left_over t t' b e h =
    let m : ℕ = length t.values in
    let one : (b - 1 + 1) * 3 ^ m ≡ (b - 1) * 3 ^ m + 3 ^ m = add-mul (b - 1) 1 (3 ^ m) ∙ ap (λ z. (b - 1) * 3 ^ m + z) (one-mul (3 ^ m)) in
    let up : b - 1 + 1 ≡ b = omega arith in
    rw e (omega (arith, sym (ap (λ z. z * 3 ^ m) up) ∙ one, rank_below m t.kinds))

-- a step on, and any number of them
pub left_further : (t t' : Trailed) (b : ℕ) → Further t t' → left t' b < left t b
left_further t t' b f =
    rw f.long (omega (arith, f.more, ap (λ (m : ℕ). rank m t'.kinds) f.long, rank_below (length t.values) t'.kinds))
