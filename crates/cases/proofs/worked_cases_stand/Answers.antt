use Rattle.std.proofs.Common.{◌≡◌, ℕ, ◌+◌, ◌-◌, ◌%◌, ◌<◌, refl, arith}
use Rattle.book.specs.Text.{decimal}
use Rattle.cases.proofs.worked_cases_stand.Goals as goal

sum_less_lem : (x y : ℕ) → x < 256 → y < 256 → ((x + y) % 256 + 256 - y) % 256 ≡ x
sum_less_lem x y h k = omega arith

pub returns : goal.returns
unfolding decimal
returns c =
    record {
      quotient_by_0 = refl;
      remainder_by_0 = refl;
      sign_shifted = refl;
      sign_shifted_far = refl;
      least_below_largest = refl;
      minus_0 = refl;
      holds = λ a d a_in d-in met. sum_less_lem (a 0) (a 1) (a_in 0) (a_in 1);
      written = record { text = refl; ok = refl };
    }
