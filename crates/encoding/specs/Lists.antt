-- Lists in arrays: of the cells, the first hold the items, and the others the blank.
use Rattle.std.specs.Prelude.{◌≡◌, ℕ, ◌-◌, ◌≤◌, List, ◌++◌, length, take, drop, replicate}
use Rattle.std.proofs.Common.{sym, subst}
use Rattle.std.proofs.lemmas.List.{length-take-le}
use Rattle.terms.proofs.Items.{cells_of}

pub record Filled {X : Type 0} (capacity : ℕ) (blank : X) (len : ℕ) (cells : List X) : Type 0 where
  pub size : length cells ≡ capacity
  pub fits : len ≤ capacity
  pub blanks : drop len cells ≡ replicate (capacity - len) blank

-- so the items tell how many they are, and the cells
pub counted : {X : Type 0} (capacity : ℕ) (blank : X) (len : ℕ) (cells : List X) → Filled capacity blank len cells → length (take len cells) ≡ len
counted capacity blank len cells f = length-take-le len cells (subst (λ n. len ≤ n) (sym f.size) f.fits)

pub refilled : {X : Type 0} (capacity : ℕ) (blank : X) (len : ℕ) (cells : List X) → Filled capacity blank len cells → take len cells ++ replicate (capacity - length (take len cells)) blank ≡ cells
refilled capacity blank len cells f = cells_of capacity blank len cells (subst (λ n. len ≤ n) (sym f.size) f.fits) f.blanks
