-- Variables numbered by those that occur: outside they are as the clauses have them, from 0 on,
-- and inside from 1 on in the order of their first occurrence.
use Rattle.std.specs.Prelude.{◌≡◌, ℕ, ◌+◌, ◌-◌, ◌*◌, ◌/◌, ◌%◌, ◌^◌, ◌<◌, ◌≤◌, false, List, length, ◌≢◌, slice_index, slice_index_or}
use Rattle.clauses.specs.Flat.{Well, Within}

-- map has the inside number of each outside variable, or 0, and names has the variable of each of count inside numbers
pub record Inverse (map names : List ℕ) (count : ℕ) : Type 0 where
  pub number : (v : ℕ) → slice_index map v ≤ count
  pub back : (v : ℕ) → (slice_index map v ≢ 0) → slice_index names (slice_index map v - 1) ≡ v
  pub there : (i : ℕ) → i < count → slice_index map (slice_index names i) ≡ i + 1

-- map' has a number for v, and those of map still
pub record Numbered (map map' : List ℕ) (v : ℕ) : Type 0 where
  pub kept : (u : ℕ) → (slice_index map u ≢ 0) → slice_index map' u ≡ slice_index map u
  pub here : slice_index_or map' v 0 ≡ 0 → ⊥

-- the first n words of rs are those of ws with the variables' inside numbers
pub record Renames (ws rs map : List ℕ) (n : ℕ) : Type 0 where
  pub ends : (k : ℕ) → k < n → slice_index ws k ≡ 0 → slice_index rs k ≡ 0
  pub occurs : (k : ℕ) → k < n → (slice_index ws k ≢ 0) → slice_index map (slice_index ws k / 2 - 1) ≢ 0
  pub literals : (k : ℕ) → k < n → (slice_index ws k ≢ 0) → slice_index rs k ≡ 2 * slice_index map (slice_index ws k / 2 - 1) + slice_index ws k % 2

-- rs are the clauses ws with their variables numbered from 1 to count
pub record Renamed (ws rs map names : List ℕ) (count : ℕ) : Type 0 where
  pub few : count ≤ length ws
  pub long : length rs ≡ length ws
  pub inverse : Inverse map names count
  pub renames : Renames ws rs map (length ws)
  pub within : Within rs (count + 1)
  pub well : Well false rs
  pub small : (k : ℕ) → slice_index rs k < 2 ^ 31
