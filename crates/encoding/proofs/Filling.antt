-- A list in an array, with one more item.
use Rattle.std.proofs.Common.{◌≡◌, ℕ, ◌+◌, ◌<◌, List, length, take, set, ◌∙◌, ap, arith}
use Rattle.std.proofs.lemmas.List.{length-set}
use Rattle.terms.proofs.Items.{blanks_more}
use Rattle.encoding.specs.Lists.{Filled, counted}

-- what is added takes the place of the first blank
pub filled_more : {X : Type 0} (capacity : ℕ) (blank : X) (len : ℕ) (cells : List X) (x : X) (items : List X) → length items < capacity → take len cells ≡ items → Filled capacity blank len cells → Filled capacity blank (len + 1) (set cells len x)
filled_more capacity blank len cells x items room same f =
    let below : len < capacity = omega (arith, counted capacity blank len cells f, ap length same) in
    record {
      size = length-set cells len x ∙ f.size;
      fits = omega arith;
      blanks = blanks_more capacity blank len cells x below f.blanks;
    }
