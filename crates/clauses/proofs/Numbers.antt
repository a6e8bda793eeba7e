-- Numbers for the variables that occur, one after another.
use Rattle.std.proofs.Common.{◌≡◌, ℕ, ◌+◌, ◌-◌, ◌/◌, ◌^◌, ◌<◌, ◌≤◌, false, ◌≢◌, List, length, get_or, set, sym, ap, ◌∙◌, inl, inr, arith}
use Rattle.std.proofs.lemmas.List.{get_or-set_same, get_or-set_other, get_or_past}
use Rattle.std.proofs.lemmas.Bool.{cases_eq, cases_lt}
use Rattle.clauses.specs.Flat.{Well, Within}
use Rattle.clauses.specs.Numbering.{Inverse, Numbered, Renames, Renamed}
use Rattle.clauses.proofs.Alikes.{Forms, well_alike}

-- the next number goes to a variable v that has none
module _ (map names : List ℕ) (count v : ℕ) (was : Inverse map names count) (known : v < length map) (room : count < length names) (none : get_or map v 0 ≡ 0) where
  map_here : get_or (set map v (count + 1)) v 0 ≡ count + 1
  map_here = get_or-set_same map v (count + 1) 0 known

  map_other : (u : ℕ) → u ≢ v → get_or (set map v (count + 1)) u 0 ≡ get_or map u 0
  map_other u ne = get_or-set_other map v u (count + 1) 0 ne

  names_here : get_or (set names count v) count 0 ≡ v
  names_here = get_or-set_same names count v 0 room

  names_other : (i : ℕ) → i ≢ count → get_or (set names count v) i 0 ≡ get_or names i 0
  names_other i ne = get_or-set_other names count i v 0 ne

  number_next : (u : ℕ) → get_or (set map v (count + 1)) u 0 ≤ count + 1
  number_next u = elim (cases_eq u v) [ inl e ↦ omega (arith, ap (λ j. get_or (set map v (count + 1)) j 0) e, map_here) | inr ne ↦ omega (arith, map_other u ne, was.number u) ]

  back_next : (u : ℕ) → (get_or (set map v (count + 1)) u 0 ≡ 0 → ⊥) → get_or (set names count v) (get_or (set map v (count + 1)) u 0 - 1) 0 ≡ u
  back_next u f =
      elim (cases_eq u v) [
        | inl e ↦ let n : get_or (set map v (count + 1)) u 0 - 1 ≡ count = omega (arith, ap (λ j. get_or (set map v (count + 1)) j 0) e, map_here) in
            ap (λ i. get_or (set names count v) i 0) n ∙ names_here ∙ sym e
        | inr ne ↦
            let old = map_other u ne in
            let some : get_or map u 0 ≡ 0 → ⊥ = λ z. f (old ∙ z) in
            let n : get_or map u 0 - 1 ≢ count = λ q. omega (arith, was.number u, cases_eq (get_or map u 0) 0, some) in
            ap (λ i. get_or (set names count v) (i - 1) 0) old ∙ names_other (get_or map u 0 - 1) n ∙ was.back u some
      ]

  there_next : (i : ℕ) → i < count + 1 → get_or (set map v (count + 1)) (get_or (set names count v) i 0) 0 ≡ i + 1
  there_next i l =
      elim (cases_eq i count) [
        | inl e ↦ ap (λ u. get_or (set map v (count + 1)) u 0) (ap (λ j. get_or (set names count v) j 0) e ∙ names_here) ∙ map_here ∙ ap (λ (j : ℕ). j + 1) (sym e)
        | inr ne ↦
            let old = was.there i (omega arith) in
            let n : get_or names i 0 ≢ v = λ q. omega (arith, old, ap (λ u. get_or map u 0) q, none) in
            ap (λ u. get_or (set map v (count + 1)) u 0) (names_other i ne) ∙ map_other (get_or names i 0) n ∙ old
      ]

  pub inverse_next : Inverse (set map v (count + 1)) (set names count v) (count + 1)
  inverse_next = record { number = number_next; back = back_next; there = there_next }

  pub numbered_next : Numbered map (set map v (count + 1)) v
  numbered_next = record {
    kept = λ u f. map_other u (λ e. f (ap (λ j. get_or map j 0) e ∙ none));
    here = λ z. omega (arith, map_here);
  }

-- when all words are renamed
module _ (ws rs map names : List ℕ) (count : ℕ) (inverse : Inverse map names count) (renames : Renames ws rs map (length ws)) (few : count ≤ length ws) (long : length rs ≡ length ws) where
  renamed_within : Within rs (count + 1)
  renamed_within k l =
      elim (cases_eq (get_or ws k 0) 0) [
        | inl e ↦ omega (arith, renames.ends k (omega arith) e)
        | inr ne ↦ omega (arith, renames.literals k (omega arith) ne, inverse.number (get_or ws k 0 / 2 - 1))
      ]

  renamed_forms : (k : ℕ) → k < length ws → Forms (get_or ws k 0) (get_or rs k 0)
  renamed_forms k l =
      (renames.ends k l, λ ne. omega (arith, renames.literals k l ne, cases_eq (get_or map (get_or ws k 0 / 2 - 1) 0) 0, renames.occurs k l ne))

  pub renamed_all : Well false ws → length ws < 2 ^ 30 → Renamed ws rs map names count
  renamed_all well short = record {
    few = few;
    long = long;
    inverse = inverse;
    renames = renames;
    within = renamed_within;
    well = well_alike ws rs long renamed_forms well;
    small = λ k. elim (cases_lt k (length rs)) [ inl l ↦ omega (arith, renamed_within k l) | inr l ↦ omega (arith, get_or_past rs k 0 l) ];
  }
