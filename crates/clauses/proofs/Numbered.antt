-- What meets renamed clauses meets the clauses, and the other way round.
use Rattle.std.proofs.Common.{◌≡◌, ℕ, ◌+◌, ◌-◌, ◌*◌, ◌/◌, ◌%◌, ◌<◌, Bool, eqb, List, length, get_or, sym, refl, ap, ◌∙◌, inl, inr, arith}
use Rattle.std.proofs.lemmas.Bool.{cases_eq}
use Rattle.clauses.specs.Clauses.{signed}
use Rattle.clauses.specs.Flat.{lit_truth, Model, Hopeless}
use Rattle.clauses.specs.Numbering.{Renamed}
use Rattle.clauses.proofs.Alikes.{Follows, model_alike}

-- a literal's truth is that of its variable, whatever its number
number_truth : (s t : ℕ → Bool) (x y n : ℕ) → y ≡ 2 * n + x % 2 → s (x / 2 - 1) ≡ t (n - 1) → lit_truth s x ≡ lit_truth t y
number_truth s t x y n e same =
    let sign : x % 2 ≡ y % 2 = omega arith in
    let place : n - 1 ≡ y / 2 - 1 = omega arith in
    ap (signed (eqb (x % 2) 0)) same ∙ ap (λ r. signed (eqb r 0) (t (n - 1))) sign ∙ ap (λ j. signed (eqb (y % 2) 0) (t j)) place

module _ (ws rs map names : List ℕ) (count : ℕ) (made : Renamed ws rs map names count) where
  back_follows : (s : ℕ → Bool) (k : ℕ) → k < length ws → Follows s (λ v. s (get_or map v 0 - 1)) (get_or rs k 0) (get_or ws k 0)
  back_follows s k l =
      let v = get_or ws k 0 / 2 - 1 in
      elim (cases_eq (get_or ws k 0) 0) [
        | inl e ↦ (λ _. e, λ f. absurd (f (made.renames.ends k l e)))
        | inr ne ↦
            let is = made.renames.literals k l ne in
            let some = made.renames.occurs k l ne in
            (λ z. absurd (some (omega arith)), λ f. (ne, λ t. number_truth (λ u. s (get_or map u 0 - 1)) s (get_or ws k 0) (get_or rs k 0) (get_or map v 0) is refl ∙ t))
      ]

  there_follows : (s : ℕ → Bool) (k : ℕ) → k < length ws → Follows s (λ i. s (get_or names i 0)) (get_or ws k 0) (get_or rs k 0)
  there_follows s k l =
      let v = get_or ws k 0 / 2 - 1 in (
        made.renames.ends k l,
        λ ne.
            let is = made.renames.literals k l ne in
            let some = made.renames.occurs k l ne in
            (λ z. some (omega arith), λ t. sym (number_truth s (λ i. s (get_or names i 0)) (get_or ws k 0) (get_or rs k 0) (get_or map v 0) is (ap s (sym (made.inverse.back v some)))) ∙ t),
      )

  pub renamed_model : (s : ℕ → Bool) → Model s rs → Model (λ v. s (get_or map v 0 - 1)) ws
  renamed_model s h = model_alike s (λ v. s (get_or map v 0 - 1)) rs ws (sym made.long) (λ k l. back_follows s k (omega (arith, made.long))) h

  pub model_renamed : (s : ℕ → Bool) → Model s ws → Model (λ i. s (get_or names i 0)) rs
  model_renamed s h = model_alike s (λ i. s (get_or names i 0)) ws rs made.long (there_follows s) h

  pub renamed_hopeless : Hopeless rs → Hopeless ws
  renamed_hopeless h s m = h (λ i. s (get_or names i 0)) (model_renamed s m)
