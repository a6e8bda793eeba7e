-- A model that is written from values meets what the values meet.
use Rattle.std.proofs.Common.{◌≡◌, ℕ, ◌+◌, ◌-◌, ◌/◌, ◌%◌, ◌<◌, ◌≤◌, Bool, true, false, eqb, ◌⊎◌, List, length, get_or, sym, refl, ap, ◌∙◌, inl, inr, arith}
use Rattle.std.proofs.lemmas.Bool.{cases_eq}
use Rattle.std.specs.Int.{from_bool}
use Rattle.clauses.specs.Clauses.{signed}
use Rattle.clauses.specs.Flat.{lit_truth, Model, Well}
use Rattle.clauses.specs.Numbering.{Renamed}
use Rattle.clauses.specs.Models.{byte_sign, value_sign, written_sign, gives_word, Written}
use Rattle.clauses.proofs.Alikes.{model_alike}
use Rattle.clauses.proofs.Forms.{well_literal}
use Rattle.clauses.proofs.Numbered.{renamed_model}

pub byte_cases : (b : Bool) → (from_bool b ≡ 1) ⊎ (from_bool b ≡ 0)
byte_cases true = inl refl
byte_cases false = inr refl

byte_sign_lem : (b : Bool) → eqb (from_bool b) 1 ≡ b
byte_sign_lem true = refl
byte_sign_lem false = refl

-- the literal that values has for its variable is true
pub value_true : (values : List ℕ) (x : ℕ) → 2 ≤ x → get_or values (x / 2) 0 ≡ x → lit_truth (value_sign values) x ≡ true
value_true values x two e =
    let place : x / 2 - 1 + 1 ≡ x / 2 = omega arith in
    let is : get_or values (x / 2 - 1 + 1) 0 ≡ x = ap (λ i. get_or values i 0) place ∙ e in
    ap (λ y. signed (eqb (x % 2) 0) (eqb (y % 2) 0)) is ∙ agrees (eqb (x % 2) 0)
  where
    agrees : (b : Bool) → signed b b ≡ true
    agrees true = refl
    agrees false = refl

module _ (ws rs map names : List ℕ) (count : ℕ) (made : Renamed ws rs map names count) where
  -- of the variables of ws by the values of their inside numbers
  pub signs_model : (values : List ℕ) → Model (value_sign values) rs → Model (written_sign map values) ws
  signs_model values h =
      model_alike (λ v. value_sign values (get_or map v 0 - 1)) (written_sign map values) ws ws refl
      (λ k l. (λ e. e, λ ne. (ne, λ t. sym (ap (signed (eqb (get_or ws k 0 % 2) 0)) (same k l ne)) ∙ t)))
      (renamed_model ws rs map names count made (value_sign values) h)
    where
      same : (k : ℕ) → k < length ws → (get_or ws k 0 ≡ 0 → ⊥) → value_sign values (get_or map (get_or ws k 0 / 2 - 1) 0 - 1) ≡ written_sign map values (get_or ws k 0 / 2 - 1)
      same k l ne =
          let some = made.renames.occurs k l ne in
          let place : get_or map (get_or ws k 0 / 2 - 1) 0 - 1 + 1 ≡ get_or map (get_or ws k 0 / 2 - 1) 0 = omega (arith, cases_eq (get_or map (get_or ws k 0 / 2 - 1) 0) 0) in
          ap (λ i. eqb (get_or values i 0 % 2) 0) place

-- the signs as they are written
pub bytes_model : (ws map values m m' : List ℕ) → Well false ws → Written gives_word ws map values m m' (length ws) → Model (written_sign map values) ws → Model (byte_sign m') ws
bytes_model ws map values m m' well written h =
    model_alike (written_sign map values) (byte_sign m') ws ws refl (λ k l. (λ e. e, λ ne. (ne, λ t. sym (ap (signed (eqb (get_or ws k 0 % 2) 0)) (same k l ne)) ∙ t))) h
  where
    same : (k : ℕ) → k < length ws → (get_or ws k 0 ≡ 0 → ⊥) → written_sign map values (get_or ws k 0 / 2 - 1) ≡ byte_sign m' (get_or ws k 0 / 2 - 1)
    same k l ne =
        let byte = written.named k 0 l (well_literal false ws well k l ne) in
        sym (byte_sign_lem (written_sign map values (get_or ws k 0 / 2 - 1))) ∙ ap (λ b. eqb b 1) (sym byte)
