-- What a solver has to show for each of its answers.
use Rattle.std.proofs.Common.{◌≡◌, ℕ, ◌+◌, ◌-◌, ◌*◌, ◌/◌, ◌%◌, ◌≤◌, false, eqb, ◌⊎◌, List, length, get_or, Ok, Err, sym, refl, ap, ◌∙◌, inl, inr, arith}
use Rattle.std.specs.Int.{from_bool}
use Rattle.clauses.specs.declared.solved.Answer.TheVariants.{Met, Never}
use Rattle.clauses.specs.declared.solved.Refusal.TheVariants.{NoClauses, Small}
use Rattle.clauses.specs.Clauses.{Lit, flats, named_in}
use Rattle.clauses.specs.Flat.{Model, Hopeless, Well, Within, Beyond}
use Rattle.clauses.specs.Models.{byte_sign, gives_word, Written}
use Rattle.clauses.specs.Says.{Solved, SmallRoom, SolvedPost}
use Rattle.clauses.proofs.Parses.{well_parsed, unwell_parsed, model_every, hopeless_unmet, within_all_vars, beyond_all_vars, unnamed_apart, named_place}
use Rattle.clauses.proofs.Values.{byte_cases}

met_small : ◌≡◌ {A = Solved} (Ok Met) (Err Small) → ⊥
met_small e = cc

never_small : ◌≡◌ {A = Solved} (Ok Never) (Err Small) → ⊥
never_small e = cc

no_clauses_small : ◌≡◌ {A = Solved} (Err NoClauses) (Err Small) → ⊥
no_clauses_small e = cc

-- there is room if there is work and the model has a place for each variable
within_room : (ws : List ℕ) (w bytes : ℕ) → 32 * length ws + (8 * bytes + 4096) ≤ w → Within ws (bytes + 1) → SmallRoom ws w bytes → ⊥
within_room ws w bytes r h (inl l) = omega arith
within_room ws w bytes r h (inr (cs, e, f)) = f (within_all_vars bytes ws cs e h)

unwell_room : (ws : List ℕ) (w bytes : ℕ) → 32 * length ws + (8 * bytes + 4096) ≤ w → (Well false ws → ⊥) → SmallRoom ws w bytes → ⊥
unwell_room ws w bytes r h (inl l) = omega arith
unwell_room ws w bytes r h (inr (cs, e, f)) = unwell_parsed ws h cs e

named_byte : (ws map values m m' : List ℕ) (cs : List (List Lit)) → flats cs ≡ ws → Written gives_word ws map values m m' (length ws) → (i : ℕ) → (named_in i cs ≡ 0 → ⊥) → (get_or m' i 0 ≡ 1) ⊎ (get_or m' i 0 ≡ 0)
named_byte ws map values m m' cs e wr i f =
    let place = named_place i ws cs e f in
    let k = place.0 in
    let byte : get_or m' i 0 ≡ from_bool (eqb (get_or values (get_or map (get_or ws k 0 / 2 - 1) 0) 0 % 2) 0) =
    ap (λ j. get_or m' j 0) (sym place.2.1) ∙ wr.named k 0 place.1 place.2.0 in
    elim (byte_cases (eqb (get_or values (get_or map (get_or ws k 0 / 2 - 1) 0) 0 % 2) 0)) [ inl one ↦ inl (byte ∙ one) | inr none ↦ inr (byte ∙ none) ]

module _ (ws : List ℕ) (w : ℕ) (m m' : List ℕ) where
  pub met : 32 * length ws + (8 * length m + 4096) ≤ w → Well false ws → Within ws (length m + 1) → length m' ≡ length m → Model (byte_sign m') ws → (map values : List ℕ) → Written gives_word ws map values m m' (length ws) → SolvedPost ws w m m' (Ok Met)
  met room well within long model map values written =
      let p = well_parsed ws well in
      record {
        says = (p.0, p.1, model_every (byte_sign m') ws p.0 p.1 model, long, λ i n. written.other i 0 (unnamed_apart i ws p.0 p.1 n), named_byte ws map values m m' p.0 p.1 written);
        small = (λ h. absurd (within_room ws w (length m) room within h), λ e. absurd (met_small e));
      }

  pub never : 32 * length ws + (8 * length m + 4096) ≤ w → Well false ws → Within ws (length m + 1) → Hopeless ws → m' ≡ m → SolvedPost ws w m m' (Ok Never)
  never room well within hopeless same =
      let p = well_parsed ws well in
      record {
        says = (p.0, p.1, hopeless_unmet ws p.0 p.1 hopeless, same);
        small = (λ h. absurd (within_room ws w (length m) room within h), λ e. absurd (never_small e));
      }

  pub no_clauses : 32 * length ws + (8 * length m + 4096) ≤ w → (Well false ws → ⊥) → m' ≡ m → SolvedPost ws w m m' (Err NoClauses)
  no_clauses room unwell same = record {
    says = (unwell_parsed ws unwell, same);
    small = (λ h. absurd (unwell_room ws w (length m) room unwell h), λ e. absurd (no_clauses_small e));
  }

  pub small_model : Well false ws → Beyond ws (length m + 1) → m' ≡ m → SolvedPost ws w m m' (Err Small)
  small_model well beyond same =
      let p = well_parsed ws well in
      record { says = same; small = (λ _. refl, λ _. inr (p.0, p.1, beyond_all_vars (length m) ws p.0 p.1 beyond)) }
