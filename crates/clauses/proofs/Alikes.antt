-- Two lists of words of one form, where the second's literals follow from the first's.
use Rattle.std.proofs.Common.{◌≡◌, ℕ, zero, suc, ◌<◌, ◌≤◌, Bool, true, false, ◌||◌, List, [], ◌∷◌, length, get_or, refl, ⊎_elim, arith}
use Rattle.std.proofs.lemmas.Bool.{or_cases, or_left, or_right}
use Rattle.clauses.specs.Flat.{lit_truth, Meets, Model, Well}
use Rattle.clauses.proofs.Forms.{literal_well, end_well}
use Rattle.clauses.proofs.Truth.{literal_meets, end_meets}

-- a fact of each two words at one place
abbrev Alike : (ℕ → ℕ → Type 0) → List ℕ → List ℕ → Type 0
Alike P [] [] = Unit {0}
Alike P [] (y ∷ ys) = ⊥
Alike P (x ∷ xs) [] = ⊥
Alike P (x ∷ xs) (y ∷ ys) = P x y × Alike P xs ys

at_alike : (P : ℕ → ℕ → Type 0) (xs ys : List ℕ) → length ys ≡ length xs → ((k : ℕ) → k < length xs → P (get_or xs k 0) (get_or ys k 0)) → Alike P xs ys
at_alike P [] [] e h = tt
at_alike P [] (y ∷ ys) e h = absurd (omega arith)
at_alike P (x ∷ xs) [] e h = absurd (omega arith)
at_alike P (x ∷ xs) (y ∷ ys) e h = (h 0 (omega arith), at_alike P xs ys (omega arith) (λ k l. h (suc k) (omega arith)))

-- y ends a clause where x does, and is a literal where x is one
abbrev pub Forms : ℕ → ℕ → Type 0
Forms x y = (x ≡ 0 → y ≡ 0) × ((x ≡ 0 → ⊥) → 2 ≤ y)

forms_well : (b : Bool) (xs ys : List ℕ) → Alike Forms xs ys → Well b xs → Well b ys
forms_well b [] [] a h = h
forms_well b [] (y ∷ ys) a h = absurd a
forms_well b (x ∷ xs) [] a h = absurd a
forms_well b (zero ∷ xs) (y ∷ ys) a h = end_well b y ys (a.0.0 refl) (forms_well false xs ys a.1 h)
forms_well b (suc zero ∷ xs) (y ∷ ys) a h = absurd h
forms_well b (suc (suc x) ∷ xs) (y ∷ ys) a h = literal_well b y ys (a.0.1 (λ e. omega arith)) (forms_well true xs ys a.1 h)

pub well_alike : (xs ys : List ℕ) → length ys ≡ length xs → ((k : ℕ) → k < length xs → Forms (get_or xs k 0) (get_or ys k 0)) → Well false xs → Well false ys
well_alike xs ys e h = forms_well false xs ys (at_alike Forms xs ys e h)

-- and a literal y is true under t where x is true under s
abbrev pub Follows : (ℕ → Bool) → (ℕ → Bool) → ℕ → ℕ → Type 0
Follows s t x y = (x ≡ 0 → y ≡ 0) × ((x ≡ 0 → ⊥) → (y ≡ 0 → ⊥) × (lit_truth s x ≡ true → lit_truth t y ≡ true))

follows_meets : (s t : ℕ → Bool) (b c : Bool) (xs ys : List ℕ) → (b ≡ true → c ≡ true) → Alike (Follows s t) xs ys → Meets s b xs → Meets t c ys
follows_meets s t b c [] [] f a h = tt
follows_meets s t b c [] (y ∷ ys) f a h = absurd a
follows_meets s t b c (x ∷ xs) [] f a h = absurd a
follows_meets s t b c (zero ∷ xs) (y ∷ ys) f a h = end_meets t c y ys (a.0.0 refl) (f h.0) (follows_meets s t false false xs ys (λ e. e) a.1 h.1)
follows_meets s t b c (suc x ∷ xs) (y ∷ ys) f a h =
    let now = a.0.1 (λ e. omega arith) in
    let met : (b || lit_truth s (suc x)) ≡ true → (c || lit_truth t y) ≡ true =
    λ e. ⊎_elim (λ p. or_left c (lit_truth t y) (f p)) (λ p. or_right c (lit_truth t y) (now.1 p)) (or_cases b (lit_truth s (suc x)) e) in
    literal_meets t c y ys now.0 (follows_meets s t (b || lit_truth s (suc x)) (c || lit_truth t y) xs ys met a.1 h)

pub model_alike : (s t : ℕ → Bool) (xs ys : List ℕ) → length ys ≡ length xs → ((k : ℕ) → k < length xs → Follows s t (get_or xs k 0) (get_or ys k 0)) → Model s xs → Model t ys
model_alike s t xs ys e h = follows_meets s t false false xs ys (λ q. q) (at_alike (Follows s t) xs ys e h)
