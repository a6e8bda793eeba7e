-- Writing a model, one literal of the clauses after another.
use Rattle.std.proofs.Common.{◌≡◌, ◌≢◌, ℕ, ◌+◌, ◌-◌, ◌/◌, ◌%◌, ◌<◌, ◌≤◌, Bool, eqb, List, length, get_or, set, sym, ap, ◌∙◌, subst, ⊎_elim, arith}
use Rattle.std.proofs.lemmas.List.{get_or-set_same, get_or-set_other}
use Rattle.std.proofs.lemmas.Bool.{cases_eq}
use Rattle.clauses.specs.Models.{Written}

-- the variable of word k, and its sign
abbrev variable : List ℕ → ℕ → ℕ
variable ws k = get_or ws k 0 / 2 - 1

abbrev sign : List ℕ → List ℕ → ℕ → Bool
sign map values v = eqb (get_or values (get_or map v 0) 0 % 2) 0

module _ {A : Type 0} (gives : Bool → A → Type 0) (ws map values : List ℕ) (m m' : List A) (n : ℕ) (was : Written gives ws map values m m' n) where
  pub written_skip : get_or ws n 0 < 2 → Written gives ws map values m m' (n + 1)
  written_skip small = record {
    named = λ k d l two. ⊎_elim (λ e. absurd (omega (arith, ap (λ i. get_or ws i 0) e))) (λ ne. was.named k d (omega arith) two) (cases_eq k n);
    other = λ i d f. was.other i d (λ k l. f k (omega arith));
  }

  pub written_next : (b : A) → 2 ≤ get_or ws n 0 → variable ws n < length m' → gives (sign map values (variable ws n)) b → Written gives ws map values m (set m' (variable ws n) b) (n + 1)
  written_next b two fits g = record {
    named = λ k d l lit. ⊎_elim
        (λ e.
        let here : get_or (set m' (variable ws n) b) (variable ws k) d ≡ b = ap (λ v. get_or (set m' (variable ws n) b) v d) e ∙ get_or-set_same m' (variable ws n) b d fits in
        subst (λ v. gives (sign map values v) (get_or (set m' (variable ws n) b) (variable ws k) d)) (sym e) (subst (λ x. gives (sign map values (variable ws n)) x) (sym here) g))
        (λ ne.
        let there : get_or (set m' (variable ws n) b) (variable ws k) d ≡ get_or m' (variable ws k) d = get_or-set_other m' (variable ws n) (variable ws k) b d ne in
        subst (λ x. gives (sign map values (variable ws k)) x) (sym there) (was.named k d (earlier k l ne) lit))
        (cases_eq (variable ws k) (variable ws n));
    other = λ i d f. get_or-set_other m' (variable ws n) i b d (λ e. f n (omega arith) two (sym e)) ∙ was.other i d (λ k l. f k (omega arith));
  }
    where
      earlier : (k : ℕ) → k < n + 1 → variable ws k ≢ variable ws n → k < n
      earlier k l ne = ⊎_elim (λ e. absurd (ne (ap (variable ws) e))) (λ nn. omega arith) (cases_eq k n)

  -- the same of what the code has worked out
  pub written_skip_as : (m'' : List A) → m'' ≡ m' → get_or ws n 0 < 2 → Written gives ws map values m m'' (n + 1)
  written_skip_as m'' e small = subst (λ x. Written gives ws map values m x (n + 1)) (sym e) (written_skip small)

  pub written_next_as : (m'' : List A) (v : ℕ) (b : A) → m'' ≡ set m' v b → v ≡ variable ws n → 2 ≤ get_or ws n 0 → variable ws n < length m' → gives (sign map values v) b → Written gives ws map values m m'' (n + 1)
  written_next_as m'' v b e is two fits g =
      let at : set m' v b ≡ set m' (variable ws n) b = ap (λ u. set m' u b) is in
      subst (λ x. Written gives ws map values m x (n + 1)) (sym (e ∙ at)) (written_next b two fits (subst (λ u. gives (sign map values u) b) is g))
