-- Words that are clauses, and the clauses that they are.
use Rattle.std.proofs.Common.{◌≡◌, ℕ, zero, suc, ◌+◌, ◌-◌, ◌*◌, ◌/◌, ◌%◌, ◌<◌, ◌≤◌, Bool, true, false, cond, not, ◌||◌, eqb, ◌⊎◌, List, [], ◌∷◌, ◌++◌, length, get_or, sym, refl, ap, ◌∙◌, subst, inl, inr, ⊎_elim, arith}
use Rattle.std.proofs.lemmas.Bool.{true≢false, eq-eqb, ne_eqb, cases_eq, or_cases, or_left, or_right}
use Rattle.clauses.specs.Clauses.{Lit, signed, Some, Every, Unmet, flat, flats, named_in1, named_in, Vars, AllVars}
use Rattle.clauses.specs.Flat.{lit_truth, Meets, Model, Hopeless, Well, Within, Beyond}
use Rattle.clauses.proofs.Forms.{literal_well}
use Rattle.clauses.proofs.Truth.{even_truth, odd_truth, literal_meets, meets_literal}

-- the word for a literal
abbrev code : ℕ → Bool → ℕ
code v p = cond p (2 * v + 2) (2 * v + 3)

code_literal : (v : ℕ) (p : Bool) → 2 ≤ code v p
code_literal v true = omega arith
code_literal v false = omega arith

code_not_0 : (v : ℕ) (p : Bool) → code v p ≡ 0 → ⊥
code_not_0 v p e = omega (arith, code_literal v p)

code_variable : (v : ℕ) (p : Bool) → code v p / 2 ≡ v + 1
code_variable v true = omega arith
code_variable v false = omega arith

code_truth : (s : ℕ → Bool) (v : ℕ) (p : Bool) → lit_truth s (code v p) ≡ signed p (s v)
code_truth s v true = even_truth s (2 * v + 2) (omega arith) ∙ ap s (omega arith)
code_truth s v false = odd_truth s (2 * v + 3) (λ e. omega arith) ∙ ap (λ k. not (s k)) (omega arith)

abbrev lit_of : ℕ → Lit
lit_of x = record { var = x / 2 - 1; pos = eqb (x % 2) 0 }

code_of : (x : ℕ) → 2 ≤ x → code (x / 2 - 1) (eqb (x % 2) 0) ≡ x
code_of x h =
    ⊎_elim
    (λ e. ap (λ p. code (x / 2 - 1) p) (eq-eqb (x % 2) 0 e) ∙ omega arith)
    (λ ne. ap (λ p. code (x / 2 - 1) p) (ne_eqb (x % 2) 0 ne) ∙ omega arith)
    (cases_eq (x % 2) 0)

-- words that are clauses are those of some clauses
abbrev Parsed : Bool → List ℕ → Type 0
Parsed true ws = (c : List Lit) × (cs : List (List Lit)) × (flat c ++ flats cs ≡ ws)
Parsed false ws = (cs : List (List Lit)) × (flats cs ≡ ws)

parse : (b : Bool) (ws : List ℕ) → Well b ws → Parsed b ws
parse true [] h = absurd (true≢false h)
parse false [] h = ([], refl)
parse true (zero ∷ ws) h = let r = parse false ws h in ([], r.0, ap (λ l. 0 ∷ l) r.1)
parse false (zero ∷ ws) h = let r = parse false ws h in ([] ∷ r.0, ap (λ l. 0 ∷ l) r.1)
parse b (suc zero ∷ ws) h = absurd h
parse true (suc (suc x) ∷ ws) h =
    let r = parse true ws h in
    (lit_of (suc (suc x)) ∷ r.0, r.1, ap (λ y. y ∷ (flat r.0 ++ flats r.1)) (code_of (suc (suc x)) (omega arith)) ∙ ap (λ l. suc (suc x) ∷ l) r.2)
parse false (suc (suc x) ∷ ws) h =
    let r = parse true ws h in
    ((lit_of (suc (suc x)) ∷ r.0) ∷ r.1, ap (λ y. y ∷ (flat r.0 ++ flats r.1)) (code_of (suc (suc x)) (omega arith)) ∙ ap (λ l. suc (suc x) ∷ l) r.2)

pub well_parsed : (ws : List ℕ) → Well false ws → (cs : List (List Lit)) × (flats cs ≡ ws)
well_parsed ws h = parse false ws h

-- the words of clauses are well formed
well_flat : (b : Bool) (c : List Lit) (cs : List (List Lit)) → Well false (flats cs) → Well b (flat c ++ flats cs)
well_flat b [] cs h = h
well_flat b (l ∷ c) cs h = literal_well b (code l.var l.pos) (flat c ++ flats cs) (code_literal l.var l.pos) (well_flat true c cs h)

pub flats_well : (cs : List (List Lit)) → Well false (flats cs)
flats_well [] = refl
flats_well (c ∷ cs) = well_flat false c cs (flats_well cs)

pub unwell_parsed : (ws : List ℕ) → (Well false ws → ⊥) → (cs : List (List Lit)) → flats cs ≡ ws → ⊥
unwell_parsed ws h cs e = h (subst (Well false) e (flats_well cs))

-- an assignment meets the clauses exactly if it meets the words
some_meets : (s : ℕ → Bool) (b : Bool) (c : List Lit) (cs : List (List Lit)) → (b ≡ true) ⊎ Some s c → Meets s false (flats cs) → Meets s b (flat c ++ flats cs)
some_meets s b [] cs (inl e) h = (e, h)
some_meets s b [] cs (inr e) h = absurd e
some_meets s b (l ∷ c) cs h r =
    let t = code_truth s l.var l.pos in
    let met : (b || lit_truth s (code l.var l.pos) ≡ true) ⊎ Some s c =
    ⊎_elim (λ e. inl (or_left b _ e)) (λ o. ⊎_elim (λ e. inl (or_right b _ (t ∙ e))) (λ e. inr e) o) h in
    literal_meets s b (code l.var l.pos) (flat c ++ flats cs) (code_not_0 l.var l.pos) (some_meets s (b || lit_truth s (code l.var l.pos)) c cs met r)

every_meets : (s : ℕ → Bool) (cs : List (List Lit)) → Every s cs → Meets s false (flats cs)
every_meets s [] h = tt
every_meets s (c ∷ cs) h = some_meets s false c cs (inr h.0) (every_meets s cs h.1)

meets_some : (s : ℕ → Bool) (b : Bool) (c : List Lit) (cs : List (List Lit)) → Meets s b (flat c ++ flats cs) → ((b ≡ true) ⊎ Some s c) × Meets s false (flats cs)
meets_some s b [] cs h = (inl h.0, h.1)
meets_some s b (l ∷ c) cs h =
    let t = code_truth s l.var l.pos in
    let r = meets_some s (b || lit_truth s (code l.var l.pos)) c cs (meets_literal s b (code l.var l.pos) (flat c ++ flats cs) (code_not_0 l.var l.pos) h) in
    (⊎_elim (λ e. ⊎_elim (λ x. inl x) (λ x. inr (inl (sym t ∙ x))) (or_cases b _ e)) (λ o. inr (inr o)) r.0, r.1)

meets_every : (s : ℕ → Bool) (cs : List (List Lit)) → Meets s false (flats cs) → Every s cs
meets_every s [] h = tt
meets_every s (c ∷ cs) h =
    let r = meets_some s false c cs h in
    (⊎_elim (λ e. absurd (true≢false (sym e))) (λ o. o) r.0, meets_every s cs r.1)

pub model_every : (s : ℕ → Bool) (ws : List ℕ) (cs : List (List Lit)) → flats cs ≡ ws → Model s ws → Every s cs
model_every s ws cs e h = meets_every s cs (subst (Meets s false) (sym e) h)

pub every_model : (s : ℕ → Bool) (ws : List ℕ) (cs : List (List Lit)) → flats cs ≡ ws → Every s cs → Model s ws
every_model s ws cs e h = subst (Meets s false) e (every_meets s cs h)

pub hopeless_unmet : (ws : List ℕ) (cs : List (List Lit)) → flats cs ≡ ws → Hopeless ws → Unmet cs
hopeless_unmet ws cs e h s m = h s (every_model s ws cs e m)

-- a fact of each word
abbrev Each : (ℕ → Type 0) → List ℕ → Type 0
Each P [] = Unit {0}
Each P (x ∷ xs) = P x × Each P xs

each_at : (P : ℕ → Type 0) (xs : List ℕ) → Each P xs → (k : ℕ) → k < length xs → P (get_or xs k 0)
each_at P [] h k l = absurd (omega arith)
each_at P (x ∷ xs) h zero l = h.0
each_at P (x ∷ xs) h (suc k) l = each_at P xs h.1 k (omega arith)

at_each : (P : ℕ → Type 0) (xs : List ℕ) → ((k : ℕ) → k < length xs → P (get_or xs k 0)) → Each P xs
at_each P [] h = tt
at_each P (x ∷ xs) h = (h 0 (omega arith), at_each P xs (λ k l. h (suc k) (omega arith)))

-- the variables of the clauses are below n exactly if the words' numbers are at most n
vars_each : (n : ℕ) (c : List Lit) (cs : List (List Lit)) → Vars n c → Each (λ x. x / 2 < n + 1) (flats cs) → Each (λ x. x / 2 < n + 1) (flat c ++ flats cs)
vars_each n [] cs v h = (omega arith, h)
vars_each n (l ∷ c) cs v h = (omega (arith, code_variable l.var l.pos, v.0), vars_each n c cs v.1 h)

all_vars_each : (n : ℕ) (cs : List (List Lit)) → AllVars n cs → Each (λ x. x / 2 < n + 1) (flats cs)
all_vars_each n [] v = tt
all_vars_each n (c ∷ cs) v = vars_each n c cs v.0 (all_vars_each n cs v.1)

each_vars : (n : ℕ) (c : List Lit) (cs : List (List Lit)) → Each (λ x. x / 2 < n + 1) (flat c ++ flats cs) → Vars n c × Each (λ x. x / 2 < n + 1) (flats cs)
each_vars n [] cs h = (tt, h.1)
each_vars n (l ∷ c) cs h = let r = each_vars n c cs h.1 in ((omega (arith, code_variable l.var l.pos, h.0), r.0), r.1)

each_all_vars : (n : ℕ) (cs : List (List Lit)) → Each (λ x. x / 2 < n + 1) (flats cs) → AllVars n cs
each_all_vars n [] h = tt
each_all_vars n (c ∷ cs) h = let r = each_vars n c cs h in (r.0, each_all_vars n cs r.1)

pub within_all_vars : (n : ℕ) (ws : List ℕ) (cs : List (List Lit)) → flats cs ≡ ws → Within ws (n + 1) → AllVars n cs
within_all_vars n ws cs e h = each_all_vars n cs (subst (Each (λ x. x / 2 < n + 1)) (sym e) (at_each (λ x. x / 2 < n + 1) ws h))

pub all_vars_within : (n : ℕ) (ws : List ℕ) (cs : List (List Lit)) → flats cs ≡ ws → AllVars n cs → Within ws (n + 1)
all_vars_within n ws cs e h = each_at (λ x. x / 2 < n + 1) ws (subst (Each (λ x. x / 2 < n + 1)) e (all_vars_each n cs h))

pub beyond_all_vars : (n : ℕ) (ws : List ℕ) (cs : List (List Lit)) → flats cs ≡ ws → Beyond ws (n + 1) → AllVars n cs → ⊥
beyond_all_vars n ws cs e b v = omega (arith, all_vars_within n ws cs e v b.at b.below, b.far)

-- a variable that stands in no clause is that of no word
Apart : ℕ → ℕ → Type 0
Apart i x = 2 ≤ x → x / 2 - 1 ≡ i → ⊥

counts_one : (i v : ℕ) → i ≡ v → cond {A = ℕ} (eqb i v) 1 0 ≡ 1
counts_one i v e = ap (λ b. cond {A = ℕ} b 1 0) (eq-eqb i v e)

unnamed_each : (i : ℕ) (c : List Lit) (cs : List (List Lit)) → named_in1 i c ≡ 0 → Each (Apart i) (flats cs) → Each (Apart i) (flat c ++ flats cs)
unfolding Apart
unnamed_each i [] cs e h = (λ l _. omega arith, h)
unnamed_each i (l ∷ c) cs e h = (λ two is. omega (arith, counts_one i l.var (omega (arith, code_variable l.var l.pos))), unnamed_each i c cs (omega arith) h)

unnamed_all : (i : ℕ) (cs : List (List Lit)) → named_in i cs ≡ 0 → Each (Apart i) (flats cs)
unnamed_all i [] e = tt
unnamed_all i (c ∷ cs) e = unnamed_each i c cs (omega arith) (unnamed_all i cs (omega arith))

pub unnamed_apart : (i : ℕ) (ws : List ℕ) (cs : List (List Lit)) → flats cs ≡ ws → named_in i cs ≡ 0 → (k : ℕ) → k < length ws → 2 ≤ get_or ws k 0 → get_or ws k 0 / 2 - 1 ≡ i → ⊥
unfolding Apart
unnamed_apart i ws cs e n = each_at (Apart i) ws (subst (Each (Apart i)) e (unnamed_all i cs n))

-- a variable that stands in some clause is that of some word
abbrev Any : (ℕ → Type 0) → List ℕ → Type 0
Any P [] = ⊥
Any P (x ∷ xs) = P x ⊎ Any P xs

any_at : (P : ℕ → Type 0) (xs : List ℕ) → Any P xs → (k : ℕ) × (k < length xs) × P (get_or xs k 0)
any_at P [] h = absurd h
any_at P (x ∷ xs) (inl p) = (0, omega arith, p)
any_at P (x ∷ xs) (inr h) = let r = any_at P xs h in (suc r.0, omega (arith, r.1), r.2)

any_after : (P : ℕ → Type 0) (c : List Lit) (cs : List (List Lit)) → Any P (flats cs) → Any P (flat c ++ flats cs)
any_after P [] cs h = inr h
any_after P (l ∷ c) cs h = inr (any_after P c cs h)

abbrev Names : ℕ → ℕ → Type 0
Names i x = (2 ≤ x) × (x / 2 - 1 ≡ i)

named_any : (i : ℕ) (c : List Lit) (cs : List (List Lit)) → (named_in1 i c ≡ 0 → ⊥) → Any (Names i) (flat c ++ flats cs)
named_any i [] cs f = absurd (f refl)
named_any i (l ∷ c) cs f =
    elim (cases_eq i l.var) [
      | inl e ↦ inl (code_literal l.var l.pos, omega (arith, code_variable l.var l.pos))
      | inr ne ↦ inr (named_any i c cs (λ z. f (omega (arith, ap (λ b. cond {A = ℕ} b 1 0) (ne_eqb i l.var ne)))))
    ]

named_in_any : (i : ℕ) (cs : List (List Lit)) → (named_in i cs ≡ 0 → ⊥) → Any (Names i) (flats cs)
named_in_any i [] f = absurd (f refl)
named_in_any i (c ∷ cs) f =
    elim (cases_eq (named_in1 i c) 0) [
      | inl e ↦ any_after (Names i) c cs (named_in_any i cs (λ z. f (omega arith)))
      | inr ne ↦ named_any i c cs ne
    ]

pub named_place : (i : ℕ) (ws : List ℕ) (cs : List (List Lit)) → flats cs ≡ ws → (named_in i cs ≡ 0 → ⊥) → (k : ℕ) × (k < length ws) × ((2 ≤ get_or ws k 0) × (get_or ws k 0 / 2 - 1 ≡ i))
named_place i ws cs e f = any_at (Names i) ws (subst (Any (Names i)) e (named_in_any i cs f))
