-- What setting and freeing a literal keep of the trail, and what a clash says.
use Rattle.std.proofs.Common.{◌≡◌, ℕ, zero, suc, ◌+◌, ◌-◌, ◌/◌, ◌^◌, ◌<◌, ◌≤◌, Bool, ◌≢◌, List, [], ◌∷◌, ◌++◌, length, get_or, take, drop, set, sym, refl, ap, ◌∙◌, subst, ⊎_elim, arith, length-set, get_or-set_other, get_or-set_same}
use Rattle.std.proofs.lemmas.Bool.{cases_eq, cases_lt, cases_Bool}
use Rattle.std.proofs.lemmas.List.{length-append, length-take-le, take_at, get_or_at, take-take, get_or-take, get_or-drop}
use Rattle.clauses.specs.Flat.{lit_truth, Model, Within, Hopeless}
use Rattle.kernel.specs.Trail.{Stands, IsTrail, Holds, Entails, Sound, Agrees, Clash, Own, Forced, State, Trailed, Further, Went, IsLast, NoDecision, rank, rank_of}
use Rattle.kernel.proofs.Truth.{opposite_true}
use Rattle.kernel.proofs.Zeros.{zeros_fill, zeros_free, zeros_some, zeros_all}
use Rattle.kernel.proofs.Ranks.{push_grows, turn_grows, rank_below}

pub empty_trail : (vs ts : List ℕ) → ((k : ℕ) → k < length vs → get_or vs k 0 ≡ 0) → length vs ≤ length ts → IsTrail vs ts 0
empty_trail vs ts h l = record {
  on = λ p q. absurd (omega arith);
  own = λ k q f. absurd (f (h k q));
  apart = λ p q i j e. absurd (omega arith);
  counted = omega (arith, zeros_all vs h);
  room = l;
}

module _ (vs ts : List ℕ) (n : ℕ) (was : IsTrail vs ts n) where
  -- there is room where a variable is free
  pub has_room : (k : ℕ) → k < length vs → get_or vs k 0 ≡ 0 → n < length ts
  has_room k h e = omega (arith, zeros_some vs k h e, was.counted, was.room)

  pub has_place : (k : ℕ) → k < length vs → get_or vs k 0 ≡ 0 → n < length vs
  has_place k h e = omega (arith, zeros_some vs k h e, was.counted, was.room)

  pub own_values : Own vs
  own_values k h f = (was.own k h f).half

  pub trail_agrees : (s : ℕ → Bool) → Holds s ts n → Agrees s vs
  trail_agrees s h k l f =
      let at = was.own k l f in
      ap (lit_truth s) (sym at.is) ∙ h at.at at.below

  -- a literal is set
  module _ (x : ℕ) (fits : x / 2 < length vs) (free : get_or vs (x / 2) 0 ≡ 0) (lit : 2 ≤ x) where
    -- its variable is not on the trail
    pub fresh : (p : ℕ) → p < n → get_or ts p 0 / 2 ≡ x / 2 → ⊥
    fresh p h e =
        let at = was.on p h in
        omega (arith, at.lit, at.set, ap (λ (i : ℕ). get_or vs i 0) e, free)

    pub pushed : IsTrail (set vs (x / 2) x) (set ts n x) (n + 1)
    pushed =
        let room = has_room (x / 2) fits free in
        let lv = length-set vs (x / 2) x in
        let lt = length-set ts n x in
        let top : get_or (set ts n x) n 0 ≡ x = get_or-set_same ts n x 0 room in
        let low : (p : ℕ) → p < n → get_or (set ts n x) p 0 ≡ get_or ts p 0 = λ p h. get_or-set_other ts n p x 0 (omega arith) in
        let there : get_or (set vs (x / 2) x) (x / 2) 0 ≡ x = get_or-set_same vs (x / 2) x 0 fits in
        let on-top : (p : ℕ) → p ≡ n → Stands (set vs (x / 2) x) (set ts n x) p = λ p e.
        let is : get_or (set ts n x) p 0 ≡ x = ap (λ (i : ℕ). get_or (set ts n x) i 0) e ∙ top in
        record {
          fits = omega (arith, ap (λ (y : ℕ). y / 2) is);
          set = ap (λ (y : ℕ). get_or (set vs (x / 2) x) (y / 2) 0) is ∙ there ∙ sym is;
          lit = omega arith;
        } in
        let on-low : (p : ℕ) → p < n → Stands (set vs (x / 2) x) (set ts n x) p = λ p h.
        let at = was.on p h in
        let is = low p h in
        record {
          fits = omega (arith, ap (λ (y : ℕ). y / 2) is, at.fits);
          set = ap (λ (y : ℕ). get_or (set vs (x / 2) x) (y / 2) 0) is ∙ get_or-set_other vs (x / 2) (get_or ts p 0 / 2) x 0 (λ e. fresh p h e) ∙ at.set ∙ sym is;
          lit = omega (arith, at.lit);
        } in
        record {
          on = λ p h. ⊎_elim (λ e. on-top p e) (λ ne. on-low p (omega arith)) (cases_eq p n);
          own = λ k h f. ⊎_elim
              (λ e. record {
                at = n;
                below = omega arith;
                is = top ∙ sym there ∙ ap (λ (i : ℕ). get_or (set vs (x / 2) x) i 0) (sym e);
                half = ap (λ (y : ℕ). y / 2) (ap (λ (i : ℕ). get_or (set vs (x / 2) x) i 0) e ∙ there) ∙ sym e;
              })
              (λ ne.
              let same : get_or (set vs (x / 2) x) k 0 ≡ get_or vs k 0 = get_or-set_other vs (x / 2) k x 0 ne in
              let at = was.own k (omega arith) (λ z. f (same ∙ z)) in
              record {
                at = at.at;
                below = omega (arith, at.below);
                is = low at.at at.below ∙ at.is ∙ sym same;
                half = ap (λ (y : ℕ). y / 2) same ∙ at.half;
              })
              (cases_eq k (x / 2));
          apart = λ p q h j e. ⊎_elim
              (λ pn. ⊎_elim (λ qn. omega arith)
              (λ nq. absurd (fresh q (omega arith) (omega (arith, ap (λ (y : ℕ). y / 2) (low q (omega arith)), ap (λ (i : ℕ). get_or (set ts n x) i 0 / 2) pn, ap (λ (y : ℕ). y / 2) top))))
              (cases_eq q n))
              (λ np. ⊎_elim
              (λ qn. absurd (fresh p (omega arith) (omega (arith, ap (λ (y : ℕ). y / 2) (low p (omega arith)), ap (λ (i : ℕ). get_or (set ts n x) i 0 / 2) qn, ap (λ (y : ℕ). y / 2) top))))
              (λ nq. was.apart p q (omega arith) (omega arith) (ap (λ (y : ℕ). y / 2) (sym (low p (omega arith))) ∙ e ∙ ap (λ (y : ℕ). y / 2) (low q (omega arith))))
              (cases_eq q n))
              (cases_eq p n);
          counted = omega (arith, zeros_fill vs (x / 2) x fits free (λ z. omega arith), was.counted);
          room = omega (arith, was.room);
        }

    -- the same at the place that the code has worked out
    pub pushed_at : (i : ℕ) → i ≡ x / 2 → IsTrail (set vs i x) (set ts n x) (n + 1)
    pushed_at i e = subst (λ (j : ℕ). IsTrail (set vs j x) (set ts n x) (n + 1)) (sym e) pushed

-- the last literal is freed
pub popped : (vs ts : List ℕ) (n : ℕ) → IsTrail vs ts (n + 1) → IsTrail (set vs (get_or ts n 0 / 2) 0) ts n
popped vs ts n was =
    let last = was.on n (omega arith) in
    let v : ℕ = get_or ts n 0 / 2 in
    let lv = length-set vs v 0 in
    let gone : get_or (set vs v 0) v 0 ≡ 0 = get_or-set_same vs v 0 0 last.fits in
    let other : (p : ℕ) → p < n → get_or ts p 0 / 2 ≢ v = λ p h e. omega (arith, was.apart p n (omega arith) (omega arith) e) in
    record {
      on = λ p h.
          let at = was.on p (omega arith) in
          record {
            fits = omega (arith, at.fits);
            set = get_or-set_other vs v (get_or ts p 0 / 2) 0 0 (other p h) ∙ at.set;
            lit = at.lit;
          };
      own = λ k h f. ⊎_elim
          (λ e. absurd (f (ap (λ (i : ℕ). get_or (set vs v 0) i 0) e ∙ gone)))
          (λ ne.
          let same : get_or (set vs v 0) k 0 ≡ get_or vs k 0 = get_or-set_other vs v k 0 0 ne in
          let at = was.own k (omega arith) (λ z. f (same ∙ z)) in
          record {
            at = at.at;
            below = ⊎_elim (λ e. absurd (ne (sym at.half ∙ ap (λ (y : ℕ). y / 2) (sym at.is) ∙ ap (λ (i : ℕ). get_or ts i 0 / 2) e))) (λ nn. omega (arith, at.below)) (cases_eq at.at n);
            is = at.is ∙ sym same;
            half = ap (λ (y : ℕ). y / 2) same ∙ at.half;
          })
          (cases_eq k v);
      apart = λ p q h j e. was.apart p q (omega arith) (omega arith) e;
      counted = omega (arith, zeros_free vs v last.fits (λ z. omega (arith, last.set, last.lit)), was.counted);
      room = omega (arith, was.room);
    }

pub popped_at : (vs ts : List ℕ) (n i : ℕ) → 0 < n → i ≡ get_or ts (n - 1) 0 / 2 → IsTrail vs ts n → IsTrail (set vs i 0) ts (n - 1)
popped_at vs ts n i l e was =
    let back : n ≡ n - 1 + 1 = omega arith in
    subst (λ (j : ℕ). IsTrail (set vs j 0) ts (n - 1)) (sym e) (popped vs ts (n - 1) (subst (IsTrail vs ts) back was))

-- the last of the literals from place k on is freed
pub popped_back : (vs ts rest rest' : List ℕ) (k x i : ℕ) → rest ≡ rest' ++ x ∷ [] → rest ≡ take (length rest) (drop k ts) → i ≡ x / 2 → IsTrail vs ts (k + length rest) → (rest' ≡ take (length rest') (drop k ts)) × IsTrail (set vs i 0) ts (k + length rest')
popped_back vs ts rest rest' k x i split part half was =
    let long : length rest ≡ length rest' + 1 = ap length split ∙ length-append rest' (x ∷ []) in
    let last : x ≡ get_or ts (k + length rest') 0 =
    sym (get_or_at rest' x [] 0 (length rest') refl) ∙ sym (ap (λ xs. get_or xs (length rest') 0) split) ∙ ap (λ xs. get_or xs (length rest') 0) part ∙ get_or-take (length rest) (drop k ts) (length rest') 0 (omega arith) ∙ get_or-drop k ts (length rest') 0 in
    let front : rest' ≡ take (length rest') (drop k ts) =
    sym (take_at rest' (x ∷ []) (length rest') refl) ∙ sym (ap (take (length rest')) split) ∙ ap (take (length rest')) part ∙ take-take (length rest') (length rest) (drop k ts) (omega arith) in
    let less : k + length rest - 1 ≡ k + length rest' = omega arith in
    (front, subst (IsTrail (set vs i 0) ts) less (popped_at vs ts (k + length rest) i (omega arith) (half ∙ ap (λ (j : ℕ). j / 2) last ∙ ap (λ (j : ℕ). get_or ts j 0 / 2) (sym less)) was))

-- fewer literals, and one more
pub sound_less : (ws ts ks : List ℕ) (m n : ℕ) → m ≤ n → Sound ws ts ks n → Sound ws ts ks m
sound_less ws ts ks m n le h p l = h p (omega arith)

pub sound_push : (ws ts ks : List ℕ) (n x k : ℕ) → n < length ts → n < length ks → ((k ≡ 0 → ⊥) → Entails ws ts n x) → Sound ws ts ks n → Sound ws (set ts n x) (set ks n k) (n + 1)
sound_push ws ts ks n x k lt lk new h p l f s m before =
    let same : (q : ℕ) → q < n → get_or (set ts n x) q 0 ≡ get_or ts q 0 = λ q b. get_or-set_other ts n q x 0 (omega arith) in
    ⊎_elim
    (λ e.
    let at_n : get_or (set ks n k) p 0 ≡ k = ap (λ (i : ℕ). get_or (set ks n k) i 0) e ∙ get_or-set_same ks n k 0 lk in
    ap (λ (i : ℕ). lit_truth s (get_or (set ts n x) i 0)) e ∙ ap (lit_truth s) (get_or-set_same ts n x 0 lt) ∙
    new (λ z. f (at_n ∙ z)) s m (λ q b. ap (lit_truth s) (sym (same q b)) ∙ before q (omega arith)))
    (λ ne.
    ap (lit_truth s) (same p (omega arith)) ∙
    h p (omega arith) (λ z. f (get_or-set_other ks n p k 0 ne ∙ z)) s m (λ q b. ap (lit_truth s) (sym (same q (omega arith))) ∙ before q b))
    (cases_eq p n)

-- what is implied after r holds where all up to r does
pub holds_on : (ws ts ks : List ℕ) (n r : ℕ) → Sound ws ts ks n → ((p : ℕ) → r ≤ p → p < n → get_or ks p 0 ≡ 0 → ⊥) → (s : ℕ → Bool) → Model s ws → Holds s ts r → (m : ℕ) → m ≤ n → Holds s ts m
holds_on ws ts ks n r snd imp s md h zero l q b = absurd (omega arith)
holds_on ws ts ks n r snd imp s md h (suc m) l q b =
    let before : Holds s ts m = holds_on ws ts ks n r snd imp s md h m (omega arith) in
    ⊎_elim
    (λ e. ap (λ (i : ℕ). lit_truth s (get_or ts i 0)) e ∙ ⊎_elim (λ low. h m low) (λ high. snd m (omega arith) (imp m high (omega arith)) s md before) (cases_lt m r))
    (λ ne. before q (omega arith))
    (cases_eq q m)

module _ (ws vs ts ks : List ℕ) (n : ℕ) (was : IsTrail vs ts n) (snd : Sound ws ts ks n) (clash : Clash ws vs) where
  -- a clash with no decision left
  pub clash_ends : ((p : ℕ) → p < n → get_or ks p 0 ≡ 0 → ⊥) → Hopeless ws
  clash_ends imp s md = clash s (trail_agrees vs ts n was s (holds_on ws ts ks n 0 snd (λ p _ h. imp p h) s md (λ q b. absurd (omega arith)) n (omega arith))) md

  -- a clash turns the last decision
  pub clash_turns : (r y : ℕ) → r < n → ((p : ℕ) → r + 1 ≤ p → p < n → get_or ks p 0 ≡ 0 → ⊥) → get_or ts r 0 / 2 ≡ y / 2 → (get_or ts r 0 ≡ y → ⊥) → Entails ws ts r y
  clash_turns r y l imp half ne s md h =
      ⊎_elim
      (λ t. absurd (clash s (trail_agrees vs ts n was s (holds_on ws ts ks n (r + 1) snd imp s md (λ q b. ⊎_elim (λ e. ap (λ (i : ℕ). lit_truth s (get_or ts i 0)) e ∙ t) (λ nq. h q (omega arith)) (cases_eq q r)) n (omega arith))) md))
      (λ f. opposite_true s (get_or ts r 0) y half ne f)
      (cases_Bool (lit_truth s (get_or ts r 0)))

-- what was cut off is free
pub freed : (vs us ts : List ℕ) (n r : ℕ) → IsTrail vs ts n → IsTrail us ts r → length us ≡ length vs → r < n → get_or us (get_or ts r 0 / 2) 0 ≡ 0
freed vs us ts n r was now e l =
    let last = was.on r l in
    let fits : get_or ts r 0 / 2 < length us = omega (arith, last.fits) in
    ⊎_elim
    (λ z. z)
    (λ nz.
    let at = now.own (get_or ts r 0 / 2) fits nz in
    let same = was.apart at.at r (omega (arith, at.below)) l (ap (λ (y : ℕ). y / 2) at.is ∙ at.half) in
    absurd (omega (arith, at.below, same)))
    (cases_eq (get_or us (get_or ts r 0 / 2) 0) 0)

-- a literal is set: what `push` leaves
pub pushed_state : (ws vs us ts ts' ks ks' : List ℕ) (n x k : ℕ) → ((k ≡ 0 → ⊥) → Entails ws ts n x) → State ws vs ts ks n → IsTrail us ts' (n + 1) → ts' ≡ set ts n x → ks' ≡ set ks n k → length us ≡ length vs → n < length vs → State ws us ts' ks' (n + 1)
pushed_state ws vs us ts ts' ks ks' n x k new was now et ek e l =
    let lt = was.trail.room in
    let lk = was.room in
    record {
      trail = now;
      sound = subst (λ t. Sound ws t ks' (n + 1)) (sym et) (subst (λ q. Sound ws (set ts n x) q (n + 1)) (sym ek) (sound_push ws ts ks n x k (omega arith) (omega arith) new was.sound));
      within = λ j h. omega (arith, was.within j h);
      room = omega (arith, length-set ks n k, ap length ek);
    }

pub pushed_more : (ws vs us ts ks ks' : List ℕ) (n k : ℕ) → State ws vs ts ks n → ks' ≡ set ks n k → length us ≡ length vs → n < length vs → rank (length vs) (take n ks) < rank (length us) (take (n + 1) ks')
pushed_more ws vs us ts ks ks' n k was ek e l =
    let lk = was.room in
    rw (e, ek) (push_grows (length vs) ks n k (omega arith) l)

-- the last decision is turned: what `cut` and `push` leave
module _ (ws vs us ts ts' ks ks' : List ℕ) (n r y : ℕ) (was : State ws vs ts ks n) (clash : Clash ws vs) (in_use : r < n) (here : get_or ks r 0 ≡ 0) (after : (p : ℕ) → r + 1 ≤ p → p < n → get_or ks p 0 ≡ 0 → ⊥) where
  pub turned_state : y / 2 ≡ get_or ts r 0 / 2 → (y ≡ get_or ts r 0 → ⊥) → IsTrail us ts' (r + 1) → ts' ≡ set ts r y → ks' ≡ set ks r 1 → length us ≡ length vs → State ws us ts' ks' (r + 1)
  turned_state half other now et ek e =
      let lt = was.trail.room in
      let lk = was.room in
      let lc = was.trail.counted in
      record {
        trail = now;
        sound = subst (λ t. Sound ws t ks' (r + 1)) (sym et) (subst (λ q. Sound ws (set ts r y) q (r + 1)) (sym ek)
            (sound_push ws ts ks r y 1 (omega arith) (omega arith) (λ _. clash_turns ws vs ts ks n was.trail was.sound clash r y in_use after (sym half) (λ e. other (sym e))) (sound_less ws ts ks r n (omega arith) was.sound)));
        within = λ k h. omega (arith, was.within k h);
        room = omega (arith, length-set ks r 1, ap length ek);
      }

  pub turned_more : ks' ≡ set ks r 1 → length us ≡ length vs → rank (length vs) (take n ks) < rank (length us) (take (r + 1) ks')
  turned_more ek e =
      let lt = was.trail.room in
      let lk = was.room in
      let lc = was.trail.counted in
      rw (e, ek) (turn_grows (length vs) ks n r 1 in_use (omega arith) (omega arith) here (λ z. omega arith))

-- the last decision, of all kinds in use
pub last_here : (ks : List ℕ) (n r : ℕ) → n ≤ length ks → IsLast (take n ks) r → (r < n) × (get_or ks r 0 ≡ 0) × ((p : ℕ) → r + 1 ≤ p → p < n → get_or ks p 0 ≡ 0 → ⊥)
last_here ks n r h last =
    let long = length-take-le n ks h in
    let within : r < n = omega (arith, last.within) in
    (within, sym (get_or-take n ks r 0 within) ∙ last.here, λ p l b z. last.after p (omega arith) (omega arith) (get_or-take n ks p 0 b ∙ z))

pub none_here : (ks : List ℕ) (n : ℕ) → n ≤ length ks → NoDecision (take n ks) (length (take n ks)) → (p : ℕ) → p < n → get_or ks p 0 ≡ 0 → ⊥
none_here ks n h none p b z =
    let long = length-take-le n ks h in
    none.before p (omega arith) (get_or-take n ks p 0 b ∙ z)

-- how many literals there are at most
pub few : (ws vs ts ks : List ℕ) (n : ℕ) → State ws vs ts ks n → (n ≤ length ks) × (n ≤ length ts)
few ws vs ts ks n st = (omega (arith, st.trail.counted, st.room), omega (arith, st.trail.counted, st.trail.room))

pub forced_entails : (ws vs ts : List ℕ) (n x : ℕ) → IsTrail vs ts n → Forced ws vs x → Entails ws ts n x
forced_entails ws vs ts n x was f s md h = f.holds s (trail_agrees vs ts n was s h) md

-- with no literal set a solver begins
pub state_start : (ws vs ts ks : List ℕ) → ((k : ℕ) → k < length vs → get_or vs k 0 ≡ 0) → Within ws (length vs) → length vs ≤ length ts → length vs ≤ length ks → State ws vs ts ks 0
state_start ws vs ts ks free within lt lk = record {
  trail = empty_trail vs ts free lt;
  sound = λ p h. absurd (omega arith);
  within = within;
  room = lk;
}

-- the measure falls
pub falls : (t t' : Trailed) → Further t t' → 3 ^ length t'.values - rank_of t' < 3 ^ length t.values - rank_of t
falls t t' step =
    rw step.long (omega (arith, step.more, step.long, rank_below (length t.values) t'.kinds, ap (λ (m : ℕ). rank m t'.kinds) step.long))

-- steps on, one after another
pub went_none : (t : Trailed) → Went t t
went_none t = record { clauses = refl; long = refl; more = omega arith }

pub went_on : (t t' t'' : Trailed) → Went t t' → Went t' t'' → Went t t''
went_on t t' t'' w v = record { clauses = v.clauses ∙ w.clauses; long = v.long ∙ w.long; more = omega (arith, w.more, v.more) }
