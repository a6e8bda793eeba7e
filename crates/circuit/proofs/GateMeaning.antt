-- Each gate makes a literal that carries its operation, whether that is a new variable or a literal in place of one.
use Rattle.std.proofs.Common.{Option, ◌≡◌, ℕ, suc, Bool, true, false, cond, not, ◌&&◌, ◌||◌, List, sym, refl, ap, ◌∙◌, ap₂, arith}
use mathlib.Core.Bool.{and-true, and_self, and-false, not-and_self}
use Rattle.std.proofs.lemmas.Bool.{eqb-true, and_parts}
use Rattle.words.specs.Words.{xor}
use Rattle.clauses.specs.declared.literal.Literal.{Literal}
use Rattle.clauses.specs.Flat.{lit_truth, Model}
use Rattle.circuit.specs.declared.gates.Folded.{Folded}
use Rattle.circuit.specs.Bits.{maj}
use Rattle.clauses.specs.Literals.{negated}
use Rattle.circuit.specs.Nets.{Net, high, low, same, fresh}
use Rattle.circuit.specs.Gates.{and_rows, xor_rows, majority_rows, choice_rows, gate, wire_or, smaller_or, and_net, or_net, xor_net, majority_net, choice_net}
use Rattle.circuit.specs.Meaning.{truth_of, Below, Whole, Carries, Makes}
use Rattle.circuit.proofs.Models.{every, ClausesBelow, truth_negated, below_negated, below_lift, truth_agree}
use Rattle.circuit.proofs.Nets.{carries_high, carries_low, carries_negated, carries_as, makes_as, makes_none, both_same, fresh_below, gate_makes}

-- two operations on bits are the same if they are at all bits
abbrev both : (Bool → Bool) → Bool
both p = p true && p false

abbrev alike : (f g : Bool → Bool → Bool → Bool → Bool) → Bool
alike f g = both (λ o. both (λ a. both (λ b. both (λ c. not (xor (f o a b c) (g o a b c))))))

both_at : (p : Bool → Bool) → both p ≡ true → (b : Bool) → p b ≡ true
both_at p h true = (and_parts _ _ h).0
both_at p h false = (and_parts _ _ h).1

at_all : (f g : Bool → Bool → Bool → Bool → Bool) → alike f g ≡ true → (o a b c : Bool) → f o a b c ≡ g o a b c
at_all f g h o a b c =
    let p : Bool → Bool → Bool → Bool → Bool = λ o a b c. not (xor (f o a b c) (g o a b c)) in
    both_same _ _ (both_at (p o a b) (both_at (λ b. both (p o a b)) (both_at (λ a. both (λ b. both (p o a b))) (both_at (λ o. both (λ a. both (λ b. both (p o a b)))) h o) a) b) c)

-- a gate's clauses say that its output o is the operation on its inputs
module _ (s : ℕ → Bool) (o a b : Literal) where
  and_rows_lem : every s (and_rows o a b) ≡ not (xor (truth_of s o) (truth_of s a && truth_of s b))
  and_rows_lem =
      rw (truth_negated s o, truth_negated s a, truth_negated s b)
      (at_all (λ o a b c. (not o || (a || false)) && ((not o || (b || false)) && ((o || (not a || (not b || false))) && true))) (λ o a b c. not (xor o (a && b)))
      refl (truth_of s o) (truth_of s a) (truth_of s b) true)

  xor_rows_lem : every s (xor_rows o a b) ≡ not (xor (truth_of s o) (xor (truth_of s a) (truth_of s b)))
  xor_rows_lem =
      rw (truth_negated s o, truth_negated s a, truth_negated s b)
      (at_all (λ o a b c. (not o || (a || (b || false))) && ((not o || (not a || (not b || false))) && ((o || (not a || (b || false))) && ((o || (a || (not b || false))) && true)))) (λ o a b c. not (xor o (xor a b)))
      refl (truth_of s o) (truth_of s a) (truth_of s b) true)

  module _ (c : Literal) where
    majority_rows_lem : every s (majority_rows o a b c) ≡ not (xor (truth_of s o) (maj (truth_of s a) (truth_of s b) (truth_of s c)))
    majority_rows_lem =
        rw (truth_negated s o, truth_negated s a, truth_negated s b, truth_negated s c)
        (at_all (λ o a b c. (not o || (a || (b || false))) && ((not o || (a || (c || false))) && ((not o || (b || (c || false)))
        && ((o || (not a || (not b || false))) && ((o || (not a || (not c || false))) && ((o || (not b || (not c || false))) && true)))))) (λ o a b c. not (xor o (maj a b c)))
        refl (truth_of s o) (truth_of s a) (truth_of s b) (truth_of s c))

    choice_rows_lem : every s (choice_rows o a b c) ≡ not (xor (truth_of s o) (cond (truth_of s a) (truth_of s b) (truth_of s c)))
    choice_rows_lem =
        rw (truth_negated s o, truth_negated s a, truth_negated s b, truth_negated s c)
        (at_all (λ o a b c. (not a || (not o || (b || false))) && ((not a || (o || (not b || false))) && ((a || (not o || (c || false))) && ((a || (o || (not c || false))) && true)))) (λ o a b c. not (xor o (cond a b c)))
        refl (truth_of s o) (truth_of s a) (truth_of s b) (truth_of s c))

-- the test of a fold
by_test : {A : Type 0} (P : A → Type 0) (t : Bool) {x y : A} → (t ≡ true → P x) → P y → P (cond t x y)
by_test P true p q = p refl
by_test P false p q = q

same_carries : {n : Net} {a b : Literal} {f g : (ℕ → Bool) → Bool} → Carries n a f → Carries n b g → same a b ≡ true → (s : ℕ → Bool) → Model s n.out → f s ≡ g s
same_carries ca cb e s h = sym (ca.means s h) ∙ (ap (lit_truth s) (eqb-true _ _ e) ∙ cb.means s h)

module _ {n : Net} (w : Whole n) where
  wire : {l : Literal} {f g : (ℕ → Bool) → Bool} → Carries n l f → ((s : ℕ → Bool) → Model s n.out → f s ≡ g s) → Makes n (n, l) g
  wire c e = makes_as w e (makes_none c)

  module _ {a b c : Literal} {f g h : (ℕ → Bool) → Bool} (ca : Carries n a f) (cb : Carries n b g) (cc : Carries n c h) where
    gate_of : (rows : Literal → List (List Literal)) (F : Bool → Bool → Bool → Bool) → ClausesBelow (suc n.next) (rows (fresh n))
        → ((s : ℕ → Bool) → every s (rows (fresh n)) ≡ not (xor (truth_of s (fresh n)) (F (truth_of s a) (truth_of s b) (truth_of s c))))
        → Makes n (gate rows n) (λ s. F (f s) (g s) (h s))
    gate_of rows F below table =
        makes_as w (λ s k. ap₂ (λ x y. F x y (truth_of s c)) (ca.means s k) (cb.means s k) ∙ ap (F (f s) (g s)) (cc.means s k))
        (gate_makes rows (λ s. F (truth_of s a) (truth_of s b) (truth_of s c)) w
        (λ s t e.
        ap₂ (λ x y. F x y (truth_of s c)) (truth_agree n.next s t e a ca.below) (truth_agree n.next s t e b cb.below)
        ∙ ap (F (truth_of t a) (truth_of t b)) (truth_agree n.next s t e c cc.below))
        below table)

  lift : {l : Literal} {f : (ℕ → Bool) → Bool} → Carries n l f → Below (suc n.next) l.0
  lift {l} c = below_lift n.next (suc n.next) l.0 (omega arith) c.below

  module _ {a b : Literal} {f g : (ℕ → Bool) → Bool} (ca : Carries n a f) (cb : Carries n b g) where
    and_gate : Makes n (gate (λ o. and_rows o a b) n) (λ s. f s && g s)
    and_gate =
        let o = fresh_below n in
        let o' = below_negated _ (fresh n) o in
        let na = lift (carries_negated ca) in
        let nb = lift (carries_negated cb) in
        gate_of ca cb cb (λ o. and_rows o a b) (λ x y z. x && y)
        ((o', (lift ca, tt)), ((o', (lift cb, tt)), ((o, (na, (nb, tt))), tt)))
        (λ s. and_rows_lem s (fresh n) a b)

    xor_gate : Makes n (gate (λ o. xor_rows o a b) n) (λ s. xor (f s) (g s))
    xor_gate =
        let o = fresh_below n in
        let o' = below_negated _ (fresh n) o in
        let na = lift (carries_negated ca) in
        let nb = lift (carries_negated cb) in
        gate_of ca cb cb (λ o. xor_rows o a b) (λ x y z. xor x y)
        ((o', (lift ca, (lift cb, tt))), ((o', (na, (nb, tt))), ((o, (na, (lift cb, tt))), ((o, (lift ca, (nb, tt))), tt))))
        (λ s. xor_rows_lem s (fresh n) a b)

    pub and_makes : Makes n (and_net a b n) (λ s. f s && g s)
    and_makes =
        let P : Option Literal → Type 0 = λ k. Makes n (wire_or k (gate (λ o. and_rows o a b) n) n) (λ s. f s && g s) in
        by_test P (same a low) (λ e. wire (carries_low w) (λ s k. rw (same_carries ca (carries_low w) e s k)))
        (by_test P (same b low) (λ e. wire (carries_low w) (λ s k. rw (same_carries cb (carries_low w) e s k) (sym (and-false (f s)))))
        (by_test P (same a high) (λ e. wire cb (λ s k. rw (same_carries ca (carries_high w) e s k)))
        (by_test P (same b high) (λ e. wire ca (λ s k. rw (same_carries cb (carries_high w) e s k) (sym (and-true (f s)))))
        (by_test P (same a b) (λ e. wire ca (λ s k. rw (same_carries ca cb e s k) (sym (and_self (g s)))))
        (by_test P (same a (negated b)) (λ e. wire (carries_low w) (λ s k. rw (same_carries ca (carries_negated cb) e s k) (sym (not-and_self (g s)))))
        and_gate)))))

    pub xor_makes : Makes n (xor_net a b n) (λ s. xor (f s) (g s))
    xor_makes =
        let P : Option Literal → Type 0 = λ k. Makes n (wire_or k (gate (λ o. xor_rows o a b) n) n) (λ s. xor (f s) (g s)) in
        by_test P (same a low) (λ e. wire cb (λ s k. rw (same_carries ca (carries_low w) e s k)))
        (by_test P (same b low) (λ e. wire ca (λ s k. rw (same_carries cb (carries_low w) e s k) (at_all (λ x _ _ _. x) (λ x _ _ _. xor x false) refl (f s) true true true)))
        (by_test P (same a high) (λ e. wire (carries_negated cb) (λ s k. rw (same_carries ca (carries_high w) e s k)))
        (by_test P (same b high) (λ e. wire (carries_negated ca) (λ s k. rw (same_carries cb (carries_high w) e s k) (at_all (λ x _ _ _. not x) (λ x _ _ _. xor x true) refl (f s) true true true)))
        (by_test P (same a b) (λ e. wire (carries_low w) (λ s k. rw (same_carries ca cb e s k) (at_all (λ _ _ _ _. false) (λ x _ _ _. xor x x) refl (g s) true true true)))
        (by_test P (same a (negated b)) (λ e. wire (carries_high w) (λ s k. rw (same_carries ca (carries_negated cb) e s k) (at_all (λ _ _ _ _. true) (λ x _ _ _. xor (not x) x) refl (g s) true true true)))
        xor_gate)))))

  pub or_makes : {a b : Literal} {f g : (ℕ → Bool) → Bool} → Carries n a f → Carries n b g → Makes n (or_net a b n) (λ s. f s || g s)
  or_makes {f = f} {g = g} ca cb =
      let m = and_makes (carries_negated ca) (carries_negated cb) in
      record {
        defines = m.defines;
        carries = carries_as (λ s k. at_all (λ x y _ _. not (not x && not y)) (λ x y _ _. x || y) refl (f s) (g s) true true) (carries_negated m.carries);
      }

  module _ {a b c : Literal} {f g h : (ℕ → Bool) → Bool} (ca : Carries n a f) (cb : Carries n b g) (cc : Carries n c h) where
    majority_gate : Makes n (gate (λ o. majority_rows o a b c) n) (λ s. maj (f s) (g s) (h s))
    majority_gate =
        let o = fresh_below n in
        let o' = below_negated _ (fresh n) o in
        let na = lift (carries_negated ca) in
        let nb = lift (carries_negated cb) in
        let nc = lift (carries_negated cc) in
        gate_of ca cb cc (λ o. majority_rows o a b c) maj
        ((o', (lift ca, (lift cb, tt))), ((o', (lift ca, (lift cc, tt))), ((o', (lift cb, (lift cc, tt))), ((o, (na, (nb, tt))), ((o, (na, (nc, tt))), ((o, (nb, (nc, tt))), tt))))))
        (λ s. majority_rows_lem s (fresh n) a b c)

    choice_gate : Makes n (gate (λ o. choice_rows o a b c) n) (λ s. cond (f s) (g s) (h s))
    choice_gate =
        let o = fresh_below n in
        let o' = below_negated _ (fresh n) o in
        let na = lift (carries_negated ca) in
        let nb = lift (carries_negated cb) in
        let nc = lift (carries_negated cc) in
        gate_of ca cb cc (λ o. choice_rows o a b c) cond
        ((na, (o', (lift cb, tt))), ((na, (o, (nb, tt))), ((lift ca, (o', (lift cc, tt))), ((lift ca, (o, (nc, tt))), tt))))
        (λ s. choice_rows_lem s (fresh n) a b c)

    pub majority_makes : Makes n (majority_net a b c n) (λ s. maj (f s) (g s) (h s))
    majority_makes =
        let P : Option Folded → Type 0 = λ k. Makes n (smaller_or k (gate (λ o. majority_rows o a b c) n) n) (λ s. maj (f s) (g s) (h s)) in
        by_test P (same a low) (λ e. makes_as w (λ s k. rw (same_carries ca (carries_low w) e s k)) (and_makes cb cc))
        (by_test P (same a high) (λ e. makes_as w (λ s k. rw (same_carries ca (carries_high w) e s k)) (or_makes cb cc))
        (by_test P (same b low) (λ e. makes_as w (λ s k. rw (same_carries cb (carries_low w) e s k) (at_all (λ x y _ _. x && y) (λ x y _ _. maj x false y) refl (f s) (h s) true true)) (and_makes ca cc))
        (by_test P (same b high) (λ e. makes_as w (λ s k. rw (same_carries cb (carries_high w) e s k) (at_all (λ x y _ _. x || y) (λ x y _ _. maj x true y) refl (f s) (h s) true true)) (or_makes ca cc))
        (by_test P (same c low) (λ e. makes_as w (λ s k. rw (same_carries cc (carries_low w) e s k) (at_all (λ x y _ _. x && y) (λ x y _ _. maj x y false) refl (f s) (g s) true true)) (and_makes ca cb))
        (by_test P (same c high) (λ e. makes_as w (λ s k. rw (same_carries cc (carries_high w) e s k) (at_all (λ x y _ _. x || y) (λ x y _ _. maj x y true) refl (f s) (g s) true true)) (or_makes ca cb))
        (by_test P (same a b) (λ e. wire ca (λ s k. rw (same_carries ca cb e s k) (at_all (λ x y _ _. x) (λ x y _ _. maj x x y) refl (g s) (h s) true true)))
        (by_test P (same a (negated b)) (λ e. wire cc (λ s k. rw (same_carries ca (carries_negated cb) e s k) (at_all (λ x y _ _. y) (λ x y _ _. maj (not x) x y) refl (g s) (h s) true true)))
        majority_gate)))))))

    pub choice_makes : Makes n (choice_net a b c n) (λ s. cond (f s) (g s) (h s))
    choice_makes =
        let P : Option Folded → Type 0 = λ k. Makes n (smaller_or k (gate (λ o. choice_rows o a b c) n) n) (λ s. cond (f s) (g s) (h s)) in
        by_test P (same a high) (λ e. wire cb (λ s k. rw (same_carries ca (carries_high w) e s k)))
        (by_test P (same a low) (λ e. wire cc (λ s k. rw (same_carries ca (carries_low w) e s k)))
        (by_test P (same b c) (λ e. wire cb (λ s k. rw (same_carries cb cc e s k) (at_all (λ x y _ _. y) (λ x y _ _. cond x y y) refl (f s) (h s) true true)))
        (by_test P (same b high) (λ e. makes_as w (λ s k. rw (same_carries cb (carries_high w) e s k) (at_all (λ x y _ _. x || y) (λ x y _ _. cond x true y) refl (f s) (h s) true true)) (or_makes ca cc))
        (by_test P (same b low) (λ e. makes_as w (λ s k. rw (same_carries cb (carries_low w) e s k) (at_all (λ x y _ _. not x && y) (λ x y _ _. cond x false y) refl (f s) (h s) true true)) (and_makes (carries_negated ca) cc))
        (by_test P (same c high) (λ e. makes_as w (λ s k. rw (same_carries cc (carries_high w) e s k) (at_all (λ x y _ _. not x || y) (λ x y _ _. cond x y true) refl (f s) (g s) true true)) (or_makes (carries_negated ca) cb))
        (by_test P (same c low) (λ e. makes_as w (λ s k. rw (same_carries cc (carries_low w) e s k) (at_all (λ x y _ _. x && y) (λ x y _ _. cond x y false) refl (f s) (g s) true true)) (and_makes ca cb))
        choice_gate))))))
