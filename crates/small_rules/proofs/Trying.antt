-- What trying some values of a rule's names after the other says of the rule.
use Rattle.std.proofs.Common.{◌≡◌, ℕ, ◌<◌, Bool, true, false, List, [], ◌∷◌, length, get_or, sym, refl, ◌∙◌, subst, inl, inr, arith}
use Rattle.terms.specs.Items.{nodes_of, places_of}
use Rattle.std.proofs.lemmas.Bool.{cases_eq}
use Rattle.words.specs.Words.{bits}
use Rattle.terms.specs.declared.rule.RuleNodes.{RuleNodes}
use Rattle.terms.specs.Represents.{Represents}
use Rattle.terms.specs.Terms.{Rule, Within, Holds, Fails, eval}
use Rattle.terms.specs.declared.assignment.Assignment.{Assignment}
use Rattle.terms.proofs.Roots.{from_root, to_root}
use Rattle.small_rules.specs.Odometer.{Turned, Advanced}
use Rattle.small_rules.specs.Marks.{Marked}
use Rattle.small_rules.proofs.Stages.{Agree, Before, Here, before_next, before_zero, all_said}
use Rattle.small_rules.proofs.Marking.{Same, eval_same, met_same}

-- the rule fails at no values before these: those of con turn after those of any
pub record Tried (x : RuleNodes) (anys cons : List Bool) (v : Assignment) : Type 0 where
  pub width : v.width ≡ x.width
  pub con_before : (r : Rule) → Represents x r → Before (λ c. (a : ℕ → ℕ) → Within (bits v.width) a → Fails r a c → ⊥) cons (bits v.width) v.con
  pub any_before : (r : Rule) → Represents x r → (c : ℕ → ℕ) → Within (bits v.width) c → Agree cons v.con 0 c → Before (λ a. Fails r a c → ⊥) anys (bits v.width) v.any

-- before the first values there are none
pub tried_none : (x : RuleNodes) (anys cons : List Bool) (v : Assignment) → v.width ≡ x.width → ((j : ℕ) → j < 16 → get_or v.any j 0 ≡ 0) → ((j : ℕ) → j < 16 → get_or v.con j 0 ≡ 0) → Tried x anys cons v
tried_none x anys cons v same za zc = record {
  width = same;
  con_before = λ r rep. before_zero (λ c. (a : ℕ → ℕ) → Within (bits v.width) a → Fails r a c → ⊥) cons (bits v.width) v.con (λ j lt u. zc j lt);
  any_before = λ r rep c wi same. before_zero (λ a. Fails r a c → ⊥) anys (bits v.width) v.any (λ j lt u. za j lt);
}

-- the rule doesn't fail at these values
abbrev pub Stood : RuleNodes → Assignment → Type 0
Stood x v = (r : Rule) → Represents x r → Fails r (λ k. get_or v.any k 0) (λ k. get_or v.con k 0) → ⊥

module _ (x : RuleNodes) (anys cons : List Bool) (v : Assignment) (m : Marked (nodes_of x.nodes) (length (nodes_of x.nodes)) anys cons) (t : Tried x anys cons v) (stood : Stood x v) where
  -- nor at others that are the same for the names in the rule
  stood_same : (r : Rule) → Represents x r → (a c : ℕ → ℕ) → Agree anys v.any 0 a → Agree cons v.con 0 c → Fails r a c → ⊥
  stood_same r rep a c p q f =
      let w = bits r.width in
      let ns = (nodes_of x.nodes) in
      let ks = (places_of x.roots) in
      let b : ℕ → ℕ = λ k. get_or v.any k 0 in
      let d : ℕ → ℕ = λ k. get_or v.con k 0 in
      let any_same : Same anys b a = λ j lt u. sym (p j (omega arith) lt u) in
      let con_same : Same cons d c = λ j lt u. sym (q j (omega arith) lt u) in
      let there = from_root x r ks rep refl in
      let back = to_root x r ks rep refl in
      let from = eval_same w ns (length ns) anys cons b a d c m any_same con_same _ r.from there.0 there.1 in
      let to = eval_same w ns (length ns) anys cons b a d c m any_same con_same _ r.to back.0 back.1 in
      stood r rep (record {
        a_in = subst (λ u. Within (bits u) b) (t.width ∙ rep.width) v.any_words;
        c_in = subst (λ u. Within (bits u) d) (t.width ∙ rep.width) v.con_words;
        met = met_same w ns anys cons b a d c m any_same con_same ks r.needs (r.from ∷ r.to ∷ []) rep.rooted f.met;
        differ = λ e. f.differ (sym from ∙ e ∙ to);
      })

  -- where the values of the names any were the last ones, all of them were tried
  any_done : (any' : List ℕ) (r : Rule) → Represents x r → Turned false anys (bits v.width) v.any any' → Here (λ c. (a : ℕ → ℕ) → Within (bits v.width) a → Fails r a c → ⊥) cons (bits v.width) v.con
  any_done any' r rep over c wi same a =
      all_said (λ a. Fails r a c → ⊥) anys (bits v.width) v.any (t.any_before r rep c wi same) (λ a wa p. stood_same r rep a c p same) (λ j lt u. (over j lt u).0) a

  -- the next values
  pub tried_next : (u : Assignment) → u.width ≡ v.width → Advanced true anys cons v u → Tried x anys cons u
  tried_next u same (inl moved) = record {
    width = same ∙ t.width;
    con_before = λ r rep. rw (same, moved.1) (t.con_before r rep);
    any_before = λ r rep. rw (same, moved.1) (λ c wi agree. before_next (λ a. Fails r a c → ⊥) anys (bits v.width) v.any u.any (t.any_before r rep c wi agree) (λ a wa p. stood_same r rep a c p agree) moved.0);
  }
  tried_next u same (inr moved) = record {
    width = same ∙ t.width;
    con_before = λ r rep. rw same (before_next (λ c. (a : ℕ → ℕ) → Within (bits v.width) a → Fails r a c → ⊥) cons (bits v.width) v.con u.con (t.con_before r rep) (any_done u.any r rep moved.0) moved.1);
    any_before = λ r rep c wi agree. before_zero (λ a. Fails r a c → ⊥) anys (bits u.width) u.any (λ j lt k. (moved.0 j lt k).1);
  }

  -- after the last values the rule holds
  pub tried_all : (u : Assignment) → Advanced false anys cons v u → (r : Rule) → Represents x r → Holds r
  tried_all u over r rep a c wa wc met =
      let back : (f : ℕ → ℕ) → Within (bits r.width) f → Within (bits v.width) f = λ f wi. subst (λ v. Within (bits v) f) (sym (t.width ∙ rep.width)) wi in
      let none = all_said (λ c. (a : ℕ → ℕ) → Within (bits v.width) a → Fails r a c → ⊥) cons (bits v.width) v.con (t.con_before r rep) (any_done u.any r rep over.0) (λ j lt u. (over.1 j lt u).0) c (back c wc) a (back a wa) in
      elim (cases_eq (eval (bits r.width) a c r.from) (eval (bits r.width) a c r.to)) [
        | inl e ↦ e
        | inr ne ↦ absurd (none (record { a_in = wa; c_in = wc; met = met; differ = ne }))
      ]
