-- Clauses that hold of words, with no new variable: each list of them says exactly one test on bits.
use Rattle.std.proofs.Common.{◌≡◌, ℕ, Bool, true, false, not, ◌&&◌, ◌||◌, List, [], ◌∷◌, map, sym, refl, ap, ◌∙◌, ap₂, arith}
use mathlib.Core.Bool.{or-false, or-true, and_assoc, or-and_distrib_left}
use Rattle.std.proofs.lemmas.Bool.{and_parts, and_from}
use Rattle.words.specs.Words.{xor}
use Rattle.clauses.specs.declared.literal.Literal.{Literal}
use Rattle.clauses.specs.Flat.{Model}
use Rattle.circuit.specs.Bits.{not_bits, equal_bits, lower, top, none_bits, apart_bits, all_bits}
use Rattle.clauses.specs.Literals.{negated}
use Rattle.circuit.specs.Nets.{Net, said}
use Rattle.circuit.specs.Circuits.{denied_net, none_net, apart_net, equated_net, unless_net}
use Rattle.circuit.specs.Meaning.{truth_of, Below, WordBelow, Whole, Carries, Spells}
use Rattle.circuit.proofs.Models.{some, truth_negated, below_negated, word_lift, said_parts, said_both, said_well, said_below}
use Rattle.circuit.proofs.Nets.{carries_itself, spells_itself}
use Rattle.circuit.proofs.WireMeaning.{spells_lower, carries_top}

-- m is n with clauses that hold exactly where the test P does
pub record Says (n m : Net) (P : (ℕ → Bool) → Bool) : Type 0 where
  pub next : m.next ≡ n.next
  pub whole : Whole m
  pub parts : (s : ℕ → Bool) → Model s m.out → Model s n.out × (P s ≡ true)
  pub both : (s : ℕ → Bool) → Model s n.out → P s ≡ true → Model s m.out

pub says_as : {n m : Net} {P Q : (ℕ → Bool) → Bool} → ((s : ℕ → Bool) → Model s n.out → P s ≡ Q s) → Says n m P → Says n m Q
says_as e c = record {
  next = c.next;
  whole = c.whole;
  parts = λ s h. let r = c.parts s h in (r.0, sym (e s r.0) ∙ r.1);
  both = λ s h q. c.both s h (e s h ∙ q);
}

pub says_then : {n m p : Net} {P Q : (ℕ → Bool) → Bool} → Says n m P → Says m p Q → Says n p (λ s. P s && Q s)
says_then {P = P} {Q = Q} c d = record {
  next = d.next ∙ c.next;
  whole = d.whole;
  parts = λ s h. let r = d.parts s h in let q = c.parts s r.0 in (q.0, and_from (P s) (Q s) q.1 r.1);
  both = λ s h t. let r = and_parts (P s) (Q s) t in d.both s (c.both s h r.0) r.1;
}

says_none : {n : Net} → Whole n → Says n n (λ s. true)
says_none w = record { next = refl; whole = w; parts = λ s h. (h, refl); both = λ s h t. h }

says_one : {n : Net} (c : List Literal) → Whole n → WordBelow n.next c → Says n (said c n) (λ s. some s c)
says_one {n} c w b = record {
  next = refl;
  whole = record {
    ends = said_well n.next c n w.ends b;
    below = said_below n.next c n w.below b;
    constant = λ s h. w.constant s (said_parts n.next s c n w.ends b h).0;
    begun = w.begun;
  };
  parts = λ s h. said_parts n.next s c n w.ends b h;
  both = λ s h t. said_both n.next s c n w.ends b h t;
}

pub below_said : {n m : Net} {P : (ℕ → Bool) → Bool} → Says n m P → (ls : List Literal) → WordBelow n.next ls → WordBelow m.next ls
below_said {n} {m} c ls b = word_lift n.next m.next (omega (arith, c.next)) ls b

module _ {n : Net} (w : Whole n) where
  -- one literal is false; not both, and one of two
  pub says_not : {l : Literal} → Below n.next l.0 → Says n (said (negated l ∷ []) n) (λ s. not (truth_of s l))
  says_not {l} b = says_as (λ s h. or-false _ ∙ truth_negated s l) (says_one (negated l ∷ []) w (below_negated _ l b, tt))

  says_apart : {a b : Literal} → Below n.next a.0 → Below n.next b.0 → Says n (said (negated a ∷ negated b ∷ []) n) (λ s. not (truth_of s a && truth_of s b))
  says_apart {a} {b} ba bb =
      says_as (λ s h. rw (truth_negated s a, truth_negated s b) (nand (truth_of s a) (truth_of s b)))
      (says_one (negated a ∷ negated b ∷ []) w (below_negated _ a ba, (below_negated _ b bb, tt)))
    where
      nand : (x y : Bool) → (not x || (not y || false)) ≡ not (x && y)
      nand true y = or-false (not y)
      nand false y = refl

  pub says_either : {a b : Literal} → Below n.next a.0 → Below n.next b.0 → Says n (said (a ∷ b ∷ []) n) (λ s. truth_of s a || truth_of s b)
  says_either {a} {b} ba bb = says_as (λ s h. ap (λ t. truth_of s a || t) (or-false (truth_of s b))) (says_one (a ∷ b ∷ []) w (ba, (bb, tt)))

pub denied_says : (ls : List Literal) {n : Net} → Whole n → WordBelow n.next ls → Says n (denied_net ls n) (λ s. all_bits (not_bits (map (truth_of s) ls)))
denied_says [] w b = says_none w
denied_says (l ∷ ls) w b = let c = says_not w b.0 in says_then c (denied_says ls c.whole (below_said c ls b.1))

none_says : (ls : List Literal) {n : Net} {l : Literal} → Whole n → Below n.next l.0 → WordBelow n.next ls → Says n (none_net l ls n) (λ s. none_bits (truth_of s l) (map (truth_of s) ls))
none_says [] w a b = says_none w
none_says (x ∷ ls) {l = l} w a b = let c = says_apart w b.0 a in says_then c (none_says ls c.whole (below_said c (l ∷ []) (a, tt)).0 (below_said c ls b.1))

pub apart_says : (xs ys : List Literal) {n : Net} → Whole n → WordBelow n.next xs → WordBelow n.next ys → Says n (apart_net xs ys n) (λ s. apart_bits (map (truth_of s) xs) (map (truth_of s) ys))
apart_says [] ys w bx by = says_none w
apart_says (x ∷ xs) [] w bx by = says_none w
apart_says (x ∷ xs) (y ∷ ys) {n} w bx by =
    let t : Carries n (top y ys) (λ s. top (truth_of s y) (map (truth_of s) ys)) = carries_top (carries_itself by.0) (spells_itself by.1) in
    let l : Spells n (lower y ys) (λ s. lower (truth_of s y) (map (truth_of s) ys)) = spells_lower (carries_itself by.0) (spells_itself by.1) in
    let c = none_says xs w t.below bx.1 in
    says_as (λ s h. ap₂ (λ a b. none_bits a (map (truth_of s) xs) && apart_bits (map (truth_of s) xs) b) (t.means s h) (l.means s h))
    (says_then c (apart_says xs (lower y ys) c.whole (below_said c xs bx.1) (below_said c (lower y ys) l.below)))

equal_later : (xs ys : List Bool) (c : Bool) → equal_bits xs ys c ≡ (c && equal_bits xs ys true)
equal_later [] ys true = refl
equal_later [] ys false = refl
equal_later (x ∷ xs) [] true = refl
equal_later (x ∷ xs) [] false = refl
equal_later (x ∷ xs) (y ∷ ys) c =
    equal_later xs ys (c && not (xor x y)) ∙ (and_assoc c (not (xor x y)) (equal_bits xs ys true) ∙ ap (λ t. c && t) (sym (equal_later xs ys (not (xor x y)))))

pub equated_says : (xs ys : List Literal) {n : Net} → Whole n → WordBelow n.next xs → WordBelow n.next ys → Says n (equated_net xs ys n) (λ s. equal_bits (map (truth_of s) xs) (map (truth_of s) ys) true)
equated_says [] ys w bx by = says_none w
equated_says (x ∷ xs) [] w bx by = says_none w
equated_says (x ∷ xs) (y ∷ ys) w bx by =
    let a = says_either w (below_negated _ x bx.0) by.0 in
    let b = says_either a.whole (below_said a (x ∷ []) (bx.0, tt)).0 (below_negated _ y (below_said a (y ∷ []) (by.0, tt)).0) in
    let c = says_as (λ s h. rw (truth_negated s x, truth_negated s y) (same (truth_of s x) (truth_of s y))) (says_then a b) in
    says_as (λ s h. sym (equal_later (map (truth_of s) xs) (map (truth_of s) ys) (not (xor (truth_of s x) (truth_of s y)))))
    (says_then c (equated_says xs ys c.whole (below_said c xs bx.1) (below_said c ys by.1)))
  where
    same : (a b : Bool) → ((not a || b) && (a || not b)) ≡ not (xor a b)
    same true true = refl
    same true false = refl
    same false b = refl

pub unless_says : (ls : List Literal) {n : Net} {a : Literal} → Whole n → Below n.next a.0 → WordBelow n.next ls → Says n (unless_net a ls n) (λ s. truth_of s a || all_bits (map (truth_of s) ls))
unless_says [] {a = a} w b bl = says_as (λ s h. sym (or-true (truth_of s a))) (says_none w)
unless_says (l ∷ ls) {a = a} w b bl =
    let c = says_either w b bl.0 in
    says_as (λ s h. sym (or-and_distrib_left (truth_of s a) (truth_of s l) (all_bits (map (truth_of s) ls))))
    (says_then c (unless_says ls c.whole (below_said c (a ∷ []) (b, tt)).0 (below_said c ls bl.1)))
