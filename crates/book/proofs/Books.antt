-- A text is the writing of one rule and of one book at most.
use Rattle.std.proofs.Common.{◌≡◌, ℕ, ◌+◌, ◌^◌, ◌<◌, ◌≤◌, true, eqb, List, [], ◌∷◌, ◌++◌, length, sym, refl, ap, ◌∙◌, subst, append_assoc, append-nil, arith}
use Rattle.std.proofs.lemmas.List.{length-append, same_from_push}
use Rattle.std.proofs.lemmas.Bool.{and_parts, leb-true}
use Rattle.words.specs.declared.Width.{Width}
use Rattle.words.specs.declared.Width.TheVariants.{W8, W16, W32, W64}
use Rattle.words.specs.Words.{bits, pick}
use Rattle.terms.specs.Terms.{Rule, terms, ops_all}
use Rattle.terms.specs.Limits.{ok_terms, ok_rule}
use Rattle.book.specs.Text.{write_rule, write_book, ok_rules, OneBook}
use Rattle.book.proofs.Unique.{first_same, rest_same, never_empty, decimal_same, one_list, Same}

-- ---- one rule

-- a width by its bits
abbrev width_of : ℕ → Width
width_of n = pick (eqb n 8) W8 (pick (eqb n 16) W16 (pick (eqb n 32) W32 W64))

width_of_lem : (v : Width) → width_of (bits v) ≡ v
width_of_lem W8 = refl
width_of_lem W16 = refl
width_of_lem W32 = refl
width_of_lem W64 = refl

pub width_same : (v u : Width) → bits v ≡ bits u → v ≡ u
width_same v u e = sym (width_of_lem v) ∙ ap width_of e ∙ width_of_lem u

pub bits_short : (v : Width) → bits v < 10 ^ 20
bits_short W8 = omega arith
bits_short W16 = omega arith
bits_short W32 = omega arith
bits_short W64 = omega arith

-- what keeps the limits of a rule keeps each of them
pub record Limits (r : Rule) : Type 0 where
  pub few : length r.needs ≤ 4
  pub small : ops_all (terms r) ≤ 32
  pub ok : ok_terms (bits r.width) (terms r) ≡ true

pub limits : (r : Rule) → ok_rule r ≡ true → Limits r
limits r h =
    let p = and_parts _ _ h in
    let q = and_parts _ _ p.1 in
    record { few = leb-true _ _ p.0; small = leb-true _ _ q.0; ok = q.1 }

pub length_terms : (r : Rule) → length (terms r) ≡ length r.needs + 2
length_terms r = length-append r.needs (r.from ∷ r.to ∷ [])

-- the terms of a rule are its needed terms and its two sides
terms_same : (a b : Rule) → terms a ≡ terms b → (a.needs ≡ b.needs) × (a.from ≡ b.from) × (a.to ≡ b.to)
terms_same a b e =
    let assoc : (r : Rule) → (r.needs ++ (r.from ∷ [])) ++ (r.to ∷ []) ≡ terms r = λ r. append_assoc r.needs (r.from ∷ []) (r.to ∷ []) in
    let p = same_from_push (a.needs ++ (a.from ∷ [])) (b.needs ++ (b.from ∷ [])) a.to b.to (assoc a ∙ e ∙ sym (assoc b)) in
    let q = same_from_push a.needs b.needs a.from b.from p.0 in
    (q.0, q.1, p.1)

pub one_rule : (a b : Rule) (r s : List (List ℕ)) → ok_rule a ≡ true → ok_rule b ≡ true → write_rule a ++ r ≡ write_rule b ++ s → Same a b r s
one_rule a b r s h k q =
    let la = limits a h in
    let lb = limits b k in
    let few-a = la.few in
    let few-b = lb.few in
    let q₁ = rest_same _ _ _ _ q in
    let q₂ = rest_same _ _ _ _ q₁ in
    let w : a.width ≡ b.width = width_same _ _ (decimal_same _ _ (bits_short a.width) (bits_short b.width) (first_same _ _ _ _ q₁)) in
    let n : length a.needs ≡ length b.needs = decimal_same _ _ (omega arith) (omega arith) (first_same _ _ _ _ q₂) in
    let long : length (terms a) ≡ length (terms b) = length_terms a ∙ ap (λ m. m + 2) n ∙ sym (length_terms b) in
    let ok-b : ok_terms (bits a.width) (terms b) ≡ true = subst (λ v. ok_terms (bits v) (terms b) ≡ true) (sym w) lb.ok in
    let l = one_list a.width (terms a) (terms b) r s long la.ok ok-b (rest_same _ _ _ _ q₂) in
    let t = terms_same a b l.0 in
    ((λ i. record { width = w i; needs = t.0 i; from = t.1 i; to = t.2 i }), l.1)

-- ---- one book

-- rules that are written by the first words of a book are its first rules
pub book_begins : (rs bs : List Rule) (r : List (List ℕ)) → ok_rules rs ≡ true → ok_rules bs ≡ true → write_book rs ++ r ≡ write_book bs → (cs : List Rule) × (bs ≡ rs ++ cs) × (r ≡ write_book cs)
book_begins [] bs r h k q = (bs, refl, q)
book_begins (a ∷ rs) [] r h k q = absurd (never_empty _ _ q)
book_begins (a ∷ rs) (b ∷ bs) r h k q =
    let hs = and_parts _ _ h in
    let ks = and_parts _ _ k in
    let p = one_rule a b (write_book rs ++ r) (write_book bs) hs.0 ks.0 (sym (append_assoc (write_rule a) (write_book rs) r) ∙ q) in
    let z = book_begins rs bs r hs.1 ks.1 p.1 in
    (z.0, (λ i. sym p.0 i ∷ z.1 i), z.2)

pub no_rules : (cs : List Rule) → [] ≡ write_book cs → cs ≡ []
no_rules [] e = refl
no_rules (c ∷ cs) e = absurd (never_empty _ _ (sym e))

pub one_book : (s : List ℕ) → OneBook s
one_book s a b p q =
    let ok-a = and_parts _ _ p.ok in
    let ok-b = and_parts _ _ q.ok in
    let z = book_begins a b [] ok-a.0 ok-b.0 (append-nil (write_book a) ∙ sym p.text ∙ q.text) in
    sym (z.1 ∙ ap (λ cs. a ++ cs) (no_rules z.0 z.2) ∙ append-nil a)
