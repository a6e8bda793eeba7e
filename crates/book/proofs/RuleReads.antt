-- Reading rules and a book: what a step of it shows, and what a fault shows.
use Rattle.std.proofs.Common.{◌≡◌, ℕ, zero, suc, ◌+◌, ◌-◌, ◌^◌, ◌<◌, ◌≤◌, true, List, [], ◌∷◌, ◌++◌, length, get_or, take, codes, sym, refl, ap, ◌∙◌, subst, append_assoc, append-nil, arith}
use Rattle.terms.specs.Items.{nodes_of, places_of}
use Rattle.std.proofs.lemmas.List.{length-append, take_more, get_or_at}
use Rattle.std.proofs.lemmas.Bool.{and_parts, and_from, le-leb, leb-true}
use Rattle.words.specs.declared.Width.{Width}
use Rattle.words.specs.Words.{bits}
use Rattle.words.proofs.Laws.{bits_le}
use Rattle.terms.specs.declared.rule.RuleNodes.{RuleNodes}
use Rattle.terms.specs.Terms.{Term, Rule, terms, ops_all}
use Rattle.terms.specs.Limits.{ok_terms, ok_rule}
use Rattle.terms.specs.Nodes.{Rooted}
use Rattle.book.specs.declared.token.Token.{Token}
use Rattle.book.specs.declared.token.Token.TheVariants as token
use Rattle.book.specs.Text.{decimal, write_terms, write_rule, write_book, ok_rules, Book}
use Rattle.book.specs.Scan.{rest, At}
use Rattle.book.specs.Reading.{IsNumberRead, NoNumber, IsTermsRead, NoTerms, IsHeaderRead, NoHeader, IsRuleRead, NoRule, IsRulesRead, HasRules}
use Rattle.book.proofs.Unique.{first_same, rest_same, never_empty, decimal_same}
use Rattle.book.proofs.Books.{limits, length_terms, width_same, bits_short, one_rule, book_begins, no_rules}
use Rattle.book.proofs.TermReads.{token_at}

-- ---- the head of a rule

-- a number that was read is the number that is written there
number_same : (s : List ℕ) (p q n m : ℕ) (r : List (List ℕ)) → IsNumberRead s p n q → m < 2 ^ 64 → rest s p ≡ decimal m ∷ r → (n ≡ m) × (rest s q ≡ r)
number_same s p q n m r num small h =
    let k = num.small in
    let e = sym num.text ∙ h in
    (decimal_same n m (omega arith) (omega arith) (first_same _ _ _ _ e), rest_same _ _ _ _ e)

bits_small : (v : Width) → bits v < 2 ^ 64
bits_small v = let h = bits_le v in omega arith

pub rule_expected : (s : List ℕ) (p q : ℕ) (t : Token) → At s p t q → (t ≡ token.Rule → ⊥) → NoHeader s p
rule_expected s p q t f none v n r few h = none (token_at s p q t token.Rule (codes "rule") _ f refl h).0

pub width_expected : (s : List ℕ) (p m q b : ℕ) → At s p token.Rule m → IsNumberRead s m b q → ((v : Width) → bits v ≡ b → ⊥) → NoHeader s p
width_expected s p m q b f num none v n r few h =
    none v (sym (number_same s m q b (bits v) _ num (bits_small v) (token_at s p m token.Rule token.Rule (codes "rule") _ f refl h).1).0)

-- the words after the width
after_width : (s : List ℕ) (p m q b n : ℕ) (v : Width) (r : List (List ℕ)) → At s p token.Rule m → IsNumberRead s m b q → rest s p ≡ codes "rule" ∷ decimal (bits v) ∷ decimal n ∷ r → rest s q ≡ decimal n ∷ r
after_width s p m q b n v r f num h = (number_same s m q b (bits v) _ num (bits_small v) (token_at s p m token.Rule token.Rule (codes "rule") _ f refl h).1).1

pub needed_no_number : (s : List ℕ) (p m q b : ℕ) → At s p token.Rule m → IsNumberRead s m b q → NoNumber s q → NoHeader s p
needed_no_number s p m q b f num none v n r few h = none n r (omega arith) (after_width s p m q b n v r f num h)

pub needed_expected : (s : List ℕ) (p m q z b k : ℕ) → At s p token.Rule m → IsNumberRead s m b q → IsNumberRead s q k z → 4 < k → NoHeader s p
needed_expected s p m q z b k f num num' large v n r few h =
    let e = (number_same s q z k n r num' (omega arith) (after_width s p m q b n v r f num h)).0 in
    omega arith

-- ---- a rule

pub no_terms : (s : List ℕ) (p m n : ℕ) (v : Width) → IsHeaderRead s p v n m → NoTerms s m (n + 2) 32 v → NoRule s p
no_terms s p m n v f none r ws ok h =
    let l = limits r ok in
    let few-n = f.few in
    let few-r = l.few in
    let e = sym f.text ∙ h in
    let e₁ = rest_same _ _ _ _ e in
    let e₂ = rest_same _ _ _ _ e₁ in
    let w : v ≡ r.width = width_same _ _ (decimal_same _ _ (bits_short v) (bits_short r.width) (first_same _ _ _ _ e₁)) in
    let k : n ≡ length r.needs = decimal_same _ _ (omega arith) (omega arith) (first_same _ _ _ _ e₂) in
    none (terms r) ws (length_terms r ∙ ap (λ i. i + 2) (sym k)) (subst (λ u. ok_terms (bits u) (terms r) ≡ true) (sym w) l.ok) l.small (rest_same _ _ _ _ e₂)

-- needed terms and two sides
split_terms : (n : ℕ) (es : List Term) → length es ≡ n + 2 → (needs : List Term) × (a : Term) × (b : Term) × (length needs ≡ n) × (es ≡ needs ++ (a ∷ b ∷ []))
split_terms zero [] h = absurd (omega arith)
split_terms zero (a ∷ []) h = absurd (omega arith)
split_terms zero (a ∷ b ∷ []) h = ([], a, b, refl, refl)
split_terms zero (a ∷ b ∷ d ∷ es) h = absurd (omega arith)
split_terms (suc n) [] h = absurd (omega arith)
split_terms (suc n) (e ∷ es) h =
    let r = split_terms n es (omega arith) in
    let k = r.3 in
    (e ∷ r.0, r.1, r.2, omega arith, ap (λ l. e ∷ l) r.4)

pub rule_read : (s : List ℕ) (p m q n left : ℕ) (v : Width) (x y z : RuleNodes) (roots : List ℕ) → IsHeaderRead s p v n m → IsTermsRead s m (n + 2) 32 x y roots q left → x.width ≡ v → z.width ≡ y.width → nodes_of z.nodes ≡ nodes_of y.nodes → places_of z.roots ≡ roots → IsRuleRead s p z q
rule_read s p m q n left v x y z roots f t xw zw znodes zroots =
    let parts = split_terms n t.terms t.count in
    let r : Rule = record { width = v; needs = parts.0; from = parts.1; to = parts.2 } in
    let es : t.terms ≡ terms r = parts.4 in
    let long = parts.3 in
    let few = f.few in
    let counted = t.counted in
    let total : ops_all t.terms ≡ ops_all (terms r) = ap ops_all es in
    let l₁ = f.longer in
    let l₂ = t.longer in
    record {
      rule = r;
      text = f.text ∙ ap (λ ws. codes "rule" ∷ decimal (bits v) ∷ decimal n ∷ ws) (t.text ∙ ap (λ l. write_terms l ++ rest s q) es) ∙ ap (λ k. codes "rule" ∷ decimal (bits v) ∷ decimal k ∷ (write_terms (terms r) ++ rest s q)) (sym long);
      ok = and_from _ _ (le-leb (length parts.0) 4 (omega arith)) (and_from _ _ (le-leb (ops_all (terms r)) 32 (omega arith)) (subst (λ l. ok_terms (bits v) l ≡ true) es (subst (λ u. ok_terms (bits u) t.terms ≡ true) xw t.ok)));
      represents = record {
        width = zw ∙ t.kept.width ∙ xw;
        rooted = rw (znodes, zroots) (subst (λ l. Rooted (nodes_of y.nodes) roots l) es t.rooted);
      };
      longer = omega arith;
      within = t.within;
    }

-- ---- a book

book_append : (rs : List Rule) (r : Rule) → write_book (rs ++ (r ∷ [])) ≡ write_book rs ++ write_rule r
book_append [] r = append-nil (write_rule r)
book_append (a ∷ rs) r = ap (λ ws. write_rule a ++ ws) (book_append rs r) ∙ sym (append_assoc (write_rule a) (write_book rs) (write_rule r))

rules_append : (rs : List Rule) (r : Rule) → ok_rules rs ≡ true → ok_rule r ≡ true → ok_rules (rs ++ (r ∷ [])) ≡ true
rules_append [] r h k = and_from _ _ k refl
rules_append (a ∷ rs) r h k = let p = and_parts _ _ h in and_from _ _ p.0 (rules_append rs r p.1 k)

ok_rules_after : (rs cs : List Rule) → ok_rules (rs ++ cs) ≡ true → ok_rules cs ≡ true
ok_rules_after [] cs h = h
ok_rules_after (r ∷ rs) cs h = ok_rules_after rs cs (and_parts _ _ h).1

pub one_rule_more : (s : List ℕ) (p q n : ℕ) (x : RuleNodes) → IsRulesRead s p n → n < 256 → IsRuleRead s p x q → IsRulesRead s q (n + 1)
one_rule_more s p q n x rs lt r =
    let count = rs.count in
    record {
      rules = rs.rules ++ (r.rule ∷ []);
      count = length-append rs.rules (r.rule ∷ []) ∙ ap (λ k. k + 1) count;
      text = rs.text ∙ ap (λ ws. write_book rs.rules ++ ws) r.text ∙ sym (append_assoc (write_book rs.rules) (write_rule r.rule) (rest s q)) ∙ ap (λ ws. ws ++ rest s q) (sym (book_append rs.rules r.rule));
      ok = rules_append rs.rules r.rule rs.ok r.ok;
      few = omega arith;
      within = r.within;
    }

-- at the end the rules are the book
pub book_read : (s : List ℕ) (p n : ℕ) → IsRulesRead s p n → rest s p ≡ [] → (rs : List Rule) × Book s rs × (length rs ≡ n)
book_read s p n rs h =
    let count = rs.count in
    let few = rs.few in
    (rs.rules, record { text = rs.text ∙ ap (λ ws. write_book rs.rules ++ ws) h ∙ append-nil (write_book rs.rules); ok = and_from _ _ rs.ok (le-leb (length rs.rules) 256 (omega arith)) }, count)

-- the rules of a book that come after those that were read
after_rules : (s : List ℕ) (p n : ℕ) (rs : IsRulesRead s p n) (bs : List Rule) → Book s bs → (cs : List Rule) × (bs ≡ rs.rules ++ cs) × (rest s p ≡ write_book cs)
after_rules s p n rs bs b = book_begins rs.rules bs (rest s p) rs.ok (and_parts _ _ b.ok).0 (sym rs.text ∙ b.text)

some_rule : (cs : List Rule) (ws : List (List ℕ)) → ws ≡ write_book cs → (ws ≡ [] → ⊥) → (r : Rule) × (rs : List Rule) × (cs ≡ r ∷ rs)
some_rule [] ws e more = absurd (more e)
some_rule (r ∷ cs) ws e more = (r, cs, refl)

-- where no rule can be read though words are left, the text is no book
pub no_rule_no_book : (s : List ℕ) (p n : ℕ) → IsRulesRead s p n → (rest s p ≡ [] → ⊥) → NoRule s p → (bs : List Rule) → Book s bs → ⊥
no_rule_no_book s p n rs more none bs b =
    let a = after_rules s p n rs bs b in
    let c = some_rule a.0 (rest s p) a.2 more in
    let ok = ok_rules_after rs.rules a.0 (subst (λ l. ok_rules l ≡ true) a.1 (and_parts _ _ b.ok).0) in
    none c.0 (write_book c.1) (and_parts _ _ (subst (λ l. ok_rules l ≡ true) c.2 ok)).0 (a.2 ∙ ap write_book c.2)

pub book_few : (s : List ℕ) (bs : List Rule) → Book s bs → length bs ≤ 256
book_few s bs b = leb-true (length bs) 256 (and_parts _ _ b.ok).1

-- where words are left after 256 rules, the text is no book
pub too_many_no_book : (s : List ℕ) (p n : ℕ) → IsRulesRead s p n → (rest s p ≡ [] → ⊥) → n ≡ 256 → (bs : List Rule) → Book s bs → ⊥
too_many_no_book s p n rs more full bs b =
    let a = after_rules s p n rs bs b in
    let c = some_rule a.0 (rest s p) a.2 more in
    let count = rs.count in
    let few = book_few s bs b in
    let long : length bs ≡ length rs.rules + suc (length c.1) = ap length (a.1 ∙ ap (λ l. rs.rules ++ l) c.2) ∙ length-append rs.rules (c.0 ∷ c.1) in
    omega arith

-- where a book has more rules than were read, one can be read
pub rule_there : (s : List ℕ) (p n : ℕ) → IsRulesRead s p n → (bs : List Rule) → Book s bs → n < length bs → NoRule s p → ⊥
rule_there s p n rs bs b lt none =
    let a = after_rules s p n rs bs b in
    let count = rs.count in
    let long : length bs ≡ length rs.rules + length a.0 = ap length a.1 ∙ length-append rs.rules a.0 in
    no_rule_no_book s p n rs (λ e. let z : length a.0 ≡ 0 = ap length (no_rules a.0 (sym e ∙ a.2)) in omega arith) none bs b

-- the rule that is read after n rules is the book's next one
first_rule : (r : Rule) (cs : List Rule) (ws : List (List ℕ)) → ok_rule r ≡ true → ok_rules cs ≡ true → write_rule r ++ ws ≡ write_book cs → (ds : List Rule) × (cs ≡ r ∷ ds)
first_rule r [] ws h k e = absurd (never_empty _ _ e)
first_rule r (c ∷ cs) ws h k e = let p = one_rule r c ws (write_book cs) h (and_parts _ _ k).0 e in (cs, ap (λ x. x ∷ cs) (sym p.0))

pub next_rule : (s : List ℕ) (p q n : ℕ) (x : RuleNodes) → IsRulesRead s p n → (r : IsRuleRead s p x q) → (bs : List Rule) → Book s bs → take (n + 1) bs ≡ take n bs ++ (r.rule ∷ [])
next_rule s p q n x rs r bs b =
    let a = after_rules s p n rs bs b in
    let ok = ok_rules_after rs.rules a.0 (subst (λ l. ok_rules l ≡ true) a.1 (and_parts _ _ b.ok).0) in
    let f = first_rule r.rule a.0 (rest s q) r.ok ok (sym r.text ∙ a.2) in
    let all : bs ≡ rs.rules ++ (r.rule ∷ f.0) = a.1 ∙ ap (λ l. rs.rules ++ l) f.1 in
    let lt : n < length bs = omega (arith, rs.count, ap length all, length-append rs.rules (r.rule ∷ f.0)) in
    take_more bs n r.rule lt ∙ ap (λ y. take n bs ++ (y ∷ [])) (ap (λ l. get_or l n r.rule) all ∙ get_or_at rs.rules r.rule f.0 r.rule n rs.count)

-- ---- the rules that are still to come

-- where rules come, one can be read
pub rules_there : (s : List ℕ) (p n : ℕ) → HasRules s p n → (n ≡ 0 → ⊥) → NoRule s p → ⊥
rules_there s p n ([], count, text, ok) some none = some (sym count)
rules_there s p n (r ∷ rs, count, text, ok) some none = none r (write_book rs) (and_parts _ _ ok).0 text

-- after it come the others
pub rules_after : (s : List ℕ) (p q n : ℕ) (x : RuleNodes) → HasRules s p n → (n ≡ 0 → ⊥) → IsRuleRead s p x q → HasRules s q (n - 1)
rules_after s p q n x ([], count, text, ok) some one = absurd (some (sym count))
rules_after s p q n x (r ∷ rs, count, text, ok) some one =
    let oks = and_parts _ _ ok in
    (rs, omega arith, (one_rule one.rule r (rest s q) (write_book rs) one.ok oks.0 (sym one.text ∙ text)).1, oks.1)
