-- What comes of reading numbers, terms and rules from a place of a text on.
use Rattle.std.specs.Prelude.{◌≡◌, ℕ, ◌+◌, ◌*◌, ◌^◌, ◌<◌, ◌≤◌, true, List, [], ◌∷◌, ◌++◌, length, codes, Result, MatchResult, ◌≢◌}
use Rattle.terms.specs.Items.{nodes_of}
use Rattle.words.specs.declared.Width.{Width}
use Rattle.words.specs.Words.{bits}
use Rattle.terms.specs.declared.node.Node.{Node}
use Rattle.terms.specs.declared.rule.RuleNodes.{RuleNodes}
use Rattle.terms.specs.Terms.{Term, Rule, ops, ops_all}
use Rattle.terms.specs.Limits.{ok_term, ok_terms, ok_rule}
use Rattle.terms.specs.Nodes.{Stands, Rooted}
use Rattle.terms.specs.Represents.{Represents}
use Rattle.book.specs.declared.token.Leaf.{Leaf}
use Rattle.book.specs.declared.fault.Fault.{Fault}
use Rattle.book.specs.Text.{decimal, words, write_term, write_terms, write_rule, write_book, ok_rules, Book, OneBook}
use Rattle.book.specs.Tokens.{leaf_term, leaf_node}
use Rattle.book.specs.Scan.{rest}

-- from p to q the text s has the number n; from p on it has none below 2 ^ 64
pub record IsNumberRead (s : List ℕ) (p n q : ℕ) : Type 0 where
  pub text : rest s p ≡ decimal n ∷ rest s q
  pub small : n < 2 ^ 64
  pub longer : p < q
  pub within : q ≤ length s

abbrev pub NoNumber : List ℕ → ℕ → Type 0
NoNumber s p = (n : ℕ) (r : List (List ℕ)) → n < 2 ^ 64 → rest s p ≢ decimal n ∷ r

-- the nodes of x are kept in x', which may have more, and so is its width
pub record Kept (x x' : RuleNodes) : Type 0 where
  pub more : List Node
  pub nodes : nodes_of x'.nodes ≡ nodes_of x.nodes ++ more
  pub width : x'.width ≡ x.width

-- a node is added to x
pub record Pushed (x x' : RuleNodes) (node : Node) : Type 0 where
  pub nodes : nodes_of x'.nodes ≡ nodes_of x.nodes ++ node ∷ []
  pub width : x'.width ≡ x.width

-- from p to q the text has the number of a leaf of this kind, whose node is added
pub record IsLeafRead (s : List ℕ) (p : ℕ) (l : Leaf) (x x' : RuleNodes) (root q : ℕ) : Type 0 where
  pub number : ℕ
  pub read : IsNumberRead s p number q
  pub ok : ok_term (bits x.width) (leaf_term l number) ≡ true
  pub pushed : Pushed x x' (leaf_node l number)
  pub last : root ≡ length (nodes_of x.nodes)

abbrev pub NoLeaf : List ℕ → ℕ → Leaf → Width → Type 0
NoLeaf s p l v = (n : ℕ) (r : List (List ℕ)) → ok_term (bits v) (leaf_term l n) ≡ true → rest s p ≢ decimal n ∷ r

-- from p to q the text has a term of at most so many operations, of which some are left; it is the node at the root
pub record IsTermRead (s : List ℕ) (p left : ℕ) (x x' : RuleNodes) (root q left' : ℕ) : Type 0 where
  pub term : Term
  pub text : rest s p ≡ write_term term ++ rest s q
  pub ok : ok_term (bits x.width) term ≡ true
  pub counted : ops term + left' ≡ left
  pub longer : p < q
  pub within : q ≤ length s
  pub rooted : root < length (nodes_of x'.nodes)
  pub stands : Stands (nodes_of x'.nodes) root term
  pub kept : Kept x x'
  pub size : length (nodes_of x'.nodes) ≤ length (nodes_of x.nodes) + (3 * ops term + 1)

abbrev pub NoTerm : List ℕ → ℕ → ℕ → Width → Type 0
NoTerm s p left v = (e : Term) (r : List (List ℕ)) → ok_term (bits v) e ≡ true → ops e ≤ left → rest s p ≢ write_term e ++ r

-- the same of n terms
pub record IsTermsRead (s : List ℕ) (p n left : ℕ) (x x' : RuleNodes) (roots : List ℕ) (q left' : ℕ) : Type 0 where
  pub terms : List Term
  pub count : length terms ≡ n
  pub text : rest s p ≡ write_terms terms ++ rest s q
  pub ok : ok_terms (bits x.width) terms ≡ true
  pub counted : ops_all terms + left' ≡ left
  pub longer : p ≤ q
  pub within : q ≤ length s
  pub rooted : Rooted (nodes_of x'.nodes) roots terms
  pub kept : Kept x x'
  pub size : length (nodes_of x'.nodes) ≤ length (nodes_of x.nodes) + (3 * ops_all terms + n)

abbrev pub NoTerms : List ℕ → ℕ → ℕ → ℕ → Width → Type 0
NoTerms s p n left v = (es : List Term) (r : List (List ℕ)) → length es ≡ n → ok_terms (bits v) es ≡ true → ops_all es ≤ left → rest s p ≢ write_terms es ++ r

-- from p to q the text has the head of a rule: its width, and how many terms it needs, at most four; from p on it has none
pub record IsHeaderRead (s : List ℕ) (p : ℕ) (v : Width) (n q : ℕ) : Type 0 where
  pub text : rest s p ≡ codes "rule" ∷ decimal (bits v) ∷ decimal n ∷ rest s q
  pub few : n ≤ 4
  pub longer : p < q
  pub within : q ≤ length s

abbrev pub NoHeader : List ℕ → ℕ → Type 0
NoHeader s p = (v : Width) (n : ℕ) (r : List (List ℕ)) → n ≤ 4 → rest s p ≢ codes "rule" ∷ decimal (bits v) ∷ decimal n ∷ r

-- from p to q the text has a rule within the limits, and these are its nodes; from p on it has none
pub record IsRuleRead (s : List ℕ) (p : ℕ) (x : RuleNodes) (q : ℕ) : Type 0 where
  pub rule : Rule
  pub text : rest s p ≡ write_rule rule ++ rest s q
  pub ok : ok_rule rule ≡ true
  pub represents : Represents x rule
  pub longer : p < q
  pub within : q ≤ length s

abbrev pub NoRule : List ℕ → ℕ → Type 0
NoRule s p = (r : Rule) (ws : List (List ℕ)) → ok_rule r ≡ true → rest s p ≢ write_rule r ++ ws

-- up to p the text s has so many rules within the limits
pub record IsRulesRead (s : List ℕ) (p n : ℕ) : Type 0 where
  pub rules : List Rule
  pub count : length rules ≡ n
  pub text : words s ≡ write_book rules ++ rest s p
  pub ok : ok_rules rules ≡ true
  pub few : n ≤ 256
  pub within : p ≤ length s

-- from p to its end the text s has so many rules within the limits, and no other word
abbrev pub HasRules : List ℕ → ℕ → ℕ → Type 0
HasRules s p n = (rs : List Rule) × (length rs ≡ n) × (rest s p ≡ write_book rs) × (ok_rules rs ≡ true)

-- What comes of reading a text: it is a book of so many rules, or none; and it is one book at most.
pub record IsBookRead (s : List ℕ) (r : Result ℕ Fault) : Type 0 where
  pub says : MatchResult r (λ n. (rs : List Rule) × Book s rs × (length rs ≡ n)) (λ _. (rs : List Rule) → Book s rs → ⊥)
  pub one : OneBook s
