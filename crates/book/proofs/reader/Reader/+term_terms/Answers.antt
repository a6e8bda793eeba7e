use Rattle.std.proofs.Common.{◌≡◌, ◌+◌, ◌-◌, ◌++◌, ◌∷◌, [], length, sym, ap, ◌∙◌, subst, arith}
use Rattle.terms.specs.Items.{nodes_of, places_of}
use Rattle.std.proofs.lemmas.Result.{MatchResult-from_err, MatchResult-weaker}
use Rattle.words.specs.Words.{bits}
use Rattle.terms.specs.Nodes.{sound}
use Rattle.terms.proofs.Roots.{rooted_count}
use Rattle.book.specs.Tokens.{operation_node}
use Rattle.book.specs.Reading.{Pushed, IsTermRead, NoTerm}
use Rattle.book.proofs.Unique.{parts}
use Rattle.book.proofs.TermReads.{leaf_read, leaf_missing, operation_read, operation_sound, operation_no_parts, operation_too_many, term_expected, one_term_more, one_term_missing}
use Rattle.book.proofs.reader.Reader.+term_terms.Goals as goal

pub term-returns-then-draft-eq0-clause-read : goal.term-returns-then-draft-eq0-clause-read
term-returns-then-draft-eq0-clause-read t c =
    let s = c.args.self.now in
    let v = c.args.draft.now.rule.width in
    subst (λ n. NoTerm s.text.now s.at n v) (sym c.if-draft-eq0.true)
    (operation_too_many s.text.now s.at c.next.new.self.at c.in-Operation.op v c.in-Operation.ensures.next.2)

pub term-returns-in_err-parts-in-Operation-clause-read : goal.term-returns-in_err-parts-in-Operation-clause-read
term-returns-in_err-parts-in-Operation-clause-read t c =
    let s = c.args.self.now in
    let d = c.args.draft.now in
    let left : d.left - 1 + 1 ≡ d.left = omega arith in
    let none = rw (c.next.ensures.text, c.part_count.ensures) at c.in_err-parts-in-Operation.ensures.read in
    MatchResult-from_err _ _ _ c.from_residual.ensures.0 (λ _. subst (λ n. NoTerm s.text.now s.at n d.rule.width) left (operation_no_parts s.text.now s.at c.next.new.self.at (d.left - 1) c.in-Operation.op d.rule.width c.in-Operation.ensures.next.2 none))

pub term-node-requires : goal.term-node-requires
term-node-requires t c =
    let read = c.in_ok-parts-in-Operation.ensures.read in
    ap length c.as_slice.ensures.value ∙ rooted_count _ _ _ read.rooted ∙ read.count ∙ c.part_count.ensures

pub term-push-requires-clause-sound : goal.term-push-requires-clause-sound
term-push-requires-clause-sound t c =
    let op = c.in-Operation.op in
    let y = c.terms.new.draft.rule in
    let read = rw c.part_count.ensures at c.in_ok-parts-in-Operation.ensures.read in
    ap (sound (bits y.width) (length (nodes_of y.nodes))) (c.node.ensures ∙ ap (operation_node op) c.as_slice.ensures.value)
    ∙ operation_sound (bits y.width) op (nodes_of y.nodes) (places_of c.in_ok-parts-in-Operation.parts) (parts op read.terms read.count) read.rooted

pub term-returns-in-Leaf-clause-read : goal.term-returns-in-Leaf-clause-read
term-returns-in-Leaf-clause-read t c =
    let s = c.args.self.now in
    let d = c.args.draft.now in
    let m = c.next.new.self.at in
    let leaf = c.in-Leaf.leaf in
    let f = c.in-Leaf.ensures.next.2 in
    let read = rw c.next.ensures.text at c.leaf.ensures.read in
    MatchResult-weaker c.leaf.result read
    (λ root r. leaf_read s.text.now s.at m c.leaf.new.self.at d.left root leaf d.rule c.leaf.new.rule f r)
    (λ _ none. leaf_missing s.text.now s.at m d.left leaf d.rule.width f none)

pub term-returns-in_ok-parts-in-Operation-clause-read : goal.term-returns-in_ok-parts-in-Operation-clause-read
term-returns-in_ok-parts-in-Operation-clause-read t c =
    let s = c.args.self.now in
    let d = c.args.draft.now in
    let op = c.in-Operation.op in
    let y = c.terms.new.draft in
    let roots = places_of c.in_ok-parts-in-Operation.parts in
    let z = c.push.new.self in
    let left : d.left - 1 + 1 ≡ d.left = omega arith in
    let read = rw (c.next.ensures.text, c.part_count.ensures) at c.in_ok-parts-in-Operation.ensures.read in
    let push = c.push.ensures in
    let node = c.node.ensures ∙ ap (operation_node op) c.as_slice.ensures.value in
    let pushed : Pushed y.rule z (operation_node op roots) = record { nodes = push.nodes ∙ ap (λ n. nodes_of y.rule.nodes ++ n ∷ []) node; width = push.width } in
    subst (λ n. IsTermRead s.text.now s.at n d.rule z c.push.result c.terms.new.self.at y.left) left
    (subst (λ i. IsTermRead s.text.now s.at (d.left - 1 + 1) d.rule z i c.terms.new.self.at y.left) (sym push.place)
    (operation_read s.text.now s.at c.next.new.self.at c.terms.new.self.at (d.left - 1) y.left op d.rule y.rule z roots c.in-Operation.ensures.next.2 read pushed))

pub term-returns-in_default : goal.term-returns-in_default
term-returns-in_default t c =
    let s = c.args.self.now in
    let d = c.args.draft.now in
    record {
      text = c.next.ensures.text;
      read = term_expected s.text.now s.at c.next.new.self.at d.left d.rule.width c.next.result c.next.ensures.next.2 c.in_default.not-Leaf c.in_default.not-Operation;
    }

pub terms-returns-in_err-term-clause-read : goal.terms-returns-in_err-term-clause-read
terms-returns-in_err-term-clause-read t c =
    let s = c.args.self.now in
    let d = c.args.draft.now in
    let none = rw c.loop.invariant.text at c.in_err-term.ensures.read in
    MatchResult-from_err _ _ _ c.from_residual.ensures.0 (λ _. one_term_missing s.text.now s.at c.loop.self.at c.loop.counter c.args.count d.left c.loop.draft.left d.rule c.loop.draft.rule (places_of c.loop.roots) c.loop-test.true c.loop.invariant.read none)

pub terms-push-requires : goal.terms-push-requires
terms-push-requires t c =
    let read = c.loop.invariant.read in
    record { room = omega (arith, rooted_count _ _ _ read.rooted, read.count, c.requires.count) }

pub terms-loop-preserved : goal.terms-loop-preserved
terms-loop-preserved t c =
    let s = c.args.self.now in
    let d = c.args.draft.now in
    let root = c.in_ok-term.field-0 in
    let one = rw c.loop.invariant.text at c.in_ok-term.ensures.read in
    record {
      text = c.in_ok-term.ensures.text ∙ c.loop.invariant.text;
      read = rw c.push.ensures.items
          (one_term_more s.text.now s.at c.loop.self.at c.term.new.self.at c.loop.counter d.left c.loop.draft.left c.term.new.draft.left root d.rule c.loop.draft.rule c.term.new.draft.rule (places_of c.loop.roots) c.loop.invariant.read one);
    }
