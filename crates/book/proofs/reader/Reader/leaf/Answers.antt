use Rattle.std.proofs.Common.{length, ap, ◌∙◌}
use Rattle.terms.specs.Items.{nodes_of}
use Rattle.words.specs.Words.{bits}
use Rattle.terms.specs.Nodes.{sound}
use Rattle.std.proofs.lemmas.Bool.{lt-leb, le-leb}
use Rattle.std.proofs.lemmas.Result.{MatchResult-from_err}
use Rattle.book.proofs.TermReads.{leaf_small, leaf_too_large, leaf_sound}
use Rattle.book.proofs.reader.Reader.leaf.Goals as goal

pub returns-in_err-n-clause-read : goal.returns-in_err-n-clause-read
returns-in_err-n-clause-read c = MatchResult-from_err _ _ _ c.from_residual.ensures.0 (λ _ n r ok. c.in_err-n.ensures.read n r (leaf_small c.args.rule.now.width c.args.leaf n ok))

pub returns-then-n-largest-clause-read : goal.returns-then-n-largest-clause-read
returns-then-n-largest-clause-read c =
    let n = c.in_ok-n.n in
    leaf_too_large c.args.self.now.text.now c.args.self.now.at c.number.new.self.at n c.args.leaf c.args.rule.now.width c.in_ok-n.ensures.read
    (c.largest.ensures n ∙ lt-leb n c.largest.result c.if-n-largest.true)

pub push-requires-clause-sound : goal.push-requires-clause-sound
push-requires-clause-sound c =
    let n = c.in_ok-n.n in
    let x = c.args.rule.now in
    ap (sound (bits x.width) (length (nodes_of x.nodes))) c.node.ensures ∙ leaf_sound (bits x.width) (length (nodes_of x.nodes)) n c.args.leaf ∙ c.largest.ensures n ∙ le-leb n c.largest.result c.if-n-largest.false
