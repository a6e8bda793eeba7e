use Rattle.std.proofs.Common.{◌≡◌, ◌≤◌, length, ap, arith}
use Rattle.terms.specs.Items.{nodes_of, places_of}
use Rattle.std.proofs.lemmas.Result.{MatchResult-from_err}
use Rattle.terms.proofs.Roots.{rooted_at, rooted_count}
use Rattle.book.proofs.RuleReads.{no_terms, rule_read}
use Rattle.book.proofs.reader.Reader.rule.Goals as goal

pub returns-in_err-roots-clause-read : goal.returns-in_err-roots-clause-read
returns-in_err-roots-clause-read c =
    let s = c.args.self.now in
    let h = c.in_ok-header.header in
    let none = rw (c.in_ok-header.ensures.text, c.new.ensures.width) at c.in_err-roots.ensures.read in
    MatchResult-from_err _ _ _ c.from_residual-in_err-roots.ensures.0 (λ _. no_terms s.text.now s.at c.header.new.self.at h.needed h.width c.in_ok-header.ensures.read none)

-- the roots are places of nodes, of which there are few enough
pub set_roots-requires : goal.set_roots-requires
set_roots-requires c i lt =
    let read = c.in_ok-roots.ensures.read in
    let y = c.terms.new.draft.rule in
    let none : length (nodes_of c.new.result.nodes) ≡ 0 = ap length c.new.ensures.nodes in
    let nodes : length (nodes_of y.nodes) ≤ 102 = omega (arith, none, read.size, read.counted, c.in_ok-header.ensures.read.few) in
    let at = (rooted_at (nodes_of y.nodes) (places_of c.in_ok-roots.roots) read.terms i (omega (arith, rooted_count _ _ _ read.rooted)) read.rooted).0 in
    omega arith

pub returns-clause-read : goal.returns-clause-read
returns-clause-read c =
    let s = c.args.self.now in
    let h = c.in_ok-header.header in
    let y = c.terms.new.draft in
    let roots = places_of c.in_ok-roots.roots in
    let set = c.set_roots.ensures in
    let read = rw c.in_ok-header.ensures.text at c.in_ok-roots.ensures.read in
    rule_read s.text.now s.at c.header.new.self.at c.terms.new.self.at h.needed y.left h.width c.new.result y.rule c.set_roots.new.self roots c.in_ok-header.ensures.read read
    c.new.ensures.width set.width (ap nodes_of set.nodes) (ap places_of set.roots)
