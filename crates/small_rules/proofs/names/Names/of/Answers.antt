use Rattle.std.proofs.Common.{◌≡◌, length, refl, arith}
use Rattle.small_rules.proofs.Marking.{named_at, mark_node}
use Rattle.small_rules.proofs.names.Names.of.Goals as goal

pub with-names-requires : goal.with-names-requires
with-names-requires c = named_at _ _ _ c.loop-node.node-index c.as_slice-node-items.ensures.value c.loop-node-test.true c.args.rule.now.made

pub loop-node-preserved : goal.loop-node-preserved
loop-node-preserved c =
    let i = c.loop-node.node-index in
    rw (c.with-names.ensures.any, c.with-names.ensures.con) (mark_node c.as_slice-node-items.result.now i c.loop-node.names.any c.loop-node.names.con _ refl (named_at _ _ _ i c.as_slice-node-items.ensures.value c.loop-node-test.true c.args.rule.now.made) c.loop-node.invariant)

pub returns : goal.returns
returns c =
    let ns = c.as_slice-node-items.result.now in
    let n : c.loop-node.node-index ≡ length ns = omega arith in
    rw (← c.as_slice-node-items.ensures.value, ← n) c.loop-node.invariant
