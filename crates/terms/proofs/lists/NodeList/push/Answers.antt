use Rattle.std.proofs.Common.{◌<◌, ◌∙◌, length-set, arith}
use Rattle.terms.specs.declared.node.Node.TheVariants.{Any}
use Rattle.terms.proofs.Items.{blanks_more, count_nodes}
use Rattle.terms.proofs.lists.NodeList.push.Goals as goal

pub invariant_of-self : goal.invariant_of-self
invariant_of-self c =
    let was = c.args.self.now in
    let room : was.len < 102 = omega (arith, count_nodes was, c.requires.room) in
    record {
      fits = omega (arith, room);
      size = length-set was.nodes was.len _ ∙ was.size;
      blank = blanks_more 102 (Any 0) was.len was.nodes _ room was.blank;
    }
