use Rattle.std.proofs.Common.{◌-◌, refl, subst, arith, length-drop, length-take}
use Rattle.circuit.specs.Circuits.{product_net}
use Rattle.circuit.proofs.Growing.{Grows}
use Rattle.circuit.proofs.Writing.{wrote_here}
use Rattle.circuit.proofs.Loops.{loop_fits}
use Rattle.circuit.proofs.ProductLoops.{rows_grow, row_is, row_again}
use Rattle.circuit.proofs.builder.Builder.product.Goals as goal

pub product_row-requires : goal.product_row-requires
product_row-requires c =
    let is = row_is c.args.x.now c.args.y.now c.loop-i.out c.loop-i.carries c.loop-i.i c.args.self.now.net c.loop-i.self.net (omega arith) (omega arith) (omega arith) (omega arith) c.loop-i.invariant.1 in
    let grow = rows_grow c.args.x.now c.args.y.now (c.loop-i.i - 1) c.args.self.now.net (omega arith) (omega arith) in
    record {
      some = simp length-take (omega arith);
      operand = simp (length-take, length-drop) (omega arith);
      room = loop_fits c.loop-i.invariant.0 refl (subst (λ r. Grows r.0 (product_net c.args.x.now c.args.y.now c.args.self.now.net).0) is grow) c.requires.room;
    }

pub loop-i-preserved : goal.loop-i-preserved
loop-i-preserved c = (
  wrote_here c.loop-i.invariant.0 c.product_row.ensures.wrote,
  row_again c.args.x.now c.args.y.now c.loop-i.out c.loop-i.carries c.product_row.new.word c.product_row.result c.loop-i.i c.args.self.now.net c.loop-i.self.net (omega arith) (omega arith) (omega arith) (omega arith) (omega arith) c.loop-i.invariant.1 c.product_row.ensures.wrote c.product_row.ensures.sum c.product_row.ensures.over,
)
