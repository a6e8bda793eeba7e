use Rattle.std.proofs.Common.{◌+◌, get_or, take, drop, set, sym, refl, ap, ◌∙◌, arith}
use Rattle.std.proofs.lemmas.List.{drop-set-lt}
use Rattle.circuit.specs.Circuits.{row_net}
use Rattle.circuit.specs.Parts.{row_bit_net}
use Rattle.circuit.proofs.Circuits.{row_grows}
use Rattle.circuit.proofs.Writing.{wrote_none, wrote_here}
use Rattle.circuit.proofs.Loops.{after, loop_fits, loop_wrote, bit_more, bits_all}
use Rattle.circuit.proofs.Steps.{blank, row_more, row_all}
use Rattle.circuit.proofs.builder.Builder.row.Goals as goal

pub loop-i-init : goal.loop-i-init
loop-i-init c = (wrote_none _, refl)

pub row_bit-sum-requires : goal.row_bit-sum-requires
row_bit-sum-requires c =
    let t = row_bit_net c.args.x (get_or c.args.y.now c.loop-i.i blank) (get_or c.loop-i.word c.loop-i.i blank) c.loop-i.over c.loop-i.self.net in
    let more = row_more c.args.x c.args.y.now c.loop-i.word c.loop-i.i c.loop-i.over c.loop-i.self.net c.loop-i-test.true (omega arith) in
    loop_fits c.loop-i.invariant.0 (ap (λ r. r.0) (c.loop-i.invariant.1 ∙ ap (after (take c.loop-i.i c.loop-i.word)) more)) (row_grows c.args.x (drop (c.loop-i.i + 1) c.args.y.now) (drop (c.loop-i.i + 1) c.loop-i.word) t.1.1 t.0) c.requires.room

pub loop-i-preserved : goal.loop-i-preserved
loop-i-preserved c =
    let t = row_bit_net c.args.x (get_or c.args.y.now c.loop-i.i blank) (get_or c.loop-i.word c.loop-i.i blank) c.loop-i.over c.loop-i.self.net in
    let more = row_more c.args.x c.args.y.now c.loop-i.word c.loop-i.i c.loop-i.over c.loop-i.self.net c.loop-i-test.true (omega arith) in
    let new = set c.loop-i.word c.loop-i.i c.row_bit-sum.result.bit in
    let next = bit_more (row_net c.args.x (drop (c.loop-i.i + 1) c.args.y.now) (drop (c.loop-i.i + 1) c.loop-i.word)) t c.loop-i.word c.loop-i.i c.loop-i.i (c.loop-i.i + 1) c.row_bit-sum.result.bit c.row_bit-sum.result.carry refl refl (omega arith) (c.loop-i.invariant.1 ∙ ap (after (take c.loop-i.i c.loop-i.word)) more) c.row_bit-sum.ensures.wrote c.row_bit-sum.ensures.bit c.row_bit-sum.ensures.over in
    let same = drop-set-lt (c.loop-i.i + 1) c.loop-i.word c.loop-i.i c.row_bit-sum.result.bit (omega arith) in
    (wrote_here c.loop-i.invariant.0 c.row_bit-sum.ensures.wrote, next ∙ ap (λ l. after (take (c.loop-i.i + 1) new) (row_net c.args.x (drop (c.loop-i.i + 1) c.args.y.now) l c.row_bit-sum.result.carry c.row_bit-sum.new.self.net)) (sym same))

pub returns : goal.returns
returns c =
    let rest = row_all c.args.x c.args.y.now (drop c.loop-i.i c.loop-i.word) c.loop-i.i c.loop-i.over c.loop-i.self.net c.loop-i-test.false in
    let all = bits_all c.loop-i.word c.loop-i.i c.loop-i.self.net c.loop-i.over (omega arith) (c.loop-i.invariant.1 ∙ ap (after (take c.loop-i.i c.loop-i.word)) rest) in
    record { wrote = loop_wrote c.loop-i.invariant.0 (ap (λ r. r.0) all); sum = sym (ap (λ r. r.1.0) all); over = sym (ap (λ r. r.1.1) all) }
