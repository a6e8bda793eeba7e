use Rattle.words.proofs.Laws.{bitwise_and}
use Rattle.words.proofs.Operands.bit_and.Goals as goal

pub returns : goal.returns
returns c = bitwise_and _ _ _ c.args.self.left_fits c.args.self.right_fits
