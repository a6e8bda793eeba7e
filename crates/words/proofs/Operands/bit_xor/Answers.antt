use Rattle.words.proofs.Laws.{bitwise_xor}
use Rattle.words.proofs.Operands.bit_xor.Goals as goal

pub returns : goal.returns
returns c = bitwise_xor _ _ _ c.args.self.left_fits c.args.self.right_fits
