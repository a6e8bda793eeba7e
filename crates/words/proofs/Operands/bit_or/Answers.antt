use Rattle.words.proofs.Laws.{bitwise_or}
use Rattle.words.proofs.Operands.bit_or.Goals as goal

pub returns : goal.returns
returns c = bitwise_or _ _ _ c.args.self.left_fits c.args.self.right_fits
