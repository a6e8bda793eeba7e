use Rattle.std.proofs.Common.{◌&&◌, ◌||◌}
use Rattle.words.specs.Words.{bits, xor}
use Rattle.words.proofs.Laws.{bitwise_word}
use Rattle.words.proofs.apply.apply2.Goals as goal

pub returns-in-And-clause-word : goal.returns-in-And-clause-word
returns-in-And-clause-word c = rw c.bit_and.ensures (bitwise_word ◌&&◌ (bits c.args.width) c.args.x c.args.y)

pub returns-in-Or-clause-word : goal.returns-in-Or-clause-word
returns-in-Or-clause-word c = rw c.bit_or.ensures (bitwise_word ◌||◌ (bits c.args.width) c.args.x c.args.y)

pub returns-in-Xor-clause-word : goal.returns-in-Xor-clause-word
returns-in-Xor-clause-word c = rw c.bit_xor.ensures (bitwise_word xor (bits c.args.width) c.args.x c.args.y)
