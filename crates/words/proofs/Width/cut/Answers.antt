use Rattle.std.proofs.Common.{◌≡◌, ◌-◌, ◌^◌, ap, ◌∙◌, arith}
use lib.Bits.{bit_and, and_mask}
use Rattle.words.specs.Words.{bits}
use Rattle.words.proofs.Width.cut.Goals as goal

pub returns : goal.returns
returns c =
    let m : c.mask.result ≡ 2 ^ bits c.args.self - 1 = omega arith in
    ap (bit_and c.args.x) m ∙ and_mask c.args.x (bits c.args.self)
