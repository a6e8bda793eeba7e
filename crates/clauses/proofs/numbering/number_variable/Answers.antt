use Rattle.std.proofs.Common.{arith}
use Rattle.clauses.proofs.Numbers.{inverse_next, numbered_next}
use Rattle.clauses.proofs.numbering.number_variable.Goals as goal

pub returns : goal.returns
returns c = record {
  inverse = inverse_next _ _ _ _ c.requires.inverse c.requires.known c.requires.room c.if-map-v-ne0.false;
  numbered = numbered_next _ c.args.names.now _ _ c.requires.inverse c.requires.known c.requires.room c.if-map-v-ne0.false;
  more = omega arith;
}
