use Rattle.circuit.specs.Nets.{low}
use Rattle.circuit.proofs.Filled.{flag_written}
use Rattle.circuit.proofs.operations.write_flag.Goals as goal

pub returns-then-out-gt0 : goal.returns-then-out-gt0
returns-then-out-gt0 c = flag_written low c.args.bit c.args.out.now c.fill.new.self (c.fill.ensures.after (λ y h. h))
