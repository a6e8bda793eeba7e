use Rattle.std.proofs.Common.{ap, ◌∙◌}
use Rattle.std.specs.Option.{unwrap_or}
use Rattle.circuit.specs.Nets.{low}
use Rattle.circuit.proofs.Filled.{top_of_last}
use Rattle.circuit.proofs.operations.top_bit.Goals as goal

pub returns : goal.returns
returns c = c.unwrap_or.ensures ∙ ap (λ o. unwrap_or o low) (c.copied.ensures ∙ c.last.ensures.value) ∙ top_of_last low c.args.x.now
