use Rattle.std.proofs.Common.{ap, ◌∙◌}
use Rattle.terms.specs.Measures.{together}
use Rattle.terms.proofs.Weights.{weight_measured}
use Rattle.terms.proofs.usability.weight.Goals as goal

pub returns : goal.returns
returns c = λ r rep ok.
    c.weight.ensures
    ∙ ap (λ m. (together m.needs (together m.from m.to)).load) (c.of.ensures r rep)
    ∙ weight_measured r ok
