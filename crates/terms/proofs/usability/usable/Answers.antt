use Rattle.std.proofs.Common.{sym, subst}
use Rattle.terms.specs.Accepted.{Accepted}
use Rattle.terms.proofs.Uses.{accepted_usable, usable_accepted}
use Rattle.terms.proofs.usability.usable.Goals as goal

pub returns : goal.returns
returns c = λ r rep ok.
    let same = c.of.ensures r rep in (
      λ h. accepted_usable r ok (subst Accepted same (c.accepted.ensures.0 h)),
      λ u. c.accepted.ensures.1 (subst Accepted (sym same) (usable_accepted r ok u)),
    )
