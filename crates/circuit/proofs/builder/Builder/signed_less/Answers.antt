use Rattle.std.proofs.Common.{◌-◌, length, get_or, sym, ap, ◌∙◌, ap₂, subst, take, arith}
use Rattle.clauses.specs.declared.literal.Literal.{Literal}
use Rattle.clauses.specs.Literals.{negated}
use Rattle.circuit.specs.Nets.{high}
use Rattle.circuit.specs.Gates.{majority_net}
use Rattle.circuit.specs.Circuits.{borrow_net}
use Rattle.circuit.specs.Built.{Fits, Wrote}
use Rattle.circuit.proofs.Growing.{grows_same}
use Rattle.circuit.proofs.Circuits.{majority_grows}
use Rattle.circuit.proofs.Writing.{fits_first, fits_then, wrote_then, gives_then}
use Rattle.circuit.proofs.Steps.{blank}
use Rattle.circuit.proofs.Topped.{borrow_topped}
use Rattle.circuit.proofs.builder.Builder.signed_less.Goals as goal

pub borrow-below-requires-clause-room : goal.borrow-below-requires-clause-room
borrow-below-requires-clause-room c =
    let k = length c.args.x.now - 1 in
    let whole = borrow_topped c.args.x.now c.args.y.now high c.args.self.now.net c.requires.operand (omega arith) in
    let below = borrow_net (take k c.args.x.now) (take k c.args.y.now) high c.args.self.now.net in
    fits_first (majority_grows (get_or c.args.y.now k blank) (negated (get_or c.args.x.now k blank)) below.1 below.0) (subst (λ r. Fits c.args.self.now r.0) whole c.requires.room)

pub majority-enough-requires : goal.majority-enough-requires
majority-enough-requires c =
    let y = get_or c.args.y.now (length c.args.x.now - 1) blank in
    let whole = borrow_topped c.args.x.now c.args.y.now high c.args.self.now.net c.requires.operand (omega arith) in
    let both = ap₂ {C = Literal × Literal} (λ x below. (x, below)) c.negated.ensures.value c.borrow-below.ensures.output in
    fits_then (λ p n. (majority_net y p.0 p.1 n).0) c.borrow-below.ensures.wrote both (grows_same _) (subst (λ r. Fits c.args.self.now r.0) whole c.requires.room)

pub returns-clause-wrote : goal.returns-clause-wrote
returns-clause-wrote c =
    let y = get_or c.args.y.now (length c.args.x.now - 1) blank in
    let whole = borrow_topped c.args.x.now c.args.y.now high c.args.self.now.net c.requires.operand (omega arith) in
    let both = ap₂ {C = Literal × Literal} (λ x below. (x, below)) c.negated.ensures.value c.borrow-below.ensures.output in
    subst (λ r. Wrote c.args.self.now c.majority-enough.new.self r.0) (sym whole) (wrote_then (λ p n. (majority_net y p.0 p.1 n).0) c.borrow-below.ensures.wrote both c.majority-enough.ensures.wrote)

pub returns-clause-output : goal.returns-clause-output
returns-clause-output c =
    let y = get_or c.args.y.now (length c.args.x.now - 1) blank in
    let whole = borrow_topped c.args.x.now c.args.y.now high c.args.self.now.net c.requires.operand (omega arith) in
    let both = ap₂ {C = Literal × Literal} (λ x below. (x, below)) c.negated.ensures.value c.borrow-below.ensures.output in
    c.negated-2.ensures.value ∙ ap negated (gives_then (λ p n. (majority_net y p.0 p.1 n).1) c.borrow-below.ensures.wrote both c.majority-enough.ensures.output ∙ sym (ap (λ r. r.1) whole))
