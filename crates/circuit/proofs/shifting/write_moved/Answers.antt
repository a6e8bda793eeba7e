use Rattle.std.proofs.Common.{replicate, sym, ap, ◌∙◌}
use Rattle.circuit.specs.Bits.{moved}
use Rattle.circuit.proofs.Moved.{moved_left, moved_right, moved_away}
use Rattle.circuit.proofs.shifting.write_moved.Goals as goal

pub returns-in-Left : goal.returns-in-Left
returns-in-Left c =
    let filled = c.fill.ensures.after (λ y h. h) ∙ ap (λ n. replicate n c.args.incoming) c.requires in
    moved_left c.args.incoming c.args.places c.args.x.now c.fill.new.self _ filled c.if-places-width.true c.copy_from_slice.ensures.after ∙ ap (λ d. moved d c.args.incoming c.args.places c.args.x.now) (sym c.in-Left.is)

pub returns-in-Right : goal.returns-in-Right
returns-in-Right c =
    let filled = c.fill.ensures.after (λ y h. h) ∙ ap (λ n. replicate n c.args.incoming) c.requires in
    moved_right c.args.incoming c.args.places c.args.x.now c.fill.new.self _ filled c.if-places-width.true c.copy_from_slice-in-Right.ensures.after ∙ ap (λ d. moved d c.args.incoming c.args.places c.args.x.now) (sym c.in-Right.is)

pub returns-else-places-width : goal.returns-else-places-width
returns-else-places-width c = moved_away c.args.direction c.args.incoming c.args.places c.args.x.now c.fill.new.self (c.fill.ensures.after (λ y h. h) ∙ ap (λ n. replicate n c.args.incoming) c.requires) c.if-places-width.false
