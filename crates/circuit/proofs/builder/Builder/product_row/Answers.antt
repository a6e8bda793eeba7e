use Rattle.std.proofs.Common.{◌≡◌, ◌-◌, List, ◌∷◌, length, get_or, take, drop, sym, refl, ap, ◌∙◌, subst, arith, length-drop}
use Rattle.clauses.specs.declared.literal.Literal.{Literal}
use Rattle.circuit.specs.Nets.{low}
use Rattle.circuit.specs.Gates.{and_net}
use Rattle.circuit.specs.Circuits.{row_net}
use Rattle.circuit.specs.Built.{Fits, Wrote}
use Rattle.circuit.proofs.Growing.{grows_same}
use Rattle.circuit.proofs.Circuits.{row_grows}
use Rattle.circuit.proofs.Writing.{fits_first, fits_then, wrote_then, gives_then}
use Rattle.circuit.proofs.ProductLoops.{part_rest, first_written, product_row_is}
use Rattle.circuit.proofs.Steps.{blank}
use Rattle.circuit.proofs.builder.Builder.product_row.Goals as goal

-- the words that are lent are the words but their lowest bits
parts : (ys qs : List Literal) → length qs ≡ length ys → ◌≡◌ {A = List Literal × List Literal} (take (length ys - 1) (drop 1 ys), take (length ys - 1) (drop 1 qs)) (drop 1 ys, drop 1 qs)
parts ys qs e = ap (λ l. (l, take (length ys - 1) (drop 1 qs))) (part_rest ys 1 (length ys) refl) ∙ ap (λ l. (drop 1 ys, l)) (part_rest qs 1 (length ys) (sym e))

lengths : (ys qs : List Literal) → length qs ≡ length ys → length (drop 1 qs) ≡ length (drop 1 ys)
lengths ys qs e = omega (arith, length-drop 1 qs, length-drop 1 ys)

pub and-lowest-requires : goal.and-lowest-requires
and-lowest-requires c =
    let is = product_row_is c.args.x c.args.y.now (drop 1 c.args.word.now) c.args.self.now.net c.requires.some in
    let p = and_net c.args.x (get_or c.args.y.now 0 blank) c.args.self.now.net in
    fits_first (row_grows c.args.x (drop 1 c.args.y.now) (drop 1 c.args.word.now) low p.0) (subst (λ r. Fits c.args.self.now r.0) is c.requires.room)

pub row-over-requires : goal.row-over-requires
row-over-requires c =
    let is = product_row_is c.args.x c.args.y.now (drop 1 c.args.word.now) c.args.self.now.net c.requires.some in
    let same = parts c.args.y.now c.args.word.now c.requires.operand in
    record {
      operand = ap (λ p. length p.1) same ∙ lengths c.args.y.now c.args.word.now c.requires.operand ∙ sym (ap (λ p. length p.0) same);
      room = fits_then (λ p k. (row_net c.args.x p.0 p.1 low k).0) c.and-lowest.ensures.wrote same (grows_same _) (subst (λ r. Fits c.args.self.now r.0) is c.requires.room);
    }

pub returns : goal.returns
returns c =
    let is = product_row_is c.args.x c.args.y.now (drop 1 c.args.word.now) c.args.self.now.net c.requires.some in
    let same = parts c.args.y.now c.args.word.now c.requires.operand in
    let sum = gives_then (λ p k. (row_net c.args.x p.0 p.1 low k).1.0) c.and-lowest.ensures.wrote same c.row-over.ensures.sum in
    record {
      wrote = subst (λ r. Wrote c.args.self.now c.row-over.new.self r.0) (sym is) (wrote_then (λ p k. (row_net c.args.x p.0 p.1 low k).0) c.and-lowest.ensures.wrote same c.row-over.ensures.wrote);
      sum = first_written c.args.word.now c.row-over.new.word c.and-lowest.result (length c.args.y.now - 1) (omega arith) (omega arith) ∙ ap (λ x. x ∷ c.row-over.new.word) c.and-lowest.ensures.output ∙ ap (λ l. (and_net c.args.x (get_or c.args.y.now 0 blank) c.args.self.now.net).1 ∷ l) sum ∙ sym (ap (λ r. r.1.0) is);
      over = gives_then (λ p k. (row_net c.args.x p.0 p.1 low k).1.1) c.and-lowest.ensures.wrote same c.row-over.ensures.over ∙ sym (ap (λ r. r.1.1) is);
    }
