use Rattle.std.proofs.Common.{◌≡◌, ◌<◌, get_or, take, get_or-take, sym, ap, ◌∙◌, arith}
use Rattle.std.proofs.lemmas.List.{length-take}
use Rattle.book.specs.Text.{blank}
use Rattle.book.proofs.Positions.{counted_line_end, counted_begins, counted_other}
use Rattle.book.proofs.place.locate.Goals as goal
use Rattle.book.proofs.place.locate.Goals.{then-c-eq10, else-c-eq10+then-begins_word, else-c-eq10+else-begins_word}

pub loop-c-preserved : goal.loop-c-preserved
loop-c-preserved c =
    let s = c.args.text.now in
    let k = c.loop-c.c-index in
    let i = c.loop-c.invariant in
    let lt : k < c.min.result = omega (arith, length-take c.min.result s) in
    let is : get_or (take c.min.result s) k 0 ≡ get_or s k 0 = get_or-take c.min.result s k 0 lt in
    let blank_is : c.is_blank-after_blank.result ≡ blank (get_or s k 0) = c.is_blank-after_blank.ensures ∙ ap blank is in
    elim c.if-c-eq10.branch [
      | then-c-eq10 w ↦ rw (w.line-is, w.word-is, blank_is) (counted_line_end i (sym is ∙ w.if-c-eq10.true))
      | else-c-eq10+then-begins_word w ↦
          rw (w.line-is, w.word-is, blank_is) (counted_begins i (λ e. w.if-c-eq10.false (is ∙ e)) (rw is at (sym w.begins_word.ensures ∙ w.if-begins_word.true)))
      | else-c-eq10+else-begins_word w ↦
          rw (w.line-is, w.word-is, blank_is) (counted_other i (λ e. w.if-c-eq10.false (is ∙ e)) (rw is at (sym w.begins_word.ensures ∙ w.if-begins_word.false)))
    ]
