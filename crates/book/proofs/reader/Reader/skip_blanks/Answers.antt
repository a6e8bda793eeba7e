use Rattle.std.proofs.Common.{◌≡◌, drop, ap, ◌∙◌}
use Rattle.std.specs.List.{prefix_len}
use Rattle.book.specs.Text.{blank}
use Rattle.book.proofs.Splits.{rest_skip_blanks, rest_stops}
use Rattle.book.proofs.reader.Reader.skip_blanks.Goals as goal

pub returns-clause-words : goal.returns-clause-words
returns-clause-words c =
    let r = c.args.self.now in
    let blanks : c.blank_len.result ≡ prefix_len blank (drop r.at r.text.now) = c.blank_len.ensures.blanks ∙ ap (prefix_len blank) c.rest.ensures in
    rw blanks (rest_skip_blanks r.text.now r.at)

pub returns-clause-stops : goal.returns-clause-stops
returns-clause-stops c =
    let r = c.args.self.now in
    let blanks : c.blank_len.result ≡ prefix_len blank (drop r.at r.text.now) = c.blank_len.ensures.blanks ∙ ap (prefix_len blank) c.rest.ensures in
    rw blanks (rest_stops r.text.now r.at)
