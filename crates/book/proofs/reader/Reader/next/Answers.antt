use Rattle.std.proofs.Common.{◌≡◌, length, drop, take, ◌≤◌, sym, ap, ◌∙◌, subst, arith}
use Rattle.book.specs.Tokens.{Is}
use Rattle.book.specs.Scan.{rest}
use Rattle.book.proofs.Splits.{word_len, rest_none, rest_found}
use Rattle.book.proofs.reader.Reader.next.Goals as goal

pub returns-then-length-eq0-clause-next : goal.returns-then-length-eq0-clause-next
returns-then-length-eq0-clause-next c =
    let r = c.skip_blanks.new.self in
    let skipped = c.skip_blanks.ensures in
    let none : word_len (drop r.at r.text.now) ≡ 0 = ap word_len (sym c.rest-rest.ensures) ∙ sym c.word_len-length.ensures.characters ∙ c.if-length-eq0.true in
    (skipped.from, omega (arith, r.inside, ap length skipped.text), sym skipped.words ∙ rest_none r.text.now r.at none skipped.stops)

pub returns-clause-next : goal.returns-clause-next
returns-clause-next c =
    let r = c.skip_blanks.new.self in
    let s = c.args.self.now.text.now in
    let t = c.from.result in
    let skipped = c.skip_blanks.ensures in
    let unread : c.rest-rest.result.now ≡ drop r.at s = c.rest-rest.ensures ∙ ap (drop r.at) skipped.text in
    let n : c.word_len-length.result ≡ word_len (drop r.at s) = c.word_len-length.ensures.characters ∙ ap word_len unread in
    let within : r.at ≤ length s = omega (arith, r.inside, ap length skipped.text) in
    let same : rest s r.at ≡ rest s c.args.self.now.at = sym (ap (λ u. rest u r.at) skipped.text) ∙ skipped.words in
    let is : Is t (take (word_len (drop r.at s)) (drop r.at s)) = subst (λ k. Is t (take k (drop r.at s))) n (subst (λ u. Is t (take c.word_len-length.result u)) unread c.from.ensures) in
    (skipped.from, within, rw n (rest_found s c.args.self.now.at r.at t skipped.from within same (omega (arith, c.if-length-eq0.false)) is))
