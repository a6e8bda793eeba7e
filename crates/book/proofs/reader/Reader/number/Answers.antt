use Rattle.book.proofs.TermReads.{not_number}
use Rattle.book.proofs.reader.Reader.number.Goals as goal

pub returns-in_default : goal.returns-in_default
returns-in_default c = record {
  text = c.next.ensures.text;
  read = not_number c.args.self.now.text.now c.args.self.now.at c.next.new.self.at c.next.result c.next.ensures.next.2 c.in_default.not-Number;
}
