use Rattle.text.proofs.Refusals.{too_long, all-written}
use Rattle.text.proofs.fields.put_where_room.Goals as goal

pub returns-then-writer-text : goal.returns-then-writer-text
returns-then-writer-text g c = λ new writes. too_long (writes _ _ _ c.writer.ensures) c.if-writer-text.true

pub returns : goal.returns
returns g c = λ new writes. all-written (writes _ _ _ c.writer.ensures) c.if-writer-text.false (writes _ _ _ c.writer-2.ensures)
