use Rattle.text.proofs.Told.{wrote-told}
use Rattle.text.proofs.messages.put_told.Goals as goal

pub returns : goal.returns
returns c = wrote-told _ _ _ _ c.put_field-first.ensures c.put-second.ensures c.put_decimal-third.ensures c.put_words-fourth.ensures c.put.ensures
