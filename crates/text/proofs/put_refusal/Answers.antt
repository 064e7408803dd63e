use Rattle.text.proofs.Wrote.{wrote-refusal}
use Rattle.text.proofs.put_refusal.Goals as goal

pub returns : goal.returns
returns c = rw (← c.from.ensures) (wrote-refusal _ c.put-name.ensures c.put_field.ensures)
