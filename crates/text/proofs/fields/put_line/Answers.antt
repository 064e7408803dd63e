use Rattle.text.specs.Text.{release_line}
use Rattle.text.proofs.Wrote.{wrote_then}
use Rattle.text.proofs.fields.put_line.Goals as goal

pub returns : goal.returns
unfolding release_line
returns c =
    rw (← c.from.ensures, ← c.from-2.ensures, ← c.from-3.ensures)
    (wrote_then c.put_field-first.ensures (wrote_then c.put_field-second.ensures (wrote_then c.put_field-third.ensures c.put_field.ensures)))
