use Rattle.text.specs.Text.{head_line}
use Rattle.text.proofs.Wrote.{wrote_then}
use Rattle.text.proofs.fields.put_head.Goals as goal

pub returns : goal.returns
unfolding head_line
returns c = wrote_then c.put_name-name.ensures (wrote_then c.put_field-first.ensures (wrote_then c.put_field-second.ensures c.put_field.ensures))
