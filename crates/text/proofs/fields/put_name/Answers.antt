use Rattle.text.specs.Text.{name_of}
use Rattle.text.proofs.Wrote.{wrote_then, wrote-is}
use Rattle.text.proofs.fields.put_name.Goals as goal

pub returns : goal.returns
unfolding name_of
returns c = wrote_then (wrote-is c.letters_of.ensures c.put-sync.ensures) (wrote_then c.put_shape-shape.ensures c.put.ensures)
