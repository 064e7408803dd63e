use native.Mathlib.Omega.{arith}
use Rattle.frame.proofs.Rows.{most-is}
use Rattle.text.specs.Text.{text_of}
use Rattle.text.proofs.Wrote.{wrote_then}
use Rattle.text.proofs.lines.Releases.put_all.Goals as goal

pub overflow_cast-self : goal.overflow_cast-self
overflow_cast-self c = omega (arith, most-is)

pub returns : goal.returns
unfolding text_of
returns c = wrote_then c.put_head-start.ensures c.put_lines.ensures
