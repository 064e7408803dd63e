use native.Mathlib.Omega.{arith}
use Rattle.text.proofs.Names.{without-gaps, with-gaps}
use Rattle.text.proofs.Wrote.{wrote_none, wrote_then, wrote-is}
use Rattle.text.proofs.fields.put_shape.Goals as goal

pub returns-then-row-eq0 : goal.returns-then-row-eq0
returns-then-row-eq0 c = wrote-is (without-gaps c.args.row.gap c.if-row-eq0.true) (wrote_none c.args.at c.args.text.now (omega arith) (omega arith))

pub returns : goal.returns
returns c = wrote-is (with-gaps c.args.row c.if-row-eq0.false c.numbers_of.ensures) (wrote_then c.put-next.ensures c.put_decimal.ensures)
