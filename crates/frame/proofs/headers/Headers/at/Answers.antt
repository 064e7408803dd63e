-- `frame::headers::Headers::at` meets its contract: the two bits are found by a shift.
use mathlib.Core.Path.{sym, ◌∙◌}
use native.Mathlib.Omega.{arith}
use Rattle.frame.proofs.Reading.{header-by, header-past}
use Rattle.frame.proofs.headers.Headers.at.Goals as goal

pub returns-then-block-ge32 : goal.returns-then-block-ge32
returns-then-block-ge32 c = let a = c.args in c.read.ensures ∙ sym (header-past a.self.first a.self.second a.block (omega arith))

pub returns : goal.returns
returns c = let a = c.args in c.read-2.ensures ∙ sym (header-by a.self.first a.self.second a.block (omega arith))
