use mathlib.Core.Path.{ap}
use native.Mathlib.Omega.{arith}
use lib.ListN.{length}
use Rattle.frame.specs.declared.modes.Row.{Row}
use Rattle.frame.proofs.Rows.{most-is}
use Rattle.text.specs.Text.{head_line}
use Rattle.text.specs.Messages.{messages_text}
use Rattle.text.proofs.Wrote.{wrote_then, wrote-is}
use Rattle.text.proofs.messages.Commands.put_all.Goals as goal

pub overflow_cast-self : goal.overflow_cast-self
overflow_cast-self c = omega (arith, most-is)

pub returns : goal.returns
unfolding messages_text
returns c =
    let a = c.args in
    let is = ap (λ (R : Row). head_line R a.e a.received (length a.self.now.commands.now)) c.row_of-row.ensures in
    wrote_then (wrote-is is c.put_head-start.ensures) c.put_events.ensures
