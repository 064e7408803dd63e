-- The constants of `capture` are the numbers of the definitions.
use mathlib.Core.Path.{sym, ap}
use Prim.Native.Nat.{ℕ, ◌+◌}
use Rattle.frame.proofs.Rows.{longest-is}
use Rattle.capture.proofs.Short.{longest-text}
use Rattle.capture.proofs.Told.{longest-messages}
use Rattle.capture.proofs.tied.Goals as goal

pub returns : goal.returns
returns c = (sym (ap (λ (n : ℕ). 11 + n) longest-is), sym longest-text, sym longest-messages)
