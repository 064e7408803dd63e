-- All that is printed of a capture: request 6. Assumes nothing.
use Rattle.std.specs.Prelude.{List, ℕ, eqb}
use Rattle.bits.specs.Choice.{pick}
use Rattle.text.specs.Text.{refused_line}
use Rattle.capture.specs.Messages.{messages_refusal, messages_of}

-- the text of its messages, or one line only
unfoldable pub printed : List ℕ → List ℕ
printed capture = pick (eqb (messages_refusal capture) 0) (messages_of capture) (refused_line (messages_refusal capture))
