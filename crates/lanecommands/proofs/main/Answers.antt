-- The text has as many octets as the longest text of messages.
use Rattle.std.proofs.Common.{sym}
use Rattle.capture.proofs.Told.{longest-messages}
use Rattle.lanecommands.proofs.main.Goals as goal

pub print-count-requires : goal.print-count-requires
print-count-requires c = sym longest-messages
