-- The text has as many octets as the longest listing.
use Rattle.std.proofs.Common.{sym}
use Rattle.capture.proofs.Short.{longest-text}
use Rattle.lanelist.proofs.main.Goals as goal

pub print-count-requires : goal.print-count-requires
print-count-requires c = sym longest-text
