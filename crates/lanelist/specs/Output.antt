-- All that is printed of a capture: document 01, "Capture and listing". Assumes nothing.
use Rattle.std.specs.Prelude.{List, ℕ, eqb}
use Rattle.bits.specs.Choice.{pick}
use Rattle.text.specs.Text.{refused_line}
use Rattle.capture.specs.Form.{refusal_of}
use Rattle.capture.specs.Listing.{listing_of}

-- the listing, or one line only
unfoldable pub printed : List ℕ → List ℕ
printed capture = pick (eqb (refusal_of capture) 0) (listing_of capture) (refused_line (refusal_of capture))
