-- What is listed of a capture: document 01, "Capture and listing". Assumes nothing.
use Rattle.std.specs.Prelude.{List, [], ◌∷◌, ◌++◌, ℕ, ◌+◌, ◌-◌, ◌*◌, ◌/◌, ltb, length}
use Rattle.bits.specs.Order.{bit_at}
use Rattle.bits.specs.Refusals.{Line, ◌when◌, refusal_by}
use Rattle.frame.specs.declared.modes.Row.{Row}
use Rattle.frame.specs.Modes.{row, most_of_all}
use Rattle.frame.specs.Lane.{lane_octets}
use Rattle.receiver.specs.Release.{Release, fresh, run}
use Rattle.receiver.specs.Entry.{column}
use Rattle.text.specs.Text.{text_of}
use Rattle.text.specs.Writing.{Done, answer_of}
use Rattle.capture.specs.Form.{refusals, mode_of, extent_of, lane_of}

-- the multiblocks of a lane, and what a fresh receiver releases of them
abbrev pub received_in : Row → List ℕ → ℕ
received_in R lane = length lane / lane_octets R.gap

unfoldable pub releases_of : Row → List ℕ → List Release
releases_of R lane = (run R (bit_at lane) fresh (received_in R lane)).out

-- the text of a lane
unfoldable pub lane_text : Row → ℕ → List ℕ → List ℕ
lane_text R E lane =
    let out = releases_of R lane in
    text_of R E (received_in R lane)
    (column (λ (r : Release). r.status) out) (column (λ (r : Release). r.place) out) (column (λ (r : Release). r.pattern) out)

-- the listing of a capture
unfoldable pub listing_of : List ℕ → List ℕ
listing_of capture = lane_text (row (mode_of capture)) (extent_of capture) (lane_of capture)

-- no listing is longer: a header line of at most 18 octets, and one of at most 15 for each multiblock of a call but the last, which still waits
unfoldable pub longest_text : ℕ
longest_text = 18 + 15 * (most_of_all - 1)

-- the table: the capture's, and then 7 where there is no room
abbrev pub listing_refusals : List ℕ → List ℕ → List Line
listing_refusals capture text = refusals capture ++ 7 when ltb (length text) (length (listing_of capture)) ∷ []

-- refused, with the text as it was; or the whole listing
unfoldable pub listed : List ℕ → List ℕ → Done
listed capture text = answer_of (refusal_by (listing_refusals capture text)) (listing_of capture) text
