-- What is told of the messages in a capture: request 6. Assumes nothing.
use Rattle.std.specs.Prelude.{Bool, not, List, [], ◌∷◌, ◌++◌, ℕ, ◌+◌, ◌-◌, ◌*◌, ltb, eqb, length}
use Rattle.bits.specs.Refusals.{Line, ◌when◌, refusal_by}
use Rattle.frame.specs.Modes.{row, most_of_all}
use Rattle.commands.specs.Writing.{channel_words}
use Rattle.receiver.specs.Release.{Release}
use Rattle.receiver.specs.Entry.{column}
use Rattle.text.specs.Writing.{Done, answer_of}
use Rattle.text.specs.Messages.{messages_text}
use Rattle.capture.specs.Form.{refusals_by, mode_of, extent_of, lane_of}
use Rattle.capture.specs.Listing.{received_in, releases_of}

-- whether a mode has a command channel
unfoldable pub has_commands : ℕ → Bool
has_commands mode = not (eqb (channel_words mode) 0)

-- the text of a lane: of all commands that a fresh receiver releases
unfoldable pub lane_messages : ℕ → ℕ → List ℕ → List ℕ
lane_messages mode E lane =
    messages_text mode E (received_in (row mode) lane) (column (λ (r : Release). r.command) (releases_of (row mode) lane))

unfoldable pub messages_of : List ℕ → List ℕ
messages_of capture = lane_messages (mode_of capture) (extent_of capture) (lane_of capture)

-- no text is longer: a header line of at most 21 octets, and for each word of a command that is released at most 17
unfoldable pub longest_messages : ℕ
longest_messages = 21 + 17 * (3 * (most_of_all - 1))

-- the table: the capture's, by the modes that have commands
abbrev pub messages_refusals : List ℕ → List Line
messages_refusals = refusals_by has_commands

unfoldable pub messages_refusal : List ℕ → ℕ
messages_refusal capture = refusal_by (messages_refusals capture)

-- refused by that, or by 7 where there is no room, with the text as it was; or the whole text
unfoldable pub told : List ℕ → List ℕ → Done
told capture text =
    answer_of (refusal_by (messages_refusals capture ++ 7 when ltb (length text) (length (messages_of capture)) ∷ [])) (messages_of capture) text
