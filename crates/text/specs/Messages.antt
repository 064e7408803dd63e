-- The messages of a list of commands as octets: request 6. A line for each event: the multiblock in which it began, what it is, and its numbers.
-- Assumes nothing.
use Rattle.std.specs.Prelude.{not, List, [], ◌∷◌, ◌++◌, ℕ, zero, suc, ◌*◌, ◌/◌, ltb, eqb, length, take, Option, Some, None}
use Rattle.bits.specs.Bounds.{all_below}
use Rattle.bits.specs.Refusals.{Line, ◌when◌, refusal_by}
use Rattle.frame.specs.Modes.{row, flagged_bound, most_of_all}
use Rattle.commands.specs.declared.events.Event.{Event}
use Rattle.commands.specs.declared.events.Event.TheVariants as event
use Rattle.commands.specs.declared.events.Read.{Read}
use Rattle.commands.specs.Writing.{channel_words}
use Rattle.commands.specs.Reading.{event_in}
use Rattle.text.specs.Text.{decimal, spaced, head_line}
use Rattle.text.specs.Writing.{Done, answer_of}

-- "message ", "cut " and "undefined "
abbrev pub message_name : List ℕ
message_name = 109 ∷ 101 ∷ 115 ∷ 115 ∷ 97 ∷ 103 ∷ 101 ∷ 32 ∷ []

abbrev pub cut_name : List ℕ
cut_name = 99 ∷ 117 ∷ 116 ∷ 32 ∷ []

abbrev pub undefined_name : List ℕ
undefined_name = 117 ∷ 110 ∷ 100 ∷ 101 ∷ 102 ∷ 105 ∷ 110 ∷ 101 ∷ 100 ∷ 32 ∷ []

-- each word after a space
unfoldable pub words_text : List ℕ → List ℕ
words_text [] = []
words_text (w ∷ words) = 32 ∷ (decimal w ++ words_text words)

-- a multiblock, a name, a number and words
unfoldable pub told_line : ℕ → List ℕ → ℕ → List ℕ → List ℕ
told_line k name number words = spaced k ++ (name ++ (decimal number ++ (words_text words ++ (10 ∷ []))))

-- the line of an event that began in multiblock k; the list's end has none
abbrev pub event_line : ℕ → Option Event → List ℕ
event_line k None = []
event_line k (Some (event.Message m)) = told_line k message_name m.code (take m.count m.words)
event_line k (Some (event.Cut words)) = told_line k cut_name words []
event_line k (Some (event.Undefined code)) = told_line k undefined_name code []

module _ (n : ℕ) (commands : List ℕ) where
  abbrev pub line_of : Read → List ℕ
  line_of r = event_line (r.begin / n) r.event

  -- the lines of so many reads, the first from a word on, and each from where the one before said
  unfoldable pub event_lines : ℕ → ℕ → List ℕ
  event_lines from zero = []
  event_lines from (suc reads) = line_of (event_in n commands from) ++ event_lines (event_in n commands from).next reads

-- the header line, and a line for each event: no list has more events than words
unfoldable pub messages_text : ℕ → ℕ → ℕ → List ℕ → List ℕ
messages_text mode E received commands =
    head_line (row mode) E received (length commands) ++ event_lines (channel_words mode) commands 0 (channel_words mode * length commands)

-- the table: the reader's, and 5 where there are more commands than any call releases, 7 where there is no room
abbrev pub messages_refusals : ℕ → List ℕ → List ℕ → List ℕ → List Line
messages_refusals mode commands new text =
    1 when eqb (channel_words mode) 0
    ∷ 5 when ltb most_of_all (length commands)
    ∷ 6 when not (all_below (flagged_bound (row mode).sync) commands)
    ∷ 7 when ltb (length text) (length new)
    ∷ []

unfoldable pub messages_written : ℕ → ℕ → ℕ → List ℕ → List ℕ → Done
messages_written mode E received commands text =
    let new = messages_text mode E received commands in answer_of (refusal_by (messages_refusals mode commands new text)) new text
