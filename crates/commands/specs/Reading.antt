-- Messages read word by word: clauses 7.3.7.4, 7.3.7.6 and 7.6.3, Tables 56 and 57; request 6. A stream of words is a function from places to what
-- stands there. Assumes nothing.
use Rattle.std.specs.Prelude.{Bool, true, false, not, ◌&&◌, ◌||◌, List, [], ◌∷◌, ℕ, zero, suc, ◌+◌, ◌-◌, ◌*◌, ◌/◌, leb, eqb, length, replicate, Option, Some, None, Result, Ok, Err}
use Rattle.bits.specs.Choice.{pick}
use Rattle.bits.specs.Bounds.{all_below}
use Rattle.bits.specs.Order.{list_from, laid}
use Rattle.answers.specs.declared.Refusal.{Refusal}
use Rattle.answers.specs.Numbers.{number}
use Rattle.bits.specs.Refusals.{Line, ◌when◌, refusal_by}
use Rattle.frame.specs.Modes.{row, flagged_bound}
use Rattle.commands.specs.declared.table51.Function.{Function}
use Rattle.commands.specs.declared.words.Word.{Word}
use Rattle.commands.specs.declared.words.Word.TheVariants.{Header, Payload, Padding, Spoilt, End}
use Rattle.commands.specs.declared.events.Event.{Event}
use Rattle.commands.specs.declared.events.Event.TheVariants as event
use Rattle.commands.specs.declared.events.Read.{Read}
use Rattle.commands.specs.Words.{word_at}
use Rattle.commands.specs.Table51.{most_words, function_of}
use Rattle.commands.specs.Writing.{channel_words}

-- ---- words in a row

-- whether payload and padding are meant, and a word is one of these
abbrev pub meant : Bool → Bool → Word → Bool
meant payload padding (Header code) = false
meant payload padding (Payload bits) = payload
meant payload padding Padding = padding
meant payload padding Spoilt = false
meant payload padding End = false

abbrev pub is_spoilt : Word → Bool
is_spoilt (Header code) = false
is_spoilt (Payload bits) = false
is_spoilt Padding = false
is_spoilt Spoilt = true
is_spoilt End = false

abbrev pub five_bits : Word → ℕ
five_bits (Header code) = 0
five_bits (Payload bits) = bits
five_bits Padding = 0
five_bits Spoilt = 0
five_bits End = 0

-- how many words in a row are meant, from word i on, and of so many at most
unfoldable pub in_a_row : (Word → Bool) → (ℕ → Word) → ℕ → ℕ → ℕ
in_a_row is words i zero = 0
in_a_row is words i (suc most) = pick (is (words i)) (suc (in_a_row is words (suc i) most)) 0

-- ---- events

abbrev pub found : Option Event → ℕ → ℕ → Read
found event begin next = record { event = event; begin = begin; next = next }

-- a message is complete when it can have no more payload, or has enough and what comes behind it is not spoilt
unfoldable pub complete : Function → ℕ → Bool → Bool
complete f count spoilt = eqb count f.most || (leb f.fewest count && not spoilt)

-- the first word of the command behind that of word i
unfoldable pub past_command : ℕ → ℕ → ℕ
past_command n i = n * (i / n + 1)

module _ (n : ℕ) (words : ℕ → Word) where
  -- past the padding that stands from word i on: it fills a command, and is less than one
  unfoldable pub past_padding : ℕ → ℕ
  past_padding i = i + in_a_row (meant false true) words i n

  -- the word to go on from where a message is cut before word i: a command that is spoilt goes with it
  unfoldable pub past_cut : ℕ → Bool → ℕ
  past_cut i spoilt = pick spoilt (past_command n i) (past_padding i)

  -- payload that is taken, from word i on, over the start of seven zeros
  unfoldable pub payload_from : ℕ → ℕ → List ℕ
  payload_from i count = laid (list_from (λ k. five_bits (words k)) i count) (replicate most_words 0)

  -- a message of a defined code, whose header is word b and whose payload has so many words
  unfoldable pub message_at : ℕ → ℕ → ℕ → Read
  message_at b code count =
      let behind = b + 1 + count in
      pick (complete (function_of code) count (is_spoilt (words behind)))
      (found (Some (event.Message (record { code = code; count = count; words = payload_from (b + 1) count }))) b (past_padding behind))
      (found (Some (event.Cut (1 + count))) b (past_cut behind (is_spoilt (words behind))))

  -- what begins with the header at word b
  unfoldable pub header_at : ℕ → ℕ → Read
  header_at b code =
      pick (function_of code).defined
      (message_at b code (in_a_row (meant true false) words (b + 1) (function_of code).most))
      (found (Some (event.Undefined code)) b (past_padding (b + 1)))

  -- what begins at word b, which says so; where nothing begins the list has ended
  abbrev pub event_at : ℕ → Word → Read
  event_at b (Header code) = header_at b code
  event_at b (Payload bits) = found None b b
  event_at b Padding = found None b b
  event_at b Spoilt = found (Some (event.Cut 0)) b (past_command n b)
  event_at b End = found None b b

  -- where the first event begins at or after a word, of so many in all: payload and padding with nothing open are skipped
  unfoldable pub begin_from : ℕ → ℕ → ℕ
  begin_from all from = from + in_a_row (meant true true) words from (all - from)

  unfoldable pub event_from : ℕ → ℕ → Read
  event_from all from = event_at (begin_from all from) (words (begin_from all from))

-- ---- the entry

abbrev pub refusals : ℕ → ℕ → List ℕ → List Line
refusals n bound commands = 1 when eqb n 0 ∷ 6 when not (all_below bound commands) ∷ []

unfoldable pub refusal_of : ℕ → List ℕ → ℕ
refusal_of mode commands = refusal_by (refusals (channel_words mode) (flagged_bound (row mode).sync) commands)

-- the first event of a list that is not refused
unfoldable pub event_in : ℕ → List ℕ → ℕ → Read
event_in n commands from = event_from n (word_at n commands) (n * length commands) from

-- a refusal, or 0; what was read, if anything, the word with which it begins, and the word to go on from
pub record Reading : Type 0 where
  pub refusal : ℕ
  pub event : Option Event
  pub begin : ℕ
  pub next : ℕ

abbrev pub unrefused : Read → Reading
unrefused r = record { refusal = 0; event = r.event; begin = r.begin; next = r.next }

-- refused, with nothing read from a word on
abbrev pub refused_with : ℕ → ℕ → Reading
refused_with refusal from = record { refusal = refusal; event = None; begin = from; next = from }

-- an answer, where it was asked from that word on
abbrev pub read_as : ℕ → Result Read Refusal → Reading
read_as from (Ok r) = unrefused r
read_as from (Err why) = refused_with (number why) from

-- refused, with nothing read; or the first event at or after a word
unfoldable pub reading : ℕ → List ℕ → ℕ → Reading
reading mode commands from =
    let refusal = refusal_of mode commands in
    pick (eqb refusal 0)
    (unrefused (event_in (channel_words mode) commands from))
    (refused_with refusal from)
