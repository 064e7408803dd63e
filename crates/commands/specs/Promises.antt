-- What is promised of messages, written and read: request 6; proofs/Promised.antt holds the proofs, in this order. Assumes nothing.
use Rattle.std.specs.Prelude.{◌≡◌, Bool, true, false, List, [], ◌∷◌, ◌++◌, ℕ, zero, suc, ◌+◌, ◌*◌, ◌≤◌, ◌<◌, length, take, replicate, Some, None}
use Rattle.bits.specs.Order.{list_from, laid}
use Rattle.frame.specs.Modes.{rows}
use Rattle.commands.specs.declared.words.Word.{Word}
use Rattle.commands.specs.declared.words.Word.TheVariants.{Header, Payload, Padding, Spoilt, End}
use Rattle.commands.specs.declared.events.Event.TheVariants as event
use Rattle.commands.specs.declared.events.Message.{Message}
use Rattle.commands.specs.Words.{word_at}
use Rattle.commands.specs.Table51.{most_words}
use Rattle.commands.specs.Writing.{channel_words, written, refusal_of}
use Rattle.commands.specs.Reading.{found, Reading, unrefused, reading}

-- mode by mode, the words of a command: CRC-12 one and FEC none, the same in blocks of 80 bits, CRC-3 one, and three in the stand-alone channel
abbrev pub Channels : Type 0
Channels = list_from channel_words 0 (length rows) ≡ 1 ∷ 0 ∷ 1 ∷ 0 ∷ 1 ∷ 3 ∷ []

-- ---- a message written, and read back

-- a message as it is given to the writer, and as the reader has it
pub record Given : Type 0 where
  pub code : ℕ
  pub payload : List ℕ

abbrev pub as_read : Given → Message
as_read m = record { code = m.code; count = length m.payload; words = laid m.payload (replicate most_words 0) }

-- what the writer makes of it for a mode, in a list that has room
abbrev pub encoded : ℕ → Given → List ℕ
encoded mode m = written (channel_words mode) m.code m.payload

-- the writer does not refuse it, but for room
abbrev pub Accepted : ℕ → Given → Type 0
Accepted mode m = refusal_of (channel_words mode) m.code m.payload (length (encoded mode m)) ≡ 0

-- a list that begins with a header, or has nothing
abbrev pub opens : Word → Bool
opens (Header code) = true
opens (Payload bits) = false
opens Padding = false
opens Spoilt = false
opens End = true

-- a read from where a message begins gives it, and goes on behind its last command, whatever follows that begins with a header
abbrev pub ReadsBack : Type 0
ReadsBack =
    (mode : ℕ) (m : Given) → Accepted mode m → (before after : List ℕ) → opens (word_at (channel_words mode) after 0) ≡ true
    → let n = channel_words mode in let commands = before ++ (encoded mode m ++ after) in
    (reading mode commands 0).refusal ≡ 0
    → reading mode commands (n * length before) ≡ unrefused (found (Some (event.Message (as_read m))) (n * length before) (n * (length before + length (encoded mode m))))

-- ---- one message has one encoding: a list that is read whole as a message, from its first word on, is what the writer makes of that message

abbrev pub OneEncoding : Type 0
OneEncoding =
    (mode : ℕ) (commands : List ℕ) (message : Message)
    → reading mode commands 0 ≡ unrefused (found (Some (event.Message message)) 0 (channel_words mode * length commands))
    → commands ≡ written (channel_words mode) message.code (take message.count message.words)

-- ---- every list is read to its end

-- each read goes on, but at the end, where it stays
abbrev pub GoesOn : Type 0
GoesOn =
    (mode : ℕ) (commands : List ℕ) (from : ℕ) → (reading mode commands from).refusal ≡ 0
    → (from < channel_words mode * length commands → from < (reading mode commands from).next)
    × (channel_words mode * length commands ≤ from → reading mode commands from ≡ unrefused (found None from from))

-- so many reads, the first from a word on, and each from where the one before said
unfoldable pub reads : ℕ → List ℕ → ℕ → ℕ → List Reading
reads mode commands from zero = []
reads mode commands from (suc n) = reading mode commands from ∷ reads mode commands (reading mode commands from).next n

-- the word to go on from after so many reads
unfoldable pub place_after : ℕ → List ℕ → ℕ → ℕ → ℕ
place_after mode commands from zero = from
place_after mode commands from (suc n) = place_after mode commands (reading mode commands from).next n

-- and as many reads as there are words come to the end
abbrev pub Finishes : Type 0
Finishes =
    (mode : ℕ) (commands : List ℕ) → (reading mode commands 0).refusal ≡ 0
    → place_after mode commands 0 (channel_words mode * length commands) ≡ channel_words mode * length commands

-- ---- messages one after another

abbrev pub all_encoded : ℕ → List Given → List ℕ
all_encoded mode [] = []
all_encoded mode (m ∷ messages) = encoded mode m ++ all_encoded mode messages

abbrev pub AllAccepted : ℕ → List Given → Type 0
AllAccepted mode [] = Unit {0}
AllAccepted mode (m ∷ messages) = Accepted mode m × AllAccepted mode messages

-- each message, from the word where it begins to that where the next does, and then nothing
abbrev pub all_read : ℕ → ℕ → List Given → List Reading
all_read mode from [] = unrefused (found None from from) ∷ []
all_read mode from (m ∷ messages) =
    let next = from + channel_words mode * length (encoded mode m) in unrefused (found (Some (event.Message (as_read m))) from next) ∷ all_read mode next messages

-- in a mode with a command channel
abbrev pub AllReadBack : Type 0
AllReadBack =
    (mode : ℕ) (messages : List Given) → 1 ≤ channel_words mode → AllAccepted mode messages
    → reads mode (all_encoded mode messages) 0 (suc (length messages)) ≡ all_read mode 0 messages
