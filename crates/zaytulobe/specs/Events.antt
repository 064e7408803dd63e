-- An event in numbers, for callers in C: its kind, and beside it the code, the words and the count that the kind has (clauses 7.3.7.4 and 7.6.3;
-- request 6). Assumes nothing.
use Rattle.std.specs.Prelude.{List, ℕ, Option, Some, None, replicate}
use Rattle.commands.specs.declared.events.Event.{Event}
use Rattle.commands.specs.declared.events.Event.TheVariants.{Message, Cut, Undefined}
use Rattle.commands.specs.Reading.{Reading}
use Rattle.zaytulobe.specs.declared.messages.EventNumbers.{EventNumbers}

abbrev pub kind_of : Option Event → ℕ
kind_of None = 0
kind_of (Some (Message message)) = 1
kind_of (Some (Cut taken)) = 2
kind_of (Some (Undefined code)) = 3

-- the function code: a message's own, or the one that is not defined
abbrev pub code_of : Option Event → ℕ
code_of None = 0
code_of (Some (Message message)) = message.code
code_of (Some (Cut taken)) = 0
code_of (Some (Undefined code)) = code

-- a message's words; seven zeros of what is none
abbrev pub words_of : Option Event → List ℕ
words_of None = replicate 7 0
words_of (Some (Message message)) = message.words
words_of (Some (Cut taken)) = replicate 7 0
words_of (Some (Undefined code)) = replicate 7 0

-- how many words: a message's payload, or those of six bits that a cut took
abbrev pub count_of : Option Event → ℕ
count_of None = 0
count_of (Some (Message message)) = message.count
count_of (Some (Cut taken)) = taken
count_of (Some (Undefined code)) = 0

-- the numbers of what was read
unfoldable pub event_numbers : Reading → EventNumbers
event_numbers r = record {
  refusal = r.refusal;
  kind = kind_of r.event;
  code = code_of r.event;
  words = words_of r.event;
  count = count_of r.event;
  begin = r.begin;
  next = r.next;
}

-- those of no event
abbrev pub no_event : ℕ → ℕ → EventNumbers
no_event begin next = record { refusal = 0; kind = 0; code = 0; words = replicate 7 0; count = 0; begin = begin; next = next }
