-- A receiver's state as numbers: which numbers fit, the state that they stand for, and back (document 01, "What the receiver releases";
-- requests 5 and 7).
-- Assumes nothing.
use Rattle.std.specs.Prelude.{Bool, ◌&&◌, Result, Ok, Err}
use Rattle.answers.specs.declared.Refusal.{Refusal}
use Rattle.answers.specs.declared.Refusal.TheVariants.{State}
use Rattle.bits.specs.Choice.{pick, bit_of}
use Rattle.receiver.specs.declared.Receiver.{Receiver}
use Rattle.zaytulobe.specs.declared.receivers.ReceiverNumbers.{ReceiverNumbers}
use Rattle.zaytulobe.specs.Bool.{is_bool, bool_of}

-- each bool is 0 or 1
unfoldable pub fit : ReceiverNumbers → Bool
fit x = is_bool x.waiting && is_bool x.trusted

-- the state that numbers stand for
unfoldable pub state_of : ReceiverNumbers → Receiver
state_of x = record {
  waiting = bool_of x.waiting;
  octets = x.octets;
  history = x.history;
  trusted = bool_of x.trusted;
  command = x.command;
  invalid = x.invalid;
  own = x.own;
  sound = x.sound;
  repaired = x.repaired;
  failed = x.failed;
}

-- the state, refused by 3 where the numbers stand for none
unfoldable pub read : ReceiverNumbers → Result Receiver Refusal
read x = pick (fit x) (Ok (state_of x)) (Err State)

-- the numbers of a state
unfoldable pub as_numbers : Receiver → ReceiverNumbers
as_numbers s = record {
  history = s.history;
  command = s.command;
  waiting = bit_of s.waiting;
  trusted = bit_of s.trusted;
  octets = s.octets;
  invalid = s.invalid;
  own = s.own;
  sound = s.sound;
  repaired = s.repaired;
  failed = s.failed;
}
