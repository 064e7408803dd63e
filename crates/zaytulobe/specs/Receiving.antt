-- The receiver over numbers, for callers in C: a bool is 0 or 1, and any other number is refused by 3, as a state field out of range is
-- (document 01, "Numbers of refusal"). All else is the receiver's own `entry`. Assumes nothing.
use Rattle.std.specs.Prelude.{not, List, [], ◌∷◌, ℕ, Result, Ok, Err, eqb}
use Rattle.answers.specs.declared.Ran.{Ran}
use Rattle.answers.specs.declared.Refusal.{Refusal}
use Rattle.answers.specs.Numbers.{number}
use Rattle.bits.specs.Choice.{pick}
use Rattle.bits.specs.Refusals.{Line, ◌when◌, refusal_by}
use Rattle.frame.specs.Modes.{known}
use Rattle.receiver.specs.declared.Receiver.{Receiver}
use Rattle.receiver.specs.Entry.{entry}
use Rattle.receiver.specs.Entry as receiver
use Rattle.zaytulobe.specs.declared.receivers.ReceiverNumbers.{ReceiverNumbers}
use Rattle.zaytulobe.specs.Receivers.{fit, state_of, as_numbers}
use Rattle.zaytulobe.specs.declared.receiving.ReceivedNumbers.{ReceivedNumbers}

-- an answer, and the buffers at exit
pub record Done : Type 0 where
  pub answer : ReceivedNumbers
  pub octets : List ℕ
  pub statuses : List ℕ
  pub commands : List ℕ
  pub places : List ℕ
  pub patterns : List ℕ
  pub invalid : List ℕ

abbrev pub done : ReceivedNumbers → List ℕ → List ℕ → List ℕ → List ℕ → List ℕ → List ℕ → Done
done r o s c p q i = record { answer = r; octets = o; statuses = s; commands = c; places = p; patterns = q; invalid = i }

-- the receiver's answer in numbers, and its buffers
unfoldable pub in_numbers : receiver.Done → Done
in_numbers d =
    done (record { refusal = d.answer.refusal; count = d.answer.count; state = as_numbers d.answer.state })
    d.octets d.statuses d.commands d.places d.patterns d.invalid

-- an answer in numbers: a refusal hands back the numbers given
abbrev pub answer_numbers : ReceiverNumbers → Result (Ran Receiver) Refusal → ReceivedNumbers
answer_numbers x (Ok ran) = record { refusal = 0; count = ran.count; state = as_numbers ran.state }
answer_numbers x (Err why) = record { refusal = number why; count = 0; state = x }

-- what is asked before numbers are read as a state
abbrev pub refusals : ℕ → ReceiverNumbers → List Line
refusals mode x = 1 when not (known mode) ∷ 3 when not (fit x) ∷ []

-- refused by that, with all as it was; or the receiver's entry from the state that the numbers stand for
unfoldable pub receive_numbers : ℕ → ReceiverNumbers → List ℕ → List ℕ → List ℕ → List ℕ → List ℕ → List ℕ → List ℕ → Done
receive_numbers mode x lane o s c p q i =
    let refusal = refusal_by (refusals mode x) in
    pick (eqb refusal 0)
    (in_numbers (entry mode (state_of x) lane o s c p q i))
    (done (record { refusal = refusal; count = 0; state = x }) o s c p q i)
