-- What a call of the sender answers, and what the lane holds after it: document 01, "Numbers of refusal". Assumes nothing.
use Rattle.std.specs.Prelude.{List, ℕ, eqb, length}
use Rattle.answers.specs.Numbers.{Answer}
use Rattle.bits.specs.Choice.{pick}
use Rattle.bits.specs.Order.{laid}
use Rattle.frame.specs.Modes.{row}
use Rattle.sender.specs.declared.Sender.{Sender}
use Rattle.sender.specs.Lane.{lane, after}
use Rattle.sender.specs.Refusal.{refusal_of}

-- an answer, and the lane at exit
pub record Done : Type 0 where
  pub answer : Answer Sender
  pub lane : List ℕ

abbrev pub done : Answer Sender → List ℕ → Done
done answer lane = record { answer = answer; lane = lane }

-- refused, with all as it was; or a run, laid over the start of the lane
unfoldable pub entry : ℕ → ℕ → Sender → List ℕ → List ℕ → List ℕ → Done
entry mode E s user commands old =
    pick (eqb (refusal_of mode E s user commands old) 0)
    (done (record { refusal = 0; count = length commands; state = after (row mode) E s user commands }) (laid (lane (row mode) E s user commands) old))
    (done (record { refusal = refusal_of mode E s user commands old; count = 0; state = s }) old)
