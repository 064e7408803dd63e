-- A message as commands: clauses 7.3.7.3, 7.3.7.4 and 7.3.7.6; request 6. Assumes nothing.
use Rattle.std.specs.Prelude.{not, ◌||◌, List, [], ◌∷◌, ℕ, zero, suc, ◌+◌, ◌*◌, ◌/◌, ltb, eqb, length, get_or}
use Rattle.bits.specs.Choice.{pick}
use Rattle.bits.specs.Bounds.{all_below}
use Rattle.bits.specs.Order.{list_from, laid}
use Rattle.bits.specs.Refusals.{Line, ◌when◌, refusal_by}
use Rattle.answers.specs.Numbers.{Counted}
use Rattle.frame.specs.Modes.{command_words, known, row}
use Rattle.commands.specs.Words.{together, with_parity}
use Rattle.commands.specs.Table51.{function_of}

-- the words a command of a mode has; 0 where the mode is unknown or has no command channel
unfoldable pub channel_words : ℕ → ℕ
channel_words mode = pick (known mode) (command_words (row mode).sync) 0

-- word i of a message: its header, its payload, and then idle headers
unfoldable pub message_word : ℕ → List ℕ → ℕ → ℕ
message_word code payload zero = code
message_word code payload (suc i) = pick (ltb i (length payload)) (32 + get_or payload i 0) 0

-- how many commands of n words hold it, and what these are
unfoldable pub commands_for : ℕ → ℕ → ℕ
commands_for n words = (words + n) / n

unfoldable pub command_of : ℕ → ℕ → List ℕ → ℕ → ℕ
command_of n code payload k = with_parity (together (message_word code payload) (n * k) n)

unfoldable pub written : ℕ → ℕ → List ℕ → List ℕ
written n code payload = list_from (command_of n code payload) 0 (commands_for n (length payload))

-- the table. The last line is asked only of a message that 10 and 11 let pass
abbrev pub refusals : ℕ → ℕ → List ℕ → ℕ → List Line
refusals n code payload room =
    1 when eqb n 0
    ∷ 6 when (not (all_below 32 payload) || ltb (length payload) (function_of code).fewest)
    ∷ 10 when ltb (function_of code).most (length payload)
    ∷ 11 when not (function_of code).defined
    ∷ 7 when ltb room (commands_for n (length payload))
    ∷ []

unfoldable pub refusal_of : ℕ → ℕ → List ℕ → ℕ → ℕ
refusal_of n code payload room = refusal_by (refusals n code payload room)

-- an answer, and the commands at exit
pub record Done : Type 0 where
  pub answer : Counted
  pub commands : List ℕ

abbrev pub done : Counted → List ℕ → Done
done answer commands = record { answer = answer; commands = commands }

-- refused, with all as it was; or the message, laid over the start of the commands
unfoldable pub writing : ℕ → ℕ → List ℕ → List ℕ → Done
writing mode code payload old =
    let n = channel_words mode in
    let refusal = refusal_of n code payload (length old) in
    pick (eqb refusal 0)
    (done (record { refusal = 0; count = commands_for n (length payload) }) (laid (written n code payload) old))
    (done (record { refusal = refusal; count = 0 }) old)
