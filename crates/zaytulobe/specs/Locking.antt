-- The locks over numbers, for callers in C: a bool is 0 or 1 and a phase 0 to 2, and any other number is refused by 3, as a state field out
-- of range is (document 01, "Numbers of refusal"). All else is the locks' own `stepped`. Assumes nothing.
use Rattle.std.specs.Prelude.{not, List, [], ◌∷◌, ℕ, Result, Ok, Err, eqb}
use Rattle.answers.specs.declared.Refusal.{Refusal}
use Rattle.answers.specs.Numbers.{number}
use Rattle.bits.specs.Choice.{pick}
use Rattle.bits.specs.Refusals.{Line, ◌when◌, refusal_by}
use Rattle.frame.specs.Modes.{known, extent_fits}
use Rattle.lock.specs.declared.Lock.{Lock}
use Rattle.lock.specs.Refusals.{Stepped, stepped}
use Rattle.zaytulobe.specs.declared.locks.LockNumbers.{LockNumbers}
use Rattle.zaytulobe.specs.Locks.{fit, state_of, as_numbers}
use Rattle.zaytulobe.specs.declared.locking.SteppedNumbers.{SteppedNumbers}

-- the locks' answer in numbers
unfoldable pub in_numbers : Stepped → SteppedNumbers
in_numbers r = record { refusal = r.refusal; lock = as_numbers r.lock }

-- an answer in numbers: a refusal hands back the numbers given
abbrev pub answer_numbers : LockNumbers → Result Lock Refusal → SteppedNumbers
answer_numbers x (Ok next) = record { refusal = 0; lock = as_numbers next }
answer_numbers x (Err why) = record { refusal = number why; lock = x }

-- what is asked before numbers are read as a state
abbrev pub refusals : ℕ → ℕ → LockNumbers → List Line
refusals mode E x = 1 when not (known mode) ∷ 2 when not (extent_fits E) ∷ 3 when not (fit x) ∷ []

-- refused by that, with all as it was; or the locks' step from the state that the numbers stand for
unfoldable pub step_numbers : ℕ → ℕ → LockNumbers → ℕ → SteppedNumbers
step_numbers mode E x header =
    let refusal = refusal_by (refusals mode E x) in
    pick (eqb refusal 0) (in_numbers (stepped mode E (state_of x) header)) (record { refusal = refusal; lock = x })
