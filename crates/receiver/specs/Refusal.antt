-- What a receiver refuses, and by which number: document 01, "Numbers of refusal"; requests 1, 5 and 7. Assumes nothing.
use Rattle.std.specs.Prelude.{Bool, true, not, ◌&&◌, ◌||◌, List, [], ◌∷◌, ℕ, ◌-◌, ◌*◌, ◌/◌, ◌%◌, ◌^◌, ltb, leb, eqb}
use Rattle.bits.specs.Choice.{pick}
use Rattle.bits.specs.Refusals.{Line, ◌when◌, refusal_by}
use Rattle.frame.specs.Modes.{known, row, numbers_of}
use Rattle.receiver.specs.declared.Receiver.{Receiver}

unfoldable pub all_zero : List ℕ → Bool
all_zero [] = true
all_zero (x ∷ l) = eqb x 0 && all_zero l

-- all but the waiting flag is as in a fresh state
unfoldable pub as_fresh : Receiver → Bool
as_fresh s =
    (eqb s.history 0 && (eqb s.command 0 && (eqb s.invalid 0 && eqb s.own 0)))
    && ((eqb s.sound 0 && (eqb s.repaired 0 && eqb s.failed 0)) && (not s.trusted && all_zero s.octets))

-- each field of a state is in its range, its command and its own part of the parity below bounds, and with nothing waiting all are as in a fresh one
unfoldable pub state_fits : ℕ → ℕ → Receiver → Bool
state_fits flagged owns s =
    (ltb s.history (2 ^ 58) && (ltb s.command flagged && (leb s.invalid 32 && ltb s.own owns))) && (s.waiting || as_fresh s)

-- how many are released when n are received
unfoldable pub releases : Bool → ℕ → ℕ
releases waiting n = pick waiting n (n - 1)

-- whether buffers of these lengths hold what k releases write
unfoldable pub room_for : ℕ → ℕ → ℕ → ℕ → ℕ → ℕ → ℕ → Bool
room_for k octets statuses commands places patterns invalid =
    leb (256 * k) octets && (leb k statuses && (leb k commands && (leb k places && (leb k patterns && leb k invalid))))

-- the table, by the mode's numbers and the lengths of the lane and of the lent octets, statuses, commands, places, patterns
-- and numbers of invalid headers
abbrev pub refusals : ℕ → Receiver → ℕ → ℕ → ℕ → ℕ → ℕ → ℕ → ℕ → List Line
refusals mode s lane octets statuses commands places patterns invalid =
    let numbers = numbers_of (row mode) in
    let n = lane / numbers.octets in
    1 when not (known mode)
    ∷ 3 when not (state_fits numbers.flagged numbers.owns s)
    ∷ 4 when not (eqb (lane % numbers.octets) 0)
    ∷ 5 when ltb (row mode).most n
    ∷ 7 when not (room_for (releases s.waiting n) octets statuses commands places patterns invalid)
    ∷ []

unfoldable pub refusal_of : ℕ → Receiver → ℕ → ℕ → ℕ → ℕ → ℕ → ℕ → ℕ → ℕ
refusal_of mode s lane octets statuses commands places patterns invalid =
    refusal_by (refusals mode s lane octets statuses commands places patterns invalid)
