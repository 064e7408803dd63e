-- The locks' state as numbers: which numbers fit, the state that they stand for, and back (clause 7.6; document 01, "Lock tables").
-- Assumes nothing.
use Rattle.std.specs.Prelude.{Bool, ◌&&◌, ℕ, Result, Ok, Err, leb, eqb}
use Rattle.answers.specs.declared.Refusal.{Refusal}
use Rattle.answers.specs.declared.Refusal.TheVariants.{State}
use Rattle.bits.specs.Choice.{pick, bit_of}
use Rattle.lock.specs.declared.Phase.{Phase}
use Rattle.lock.specs.declared.Phase.TheVariants.{Hunting, Following, Locked}
use Rattle.lock.specs.declared.Lock.{Lock}
use Rattle.zaytulobe.specs.declared.locks.LockNumbers.{LockNumbers}
use Rattle.zaytulobe.specs.Bool.{is_bool, bool_of}

-- the bool is 0 or 1, and the phase 0, 1 or 2
unfoldable pub fit : LockNumbers → Bool
fit x = is_bool x.header.locked && leb x.extended.phase 2

-- a phase and its number
unfoldable pub phase_of : ℕ → Phase
phase_of n = pick (eqb n 2) Locked (pick (eqb n 1) Following Hunting)

abbrev pub phase_number : Phase → ℕ
phase_number Hunting = 0
phase_number Following = 1
phase_number Locked = 2

-- the state that numbers stand for
unfoldable pub state_of : LockNumbers → Lock
state_of x = record {
  header = record { locked = bool_of x.header.locked; offset = x.header.offset; run = x.header.run; bad = x.header.bad };
  extended = record {
    phase = phase_of x.extended.phase;
    seen = x.extended.seen;
    headers = x.extended.headers;
    good = x.extended.good;
    bad = x.extended.bad;
    next = x.extended.next;
    kept = x.extended.kept;
  };
}

-- the state, refused by 3 where the numbers stand for none
unfoldable pub read : LockNumbers → Result Lock Refusal
read x = pick (fit x) (Ok (state_of x)) (Err State)

-- the numbers of a state
unfoldable pub as_numbers : Lock → LockNumbers
as_numbers l = record {
  header = record { locked = bit_of l.header.locked; offset = l.header.offset; run = l.header.run; bad = l.header.bad };
  extended = record {
    phase = phase_number l.extended.phase;
    seen = l.extended.seen;
    headers = l.extended.headers;
    good = l.extended.good;
    bad = l.extended.bad;
    next = l.extended.next;
    kept = l.extended.kept;
  };
}
