-- The step table of header lock: clause 7.6.1; document 01, "Lock tables", whose lines stand above the rows. A block is `width` bits wide: 66
-- where the document says so, 80 where blocks have gaps (request 2). Assumes nothing.
use Rattle.std.specs.Prelude.{Bool, true, false, not, ℕ, ◌+◌, ◌%◌, eqb}
use Rattle.bits.specs.Choice.{pick}
use Rattle.frame.specs.declared.headers.Header.{Header}
use Rattle.frame.specs.Headers.{invalid}
use Rattle.lock.specs.declared.HeaderLock.{HeaderLock}

-- hunting at an offset, with a run of valid headers
abbrev pub header_hunting : ℕ → ℕ → HeaderLock
header_hunting offset run = record { locked = false; offset = offset; run = run; bad = 0 }

-- locked at an offset, with a run of valid headers and a count of bad ones
abbrev pub header_locked : ℕ → ℕ → ℕ → HeaderLock
header_locked offset run bad = record { locked = true; offset = offset; run = run; bad = bad }

-- 01 and 10
abbrev pub valid : Header → Bool
valid header = not (invalid header)

-- by: is it locked, is the header valid
abbrev pub header_row : Bool → Bool → ℕ → HeaderLock → HeaderLock
-- hunting: valid adds 1 to the run; at 64 it is locked with run and bad 0
header_row false true width x = pick (eqb (x.run + 1) 64) (header_locked x.offset 0 0) (header_hunting x.offset (x.run + 1))
-- invalid sets run 0 and moves the offset by one, modulo 66
header_row false false width x = header_hunting ((x.offset + 1) % width) 0
-- locked: valid adds 1 to the run; at 64, run and bad become 0
header_row true true width x = pick (eqb (x.run + 1) 64) (header_locked x.offset 0 0) (header_locked x.offset (x.run + 1) x.bad)
-- invalid sets run 0 and adds 1 to bad; at 16 it hunts again with run and bad 0, offset kept
header_row true false width x = pick (eqb (x.bad + 1) 16) (header_hunting x.offset 0) (header_locked x.offset 0 (x.bad + 1))

-- one header
unfoldable pub header_step : ℕ → HeaderLock → Bool → HeaderLock
header_step width x isValid = header_row x.locked isValid width x
