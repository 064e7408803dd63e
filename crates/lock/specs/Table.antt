-- The step of both locks: clause 7.6; document 01, "Lock tables", whose lines stand above the rows. Each lock's own table is in
-- `HeaderTable` and `ExtendedTable`. Assumes nothing.
use Rattle.std.specs.Prelude.{Bool, true, false, ℕ}
use Rattle.frame.specs.declared.headers.Header.{Header}
use Rattle.lock.specs.HeaderTable.{header_hunting, valid, header_step}
use Rattle.lock.specs.ExtendedTable.{extended_step, fresh_extended}
use Rattle.lock.specs.declared.ExtendedLock.{ExtendedLock}
use Rattle.lock.specs.declared.Lock.{Lock}

-- fresh: hunting, offset, run and bad count 0
abbrev pub fresh : Lock
fresh = record { header = header_hunting 0 0; extended = fresh_extended }

-- by: was header lock held before a header, is it held after
abbrev pub extended_after : Bool → Bool → ℕ → ExtendedLock → Header → ExtendedLock
-- extended lock is stepped by each header after the one that gave header lock
extended_after false held period x header = x
extended_after true true period x header = extended_step period x header
-- losing header lock makes it fresh
extended_after true false period x header = fresh_extended

-- one header, for both locks
unfoldable pub lock_step : ℕ → ℕ → Lock → Header → Lock
lock_step width period lock header =
    let after = header_step width lock.header (valid header) in
    record { header = after; extended = extended_after lock.header.locked after.locked period lock.extended header }
