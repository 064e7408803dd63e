-- The step table of extended lock: clause 7.6.2; document 01, "Lock tables", and request 4, whose lines stand above the rows. From one look to
-- the next are `period` blocks: 32E. Assumes nothing.
use Rattle.std.specs.Prelude.{Bool, true, false, ◌&&◌, ℕ, ◌+◌, ◌-◌, ◌*◌, ◌%◌, ◌^◌, ltb, leb, eqb}
use Rattle.bits.specs.Choice.{pick}
use Rattle.bits.specs.Order.{digit}
use Rattle.frame.specs.declared.headers.Header.{Header}
use Rattle.frame.specs.Headers.{carries}
use Rattle.lock.specs.declared.Phase.{Phase}
use Rattle.lock.specs.declared.Phase.TheVariants.{Hunting, Following, Locked}
use Rattle.lock.specs.declared.ExtendedLock.{ExtendedLock}

-- ---- the last 32 headers

-- one header more, with the latest in bit 0; at most 32 are counted
unfoldable pub with_header : ExtendedLock → Header → ExtendedLock
with_header x header = record {
  phase = x.phase;
  seen = pick (ltb x.seen 32) (x.seen + 1) 32;
  headers = x.headers % 2 ^ 31 * 2 + carries header;
  good = x.good;
  bad = x.bad;
  next = x.next;
  kept = x.kept;
}

-- a match: at least 32 headers seen, and in the last 32 the end mark (position 22) is 1 and positions 27 to 31 are 00001
unfoldable pub matches : ExtendedLock → Bool
matches x = leb 32 x.seen && eqb (digit 32 x.headers 22) 1 && eqb (x.headers % 2 ^ 5) 1

-- ---- extended lock

-- the same headers, with a phase and what it counts
abbrev pub counted : ExtendedLock → Phase → ℕ → ℕ → ℕ → ℕ → ExtendedLock
counted x phase good bad next kept = record { phase = phase; seen = x.seen; headers = x.headers; good = good; bad = bad; next = next; kept = kept }

abbrev pub hunting : ExtendedLock → ExtendedLock
hunting x = counted x Hunting 0 0 0 0

abbrev pub following : ExtendedLock → ℕ → ℕ → ℕ → ExtendedLock
following x good next kept = counted x Following good 0 next kept

abbrev pub locked : ExtendedLock → ℕ → ℕ → ExtendedLock
locked x bad next = counted x Locked 0 bad next 0

-- request 4: each header takes one off the kept count as well; one that reaches 0 starts again at 32E: nothing is looked at there. 0, for
-- nothing kept, stays
abbrev pub ran_on : ℕ → ℕ → ℕ
ran_on period kept = pick (eqb kept 1) period (kept - 1)

-- by: the phase, is this a block to look at, does it match
abbrev pub extended_row : Phase → Bool → Bool → ℕ → ExtendedLock → ExtendedLock
-- while hunting, a match makes it following, good count 1; following and locked look only at every 32E-th block from there
extended_row Hunting look true period x = following x 1 period 0
extended_row Hunting look false period x = hunting x
-- following: a match at a block where the followed one isn't looked at, with nothing kept, is kept, 32E blocks to its next look; the earliest
-- stays, and later matches change nothing (request 4)
extended_row Following false match period x = following x x.good (x.next - 1) (pick (match && eqb x.kept 0) period (ran_on period x.kept))
-- match adds 1, locked at 4; what is kept stays, until locking, which drops it (request 4)
extended_row Following true true period x = pick (eqb (x.good + 1) 4) (locked x 0 period) (following x (x.good + 1) period (ran_on period x.kept))
-- no match: if one is kept, it is followed at once with good count 1, its count becomes the blocks to the next look, and nothing is kept
-- (request 4); if none, hunting
extended_row Following true false period x = pick (eqb x.kept 0) (hunting x) (following x 1 (ran_on period x.kept) 0)
-- locked: match sets bad 0; no match adds 1, hunting at 8; matches seen in between are ignored
extended_row Locked false match period x = locked x x.bad (x.next - 1)
extended_row Locked true true period x = locked x 0 period
extended_row Locked true false period x = pick (eqb (x.bad + 1) 8) (hunting x) (locked x (x.bad + 1) period)

-- a look is due where 1 block is left to it
unfoldable pub moved : ℕ → ExtendedLock → Bool → ExtendedLock
moved period x match = extended_row x.phase (eqb x.next 1) match period x

-- one header: it is the latest of the last 32 when a match is looked for
unfoldable pub extended_step : ℕ → ExtendedLock → Header → ExtendedLock
extended_step period x header = moved period (with_header x header) (matches (with_header x header))

-- hunting, and nothing seen
abbrev pub fresh_extended : ExtendedLock
fresh_extended = record { phase = Hunting; seen = 0; headers = 0; good = 0; bad = 0; next = 0; kept = 0 }
