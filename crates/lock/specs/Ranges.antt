-- Which states are accepted: document 01, "Numbers of refusal", line 3; of the kept phase request 4. A state that no run reaches, but that breaks
-- no line of the table, is accepted. A block is `width` bits wide, and from one look to the next are `period` blocks. Assumes nothing.
use Rattle.std.specs.Prelude.{Bool, true, false, not, ◌&&◌, ◌||◌, ℕ, ◌/◌, ◌^◌, ltb, leb, eqb}
use Rattle.lock.specs.declared.HeaderLock.{HeaderLock}
use Rattle.lock.specs.declared.Phase.{Phase}
use Rattle.lock.specs.declared.Phase.TheVariants.{Hunting, Following, Locked}
use Rattle.lock.specs.declared.ExtendedLock.{ExtendedLock}
use Rattle.lock.specs.declared.Lock.{Lock}

-- ---- header lock

-- not: run above 63, bad above 15, offset above 65, bad not 0 while hunting
unfoldable pub header_in_range : ℕ → HeaderLock → Bool
header_in_range width x = leb x.run 63 && leb x.bad 15 && ltb x.offset width && (x.locked || eqb x.bad 0)

-- ---- extended lock

-- not: headers seen above 32, or a missing one not 0
unfoldable pub headers_in_range : ExtendedLock → Bool
headers_in_range x = leb x.seen 32 && eqb (x.headers / 2 ^ x.seen) 0

-- blocks to the next look: 1 to 32E
abbrev pub next_in_range : ℕ → ℕ → Bool
next_in_range period next = leb 1 next && leb next period

-- not: the kept phase's above 32E, or equal to the followed one's. That is 1 or more, so that 0, for none, is in range
abbrev pub kept_in_range : ℕ → ℕ → ℕ → Bool
kept_in_range period next kept = leb kept period && not (eqb kept next)

-- good 1 to 3 while following, bad at most 7 while locked; a field that the phase doesn't use is 0
abbrev pub phase_in_range : Phase → ℕ → ExtendedLock → Bool
phase_in_range Hunting period x = eqb x.good 0 && eqb x.bad 0 && eqb x.next 0 && eqb x.kept 0
phase_in_range Following period x =
    leb 1 x.good && leb x.good 3 && eqb x.bad 0 && next_in_range period x.next && kept_in_range period x.next x.kept
phase_in_range Locked period x = eqb x.good 0 && leb x.bad 7 && next_in_range period x.next && eqb x.kept 0

-- all of the extended lock's fields
unfoldable pub extended_in_range : ℕ → ExtendedLock → Bool
extended_in_range period x = headers_in_range x && phase_in_range x.phase period x

-- is this phase hunting
abbrev pub is_hunting : Phase → Bool
is_hunting Hunting = true
is_hunting Following = false
is_hunting Locked = false

-- hunting, and no header seen: what hunting doesn't use is 0 already
unfoldable pub is_fresh : ExtendedLock → Bool
is_fresh x = eqb x.seen 0 && eqb x.headers 0 && is_hunting x.phase

-- ---- both

-- every field is in its range, and extended lock is fresh while header lock hunts
unfoldable pub accepted : ℕ → ℕ → Lock → Bool
accepted width period lock =
    header_in_range width lock.header && extended_in_range period lock.extended && (lock.header.locked || is_fresh lock.extended)
