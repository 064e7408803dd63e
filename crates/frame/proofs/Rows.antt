-- What is true of every sync word, by its kinds, and of every mode's row, by a test over the list. Document 01, "From octets to lane bits".
-- Assumes nothing.
use mathlib.Core.Path.{◌≡◌, refl, sym}
use mathlib.Core.Bool.{true, true≢false}
use mathlib.Core.List.{List, [], ◌∷◌}
use Prim.Native.Nat.{ℕ, zero, suc, ◌*◌, ◌^◌, ◌≤◌, ◌<◌}
use native.Mathlib.Nat.{le_trans, mul-le-mul_left}
use native.Mathlib.Omega.{arith}
use borrow.Author.Tests.{leb-true, le-leb}
use lib.Dec.{leb, lit≤, lit<}
use lib.ListN.{get_or}
use Rattle.bits.proofs.Choice.{both_true, parts-true}
use Rattle.parity.specs.Codeword.{data_bits}
use Rattle.parity.proofs.Bursts.{Proper, crc12-proper, fec-proper, crc3-proper}
use Rattle.frame.specs.declared.modes.Sync.{Sync}
use Rattle.frame.specs.declared.modes.Sync.TheVariants.{Crc12, Fec, Crc3, Command}
use Rattle.frame.specs.declared.modes.Row.{Row}
use Rattle.frame.specs.Lane.{block_width, lane_octets}
use Rattle.frame.specs.Modes.{code, repairs, rows, no_row, row, most_of_all, longest_lane, extent_fits}

-- ---- of every sync word

-- a code with groups
pub proper : (S : Sync) → 0 < (code S).groups → Proper (code S)
proper Crc12 some = crc12-proper
proper Fec some = fec-proper
proper Crc3 some = crc3-proper
proper Command some = absurd (omega arith)

-- is used for some bursts
pub limit-some : (S : Sync) → 0 < (code S).groups → 0 < (code S).limit
limit-some Crc12 some = lit< tt
limit-some Fec some = lit< tt
limit-some Crc3 some = lit< tt
limit-some Command some = absurd (omega arith)

-- and its groups have all data bits
pub all-grouped : (S : Sync) → 0 < (code S).groups → data_bits (code S) * (code S).groups ≡ 2048
all-grouped Crc12 some = refl
all-grouped Fec some = refl
all-grouped Crc3 some = refl
all-grouped Command some = absurd (omega arith)

pub blocks-some : (S : Sync) → 0 < (code S).groups → 0 < (code S).blocks
blocks-some Crc12 some = lit< tt
blocks-some Fec some = lit< tt
blocks-some Crc3 some = lit< tt
blocks-some Command some = absurd (omega arith)

-- a code that repairs has one group
pub one-group : (S : Sync) → repairs S ≡ true → (code S).groups ≡ 1
one-group Crc12 r = absurd (true≢false (sym r))
one-group Fec r = refl
one-group Crc3 r = absurd (true≢false (sym r))
one-group Command r = absurd (true≢false (sym r))

-- no parity is wider than its code, with groups or without
pub lower-fits : (S : Sync) → (code S).lower < 2 ^ (code S).width
lower-fits Crc12 = lit< tt
lower-fits Fec = lit< tt
lower-fits Crc3 = lit< tt
lower-fits Command = lit< tt

-- ---- of every row

abbrev pub Each : (Row → Type 0) → List Row → Type 0
Each P [] = Unit {0}
Each P (R ∷ rest) = P R × Each P rest

each_at : (P : Row → Type 0) (l : List Row) → Each P l → P no_row → (mode : ℕ) → P (get_or l mode no_row)
each_at P [] e n mode = n
each_at P (R ∷ l) e n zero = e.0
each_at P (R ∷ l) e n (suc mode) = each_at P l e.1 n mode

pub of-each : (P : Row → Type 0) → Each P rows → P no_row → (mode : ℕ) → P (row mode)
unfolding row
of-each P e n mode = each_at P rows e n mode

-- no call takes more than the most of all
pub few : (mode : ℕ) → (row mode).most ≤ most_of_all
unfolding most_of_all
few = of-each (λ (R : Row). R.most ≤ most_of_all) (lit≤ tt, (lit≤ tt, (lit≤ tt, (lit≤ tt, (lit≤ tt, (lit≤ tt, tt)))))) (lit≤ tt)

pub most-is : most_of_all ≡ 240
unfolding most_of_all
most-is = refl

pub longest-is : longest_lane ≡ 64000
unfolding longest_lane lane_octets block_width
longest-is = refl

pub lane-within : (mode : ℕ) → lane_octets (row mode).gap * (row mode).most ≤ longest_lane
unfolding longest_lane lane_octets block_width
lane-within = of-each (λ (R : Row). lane_octets R.gap * R.most ≤ longest_lane) (lit≤ tt, (lit≤ tt, (lit≤ tt, (lit≤ tt, (lit≤ tt, (lit≤ tt, tt)))))) (lit≤ tt)

-- the lane of as many multiblocks as a call takes
pub lane-fits : (mode k : ℕ) → k ≤ (row mode).most → lane_octets (row mode).gap * k ≤ longest_lane
lane-fits mode k h = le_trans (mul-le-mul_left (lane_octets (row mode).gap) h) (lane-within mode)

-- ---- E

pub extent-within : (E : ℕ) → extent_fits E ≡ true → (1 ≤ E) × (E ≤ 256)
unfolding extent_fits
extent-within E e = let both = parts-true (leb 1 E) (leb E 256) e in (leb-true 1 E both.0, leb-true E 256 both.1)

pub extent-fits : (E : ℕ) → 1 ≤ E → E ≤ 256 → extent_fits E ≡ true
unfolding extent_fits
extent-fits E l m = both_true (leb 1 E) (leb E 256) (le-leb 1 E l) (le-leb E 256 m)
