-- Demand 3's premise whole: a lane that our sender made, heard from a multiblock boundary on by a fresh receiver of its mode, with bits flipped
-- in bursts. Assumes nothing.
use Rattle.std.specs.Prelude.{◌≡◌, List, ℕ, ◌+◌, ◌*◌, ◌≤◌, ◌<◌, length, get_or}
use Rattle.std.specs.Int.Bits.{bit_xor}
use Rattle.std.specs.Int.Count.{ones}
use Rattle.bits.specs.Order.{bit_at, number}
use Rattle.frame.specs.Modes.{row}
use Rattle.frame.specs.Lane.{lane_octets, header_place}
use Rattle.sender.specs.declared.Sender.{Sender}
use Rattle.receiver.specs.Release.{fresh}
use Rattle.demands.specs.Damage.{InBursts}
use Rattle.demands.specs.Calls.{Sending, Receiving, user_octets, commands_given, AllSent, lane_sent, lane_heard, AllHeard, octets_released, statuses_released, commands_released, invalid_released}

pub record Transfer (mode E : ℕ) : Type 0 where
  -- any accepted calls of one mode and E; user octets are octets
  pub start : Sender
  pub sendings : List Sending
  pub sent : AllSent mode E start sendings
  pub octets : (j : ℕ) → get_or (user_octets sendings) j 0 < 256
  -- the receiver is fresh, begins at multiblock `from` of the lane, and hears no more than there is
  pub from : ℕ
  pub receivings : List Receiving
  pub heard : AllHeard mode fresh receivings
  pub inside : lane_octets (row mode).gap * from + length (lane_heard receivings) ≤ length (lane_sent mode E start sendings)

module _ {mode E : ℕ} (t : Transfer mode E) where
  -- where the lane heard differs from the lane sent
  abbrev pub flips : ℕ → ℕ
  flips x = bit_xor (bit_at (lane_sent mode E t.start t.sendings) (8 * lane_octets (row mode).gap * t.from + x)) (bit_at (lane_heard t.receivings) x)

  abbrev pub DamagedBy : ℕ → ℕ → Type 0
  DamagedBy limit clear = InBursts limit clear (8 * length (lane_heard t.receivings)) flips

  -- none of the lane bits from multiblock a up to multiblock b was flipped
  abbrev pub Untouched : ℕ → ℕ → Type 0
  Untouched a b = (x : ℕ) → 8 * lane_octets (row mode).gap * a ≤ x → x < 8 * lane_octets (row mode).gap * b → flips x ≡ 0

  -- how many multiblocks were released
  abbrev pub releases : ℕ
  releases = length (statuses_released mode fresh t.receivings)

  -- octet j, status, command and number of invalid headers of release i, and octet j and command of the multiblock sent there
  abbrev pub released : ℕ → ℕ → ℕ
  released i j = get_or (octets_released mode fresh t.receivings) (256 * i + j) 0

  abbrev pub status : ℕ → ℕ
  status i = get_or (statuses_released mode fresh t.receivings) i 0

  abbrev pub command_told : ℕ → ℕ
  command_told i = get_or (commands_released mode fresh t.receivings) i 0

  abbrev pub invalid_told : ℕ → ℕ
  invalid_told i = get_or (invalid_released mode fresh t.receivings) i 0

  abbrev pub given : ℕ → ℕ → ℕ
  given i j = get_or (user_octets t.sendings) (256 * (t.from + i) + j) 0

  abbrev pub command_given : ℕ → ℕ
  command_given i = get_or (commands_given t.sendings) (t.from + i) 0

  -- how many bits were flipped in the headers of multiblock i: of their first bits, and of their second
  abbrev pub header_flips : ℕ → ℕ
  header_flips i =
      ones (number (λ b. flips (header_place (row mode).gap i b)) 0 32) + ones (number (λ b. flips (header_place (row mode).gap i b + 1)) 0 32)
