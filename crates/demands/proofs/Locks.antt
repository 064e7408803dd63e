-- The headers of a lane that our sender made, with any sync words but FEC's, have the pilot bits of an undamaged one, so that the locks go along it
-- as along any such lane: document 01, "Lock tables"; request 5. Past the lane's end they are gone on with as if commands and parities were 0. Assumes nothing.
use mathlib.Core.Path.{◌≡◌, refl, sym, ap, ◌∙◌, subst}
use mathlib.Core.Bool.{true, false}
use mathlib.Core.List.{List}
use Prim.Native.Nat.{ℕ, ◌+◌, ◌-◌, ◌*◌, ◌/◌, ◌%◌, ◌<◌, ◌≤◌}
use native.Mathlib.Nat.{mod-lt, mul_assoc, le_of_mul-le-mul_left}
use native.Mathlib.Omega.{arith}
use borrow.Author.Tests.{eq-eqb, ne_eqb}
use lib.Dec.{eqb}
use lib.ListN.{length, get_or}
use Rattle.bits.specs.Choice.{bit_of}
use Rattle.frame.specs.declared.sync.Parts.{Parts}
use Rattle.frame.specs.declared.modes.Row.{Row}
use Rattle.frame.specs.Modes.{known, row, repairs, extent_fits}
use Rattle.frame.specs.Headers.{header_read, carries, header_of}
use Rattle.frame.specs.Lane.{block_width, lane_octets}
use Rattle.frame.specs.SyncWord.{held}
use Rattle.frame.proofs.SyncWord.{field_at, held-lt}
use Rattle.frame.proofs.Reading.{carried, header-valid}
use Rattle.frame.proofs.Rows.{extent-fits}
use Rattle.frame.proofs.Sizes.{width_some, octets-blocks}
use Rattle.sender.specs.declared.Sender.{Sender}
use Rattle.sender.specs.Lane.{lane}
use Rattle.sender.proofs.States.{Fits}
use Rattle.sender.proofs.Runs.{lane-length}
use Rattle.sender.proofs.Multiblocks.{before, carried as carried_parts, number-before, value-sent}
use Rattle.lock.specs.declared.Lock.{Lock}
use Rattle.lock.specs.Run.{state_after}
use Rattle.lock.specs.Stream.{PilotHeaders}
use Rattle.lock.proofs.Words.{words-fit}
use Rattle.lock.proofs.Runs.{state-same}
use Rattle.demands.specs.Calls.{Sending, user_octets, commands_given, AllSent, lane_sent}
use Rattle.demands.specs.Promises.{headers_from}
use Rattle.demands.proofs.Sent.{one_lane}

module _ (mode E : ℕ) (is_known : known mode ≡ true) (crc : repairs (row mode).sync ≡ false) (s : Sender) (user commands : List ℕ)
    (given : 256 * length commands ≤ length user) (fits : Fits (row mode) E s) (some : 1 ≤ E) (few : E ≤ 256) (p : ℕ) where
  abbrev R : Row
  R = row mode

  abbrev state : ℕ → Sender
  state i = before R E s user commands given i

  -- the parities that its sync words carry
  abbrev parts : ℕ → Parts
  parts i = carried_parts R E s user commands given i

  -- the lane's first multiblock has the sender's number, so that all are counted from there
  start : ℕ
  start = p + 32 * s.number

  mark : ℕ → ℕ
  mark m = bit_of (eqb (m % E + 1) E)

  sync : ℕ → ℕ
  sync x =
      let m = (x + start) / 32 in
      held (parts (m - s.number)) (get_or commands (m - s.number) 0) (mark m) (field_at R.sync ((x + start) % 32))

  sync-lt : (x : ℕ) → sync x < 2
  unfolding sync
  sync-lt x = held-lt _ _ _ (field_at R.sync ((x + start) % 32))

  undamaged : PilotHeaders E start (λ x. header_of (sync x))
  unfolding sync mark
  undamaged = record {
    valid = λ x. header-valid (sync x) (sync-lt x);
    sync =
        words-fit R.sync crc E start some (λ m. parts (m - s.number)) (λ m. get_or commands (m - s.number) 0) mark (λ x. carries (header_read (header_of (sync x))))
        (λ m e. ap bit_of (eq-eqb (m % E + 1) E (omega arith)))
        (λ m e. ap bit_of (ne_eqb (m % E + 1) E (λ z. e (omega arith))))
        (λ x. carried (sync x) (sync-lt x));
  }

  -- where the lane has a header, it has this value
  own : (x : ℕ) → p + x < 32 * length commands → headers_from R.gap (lane R E s user commands) p x ≡ header_of (sync x)
  unfolding sync mark start
  own x h =
      let m = (p + x) / 32 in
      let t = (p + x) % 32 in
      let there : (x + (p + 32 * s.number)) / 32 ≡ s.number + m = omega arith in
      let counted : (x + (p + 32 * s.number)) / 32 - s.number ≡ m = omega arith in
      let position : (x + (p + 32 * s.number)) % 32 ≡ t = omega arith in
      value-sent R E s user commands given m t (omega arith) (mod-lt (p + x) (omega arith))
      ∙ rw (counted, position, there, ← number-before R E s user commands given fits.number m (omega arith)) refl

  along : (P : ℕ → Lock → Type 0) → ((q : ℕ) (headers : ℕ → ℕ) → extent_fits E ≡ true → PilotHeaders E q headers → (n : ℕ) → P n (state_after mode E headers n))
      → (n : ℕ) → p + n ≤ 32 * length commands → P n (state_after mode E (headers_from R.gap (lane R E s user commands) p) n)
  along P holds n inside =
      subst (P n) (sym (state-same mode E (headers_from R.gap (lane R E s user commands) p) (λ x. header_of (sync x)) n (λ x l. own x (omega arith))))
      (holds start (λ x. header_of (sync x)) (extent-fits E some few) undamaged n)

-- what holds of the locks after the blocks of every undamaged CRC-12 lane holds after those of the one that calls of our sender made
pub along-lane : (mode E : ℕ) → known mode ≡ true → repairs (row mode).sync ≡ false → (s : Sender) (calls : List Sending) → AllSent mode E s calls
    → (P : ℕ → Lock → Type 0) → ((q : ℕ) (headers : ℕ → ℕ) → extent_fits E ≡ true → PilotHeaders E q headers → (n : ℕ) → P n (state_after mode E headers n))
    → (p n : ℕ) → 1 ≤ n → block_width (row mode).gap * (p + n) ≤ 8 * length (lane_sent mode E s calls)
    → P n (state_after mode E (headers_from (row mode).gap (lane_sent mode E s calls) p) n)
along-lane mode E is_known crc s calls h P holds p n more inside =
    let one = one_lane mode E s calls h in
    let user = user_octets calls in
    let commands = commands_given calls in
    let w = block_width (row mode).gap in
    let L = lane_octets (row mode).gap in
    let long : length (lane_sent mode E s calls) ≡ L * length commands = ap length one.made ∙ lane-length (row mode) E s user commands in
    let all : 8 * length (lane_sent mode E s calls) ≡ w * (32 * length commands) =
    ap (λ (x : ℕ). 8 * x) long ∙ sym (mul_assoc 8 L (length commands)) ∙ ap (λ (x : ℕ). x * length commands) (octets-blocks (row mode).gap) ∙ mul_assoc w 32 (length commands) in
    let within : p + n ≤ 32 * length commands = le_of_mul-le-mul_left (subst (λ (x : ℕ). w * (p + n) ≤ x) all inside) (width_some (row mode).gap) in
    let ready = one.ready (omega arith) in
    subst (λ (x : List ℕ). P n (state_after mode E (headers_from (row mode).gap x p) n)) (sym one.made)
    (along mode E is_known crc s user commands (omega (arith, one.given)) ready.0 ready.1 ready.2 p P holds n within)
