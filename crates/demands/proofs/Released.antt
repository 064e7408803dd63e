-- A transfer's answers, by number: octet j, status, command and number of invalid headers of release i are those of the run over all multiblocks
-- heard. Assumes nothing.
use mathlib.Core.Path.{◌≡◌, refl, sym, ap, ◌∙◌, subst}
use mathlib.Core.List.{List}
use Prim.Native.Nat.{ℕ, suc, ◌+◌, ◌-◌, ◌*◌, ◌/◌, ◌<◌, ◌≤◌}
use native.Mathlib.Nat.{mul-add, mul_assoc, mul-le-mul_left, le_of_mul-le-mul_left}
use native.Mathlib.Omega.{arith}
use lib.ListN.{length, get_or}
use Rattle.bits.specs.Order.{bit_at}
use Rattle.bits.proofs.Numbers.{bit_at_lt}
use Rattle.frame.specs.declared.modes.Row.{Row}
use Rattle.frame.specs.Modes.{row}
use Rattle.frame.specs.Lane.{lane_octets, header_at, invalid_headers}
use Rattle.frame.specs.SyncWord.{flagged_command}
use Rattle.frame.proofs.Lane.{lane_from}
use Rattle.frame.proofs.Sizes.{octets-some}
use Rattle.sender.proofs.Runs.{lane-length}
use Rattle.receiver.specs.Release.{Release, fresh, release_at, run}
use Rattle.receiver.proofs.Afresh.{all_but_one}
use Rattle.receiver.proofs.Buffers.{column-length, release_length}
use Rattle.receiver.proofs.Numbered.{nth, waiting, command-is, invalid-is, numbered, octet-at, column-at}
use Rattle.demands.specs.Calls.{user_octets, commands_given, commands_released, lane_sent, lane_heard}
use Rattle.demands.specs.Transfer.{Transfer, flips, DamagedBy, releases, released, status, command_told, invalid_told, command_given}
use Rattle.demands.specs.Damage.{Pairwise}
use Rattle.demands.proofs.Pairs.{pairs}
use Rattle.demands.proofs.Heard.{AllRun, all-calls}
use Rattle.demands.proofs.Sent.{OneLane, one_lane, Sends, sends, command-sent}
use Rattle.demands.proofs.Delivered.{Lanes}

module _ {mode E : ℕ} (t : Transfer mode E) where
  abbrev R : Row
  R = row mode

  -- the lane from where the receiver began, and what it heard
  abbrev pub before : ℕ → ℕ
  before = lane_from R.gap (bit_at (lane_sent mode E t.start t.sendings)) t.from

  abbrev pub after : ℕ → ℕ
  after = bit_at (lane_heard t.receivings)

  -- how many multiblocks it heard
  abbrev pub count : ℕ
  count = length (lane_heard t.receivings) / lane_octets R.gap

  all-run : AllRun mode fresh t.receivings
  all-run = all-calls mode fresh t.receivings t.heard

  one : OneLane mode E t.start t.sendings
  one = one_lane mode E t.start t.sendings t.sent

  -- no more multiblocks than were sent
  enough : t.from + count ≤ length (commands_given t.sendings)
  enough =
      let L = lane_octets R.gap in
      let n = length (commands_given t.sendings) in
      let sent : length (lane_sent mode E t.start t.sendings) ≡ L * n = ap length one.made ∙ lane-length R E t.start (user_octets t.sendings) (commands_given t.sendings) in
      let both : L * (t.from + count) ≤ L * n = omega (arith, t.inside, sent, all-run.whole, mul-add L t.from count) in
      le_of_mul-le-mul_left both (octets-some R.gap)

  pub sends-them : Sends R (user_octets t.sendings) t.start.history t.from count before
  sends-them = sends mode E t.start t.sendings one t.from count enough

  -- and their commands
  pub sends-command : (i : ℕ) → i < count → flagged_command R.sync (header_at R.gap before i) ≡ command_given t i
  sends-command i h = command-sent mode E t.start t.sendings one t.from i (omega (arith, enough))

  -- the lane bits of the multiblocks heard
  pub heard-up-to : (k : ℕ) → k ≤ count → 8 * lane_octets R.gap * k ≤ 8 * length (lane_heard t.receivings)
  heard-up-to k h =
      let z = mul-le-mul_left (8 * lane_octets R.gap) h in
      omega (arith, all-run.whole, mul_assoc 8 (lane_octets R.gap) count)

  pub by-pairs : (limit clear : ℕ) → DamagedBy t limit clear → Pairwise limit clear (8 * lane_octets R.gap * count) (flips t)
  by-pairs limit clear damaged =
      subst (λ (n : ℕ). Pairwise limit clear n (flips t)) {x = 8 * length (lane_heard t.receivings)} {y = 8 * lane_octets R.gap * count}
      (omega (arith, all-run.whole, mul_assoc 8 (lane_octets R.gap) count))
      (pairs limit clear (8 * length (lane_heard t.receivings)) (flips t) damaged)

  -- a transfer's two lanes, where two multiblocks are no longer than the clear bits between bursts
  abbrev pub lanes : (limit clear : ℕ) → 0 < limit → 16 * lane_octets R.gap ≤ clear → DamagedBy t limit clear → Lanes R
  lanes limit clear some wide damaged = record {
    user = user_octets t.sendings;
    history = t.start.history;
    first = t.from;
    count = count;
    before = before;
    after = after;
    sends = sends-them;
    bits = bit_at_lt (lane_heard t.receivings);
    limit = limit;
    clear = clear;
    some = some;
    wide = wide;
    close = by-pairs limit clear damaged;
  }

  out : List Release
  out = (run R after fresh count).out

  out-length : length out ≡ count - 1
  unfolding out
  out-length = all_but_one R after count

  -- all but the last were released
  pub releases-are : releases t ≡ count - 1
  unfolding out
  releases-are = ap length (all-run.lists (λ x. x.statuses) (λ (r : Release). r.status) (λ x o s c p q i. (s, refl))) ∙ column-length (λ (r : Release). r.status) out ∙ out-length

  pub all-released : (i : ℕ) → i < releases t → suc i < count
  all-released i h = omega (arith, releases-are)

  -- with a command each
  pub commands-length : length (commands_released mode fresh t.receivings) ≡ releases t
  unfolding out
  commands-length =
      ap length (all-run.lists (λ x. x.commands) (λ (r : Release). r.command) (λ x o s c p q i. (c, refl)))
      ∙ column-length (λ (r : Release). r.command) out ∙ out-length ∙ sym releases-are

  -- no more than were given
  pub given-so-many : t.from + releases t ≤ length (commands_given t.sendings)
  given-so-many = omega (arith, enough, releases-are)

  module _ (i : ℕ) (l : suc i < count) where
    at : (k : ℕ) → suc k < count → nth out k ≡ release_at R after (suc k) (waiting R after k)
    unfolding out
    at k h =
        let e : suc (count - 1) ≡ count = omega arith in
        ap (λ (n : ℕ). nth (run R after fresh n).out k) (sym e) ∙ numbered R after (count - 1) k (omega arith)

    pub status-at : status t i ≡ (release_at R after (suc i) (waiting R after i)).status
    unfolding out
    status-at =
        ap (λ (x : List ℕ). get_or x i 0) (all-run.lists (λ x. x.statuses) (λ (r : Release). r.status) (λ x o s c p q i. (s, refl)))
        ∙ column-at (λ (r : Release). r.status) out i (omega (arith, out-length))
        ∙ ap (λ (r : Release). r.status) (at i l)

    pub command-at : command_told t i ≡ flagged_command R.sync (header_at R.gap after i)
    unfolding out
    command-at =
        ap (λ (x : List ℕ). get_or x i 0) (all-run.lists (λ x. x.commands) (λ (r : Release). r.command) (λ x o s c p q v. (c, refl)))
        ∙ column-at (λ (r : Release). r.command) out i (omega (arith, out-length))
        ∙ ap (λ (r : Release). r.command) (at i l)
        ∙ command-is R after i

    pub invalid-at : invalid_told t i ≡ invalid_headers R.gap after i
    unfolding out
    invalid-at =
        ap (λ (x : List ℕ). get_or x i 0) (all-run.lists (λ x. x.invalid) (λ (r : Release). r.invalid) (λ x o s c p q v. (v, refl)))
        ∙ column-at (λ (r : Release). r.invalid) out i (omega (arith, out-length))
        ∙ ap (λ (r : Release). r.invalid) (at i l)
        ∙ invalid-is R after i

    pub octet-released : (j : ℕ) → j < 256 → released t i j ≡ get_or (release_at R after (suc i) (waiting R after i)).octets j 0
    unfolding out
    octet-released j h =
        ap (λ (x : List ℕ). get_or x (256 * i + j) 0) all-run.octets
        ∙ octet-at out i j (λ k m. ap (λ (r : Release). length r.octets) (at k (omega (arith, out-length))) ∙ release_length R after (suc k) (waiting R after k)) (omega (arith, out-length)) h
        ∙ ap (λ (r : Release). get_or r.octets j 0) (at i l)
