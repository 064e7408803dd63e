-- The promises of specs/Promises.antt, proved, in the same order. Assumes nothing.
use mathlib.Core.Path.{◌≡◌, refl, sym, ap, ◌∙◌, subst}
use mathlib.Core.Logic.{◌⊎◌, ⊎_elim, inl, inr}
use mathlib.Core.Bool.{Bool, true, false, true≢false}
use mathlib.Core.List.{List, []}
use Prim.Native.Nat.{ℕ, zero, suc, ◌+◌, ◌*◌, ◌/◌, ◌<◌, ◌≤◌}
use native.Mathlib.Nat.{mul-le-mul_left, le_refl, le_of_mul-le-mul_left}
use native.Mathlib.Omega.{arith}
use borrow.Author.Tests.{ltb-true, ltb-false}
use lib.Bits.{xor_lt}
use lib.ListN.{length, take, drop, length-drop}
use lib.Seq.{length-take-le, get_or-take, get_or-drop, ext_get_or}
use Rattle.bits.specs.Order.{bit_at, list_from}
use Rattle.bits.proofs.Numbers.{bit_at_lt}
use Rattle.bits.proofs.Xor.{xor-eq}
use Rattle.bits.proofs.Ones.{ones_none}
use Rattle.frame.specs.declared.modes.Sync.{Sync}
use Rattle.frame.specs.Modes.{command, code, repairs, checks, row}
use Rattle.fill.specs.Register.{shifts}
use Rattle.frame.specs.Lane.{block_width, lane_octets, header_place, data_place, fill_place, header_at}
use Rattle.parity.proofs.Bursts.{one-burst}
use Rattle.parity.proofs.Sets.{one_set}
use Rattle.frame.proofs.Reading.{invalid-flips}
use Rattle.frame.proofs.SyncWord.{place, all-stand, only-flagged}
use Rattle.frame.proofs.Places.{header-same}
use Rattle.fill.proofs.Registers.{moves}
use Rattle.frame.proofs.Sizes.{octets-some}
use Rattle.frame.proofs.Lane.{fill-bound}
use Rattle.frame.proofs.Rows.{limit-some, one-group}
use Rattle.commands.specs.Promises.{reads, all_read}
use Rattle.commands.proofs.Promised.{all-read-back}
use Rattle.sender.proofs.Runs.{lane-length}
use Rattle.sender.proofs.Entry.{answered, fits}
use Rattle.sender.proofs.Multiblocks.{fill-sent}
use Rattle.receiver.specs.Release.{Step, fresh}
use Rattle.receiver.specs.Totals.{most_count, stopped, how_many}
use Rattle.receiver.specs.Entry.{Done, laid_out}
use Rattle.receiver.proofs.Ignored.{gaps-ignored}
use Rattle.receiver.proofs.Carried.{same-but-counts}
use Rattle.receiver.proofs.Totalled.{counted, told, count-by-kind, counts-add-up}
use Rattle.receiver.proofs.Answers.{all-run}
use Rattle.judge.specs.Sound.{sound, soundness}
use Rattle.judge.proofs.Judging.{called-sound}
use Rattle.lock.specs.declared.Lock.{Lock}
use Rattle.lock.specs.Stream.{Held}
use Rattle.lock.proofs.Runs.{state-none}
use Rattle.lock.proofs.Bound.{locked-in-time, nothing-kept}
use Rattle.lock.proofs.Kept.{goes_on, stays-apart, kept-followed}
use Rattle.demands.specs.Calls.{user_octets, commands_given, lane_sent, Receiving, lane_heard, AllHeard, state_left, count_released, statuses_released, commands_released}
use Rattle.demands.specs.Transfer.{Transfer, flips, DamagedBy, Untouched, releases, released, status, given, header_flips}
use Rattle.demands.specs.Promises.{Limits, Kinds, FecDelivers, CrcTellsHits, CrcUntouchedSound, SoundTrue, FecSoundTrue, CrcSoundTrue, UncheckedNeverSound, UndamagedDelivers, UntouchedTells, MessagesCross, TotalsTold, TotalsAddUp, but_counts, CountsUnread, InvalidTold, InvalidByFlips, UntouchedValid, FillIgnored, FillByTable, NeverStill, BurstsByPairs, OneBurst, OneSet, LocksInTime, NothingKept, LocksGoOn, NeverMeet, KeptFollowed, headers_from, DozenRight}
use Rattle.demands.proofs.Places.{header-inside, header-from-start}
use Rattle.demands.proofs.Sent.{one_lane}
use Rattle.demands.proofs.Pairs.{pairs, in-bursts}
use Rattle.demands.proofs.Locks.{along-lane}
use Rattle.demands.proofs.Dozen.{all_right}
use Rattle.demands.proofs.Heard.{AllRun, all-calls}
use Rattle.demands.proofs.Delivered.{Lanes, Right, repairs-right, untouched-right, next-octet, hit-status, sound-octet, untouched-status, unchecked-status}
use Rattle.demands.proofs.Released.{before, after, count, sends-them, sends-command, heard-up-to, lanes, all-released, commands-length, given-so-many, status-at, command-at, invalid-at, octet-released}

pub limits : Limits
unfolding list_from row lane_octets block_width
limits = (refl, refl)

pub kinds : Kinds
unfolding list_from row
kinds = (refl, refl)

-- ---- any mode, with bursts no longer than its limit and as far apart as two multiblocks

module _ {mode E : ℕ} (t : Transfer mode E) {limit clear : ℕ} (damaged : DamagedBy t limit clear) (some : 0 < limit)
    (within : limit ≤ (code (row mode).sync).limit) (far : 16 * lane_octets (row mode).gap ≤ clear) where
  abbrev heard : Lanes (row mode)
  heard = lanes t limit clear some far damaged

  -- with a code
  module _ (checked : 0 < (code (row mode).sync).groups) where
    -- that repairs
    module _ (mends : repairs (row mode).sync ≡ true) where
      right : (i : ℕ) → suc i < count t → Right (row mode) heard i
      right i l = repairs-right (row mode) heard i l checked within mends

      delivered : (i j : ℕ) → 1 ≤ i → i < releases t → j < 256 → released t i j ≡ given t i j
      delivered zero j h l m = absurd (omega arith)
      delivered (suc i) j h l m =
          let next = all-released t (suc i) l in
          octet-released t (suc i) next j m ∙ next-octet (row mode) heard t.octets i j (right i (omega arith)) (right (suc i) next) m

    -- that only notices
    tells : repairs (row mode).sync ≡ false → (i q : ℕ) → i < releases t → q < 2048 → flips t (data_place (row mode).gap i q) ≡ 1 → (status t i ≡ 2) ⊎ (status t i ≡ 6)
    tells notices i q l h e =
        let next = all-released t i l in
        let is = status-at t i next in
        ⊎_elim (λ z. inl (is ∙ z)) (λ z. inr (is ∙ z)) (hit-status (row mode) heard t.octets checked within notices i q next h e)

    -- either
    sound-true : (i j : ℕ) {k : ℕ} → i < releases t → j < 256 → soundness (row mode).sync (status t i) k ≡ sound → k ≤ j → released t i j ≡ given t i j
    sound-true i j {k} l h e m =
        let next = all-released t i l in
        octet-released t i next j h
        ∙ sound-octet (row mode) heard t.octets checked within i k j next m h (ap (λ (x : ℕ). soundness (row mode).sync x k) (sym (status-at t i next)) ∙ e)

  untouched-sound : (i : ℕ) {a b : ℕ} → suc i < releases t → Untouched t a b → a ≤ i → i + 3 ≤ b → status t (suc i) ≡ 0
  untouched-sound i {a} {b} l u first last =
      let next = all-released t (suc i) l in
      let before = mul-le-mul_left (8 * lane_octets (row mode).gap) first in
      let after = mul-le-mul_left (8 * lane_octets (row mode).gap) last in
      status-at t (suc i) next
      ∙ untouched-status (row mode) heard t.octets i next (λ x p q. u x (omega arith) (omega arith))

-- a code that repairs, or checks, has groups
has-groups : (S : Sync) → checks S ≡ true → 0 < (code S).groups
has-groups S e = ltb-true 0 (code S).groups e

mends-groups : (S : Sync) → repairs S ≡ true → 0 < (code S).groups
mends-groups S e = omega (arith, one-group S e)

pub fec-delivers : FecDelivers
fec-delivers mode E mends t damaged i j after_first l m =
    let some = mends-groups (row mode).sync mends in
    delivered t damaged (omega (arith, limit-some (row mode).sync some)) (omega arith) (omega arith) some mends i j (omega arith) l m

pub crc-tells-hits : CrcTellsHits
crc-tells-hits mode E notices t damaged i q l h e =
    let some = has-groups (row mode).sync notices.0 in
    tells t damaged (omega (arith, limit-some (row mode).sync some)) (omega arith) (omega arith) some notices.1 i q l h e

pub crc-untouched-sound : CrcUntouchedSound
crc-untouched-sound mode E notices t damaged zero after_first l u = absurd (omega arith)
crc-untouched-sound mode E notices t damaged (suc i) after_first l u =
    untouched-sound t damaged (omega (arith, limit-some (row mode).sync (has-groups (row mode).sync notices.0))) (omega arith) (omega arith) i l u (omega arith) (omega arith)

all-sound-true : (repaired : Bool) → SoundTrue repaired
all-sound-true repaired mode E _ t damaged i j l h e =
    let some = has-groups (row mode).sync (called-sound (row mode).sync (status t i) _ e).1 in
    sound-true t damaged (omega (arith, limit-some (row mode).sync some)) (omega arith) (omega arith) some i j l h e (omega arith)

pub fec-sound-true : FecSoundTrue
fec-sound-true = all-sound-true true

pub crc-sound-true : CrcSoundTrue
crc-sound-true = all-sound-true false

-- ---- without a parity

pub unchecked-never-sound : UncheckedNeverSound
unchecked-never-sound mode E none = (statuses, λ status j e. true≢false (sym (called-sound (row mode).sync status j e).1 ∙ none))
  where
    statuses : (t : Transfer mode E) (i : ℕ) → i < releases t → (i ≡ 0 → status t i ≡ 4) × (1 ≤ i → status t i ≡ 0)
    statuses t i l =
        let is = status-at t i (all-released t i l) in
        let each = unchecked-status (row mode) (omega (arith, ltb-false 0 (code (row mode).sync).groups none)) (after t) i in
        (λ e. is ∙ each.0 e, λ h. is ∙ each.1 h)

pub undamaged-delivers : UndamagedDelivers
undamaged-delivers mode E t clean i j l m =
    octet-released t (suc i) next j m ∙ next-octet (row mode) heard t.octets i j (right i (omega (arith, next))) (right (suc i) next) m
  where
    next : suc (suc i) < count t
    next = all-released t (suc i) l

    -- no flip is in bursts of any kind
    none : DamagedBy t 1 (16 * lane_octets (row mode).gap)
    none = record { bursts = []; spaced = tt; covered = λ x h e. absurd (let z = clean x h in omega arith) }

    heard : Lanes (row mode)
    heard = lanes t 1 (16 * lane_octets (row mode).gap) (omega arith) (le_refl _) none

    right : (k : ℕ) → suc k < count t → Right (row mode) heard k
    right k h =
        untouched-right (row mode) heard k h (λ x a b.
        clean x (omega (arith, heard-up-to t (k + 2) (omega arith))))

-- ---- commands

pub untouched-tells : UntouchedTells
untouched-tells mode E t i l u =
    let g = (row mode).gap in
    let next = all-released t i l in
    let same : (x : ℕ) → 8 * lane_octets g * i ≤ x → x < 8 * lane_octets g * suc i → after t x ≡ before t x =
    λ x a b. sym (xor-eq (before t x) (after t x) (u x a (subst (λ (n : ℕ). x < 8 * lane_octets g * n) {x = suc i} {y = i + 1} (omega arith) b))) in
    let same-header : (b : ℕ) → b < 32 → header_at g (after t) i b ≡ header_at g (before t) i b =
    λ b h. header-same g (after t) (before t) i b (same (header_place g i b) (header-from-start g i b) (omega (arith, header-inside g i b h)))
    (same (header_place g i b + 1) (omega (arith, header-from-start g i b)) (header-inside g i b h)) in
    command-at t i next
    ∙ only-flagged (row mode).sync (header_at g (after t) i) (header_at g (before t) i) (λ k h. same-header (place (row mode).sync (command k)) ((all-stand (row mode).sync).commands k h))
    ∙ sends-command t i (omega arith)

-- so that on an undamaged lane the commands released are those given from where the receiver began on
module _ {mode E : ℕ} (t : Transfer mode E) (clean : (x : ℕ) → x < 8 * length (lane_heard t.receivings) → flips t x ≡ 0) where
  pub commands-back : commands_released mode fresh t.receivings ≡ take (releases t) (drop t.from (commands_given t.sendings))
  commands-back =
      let n = releases t in
      let from-there = drop t.from (commands_given t.sendings) in
      let long : length (take n from-there) ≡ n = length-take-le n from-there (omega (arith, length-drop t.from (commands_given t.sendings), given-so-many t)) in
      ext_get_or 0 (commands_released mode fresh t.receivings) (take n from-there) (commands-length t ∙ sym long) (λ i h.
      let l : i < n = subst (λ (x : ℕ). i < x) (commands-length t) h in
      untouched-tells mode E t i l (λ x a b. clean x (omega (arith, heard-up-to t (i + 1) (omega (arith, all-released t i l)))))
      ∙ sym (get_or-take n from-there i 0 l ∙ get_or-drop t.from (commands_given t.sendings) i 0))

pub messages-cross : MessagesCross
messages-cross mode E channel t clean messages ok e =
    subst (λ (l : List ℕ). reads mode l 0 (suc (length messages)) ≡ all_read mode 0 messages) (sym (commands-back t clean ∙ e)) (all-read-back mode messages channel ok)

-- ---- running totals

-- the counts that the calls leave are those of one run over all that was heard
module _ (mode : ℕ) (calls : List Receiving) (h : AllHeard mode fresh calls) where
  abbrev lane : ℕ → ℕ
  lane = bit_at (lane_heard calls)

  abbrev many : ℕ
  many = length (lane_heard calls) / lane_octets (row mode).gap

  as_one : AllRun mode fresh calls
  as_one = all-calls mode fresh calls h

  left_is : state_left mode fresh calls ≡ counted (row mode) lane many
  left_is = as_one.state

  statuses-are : statuses_released mode fresh calls ≡ told (row mode) lane many
  statuses-are = as_one.lists (λ d. d.statuses) (λ r. r.status) (λ t o s c p q i. (s, refl))

  totals-are : let left = state_left mode fresh calls in let statuses = statuses_released mode fresh calls in
      (left.sound ≡ stopped (how_many 0 statuses)) × (left.repaired ≡ stopped (how_many 1 statuses)) × (left.failed ≡ stopped (how_many 2 statuses))
  totals-are = rw (left_is, statuses-are) (count-by-kind (row mode) lane many)

  all-added : let left = state_left mode fresh calls in
      left.sound < most_count → left.repaired < most_count → left.failed < most_count → left.sound + left.repaired + left.failed ≡ count_released mode fresh calls
  all-added = rw (left_is, as_one.count) (counts-add-up (row mode) lane many)

pub totals-told : TotalsTold
totals-told = totals-are

pub totals-add-up : TotalsAddUp
totals-add-up mode calls h a b c = all-added mode calls h a b c

pub counts-unread : CountsUnread
counts-unread mode s t c e a b =
    let lane = bit_at c.lane in
    let n = length c.lane / lane_octets (row mode).gap in
    let laid : Step → Done = λ x. laid_out x c.octets c.statuses c.commands c.places c.patterns c.invalid in
    ap but_counts (all-run mode s c.lane c.octets c.statuses c.commands c.places c.patterns c.invalid a)
    ∙ ap laid (same-but-counts (row mode) lane s t n e)
    ∙ sym (ap but_counts (all-run mode t c.lane c.octets c.statuses c.commands c.places c.patterns c.invalid b))

-- ---- invalid headers

pub tells-invalid : InvalidTold
tells-invalid mode E t i l = invalid-at t i (all-released t i l)

pub invalid-by-flips : InvalidByFlips
invalid-by-flips mode E t i l =
    let next = all-released t i l in
    subst (λ (x : ℕ). x ≤ header_flips t i) (sym (tells-invalid mode E t i l))
    (invalid-flips (row mode).gap (before t) (after t) (sends-them t).bits (bit_at_lt (lane_heard t.receivings)) i (λ b h. (sends-them t).valid i b (omega arith) h))

pub untouched-valid : UntouchedValid
untouched-valid mode E t i l u =
    let g = (row mode).gap in
    let bits : (x : ℕ) → flips t x < 2 = λ x. xor_lt 1 (before t x) (after t x) ((sends-them t).bits x) (bit_at_lt (lane_heard t.receivings) x) in
    let clear : (x : ℕ) → 8 * lane_octets g * i ≤ x → x < 8 * lane_octets g * suc i → flips t x ≡ 0 =
    λ x a b. u x a (subst (λ (n : ℕ). x < 8 * lane_octets g * n) {x = suc i} {y = i + 1} (omega arith) b) in
    let firsts = ones_none (λ b. flips t (header_place g i b)) (λ b. bits (header_place g i b)) 32 (λ b h. clear _ (header-from-start g i b) (omega (arith, header-inside g i b h))) in
    let seconds = ones_none (λ b. flips t (header_place g i b + 1)) (λ b. bits (header_place g i b + 1)) 32 (λ b h. clear _ (omega (arith, header-from-start g i b)) (header-inside g i b h)) in
    omega (arith, invalid-by-flips mode E t i l, firsts, seconds)

-- ---- fill bits

pub fill-ignored : FillIgnored
fill-ignored mode s c other long same =
    gaps-ignored mode s c.lane other c.octets c.statuses c.commands c.places c.patterns c.invalid long same

pub fill-by-table : FillByTable
fill-by-table mode E gaps s calls sent m t j inside ht hj =
    let one = one_lane mode E s calls sent in
    let n = length (commands_given calls) in
    let L = lane_octets (row mode).gap in
    let long : length (lane_sent mode E s calls) ≡ L * n = ap length one.made ∙ lane-length (row mode) E s (user_octets calls) (commands_given calls) in
    let within : m + 1 ≤ n = le_of_mul-le-mul_left (subst (λ (x : ℕ). L * (m + 1) ≤ x) long inside) (octets-some (row mode).gap) in
    let fits = (one.ready (omega arith)).0.fill in
    ap (λ (l : List ℕ). bit_at l (fill_place (row mode).gap m t j)) one.made
    ∙ fill-sent (row mode) E s (user_octets calls) (commands_given calls) (omega (arith, one.given)) gaps (omega (arith, fits, fill-bound (row mode).gap gaps)) m t j (omega arith) ht hj

pub never-still : NeverStill
never-still mode E gaps s c z m t =
    let accepted = sym (answered mode E s c.user c.commands c.lane) ∙ z in
    moves s.fill (shifts * (32 * m + t)) (subst (λ (x : ℕ). s.fill < x) (fill-bound (row mode).gap gaps) (fits mode E s c.user c.commands c.lane accepted).fill)

-- ---- the premise, burst uniqueness, the locks, the dozen

pub bursts-by-pairs : BurstsByPairs
bursts-by-pairs limit clear n f bits some short = (pairs limit clear n f, in-bursts limit clear n f bits some short)

pub one-burst-only : OneBurst
one-burst-only = one-burst

pub one-set-only : OneSet
one-set-only = one_set

pub in-time : LocksInTime
in-time mode E is_known crc s calls sent p n inside h =
    along-lane mode E is_known crc s calls sent (λ (n : ℕ) (x : Lock). 95 + 128 * E ≤ n → Held x)
    (λ q headers extent lane. locked-in-time mode E q headers is_known extent lane) p n (omega arith) inside (omega arith)

pub none_kept : NothingKept
none_kept mode E is_known crc s calls sent p zero inside = ap (λ (x : Lock). x.extended.kept) (state-none mode E (headers_from (row mode).gap (lane_sent mode E s calls) p))
none_kept mode E is_known crc s calls sent p (suc n) inside =
    along-lane mode E is_known crc s calls sent (λ (n : ℕ) (x : Lock). x.extended.kept ≡ 0)
    (λ q headers extent lane. nothing-kept mode E q headers is_known extent lane) p (suc n) (omega arith) inside

pub locks-go-on : LocksGoOn
locks-go-on mode E lock header next z = goes_on mode E lock header z next

pub never-meet : NeverMeet
never-meet mode E lock header z = stays-apart mode E lock header z

pub kept-is-followed : KeptFollowed
kept-is-followed mode E lock header z held f look some miss = kept-followed mode E lock header z f look some miss held

pub dozen-right : DozenRight
dozen-right = all_right
