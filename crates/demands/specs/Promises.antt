-- All that is promised of the link as a whole; proofs/Promised.antt holds the proofs, in this order. Assumes nothing.
use Rattle.std.specs.Prelude.{◌≡◌, Bool, true, false, ◌⊎◌, ℕ, suc, ◌+◌, ◌-◌, ◌*◌, ◌/◌, ◌%◌, ◌≤◌, ◌<◌, length, take, drop}
use mathlib.Core.List.{List, [], ◌∷◌, Memᴰ}
use Rattle.bits.specs.Choice.{bit_of}
use Rattle.bits.specs.Order.{bit_at, list_from}
use Rattle.parity.specs.Codeword.{fec, remainder_of}
use Rattle.parity.specs.Bursts.{BurstSet, IsBurst, flips as burst_flips}
use Rattle.frame.specs.Modes.{code, repairs, checks, rows, known, row}
use Rattle.fill.specs.Register.{register_after, shifts, still}
use Rattle.fill.specs.Table38.{fill_bit}
use Rattle.frame.specs.Headers.{header_read}
use Rattle.frame.specs.Lane.{block_width, lane_octets, data_place, fill_place, in_gap, value_at, invalid_headers}
use Rattle.commands.specs.Writing.{channel_words}
use Rattle.commands.specs.Promises.{Given, AllAccepted, all_encoded, reads, all_read}
use Rattle.sender.specs.declared.Sender.{Sender}
use Rattle.judge.specs.Sound.{sound, soundness}
use Rattle.receiver.specs.declared.Receiver.{Receiver}
use Rattle.receiver.specs.Release.{fresh}
use Rattle.receiver.specs.Totals.{most_count, stopped, how_many, uncounted}
use Rattle.receiver.specs.Entry as receiver
use Rattle.lock.specs.declared.Phase.TheVariants.{Following}
use Rattle.lock.specs.declared.Lock.{Lock}
use Rattle.lock.specs.ExtendedTable.{with_header, matches, following}
use Rattle.lock.specs.Refusals.{stepped}
use Rattle.lock.specs.Run.{state_after}
use Rattle.lock.specs.Stream.{Held}
use Rattle.demands.specs.Damage.{InBursts, Pairwise}
use Rattle.demands.specs.Calls.{Sending, sending, AllSent, lane_sent, commands_given, Receiving, receiving, lane_heard, AllHeard, state_left, count_released, statuses_released, commands_released}
use Rattle.demands.specs.Transfer.{Transfer, flips, DamagedBy, Untouched, releases, released, status, command_told, invalid_told, given, command_given, header_flips}
use Rattle.demands.specs.Dozen.{Case, Right, dozen}

-- ---- demand 3's bursts, read off the mode's row

-- the bits of the longest burst, and the clear bits between two: those of two multiblocks
abbrev pub limit_of : ℕ → ℕ
limit_of mode = (code (row mode).sync).limit

abbrev pub clear_of : ℕ → ℕ
clear_of mode = 2 * (8 * lane_octets (row mode).gap)

abbrev pub Damaged : {mode E : ℕ} → Transfer mode E → Type 0
Damaged {mode} t = DamagedBy t (limit_of mode) (clear_of mode)

-- mode by mode: CRC-12 and FEC in blocks of 66 bits, the same in blocks of 80, CRC-3, and no bursts where there is no parity
abbrev pub Limits : Type 0
Limits =
    (list_from limit_of 0 (length rows) ≡ 12 ∷ 9 ∷ 12 ∷ 9 ∷ 3 ∷ 0 ∷ [])
    × (list_from clear_of 0 (length rows) ≡ 4224 ∷ 4224 ∷ 5120 ∷ 5120 ∷ 4224 ∷ 4224 ∷ [])

-- and which modes have a parity, and which of these repair
abbrev pub Kinds : Type 0
Kinds =
    (list_from (λ mode. bit_of (checks (row mode).sync)) 0 (length rows) ≡ 1 ∷ 1 ∷ 1 ∷ 1 ∷ 1 ∷ 0 ∷ [])
    × (list_from (λ mode. bit_of (repairs (row mode).sync)) 0 (length rows) ≡ 0 ∷ 1 ∷ 0 ∷ 1 ∷ 0 ∷ 0 ∷ [])

-- ---- demand 3 with a code that repairs: FEC

-- the octets of every released multiblock after the first equal those sent
abbrev pub FecDelivers : Type 0
FecDelivers =
    (mode E : ℕ) → repairs (row mode).sync ≡ true → (t : Transfer mode E) → Damaged t
    → (i j : ℕ) → 1 ≤ i → i < releases t → j < 256 → released t i j ≡ given t i j

-- ---- demand 3 with a code that only notices: CRC-12, and CRC-3 (request 5)

-- there is a parity, and no burst is flipped back
abbrev pub Notices : ℕ → Type 0
Notices mode = (checks (row mode).sync ≡ true) × (repairs (row mode).sync ≡ false)

-- every released multiblock whose data bits were hit has status 2 or 6
abbrev pub CrcTellsHits : Type 0
CrcTellsHits =
    (mode E : ℕ) → Notices mode → (t : Transfer mode E) → Damaged t
    → (i q : ℕ) → i < releases t → q < 2048 → flips t (data_place (row mode).gap i q) ≡ 1 → (status t i ≡ 2) ⊎ (status t i ≡ 6)

-- a released multiblock other than the first has status 0, so that it is sound throughout, if it and both its neighbours were untouched
abbrev pub CrcUntouchedSound : Type 0
CrcUntouchedSound =
    (mode E : ℕ) → Notices mode → (t : Transfer mode E) → Damaged t
    → (i : ℕ) → 1 ≤ i → i < releases t → Untouched t (i - 1) (i + 2) → status t i ≡ 0

-- ---- with either: no octet called sound differs from the one sent

abbrev pub SoundTrue : Bool → Type 0
SoundTrue repaired =
    (mode E : ℕ) → repairs (row mode).sync ≡ repaired → (t : Transfer mode E) → Damaged t
    → (i j : ℕ) → i < releases t → j < 256 → soundness (row mode).sync (status t i) j ≡ sound → released t i j ≡ given t i j

abbrev pub FecSoundTrue : Type 0
FecSoundTrue = SoundTrue true

abbrev pub CrcSoundTrue : Type 0
CrcSoundTrue = SoundTrue false

-- ---- without a parity (request 5): the stand-alone command channel

-- whatever was flipped, the first released multiblock has status 4 and the others have 0, and no octet is called sound, by any status
abbrev pub UncheckedNeverSound : Type 0
UncheckedNeverSound =
    (mode E : ℕ) → checks (row mode).sync ≡ false
    → ((t : Transfer mode E) (i : ℕ) → i < releases t → (i ≡ 0 → status t i ≡ 4) × (1 ≤ i → status t i ≡ 0))
    × ((status j : ℕ) → soundness (row mode).sync status j ≡ sound → ⊥)

-- in this mode as in every other, on an undamaged lane the octets of every released multiblock after the first equal those sent
abbrev pub UndamagedDelivers : Type 0
UndamagedDelivers =
    (mode E : ℕ) (t : Transfer mode E) → ((x : ℕ) → x < 8 * length (lane_heard t.receivings) → flips t x ≡ 0)
    → (i j : ℕ) → suc i < releases t → j < 256 → released t (suc i) j ≡ given t (suc i) j

-- ---- commands (request 6)

-- in every mode, the command of a released multiblock that was untouched is the one given, with no flag; the first one's too, since a command asks for
-- no trust
abbrev pub UntouchedTells : Type 0
UntouchedTells = (mode E : ℕ) (t : Transfer mode E) (i : ℕ) → i < releases t → Untouched t i (i + 1) → command_told t i ≡ command_given t i

-- in a mode with a command channel, where the commands given to the multiblocks that were released are messages one after another, on an undamaged lane
-- the commands released read back as these messages, and then nothing
abbrev pub MessagesCross : Type 0
MessagesCross =
    (mode E : ℕ) → 1 ≤ channel_words mode → (t : Transfer mode E) → ((x : ℕ) → x < 8 * length (lane_heard t.receivings) → flips t x ≡ 0)
    → (messages : List Given) → AllAccepted mode messages → take (releases t) (drop t.from (commands_given t.sendings)) ≡ all_encoded mode messages
    → reads mode (commands_released mode fresh t.receivings) 0 (suc (length messages)) ≡ all_read mode 0 messages

-- ---- running totals (request 7)

-- each count of the state that calls from a fresh one leave is the number of releases of its kind, or the greatest number where that is more
abbrev pub TotalsTold : Type 0
TotalsTold =
    (mode : ℕ) (calls : List Receiving) → AllHeard mode fresh calls
    → let left = state_left mode fresh calls in let statuses = statuses_released mode fresh calls in
    (left.sound ≡ stopped (how_many 0 statuses)) × (left.repaired ≡ stopped (how_many 1 statuses)) × (left.failed ≡ stopped (how_many 2 statuses))

-- below the greatest number, their sum is the number released
abbrev pub TotalsAddUp : Type 0
TotalsAddUp =
    (mode : ℕ) (calls : List Receiving) → AllHeard mode fresh calls
    → let left = state_left mode fresh calls in
    left.sound < most_count → left.repaired < most_count → left.failed < most_count
    → left.sound + left.repaired + left.failed ≡ count_released mode fresh calls

-- an answer and the lent buffers, but for the counts of the state
abbrev pub but_counts : receiver.Done → receiver.Done
but_counts d =
    let answer = d.answer in
    receiver.done (record { refusal = answer.refusal; count = answer.count; state = uncounted answer.state })
    d.octets d.statuses d.commands d.places d.patterns d.invalid

-- two states that differ only in counts, neither refused, are answered alike but for these
abbrev pub CountsUnread : Type 0
CountsUnread =
    (mode : ℕ) (s t : Receiver) (c : Receiving) → uncounted s ≡ uncounted t
    → (receiving mode s c).answer.refusal ≡ 0 → (receiving mode t c).answer.refusal ≡ 0
    → but_counts (receiving mode s c) ≡ but_counts (receiving mode t c)

-- ---- invalid headers (request 1), with any bits flipped

-- a released number is that of its own multiblock on the lane heard
abbrev pub InvalidTold : Type 0
InvalidTold =
    (mode E : ℕ) (t : Transfer mode E) (i : ℕ) → i < releases t → invalid_told t i ≡ invalid_headers (row mode).gap (bit_at (lane_heard t.receivings)) i

-- it is at most the number of bits flipped in the headers
abbrev pub InvalidByFlips : Type 0
InvalidByFlips = (mode E : ℕ) (t : Transfer mode E) (i : ℕ) → i < releases t → invalid_told t i ≤ header_flips t i

-- and 0 where the multiblock was untouched
abbrev pub UntouchedValid : Type 0
UntouchedValid = (mode E : ℕ) (t : Transfer mode E) (i : ℕ) → i < releases t → Untouched t i (i + 1) → invalid_told t i ≡ 0

-- ---- fill bits (request 2)

-- whatever stands in the gaps, a call of the receiver answers the same and leaves the same in every buffer, or refuses both lanes alike
abbrev pub FillIgnored : Type 0
FillIgnored =
    (mode : ℕ) (s : Receiver) (c : Receiving) (other : List ℕ) → length c.lane ≡ length other
    → ((x : ℕ) → in_gap (row mode).gap x ≡ false → bit_at c.lane x ≡ bit_at other x)
    → receiving mode s c ≡ receiver.entry mode s other c.octets c.statuses c.commands c.places c.patterns c.invalid

-- the register of block t of multiblock m of a lane: as many blocks took it before, from the state in which the first call began
abbrev pub register_of : Sender → ℕ → ℕ → ℕ
register_of s m t = register_after s.fill (shifts * (32 * m + t))

-- every fill bit of a lane that our sender made is Table 38's of its block's register
abbrev pub FillByTable : Type 0
FillByTable =
    (mode E : ℕ) → ((row mode).gap ≡ 0 → ⊥) → (s : Sender) (calls : List Sending) → AllSent mode E s calls
    → (m t j : ℕ) → lane_octets (row mode).gap * (m + 1) ≤ length (lane_sent mode E s calls) → t < 32 → j < 7 * (row mode).gap
    → bit_at (lane_sent mode E s calls) (fill_place (row mode).gap m t j) ≡ fill_bit (register_of s m t) j

-- and no block of a sender in an accepted state takes the register that stands still
abbrev pub NeverStill : Type 0
NeverStill =
    (mode E : ℕ) → ((row mode).gap ≡ 0 → ⊥) → (s : Sender) (c : Sending) → (sending mode E s c).answer.refusal ≡ 0
    → (m t : ℕ) → register_of s m t < still

-- ---- the premise by bursts and by pairs says the same, where two bursts are no longer than the clear bits

abbrev pub BurstsByPairs : Type 0
BurstsByPairs =
    (limit clear n : ℕ) (f : ℕ → ℕ) → ((x : ℕ) → f x < 2) → 1 ≤ limit → 2 * limit ≤ clear
    → (InBursts limit clear n f → Pairwise limit clear n f) × (Pairwise limit clear n f → InBursts limit clear n f)

-- ---- no two bursts that FEC is used for have the same remainder: by place and pattern, and as sets of positions

abbrev pub OneBurst : Type 0
OneBurst =
    (p q s t : ℕ) → IsBurst fec.limit fec.positions p q → IsBurst fec.limit fec.positions s t
    → remainder_of fec (burst_flips p q) ≡ remainder_of fec (burst_flips s t) → (p ≡ s) × (q ≡ t)

abbrev pub OneSet : Type 0
OneSet =
    (f h : ℕ → ℕ) → BurstSet fec.limit fec.positions f → BurstSet fec.limit fec.positions h
    → remainder_of fec f ≡ remainder_of fec h → (p : ℕ) → f p ≡ h p

-- ---- the locks

-- the values of the headers of a lane, from its block p on
abbrev pub headers_from : ℕ → List ℕ → ℕ → ℕ → ℕ
headers_from gap lane p x = value_at gap (bit_at lane) ((p + x) / 32) ((p + x) % 32)

-- a lane that our sender made, with any sync words but FEC's, fed from fresh at its true offset from any block of it, holds both locks after at most 95 + 128E blocks
-- and at every block after, as far as the lane goes
abbrev pub LocksInTime : Type 0
LocksInTime =
    (mode E : ℕ) → known mode ≡ true → repairs (row mode).sync ≡ false → (s : Sender) (calls : List Sending) → AllSent mode E s calls
    → (p n : ℕ) → block_width (row mode).gap * (p + n) ≤ 8 * length (lane_sent mode E s calls) → 95 + 128 * E ≤ n
    → Held (state_after mode E (headers_from (row mode).gap (lane_sent mode E s calls) p) n)

-- request 4: on such a lane nothing is ever kept, since its end mark and the ending after it fit at no other phase
abbrev pub NothingKept : Type 0
NothingKept =
    (mode E : ℕ) → known mode ≡ true → repairs (row mode).sync ≡ false → (s : Sender) (calls : List Sending) → AllSent mode E s calls
    → (p n : ℕ) → block_width (row mode).gap * (p + n) ≤ 8 * length (lane_sent mode E s calls)
    → (state_after mode E (headers_from (row mode).gap (lane_sent mode E s calls) p) n).extended.kept ≡ 0

-- request 4: on any headers, a step that is taken returns a state that the next step takes
abbrev pub LocksGoOn : Type 0
LocksGoOn =
    (mode E : ℕ) (lock : Lock) (header next : ℕ) → (stepped mode E lock header).refusal ≡ 0 → next ≤ 3
    → (stepped mode E (stepped mode E lock header).lock next).refusal ≡ 0

-- in which the kept phase and the followed one have not met
abbrev pub NeverMeet : Type 0
NeverMeet =
    (mode E : ℕ) (lock : Lock) (header : ℕ) → (stepped mode E lock header).refusal ≡ 0
    → let x = (stepped mode E lock header).lock.extended in x.phase ≡ Following → x.kept ≡ x.next → ⊥

-- and nothing kept is lost without cause: while header lock is held, a look without a match leads to the kept phase, with good count 1, and the
-- count to its next look has run on
abbrev pub KeptFollowed : Type 0
KeptFollowed =
    (mode E : ℕ) (lock : Lock) (header : ℕ) → (stepped mode E lock header).refusal ≡ 0 → (stepped mode E lock header).lock.header.locked ≡ true
    → let x = lock.extended in let seen = with_header x (header_read header) in
    x.phase ≡ Following → x.next ≡ 1 → (x.kept ≡ 0 → ⊥) → matches seen ≡ false
    → (stepped mode E lock header).lock.extended ≡ following seen 1 (x.kept - 1) 0

-- ---- the dozen

abbrev pub DozenRight : Type 0
DozenRight = (c : Case) → Memᴰ c dozen → Right c
