-- Calls of the sender, one after another, make together one lane, and what each multiblock of it carries: document 01, "From octets to lane
-- bits". Assumes nothing.
use mathlib.Core.Path.{◌≡◌, refl, sym, ap, ap₂, ◌∙◌, subst, fun_ext}
use mathlib.Core.Bool.{false}
use mathlib.Core.List.{List, [], ◌∷◌, ◌++◌}
use Prim.Native.Nat.{ℕ, zero, suc, ◌+◌, ◌*◌, ◌^◌, ◌<◌, ◌≤◌}
use native.Mathlib.Nat.{mul-zero, mul-add, mod-eq_of_lt}
use native.Mathlib.Omega.{arith}
use lib.ListN.{length, get_or, take, length-append}
use lib.Pow.{pow_pos}
use Rattle.bits.specs.Choice.{bit_of}
use Rattle.bits.specs.Order.{bit_at, digit, laid}
use Rattle.bits.proofs.Numbers.{bit_at_lt, number-zeros}
use Rattle.bits.proofs.Laid.{taken_back}
use Rattle.scrambler.specs.Scrambling.{sent}
use Rattle.parity.specs.Codeword.{multiblock_parity}
use Rattle.frame.specs.declared.modes.Sync.{Sync}
use Rattle.frame.specs.declared.modes.Row.{Row}
use Rattle.frame.specs.declared.sync.Parts.{Parts}
use Rattle.frame.specs.declared.headers.Header.{Header}
use Rattle.frame.specs.Modes.{Whose, before, own, Field, parity, command, layout, code, row, parity_width, command_width}
use Rattle.frame.specs.Headers.{carries, invalid}
use Rattle.frame.specs.Lane.{lane_octets, data_bit, header_at, sync_bit, data_octets}
use Rattle.frame.specs.SyncWord.{read_by, read_parity, read_command, sync_word, flagged_command, whole as together}
use Rattle.frame.proofs.Reading.{carried as read_back}
use Rattle.frame.proofs.SyncWord.{place, field_at, all-stand, held-lt, held-digit, only-there, reads-command, only-flagged, unflagged}
use Rattle.frame.proofs.Lane.{lane_from, header-by-value, data-moved, header-at-moved, sync-moved, octets-moved}
use Rattle.sender.specs.declared.Sender.{Sender}
use Rattle.sender.specs.Lane.{last, lane}
use Rattle.sender.specs.Refusal.{refusal_of}
use Rattle.sender.proofs.States.{Fits}
use Rattle.sender.proofs.Runs.{lane-join, lane-length}
use Rattle.sender.proofs.Entry.{answered, returned, counted, written, commands-fit, whole, blocks, fits}
use Rattle.sender.proofs.Multiblocks.{before as state_before, carried, value-sent, data-sent, valid-sent, parity-sent}
use Rattle.receiver.proofs.Numbered.{parity_on}
use Rattle.demands.specs.Calls.{Sending, sending, user_octets, commands_given, AllSent, lane_sent}
use Rattle.demands.proofs.Wrong.{Bits}

-- ---- one lane

empty : (l : List ℕ) → length l ≡ 0 → l ≡ []
empty [] e = refl
empty (x ∷ l) e = absurd (omega arith)

-- numbers below a bound, one list behind another
both_below : (bound : ℕ) (a b : List ℕ) → ((i : ℕ) → get_or a i 0 < bound) → ((i : ℕ) → get_or b i 0 < bound) → (i : ℕ) → get_or (a ++ b) i 0 < bound
both_below bound [] b h k i = k i
both_below bound (x ∷ a) b h k zero = h zero
both_below bound (x ∷ a) b h k (suc i) = both_below bound a b (λ j. h (suc j)) k i

module _ (mode E : ℕ) where
  abbrev R : Row
  R = row mode

  pub record OneLane (s : Sender) (calls : List Sending) : Type 0 where
    pub made : lane_sent mode E s calls ≡ lane R E s (user_octets calls) (commands_given calls)
    pub given : length (user_octets calls) ≡ 256 * length (commands_given calls)
    pub ready : 0 < length (commands_given calls) → Fits R E s × (1 ≤ E) × (E ≤ 256)
    pub in-range : (i : ℕ) → get_or (commands_given calls) i 0 < 2 ^ command_width R.sync

  module _ (s : Sender) (c : Sending) (z : (sending mode E s c).answer.refusal ≡ 0) (calls : List Sending) (rest : OneLane (sending mode E s c).answer.state calls) where
    accepted : refusal_of mode E s c.user c.commands c.lane ≡ 0
    accepted = sym (answered mode E s c.user c.commands c.lane) ∙ z

    begun : take (lane_octets R.gap * (sending mode E s c).answer.count) (sending mode E s c).lane ≡ lane R E s c.user c.commands
    begun =
        ap₂ (λ (n : ℕ) (l : List ℕ). take (lane_octets R.gap * n) l) (counted mode E s c.user c.commands c.lane accepted) (written mode E s c.user c.commands c.lane accepted)
        ∙ ap (λ (n : ℕ). take n (laid (lane R E s c.user c.commands) c.lane)) (sym (lane-length R E s c.user c.commands))
        ∙ taken_back (lane R E s c.user c.commands) c.lane

    with_call : OneLane s (c ∷ calls)
    with_call = record {
      made =
          ap₂ ◌++◌ begun
          (rest.made ∙ ap (λ (x : Sender). lane R E x (user_octets calls) (commands_given calls)) (returned mode E s c.user c.commands c.lane accepted))
          ∙ sym (lane-join R E s c.user (user_octets calls) c.commands (commands_given calls) (whole mode E s c.user c.commands c.lane accepted));
      given = omega (
        arith,
        length-append c.user (user_octets calls),
        length-append c.commands (commands_given calls),
        whole mode E s c.user c.commands c.lane accepted,
        rest.given,
      );
      ready = λ _.
          let within = blocks mode E s c.user c.commands c.lane accepted in
          (fits mode E s c.user c.commands c.lane accepted, within.0, within.1);
      in-range =
          both_below (2 ^ command_width R.sync) c.commands (commands_given calls) (commands-fit mode E s c.user c.commands c.lane accepted) rest.in-range;
    }

  pub one_lane : (s : Sender) (calls : List Sending) → AllSent mode E s calls → OneLane s calls
  one_lane s [] h = record {
    made = sym (empty (lane R E s [] []) (lane-length R E s [] [] ∙ mul-zero (lane_octets R.gap)));
    given = refl;
    ready = λ l. absurd (omega arith);
    in-range = λ i. pow_pos (command_width R.sync);
  }
  one_lane s (c ∷ calls) h = with_call s c h.0 calls (one_lane (sending mode E s c).answer.state calls h.1)

-- ---- what the multiblocks of a lane carry, from one of them on

pub record Sends (R : Row) (user : List ℕ) (history first n : ℕ) (lane : ℕ → ℕ) : Type 0 where
  pub bits : Bits lane
  pub data-bits : (i q : ℕ) → i < n → q < 2048 → data_bit R.gap lane i q ≡ sent (bit_at user) history (2048 * (first + i) + q)
  pub valid : (i t : ℕ) → i < n → t < 32 → invalid (header_at R.gap lane i t) ≡ false
  pub parities : (i : ℕ) → suc i < n → parity_on R lane i ≡ multiblock_parity (code R.sync) (bit_at (data_octets R.gap lane i))

module _ (gap : ℕ) (lane : ℕ → ℕ) (a b : ℕ) where
  further : lane_from gap (lane_from gap lane a) b ≡ lane_from gap lane (a + b)
  further = fun_ext (λ x. ap lane (omega (arith, mul-add (8 * lane_octets gap) a b)))

  pub data-from : (q : ℕ) → data_bit gap (lane_from gap lane a) b q ≡ data_bit gap lane (a + b) q
  data-from q =
      data-moved gap (lane_from gap lane a) b q ∙ ap (λ (f : ℕ → ℕ). data_bit gap f 0 q) further ∙ sym (data-moved gap lane (a + b) q)

  pub header-from : (t : ℕ) → header_at gap (lane_from gap lane a) b t ≡ header_at gap lane (a + b) t
  header-from t =
      header-at-moved gap (lane_from gap lane a) b t ∙ ap (λ (f : ℕ → ℕ). header_at gap f 0 t) further ∙ sym (header-at-moved gap lane (a + b) t)

  pub sync-from : (t : ℕ) → sync_bit gap (lane_from gap lane a) b t ≡ sync_bit gap lane (a + b) t
  sync-from t =
      sync-moved gap (lane_from gap lane a) b t ∙ ap (λ (f : ℕ → ℕ). sync_bit gap f 0 t) further ∙ sym (sync-moved gap lane (a + b) t)

  pub octets-from : data_octets gap (lane_from gap lane a) b ≡ data_octets gap lane (a + b)
  octets-from = octets-moved gap (lane_from gap lane a) b ∙ ap (λ (f : ℕ → ℕ). data_octets gap f 0) further ∙ sym (octets-moved gap lane (a + b))

pub sends : (mode E : ℕ) (s : Sender) (calls : List Sending) → OneLane mode E s calls → (first n : ℕ) → first + n ≤ length (commands_given calls)
    → Sends (row mode) (user_octets calls) s.history first n (lane_from (row mode).gap (bit_at (lane_sent mode E s calls)) first)
sends mode E s calls one first n inside = subst (λ (l : List ℕ). Sends R user s.history first n (lane_from R.gap (bit_at l) first)) (sym one.made) of-lane
  where
    R : Row
    R = row mode

    user : List ℕ
    user = user_octets calls

    all : List ℕ
    all = lane R E s user (commands_given calls)

    enough : 256 * length (commands_given calls) ≤ length user
    enough = omega (arith, one.given)

    same-part : (whose : Whose) (i m : ℕ) → first + i ≡ m
        → read_parity R.sync whose (sync_bit R.gap (lane_from R.gap (bit_at all) first) i) ≡ read_parity R.sync whose (sync_bit R.gap (bit_at all) m)
    same-part whose i m e =
        only-there (layout R.sync) (parity whose) (parity_width R.sync whose) (sync_bit R.gap (lane_from R.gap (bit_at all) first) i) (sync_bit R.gap (bit_at all) m)
        (λ k l. sync-from R.gap (bit_at all) first i (place R.sync (parity whose k)) ∙ ap (λ (m : ℕ). sync_bit R.gap (bit_at all) m (place R.sync (parity whose k))) e)

    of-lane : Sends R user s.history first n (lane_from R.gap (bit_at all) first)
    of-lane = record {
      bits = λ k. bit_at_lt all (8 * lane_octets R.gap * first + k);
      data-bits = λ i q h l.
          data-from R.gap (bit_at all) first i q
          ∙ data-sent R E s user (commands_given calls) enough (one.ready (omega arith)).0.history (first + i) q (omega arith) l;
      valid = λ i t h l.
          ap invalid (header-from R.gap (bit_at all) first i t) ∙ valid-sent R E s user (commands_given calls) enough (first + i) t (omega arith) l;
      parities = λ i h.
          ap₂ (λ (x y : ℕ). together R.sync (record { before = x; own = y })) (same-part before (suc i) (suc (first + i)) (omega arith)) (same-part own i (first + i) refl)
          ∙ parity-sent R E s user (commands_given calls) enough (first + i) (omega arith)
          ∙ ap (λ (l : List ℕ). multiblock_parity (code R.sync) (bit_at l)) (sym (octets-from R.gap (bit_at all) first i));
    }

-- ---- the commands

-- bits that are all 0 read 0
read-zeros : (fields : List Field) (f : ℕ → Field) (w : ℕ) → read_by fields f w (λ t. 0) ≡ 0
unfolding read_by
read-zeros fields f w = number-zeros (λ j. 0) (λ j. refl) 0 w

-- the headers of a multiblock sent tell its command, with no flag
pub command-sent : (mode E : ℕ) (s : Sender) (calls : List Sending) → OneLane mode E s calls → (first i : ℕ) → first + i < length (commands_given calls)
    → flagged_command (row mode).sync (header_at (row mode).gap (lane_from (row mode).gap (bit_at (lane_sent mode E s calls)) first) i)
    ≡ get_or (commands_given calls) (first + i) 0
command-sent mode E s calls one first i inside =
    ap (λ (l : List ℕ). flagged_command S (header_at g (lane_from g (bit_at l) first) i)) one.made
    ∙ only-flagged S (header_at g (lane_from g (bit_at all) first) i) headers (λ k h. header-from g (bit_at all) first i (place S (command k)))
    ∙ sym (unflagged S headers (omega (arith, all_valid)))
    ∙ only-there (layout S) command (command_width S) (λ t. carries (headers t)) (digit 32 word) (λ k h. carried-bit (place S (command k)) ((all-stand S).commands k h))
    ∙ reads-command S parts c mark
    ∙ mod-eq_of_lt (one.in-range m)
  where
    g : ℕ
    g = (row mode).gap

    S : Sync
    S = (row mode).sync

    m : ℕ
    m = first + i

    user : List ℕ
    user = user_octets calls

    commands : List ℕ
    commands = commands_given calls

    all : List ℕ
    all = lane (row mode) E s user commands

    headers : ℕ → Header
    headers = header_at g (bit_at all) m

    enough : 256 * length commands ≤ length user
    enough = omega (arith, one.given)

    parts : Parts
    parts = carried (row mode) E s user commands enough m

    c : ℕ
    c = get_or commands m 0

    mark : ℕ
    mark = bit_of (last E (state_before (row mode) E s user commands enough m))

    word : ℕ
    word = sync_word S parts c mark

    all_valid : read_command S (λ t. bit_of (invalid (headers t))) ≡ 0
    all_valid =
        only-there (layout S) command (command_width S) (λ t. bit_of (invalid (headers t))) (λ t. 0)
        (λ k h. ap bit_of (valid-sent (row mode) E s user commands enough m (place S (command k)) inside ((all-stand S).commands k h)))
        ∙ read-zeros (layout S) command (command_width S)

    carried-bit : (t : ℕ) → t < 32 → carries (headers t) ≡ digit 32 word t
    carried-bit t h =
        ap carries (header-by-value g (bit_at all) m t _ (value-sent (row mode) E s user commands enough m t inside h))
        ∙ read_back _ (held-lt parts c mark (field_at S t))
        ∙ sym (held-digit (layout S) parts c mark t h)
