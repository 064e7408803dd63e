-- The multiblocks of a lane by number: multiblock i carries the user's bits from bit 2,048 i on, scrambled in one run with all before them,
-- and of its parity a part goes with it and the rest with multiblock i + 1. Document 01, "From octets to lane bits"; request 5. Assumes nothing.
use mathlib.Core.Path.{◌≡◌, refl, sym, ap, ap₂, ◌∙◌}
use mathlib.Core.Bool.{Bool, true, false}
use mathlib.Core.List.{List, ◌∷◌, ◌++◌}
use Prim.Native.Nat.{ℕ, zero, suc, ◌+◌, ◌*◌, ◌/◌, ◌%◌, ◌^◌, ◌≤◌, ◌<◌}
use native.Mathlib.Nat.{add-zero, mod-lt, mod_self, mod-eq_of_lt, div-add-mod, mul-add-mod_self_left}
use native.Mathlib.Omega.{arith}
use borrow.Author.Tests.{eqb-true, eqb-false}
use lib.Dec.{eqb}
use lib.ListN.{length, get_or, take, drop}
use lib.Seq.{split_at, drop_at, take-suc, length-take-le, take_all}
use Rattle.bits.specs.Choice.{pick, bit_of}
use Rattle.bits.specs.Order.{bit_at, digit}
use Rattle.bits.proofs.Octets.{bit-drop, bit-take, bit-append}
use Rattle.parity.specs.Codeword.{multiblock_parity}
use Rattle.parity.proofs.Groups.{multiblock-lt}
use Rattle.fill.specs.Register.{register_after, shifts}
use Rattle.fill.specs.Table38.{fill_bit}
use Rattle.fill.proofs.Registers.{register-add, register-none}
use Rattle.frame.specs.declared.modes.Row.{Row}
use Rattle.frame.specs.declared.sync.Parts.{Parts}
use Rattle.frame.specs.Modes.{Whose, before as previous, own, parity, layout, code, parity_width}
use Rattle.frame.specs.Headers.{invalid, header_of}
use Rattle.frame.specs.Lane.{lane_octets, fill_place, fill_after, data_bit, value_at, header_at, sync_bit, data_octets, multiblock_bit}
use Rattle.frame.specs.SyncWord.{part_of, whole, held, sync_word, read_parity}
use Rattle.scrambler.specs.Scrambling.{sent, history_after, scrambled}
use Rattle.frame.proofs.Rows.{lower-fits}
use Rattle.frame.proofs.SyncWord.{all-stand, field_at, held-lt, held-digit, only-there, reads-parity}
use Rattle.frame.proofs.Groups.{split-lt, whole_split, all-bits}
use Rattle.frame.proofs.Reading.{header-valid}
use Rattle.frame.proofs.Lane.{lane_from, header-by-value, data-moved, value-moved, fill-moved, fill-moved-on, fill-back, sync-moved, octets-moved, data-back, value-back, sync-back, octets-back, multiblock-bits}
use Rattle.scrambler.proofs.Scrambling.{length-scrambled, scrambled-bit, scrambled-lt, sent-ext, sent-add, history-ext, history-add, history-none}
use Rattle.sender.specs.declared.Sender.{Sender}
use Rattle.sender.specs.Lane.{last, parts_sent, sent_one, after_one, lane, after}
use Rattle.sender.proofs.Runs.{after_one_lem, lane-more, one-length, lane-length}

-- counting modulo E, by a test
next-number : (m E : ℕ) → 0 < E → pick (eqb (m % E + 1) E) 0 (m % E + 1) ≡ (m + 1) % E
next-number m E some = by (eqb (m % E + 1) E) refl
  where
    split : (m + 1) % E ≡ (m % E + 1) % E
    split = ap (λ (x : ℕ). x % E) {x = m + 1} {y = E * (m / E) + (m % E + 1)} (omega (arith, div-add-mod m E)) ∙ mul-add-mod_self_left E (m / E) (m % E + 1)

    by : (b : Bool) → eqb (m % E + 1) E ≡ b → pick b 0 (m % E + 1) ≡ (m + 1) % E
    by true e = sym (split ∙ ap (λ (x : ℕ). x % E) (eqb-true (m % E + 1) E e) ∙ mod_self E)
    by false e = sym (split ∙ mod-eq_of_lt (let n = eqb-false (m % E + 1) E e in let l = mod-lt m some in omega (arith, n)))

module _ (R : Row) (E : ℕ) (s : Sender) (user commands : List ℕ) (given : 256 * length commands ≤ length user) where
  -- the state before multiblock i, and its 256 user octets
  abbrev pub before : ℕ → Sender
  before i = after R E s user (take i commands)

  abbrev user_of : ℕ → List ℕ
  user_of i = take 256 (drop (256 * i) user)

  abbrev all : List ℕ
  all = lane R E s user commands

  own-bit : (i q : ℕ) → q < 2048 → bit_at (user_of i) q ≡ bit_at user (2048 * i + q)
  own-bit i q h =
      bit-take 256 (drop (256 * i) user) q (omega arith)
      ∙ bit-drop (256 * i) user q
      ∙ ap (bit_at user) {x = 8 * (256 * i) + q} {y = 2048 * i + q} (omega arith)

  pub before-next : (i : ℕ) → i < length commands → before (suc i) ≡ after_one R E (before i) (user_of i)
  before-next i h =
      ap (after R E s user) (take-suc commands i 0 h)
      ∙ after_one_lem R E s user (take i commands) (get_or commands i 0)
      ∙ ap (λ (n : ℕ). after_one R E (before i) (take 256 (drop (256 * n) user))) (length-take-le i commands (omega arith))

  -- ---- the history

  left-history : (x : Sender) (u : List ℕ) → (after_one R E x u).history ≡ history_after (bit_at u) x.history 2048
  unfolding after_one
  left-history x u = refl

  module _ (fits : s.history < 2 ^ 58) where
    pub history-before : (i : ℕ) → i ≤ length commands → (before i).history ≡ history_after (bit_at user) s.history (2048 * i)
    history-before zero h = unfold after in sym (history-none (bit_at user) s.history fits)
    history-before (suc i) h =
        ap (λ (x : Sender). x.history) (before-next i (omega arith))
        ∙ left-history (before i) (user_of i)
        ∙ ap (λ (x : ℕ). history_after (bit_at (user_of i)) x 2048) (history-before i (omega arith))
        ∙ history-ext (bit_at (user_of i)) (λ k. bit_at user (2048 * i + k)) (history_after (bit_at user) s.history (2048 * i)) 2048 (own-bit i)
        ∙ history-add (bit_at user) s.history (2048 * i) 2048
        ∙ ap (history_after (bit_at user) s.history) {x = 2048 * i + 2048} {y = 2048 * suc i} (omega arith)

  -- ---- its number in its extended multiblock

  left-number : (x : Sender) (u : List ℕ) → (after_one R E x u).number ≡ pick (last E x) 0 (x.number + 1)
  unfolding after_one
  left-number x u = refl

  pub number-before : s.number < E → (i : ℕ) → i ≤ length commands → (before i).number ≡ (s.number + i) % E
  number-before fits zero h = unfold after in (sym (ap (λ (x : ℕ). x % E) (add-zero s.number) ∙ mod-eq_of_lt fits))
  number-before fits (suc i) h =
      ap (λ (x : Sender). x.number) (before-next i (omega arith))
      ∙ left-number (before i) (user_of i)
      ∙ ap (λ (x : ℕ). pick (eqb (x + 1) E) 0 (x + 1)) (number-before fits i (omega arith))
      ∙ next-number (s.number + i) E (omega arith)
      ∙ ap (λ (x : ℕ). x % E) {x = s.number + i + 1} {y = s.number + suc i} (omega arith)

  -- ---- its fill register

  left-fill : (x : Sender) (u : List ℕ) → (after_one R E x u).fill ≡ fill_after R.gap x.fill
  unfolding after_one
  left-fill x u = refl

  module _ (gaps : R.gap ≡ 0 → ⊥) (fits : s.fill < 2 ^ 17) where
    fill-before : (i : ℕ) → i ≤ length commands → (before i).fill ≡ register_after s.fill (shifts * (32 * i))
    fill-before zero h = unfold after in sym (register-none s.fill fits)
    fill-before (suc i) h =
        ap (λ (x : Sender). x.fill) (before-next i (omega arith))
        ∙ left-fill (before i) (user_of i)
        ∙ fill-moved R.gap (before i).fill gaps
        ∙ ap (λ (x : ℕ). register_after x (shifts * 32)) (fill-before i (omega arith))
        ∙ sym (register-add s.fill (shifts * (32 * i)) (shifts * 32))
        ∙ ap (register_after s.fill) {x = shifts * (32 * i) + shifts * 32} {y = shifts * (32 * suc i)} (omega arith)

  -- ---- the multiblock

  abbrev octets : ℕ → List ℕ
  octets i = scrambled (user_of i) (before i).history 256

  -- its parity in two parts, and what its sync word carries of parities
  abbrev parts : ℕ → Parts
  parts i = parts_sent R (before i) (user_of i)

  abbrev pub carried : ℕ → Parts
  carried i = record { before = (before i).parity; own = (parts i).own }

  abbrev word : ℕ → ℕ
  word i = sync_word R.sync (carried i) (get_or commands i 0) (bit_of (last E (before i)))

  rest : ℕ → List ℕ
  rest i = lane R E (after_one R E (before i) (user_of i)) (drop 256 (drop (256 * i) user)) (drop (suc i) commands)

  lane-from : (i : ℕ) → i < length commands → drop (lane_octets R.gap * i) all ≡ sent_one R E (before i) (user_of i) (get_or commands i 0) ++ rest i
  unfolding rest
  lane-from i h =
      let front = take i commands in
      let counted = length-take-le i commands (omega arith) in
      ap (λ (c : List ℕ). drop (lane_octets R.gap * i) (lane R E s user c)) (split_at commands i 0 h)
      ∙ ap (drop (lane_octets R.gap * i)) (lane-more R E s user front (get_or commands i 0 ∷ drop (suc i) commands))
      ∙ drop_at (lane R E s user front) _ (lane_octets R.gap * i) (lane-length R E s user front ∙ ap (λ (n : ℕ). lane_octets R.gap * n) counted)
      ∙ ap (λ (n : ℕ). lane R E (before i) (drop (256 * n) user) (get_or commands i 0 ∷ drop (suc i) commands)) counted
      ∙ unfold lane in refl

  begins : (i : ℕ) → i < length commands → (x : ℕ) → x < 8 * lane_octets R.gap → lane_from R.gap (bit_at all) i x ≡ multiblock_bit R.gap (before i).fill (word i) (octets i) x
  begins i h x l =
      ap (bit_at all) {x = 8 * lane_octets R.gap * i + x} {y = 8 * (lane_octets R.gap * i) + x} (omega arith)
      ∙ sym (bit-drop (lane_octets R.gap * i) all x)
      ∙ ap (λ (m : List ℕ). bit_at m x) (lane-from i h)
      ∙ bit-append (sent_one R E (before i) (user_of i) (get_or commands i 0)) (rest i) x (omega (arith, one-length R E (before i) (user_of i) (get_or commands i 0)))
      ∙ unfold sent_one in multiblock-bits R.gap (before i).fill (word i) (octets i) x l

  -- its sync bits
  pub sync-sent : (i t : ℕ) → i < length commands → t < 32 → sync_bit R.gap (bit_at all) i t ≡ digit 32 (word i) t
  sync-sent i t h l = sync-moved R.gap (bit_at all) i t ∙ sync-back R.gap (before i).fill (word i) (octets i) (lane_from R.gap (bit_at all) i) (begins i h) t l

  -- the values of its headers
  pub value-sent : (i t : ℕ) → i < length commands → t < 32
      → value_at R.gap (bit_at all) i t ≡ header_of (held (carried i) (get_or commands i 0) (bit_of (last E (before i))) (field_at R.sync t))
  value-sent i t h l =
      value-moved R.gap (bit_at all) i t
      ∙ value-back R.gap (before i).fill (word i) (octets i) (lane_from R.gap (bit_at all) i) (begins i h) t l
      ∙ ap header_of (held-digit (layout R.sync) (carried i) (get_or commands i 0) (bit_of (last E (before i))) t l)

  pub valid-sent : (i t : ℕ) → i < length commands → t < 32 → invalid (header_at R.gap (bit_at all) i t) ≡ false
  valid-sent i t h l =
      ap invalid (header-by-value R.gap (bit_at all) i t _ (value-sent i t h l))
      ∙ header-valid (held (carried i) (get_or commands i 0) (bit_of (last E (before i))) (field_at R.sync t)) (held-lt _ _ _ (field_at R.sync t))

  -- its fill bits: block t of multiblock i takes the register after as many blocks as came before
  module _ (gaps : R.gap ≡ 0 → ⊥) (fits : s.fill < 2 ^ 17) where
    pub fill-sent : (i t j : ℕ) → i < length commands → t < 32 → j < 7 * R.gap
        → bit_at all (fill_place R.gap i t j) ≡ fill_bit (register_after s.fill (shifts * (32 * i + t))) j
    fill-sent i t j h l m =
        fill-moved-on R.gap (bit_at all) i t j
        ∙ fill-back R.gap (before i).fill (word i) (octets i) (lane_from R.gap (bit_at all) i) (begins i h) t j l m
        ∙ ap (λ (x : ℕ). fill_bit x j)
        (ap (λ (x : ℕ). register_after x (shifts * t)) (fill-before gaps fits i (omega arith))
        ∙ sym (register-add s.fill (shifts * (32 * i)) (shifts * t))
        ∙ ap (register_after s.fill) {x = shifts * (32 * i) + shifts * t} {y = shifts * (32 * i + t)} (omega arith))

  module _ (fits : s.history < 2 ^ 58) where
    pub data-sent : (i q : ℕ) → i < length commands → q < 2048 → data_bit R.gap (bit_at all) i q ≡ sent (bit_at user) s.history (2048 * i + q)
    data-sent i q h l =
        data-moved R.gap (bit_at all) i q
        ∙ data-back R.gap (before i).fill (word i) (octets i) (lane_from R.gap (bit_at all) i) (begins i h) q l
        ∙ scrambled-bit (user_of i) (before i).history 256 q (omega arith)
        ∙ ap (λ (x : ℕ). sent (bit_at (user_of i)) x q) (history-before fits i (omega arith))
        ∙ sent-ext (bit_at (user_of i)) (λ k. bit_at user (2048 * i + k)) (history_after (bit_at user) s.history (2048 * i)) q (λ j m. own-bit i j (omega arith))
        ∙ sym (sent-add (bit_at user) s.history (2048 * i) q)

  -- ---- its parity

  -- what is read of a sync word is what it carries
  parity-read : (i : ℕ) → i < length commands → (whose : Whose)
      → read_parity R.sync whose (sync_bit R.gap (bit_at all) i) ≡ part_of (carried i) whose % 2 ^ parity_width R.sync whose
  parity-read i h whose =
      only-there (layout R.sync) (parity whose) (parity_width R.sync whose) (sync_bit R.gap (bit_at all) i) (digit 32 (word i)) (λ k l. sync-sent i _ h ((all-stand R.sync).parities whose k l))
      ∙ reads-parity R.sync (carried i) (get_or commands i 0) (bit_of (last E (before i))) whose

  -- both parts put together are all of it
  parts_whole : (i : ℕ) → whole R.sync (parts i) ≡ multiblock_parity (code R.sync) (bit_at (octets i))
  unfolding parts_sent
  parts_whole i =
      let P = multiblock_parity (code R.sync) (bit_at (octets i)) in
      whole_split R.sync P
      ∙ ap (λ (w : ℕ). P % 2 ^ w) (all-bits R.sync)
      ∙ mod-eq_of_lt (multiblock-lt (code R.sync) (lower-fits R.sync) (bit_at (octets i)))

  parts-lt : (i : ℕ) → ((parts i).before < 2 ^ parity_width R.sync previous) × ((parts i).own < 2 ^ parity_width R.sync own)
  unfolding parts_sent
  parts-lt i = split-lt R.sync (multiblock_parity (code R.sync) (bit_at (octets i)))

  -- the part that the next sync word carries, with the part that its own does, is the parity of its data octets
  pub parity-sent : (i : ℕ) → suc i < length commands
      → whole R.sync (record { before = read_parity R.sync previous (sync_bit R.gap (bit_at all) (suc i)); own = read_parity R.sync own (sync_bit R.gap (bit_at all) i) })
      ≡ multiblock_parity (code R.sync) (bit_at (data_octets R.gap (bit_at all) i))
  parity-sent i h =
      ap₂ (λ (x y : ℕ). whole R.sync (record { before = x; own = y }))
      (parity-read (suc i) h previous ∙ ap (λ (x : ℕ). x % 2 ^ parity_width R.sync previous) left ∙ mod-eq_of_lt (parts-lt i).0)
      (parity-read i (omega arith) own ∙ mod-eq_of_lt (parts-lt i).1)
      ∙ parts_whole i
      ∙ ap (λ (l : List ℕ). multiblock_parity (code R.sync) (bit_at l)) (sym back)
    where
      left : (before (suc i)).parity ≡ (parts i).before
      left = ap (λ (x : Sender). x.parity) (before-next i (omega arith)) ∙ unfold after_one in refl

      back : data_octets R.gap (bit_at all) i ≡ octets i
      back =
          octets-moved R.gap (bit_at all) i
          ∙ octets-back R.gap (before i).fill (word i) (octets i) (lane_from R.gap (bit_at all) i) (begins i (omega arith)) (λ j l. scrambled-lt (user_of i) (before i).history 256 j l) (omega (arith, length-scrambled (user_of i) (before i).history 256))
          ∙ take_all 256 (octets i) (omega (arith, length-scrambled (user_of i) (before i).history 256))
