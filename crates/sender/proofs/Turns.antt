-- What the sender holds after some multiblocks: the state and the lane of a run so far. Assumes nothing.
use mathlib.Core.Path.{◌≡◌, refl, sym, ap, ap₂, ◌∙◌, subst}
use mathlib.Core.List.{List, [], ◌∷◌, ◌++◌}
use Prim.Native.Nat.{ℕ, ◌+◌, ◌-◌, ◌*◌, ◌≤◌, ◌<◌}
use native.Mathlib.Nat.{mul-add, mul-one, mul-le-mul_left}
use native.Mathlib.Numerals.{add-one}
use native.Mathlib.Omega.{arith}
use borrow.Author.Tests.{le-leb}
use lib.Dec.{leb}
use lib.ListN.{length, get_or, take, drop}
use lib.Seq.{take-suc, take-length, length-take-le}
use borrow.Rule.Slice.PartMut.{put_mid, mid_of, same_len_mid}
use Rattle.bits.specs.Choice.{pick, bit_of}
use Rattle.bits.specs.Order.{bit_at, octets_of, word_bit, words_of, octets_in, laid, laid_at}
use Rattle.bits.proofs.Laid.{laid-nothing, laid-start, laid-part}
use Rattle.scrambler.specs.Scrambling.{sent, scrambled, history_after}
use Rattle.scrambler.proofs.Scrambling.{scrambled-words, scrambled-blocks}
use Rattle.parity.specs.Codeword.{multiblock_parity}
use Rattle.frame.specs.declared.modes.Row.{Row}
use Rattle.frame.specs.declared.sync.Parts.{Parts}
use Rattle.frame.specs.Modes.{code}
use Rattle.frame.specs.Lane.{lane_octets, multiblock, fill_after}
use Rattle.frame.specs.SyncWord.{sync_word, split}
use Rattle.multiblock.specs.declared.Layout.{Layout}
use Rattle.multiblock.specs.Shape.{shape}
use Rattle.sender.specs.declared.Sender.{Sender}
use Rattle.sender.specs.Lane.{last, parts_sent, sent_one, after_one, lane, after}
use Rattle.sender.proofs.Runs.{after_one_lem, lane-one, one-length, lane-length}
use Rattle.sender.proofs.States.{one_number}

-- ---- one multiblock, as the code puts it together

module _ (L : Layout) (E : ℕ) (s : Sender) (user blocks old all : List ℕ) (command history sync parity number fill : ℕ) (parts : Parts) (room : L.size ≤ length old) where
  pub sent-one : blocks ≡ words_of (sent (bit_at user) s.history) 32 → history ≡ history_after (bit_at user) s.history 2048
      → sync ≡ sync_word L.row.sync (record { before = s.parity; own = parts.own }) command (bit_of (last E s)) → all ≡ laid_at (multiblock (shape L.row.gap) s.fill sync (octets_of (word_bit blocks) 256)) 0 old
      → parity ≡ multiblock_parity (code L.row.sync) (bit_at (octets_in blocks)) → parts ≡ split L.row.sync parity → number ≡ pick (last E s) 0 (s.number + 1)
      → fill ≡ pick (leb (lane_octets (shape L.row.gap)) (length old)) (fill_after (shape L.row.gap) s.fill) s.fill
      → (◌≡◌ {A = Sender} (record { history = history; parity = parts.before; number = number; fill = fill }) (after_one L.row E s user)) × (all ≡ laid (sent_one L.row E s user command) old)
  unfolding parts_sent after_one sent_one
  sent-one eb eh es ea ep ez en ef =
      let own : octets_in blocks ≡ scrambled user s.history 256 = ap octets_in eb ∙ scrambled-words user s.history 32 in
      let cut : parts ≡ parts_sent L.row s user = ez ∙ ap (split L.row.sync) (ep ∙ ap (λ (l : List ℕ). multiblock_parity (code L.row.sync) (bit_at l)) own) in
      let data-octets : octets_of (word_bit blocks) 256 ≡ scrambled user s.history 256 = ap (λ (l : List ℕ). octets_of (word_bit l) 256) eb ∙ scrambled-blocks user s.history 32 in
      let one : multiblock (shape L.row.gap) s.fill sync (octets_of (word_bit blocks) 256) ≡ sent_one L.row E s user command = rw (data-octets, es, cut, L.shaped) in
      let moved : fill ≡ fill_after L.row.gap s.fill = ef ∙ rw (L.shaped, le-leb (lane_octets L.row.gap) (length old) (omega (arith, L.sized, room))) in (
        rw (eh, cut, en, moved),
        ea ∙ ap (λ (l : List ℕ). laid_at l 0 old) one ∙ laid-start (sent_one L.row E s user command) old (omega (arith, room, L.sized, one-length L.row E s user command)),
      )

-- ---- a run of them

-- each multiblock has its place
pub place-within : (size k n long : ℕ) → k < n → size * n ≤ long → size * k + size ≤ long
place-within size k n long h room =
    let next : size * (k + 1) ≤ size * n = mul-le-mul_left size (omega arith) in
    omega (arith, next, room, mul-add size k 1, mul-one size)

-- after the first k commands
pub record Held (R : Row) (E : ℕ) (start : Sender) (user commands old : List ℕ) (k : ℕ) (s : Sender) (all : List ℕ) : Type 0 where
  pub state : s ≡ after R E start user (take k commands)
  pub sent : all ≡ laid (lane R E start user (take k commands)) old
  pub long : length all ≡ length old
  pub number : s.number < E

pub held_none : (R : Row) (E : ℕ) (start : Sender) (user commands old : List ℕ) → start.number < E → Held R E start user commands old 0 start old
unfolding after lane
held_none R E start user commands old h = record { state = refl; sent = sym (laid-nothing old); long = refl; number = h }

module _ (L : Layout) (E : ℕ) (start : Sender) (user commands old : List ℕ) (k : ℕ) (s : Sender) (all : List ℕ)
    (less : k < length commands) (room : L.size * length commands ≤ length old) (h : Held L.row E start user commands old k s all) where
  -- one multiblock more, through the part of the lane from its place on
  pub held_more : (block : List ℕ) (r : Sender) (part : List ℕ) → block ≡ take 256 (drop (256 * k) user) → length part ≡ length (mid_of (L.size * k) (length all - L.size * k) all)
      → r ≡ after_one L.row E s block → part ≡ laid (sent_one L.row E s block (get_or commands k 0)) (mid_of (L.size * k) (length all - L.size * k) all)
      → Held L.row E start user commands old (k + 1) r (put_mid (L.size * k) (length all - L.size * k) all part)
  held_more block r part eb lp er ep =
      let c = get_or commands k 0 in
      let done = take k commands in
      let was = after L.row E start user done in
      let count : length done ≡ k = length-take-le k commands (omega arith) in
      let more : take (k + 1) commands ≡ done ++ (c ∷ []) = ap (λ (n : ℕ). take n commands) (add-one k) ∙ take-suc commands k 0 less in
      let own : block ≡ take 256 (drop (256 * length done) user) = eb ∙ ap (λ (n : ℕ). take 256 (drop (256 * n) user)) (sym count) in
      let here : length (lane L.row E start user done) ≡ L.size * k = lane-length L.row E start user done ∙ ap₂ ◌*◌ (sym L.sized) count in
      let one : length (sent_one L.row E was block c) ≡ L.size = one-length L.row E was block c ∙ sym L.sized in
      record {
        state = er ∙ ap₂ (after_one L.row E) h.state own ∙ sym (ap (after L.row E start user) more ∙ after_one_lem L.row E start user done c);
        sent =
            laid-part (lane L.row E start user done) (sent_one L.row E was block c) old all part (L.size * k) here h.sent h.long
            (omega (arith, one, place-within L.size k (length commands) (length old) less room))
            (ep ∙ ap (λ (x : Sender). laid (sent_one L.row E x block c) (mid_of (L.size * k) (length all - L.size * k) all)) h.state)
            ∙ ap (λ (x : List ℕ). laid x old)
            (ap (λ (x : List ℕ). lane L.row E start user done ++ sent_one L.row E was x c) own ∙ sym (ap (lane L.row E start user) more ∙ lane-one L.row E start user done c));
        long = same_len_mid (L.size * k) (length all - L.size * k) all part lp ∙ h.long;
        number = subst (λ (x : Sender). x.number < E) (sym er) (one_number L.row E s block h.number);
      }

-- after all of them
pub held_all : (R : Row) (E : ℕ) (start : Sender) (user commands old : List ℕ) (k : ℕ) (s : Sender) (all : List ℕ) → k ≡ length commands → Held R E start user commands old k s all
    → (s ≡ after R E start user commands) × (all ≡ laid (lane R E start user commands) old)
held_all R E start user commands old k s all e h =
    let whole : take k commands ≡ commands = ap (λ (n : ℕ). take n commands) e ∙ take-length commands in
    (h.state ∙ ap (after R E start user) whole, h.sent ∙ ap (λ (x : List ℕ). laid (lane R E start user x) old) whole)
