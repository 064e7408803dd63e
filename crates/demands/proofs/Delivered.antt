-- What a fresh receiver makes of a lane with flips in bursts, over any row: which multiblocks it has right, the histories that they leave, and
-- so which octets it releases. Assumes nothing.
use mathlib.Core.Path.{◌≡◌, refl, sym, ap, ap₂, ◌∙◌}
use mathlib.Core.Logic.{◌⊎◌, inl, inr, ◌≢◌, ⊎_elim}
use mathlib.Core.Bool.{Bool, true, false, true≢false}
use mathlib.Core.List.{List}
use Prim.Native.Nat.{ℕ, zero, suc, ◌+◌, ◌-◌, ◌*◌, ◌/◌, ◌%◌, ◌^◌, ◌<◌, ◌≤◌}
use native.Mathlib.Nat.{mod-eq_of_lt, mod-lt, div-add-mod, mul-suc, mul-one, mul-zero, zero-add, le_refl, lt_of_mul-lt-mul_left}
use native.Mathlib.Decide.{ℕ_discrete}
use native.Mathlib.Omega.{arith}
use lib.Bits.{bit_xor, xor_self, xor_comm, xor_zero_r}
use lib.ListN.{get_or}
use Rattle.bits.specs.Order.{bit_at}
use Rattle.bits.proofs.Xor.{xor_assoc}
use Rattle.bits.proofs.Numbers.{bit_at_lt, number-ext}
use Rattle.scrambler.specs.Scrambling.{sent, history_after}
use Rattle.scrambler.proofs.Scrambling.{history-sent, history-lt, octet-undone}
use Rattle.parity.specs.Codeword.{Code, data_bits, joined, multiblock_parity, remainder_of}
use Rattle.parity.specs.Bursts.{BurstSet, IsBurst, flips}
use Rattle.parity.proofs.Received.{remainder-none}
use Rattle.parity.proofs.Groups.{joined-none, joined-one, joined-zero, joined-zeros}
use Rattle.parity.proofs.Sets.{named, no-set-zero, remainder-same}
use Rattle.frame.specs.declared.modes.Row.{Row}
use Rattle.frame.specs.Modes.{code, repairs}
use Rattle.frame.specs.Lane.{lane_octets, data_place, data_octets}
use Rattle.frame.proofs.Rows.{proper, all-grouped, blocks-some, one-group}
use Rattle.frame.proofs.Places.{data_is, data-octets-bit}
use Rattle.judge.specs.declared.Verdict.{Verdict}
use Rattle.judge.specs.declared.Verdict.TheVariants.{Repaired}
use Rattle.judge.specs.Judge.{status_of, place_of, pattern_of, agrees, failed, released_status, trusted_after}
use Rattle.receiver.specs.Release.{release_at}
use Rattle.judge.specs.Sound.{sound, intact, soundness}
use Rattle.receiver.proofs.Numbered.{waiting, verdict, repaired, verdict-is, repaired-is, octets-are, status-is, first-trusted, next-history, next-trusted}
use Rattle.judge.proofs.Judging.{judged-sound, judged-failed, judged-burst, mended-bit, mended-none, status-trusted, status-untrusted, trusted-after, untrusted-after, believed, called-sound}
use Rattle.demands.specs.Damage.{Pairwise}
use Rattle.demands.proofs.Wrong as W
use Rattle.demands.proofs.Places.{data-inside, data-from-start}
use Rattle.demands.proofs.Sent.{Sends}

-- a burst of at most b bits is one of at most c bits
wider : (b c n : ℕ) (f : ℕ → ℕ) → b ≤ c → BurstSet b n f → BurstSet c n f
wider b c n f h s = record {
  bits = s.bits;
  from = s.from;
  within = λ p e. let w = s.within p e in let l = w.1 in (w.0, omega arith, w.2);
  some = s.some;
  there = s.there;
}

-- without groups nothing disagrees, whatever was heard
pub unchecked-agrees : (R : Row) → (code R.sync).groups ≡ 0 → (lane : ℕ → ℕ) (i : ℕ) → verdict R lane i ≡ agrees
unchecked-agrees R none lane i =
    let w = (code R.sync).width in
    verdict-is R lane i
    ∙ judged-sound R.sync (data_octets R.gap lane i) _ (W.by-groups R lane i ∙ ap (joined w (W.difference R lane i)) none ∙ joined-none w (W.difference R lane i))

-- so that the first has status 4, and each other one 0
pub unchecked-status : (R : Row) → (code R.sync).groups ≡ 0 → (lane : ℕ → ℕ) (i : ℕ)
    → (i ≡ 0 → (release_at R lane (suc i) (waiting R lane i)).status ≡ 4) × (1 ≤ i → (release_at R lane (suc i) (waiting R lane i)).status ≡ 0)
unchecked-status R none lane zero =
    (λ _. status-is R lane 0 ∙ ap₂ released_status (unchecked-agrees R none lane 0) (first-trusted R lane) ∙ status-untrusted agrees, λ h. absurd (omega arith))
unchecked-status R none lane (suc i) = (
  λ e. absurd (omega arith),
  λ _.
      status-is R lane (suc i)
      ∙ ap₂ released_status (unchecked-agrees R none lane (suc i)) (next-trusted R lane i ∙ ap trusted_after (unchecked-agrees R none lane i) ∙ trusted-after agrees (λ e. absurd (omega arith)))
      ∙ status-trusted agrees,
)

-- a lane that was sent, from a multiblock of it on, and the lane that was heard: of each as many multiblocks, with flips in bursts
pub record Lanes (R : Row) : Type 0 where
  pub user : List ℕ
  pub history : ℕ  -- the sender's, before its first multiblock
  pub first : ℕ  -- the multiblock of the sender's lane from which on it was heard
  pub count : ℕ
  pub before : ℕ → ℕ
  pub after : ℕ → ℕ
  pub sends : Sends R user history first count before
  pub bits : W.Bits after
  pub limit : ℕ
  pub clear : ℕ
  pub some : 0 < limit
  pub wide : 16 * lane_octets R.gap ≤ clear
  pub close : Pairwise limit clear (8 * lane_octets R.gap * count) (λ x. bit_xor (before x) (after x))

module _ (R : Row) (lanes : Lanes R) where
  abbrev user : List ℕ
  user = lanes.user

  abbrev history : ℕ
  history = lanes.history

  abbrev first : ℕ
  first = lanes.first

  abbrev n : ℕ
  n = lanes.count

  abbrev a : ℕ → ℕ
  a = lanes.before

  abbrev b : ℕ → ℕ
  b = lanes.after

  abbrev C : Code
  C = code R.sync

  -- the lane bits that were flipped, and the positions of the codeword of group g of multiblock i that are wrong
  abbrev flipped : ℕ → ℕ
  flipped x = bit_xor (a x) (b x)

  abbrev wrong : ℕ → ℕ → ℕ → ℕ
  wrong i = W.wrong R a b i

  abbrev octets : ℕ → List ℕ
  octets i = data_octets R.gap b i

  abbrev sent-bit : ℕ → ℕ → ℕ
  sent-bit i q = sent (bit_at user) history (2048 * (first + i) + q)

  -- multiblock i, as the receiver mends it, has the bits sent
  abbrev pub Right : ℕ → Type 0
  Right i = (q : ℕ) → q < 2048 → bit_at (repaired R b i) q ≡ sent-bit i q

  -- where a data bit stands in its group
  group_of : (q : ℕ) → q < 2048 → 0 < C.groups → (g : ℕ) × (c : ℕ) × (g < C.groups) × (c < data_bits C) × (data_bits C * g + c ≡ q)
  group_of q h some =
      let D = data_bits C in
      let positive : 0 < D = omega (arith, blocks-some R.sync some) in
      let e : D * (q / D) + q % D ≡ q = div-add-mod q D in
      let m : D * (q / D) < D * C.groups = omega (arith, all-grouped R.sync some) in
      (q / D, q % D, lt_of_mul-lt-mul_left D m, mod-lt q positive, e)

  module _ (i : ℕ) (l : suc i < n) where
    -- what was sent agrees in every group
    sound-sent : (g : ℕ) → g < C.groups → W.difference R a i g ≡ 0
    sound-sent g lg =
        joined-zero C.width (W.difference R a i) (W.group-lt R a i) C.groups
        (sym (W.by-groups R a i) ∙ ap (bit_xor (multiblock_parity C (bit_at (data_octets R.gap a i)))) (lanes.sends.parities i l) ∙ xor_self (multiblock_parity C (bit_at (data_octets R.gap a i)))) g lg

    difference-is : (g : ℕ) (lg : g < C.groups) → W.difference R b i g ≡ remainder_of C (wrong i g)
    difference-is g lg = W.wrong-remainder R g lg a b lanes.sends.bits lanes.bits i (sound-sent g lg)

    -- a data bit received is the one sent, or flipped
    received-bit : (q : ℕ) → q < 2048 → bit_xor (bit_at (octets i) q) (flipped (data_place R.gap i q)) ≡ sent-bit i q
    received-bit q h =
        let x = a (data_place R.gap i q) in
        let y = b (data_place R.gap i q) in
        ap₂ bit_xor (data-octets-bit R.gap b lanes.bits i q h ∙ data_is R.gap b i q) (xor_comm x y)
        ∙ sym (xor_assoc y y x)
        ∙ ap (λ (z : ℕ). bit_xor z x) (xor_self y)
        ∙ sym (data_is R.gap a i q)
        ∙ lanes.sends.data-bits i q (omega arith) h

    -- nothing is wrong in any group: parity agrees
    pub agreed : ((g : ℕ) → g < C.groups → (c : ℕ) → wrong i g c ≡ 0) → verdict R b i ≡ agrees
    agreed none =
        verdict-is R b i
        ∙ judged-sound R.sync (octets i) _ (W.by-groups R b i ∙ joined-zeros C.width (W.difference R b i) C.groups (λ g lg. difference-is g lg ∙ remainder-none C (wrong i g) (none g lg)))

    -- and no data bit was flipped: it is right
    agreed-right : verdict R b i ≡ agrees → ((q : ℕ) → q < 2048 → flipped (data_place R.gap i q) ≡ 0) → Right i
    agreed-right is clean q h =
        ap (λ (l : List ℕ). bit_at l q) (repaired-is R b i)
        ∙ mended-none (verdict R b i) (octets i) q (ap pattern_of is) h
        ∙ sym (xor_zero_r (bit_at (octets i) q))
        ∙ ap (bit_xor (bit_at (octets i) q)) (sym (clean q h))
        ∙ received-bit q h

    -- ---- with a code

    module _ (some : 0 < C.groups) where
      -- nothing wrong, nothing flipped
      clean-data : ((g : ℕ) → g < C.groups → (c : ℕ) → wrong i g c ≡ 0) → (q : ℕ) → q < 2048 → flipped (data_place R.gap i q) ≡ 0
      clean-data none q h =
          let at = group_of q h some in
          ap (λ (x : ℕ). flipped (data_place R.gap i x)) (sym at.4)
          ∙ sym (W.wrong-data R at.0 at.2 a b lanes.sends.bits lanes.bits i at.1 at.3)
          ∙ none at.0 at.2 at.1

      -- something is wrong in a group
      module _ (g : ℕ) (lg : g < C.groups) (burst : BurstSet lanes.limit C.positions (wrong i g)) (narrow : lanes.limit ≤ C.width) where
        differs : W.differences R b i ≢ 0
        differs z =
            no-set-zero C (proper R.sync some) lanes.limit (wrong i g) narrow burst
            (sym (difference-is g lg) ∙ joined-zero C.width (W.difference R b i) (W.group-lt R b i) C.groups (sym (W.by-groups R b i) ∙ z) g lg)

        -- a code that only notices: it failed
        pub noticed : repairs R.sync ≡ false → verdict R b i ≡ failed
        noticed r = verdict-is R b i ∙ judged-failed R.sync (octets i) _ r differs

        -- a code that repairs: it is repaired
        module _ (mends : repairs R.sync ≡ true) (within : lanes.limit ≤ C.limit) where
          -- which has one group
          alone : C.groups ≡ 1
          alone = one-group R.sync mends

          only-this : g ≡ 0
          only-this = omega (arith, alone)

          difference-alone : W.differences R b i ≡ remainder_of C (wrong i g)
          difference-alone =
              W.by-groups R b i ∙ ap (joined C.width (W.difference R b i)) alone ∙ joined-one C.width (W.difference R b i)
              ∙ ap (W.difference R b i) (sym only-this) ∙ difference-is g lg

          named-burst : (p : ℕ) × (q : ℕ) × IsBurst C.limit C.positions p q × ((c : ℕ) → flips p q c ≡ wrong i g c)
          named-burst = named C.limit C.positions (wrong i g) (wider lanes.limit C.limit C.positions (wrong i g) within burst)

          mended-so : verdict R b i ≡ Repaired (record { place = named-burst.0; pattern = named-burst.1 })
          mended-so =
              verdict-is R b i
              ∙ judged-burst R.sync (octets i) _ named-burst.0 named-burst.1 mends differs
              (record { burst = named-burst.2; makes = remainder-same C (flips named-burst.0 named-burst.1) (wrong i g) named-burst.3 ∙ sym difference-alone })

          -- its codeword's data are the multiblock's
          wrong-here : (q : ℕ) → q < 2048 → wrong i g q ≡ flipped (data_place R.gap i q)
          wrong-here q h =
              let all : data_bits C ≡ 2048 = sym (ap (λ (x : ℕ). data_bits C * x) alone ∙ mul-one (data_bits C)) ∙ all-grouped R.sync some in
              W.wrong-data R g lg a b lanes.sends.bits lanes.bits i q (omega arith)
              ∙ ap (λ (x : ℕ). flipped (data_place R.gap i x)) (ap (λ (x : ℕ). data_bits C * x + q) only-this ∙ ap (λ (x : ℕ). x + q) (mul-zero (data_bits C)) ∙ zero-add q)

          repaired-right : Right i
          repaired-right q h =
              ap (λ (l : List ℕ). bit_at l q) (repaired-is R b i)
              ∙ mended-bit (verdict R b i) (octets i) q h
              ∙ ap (bit_xor (bit_at (octets i) q)) (ap (λ (v : Verdict). flips (place_of v) (pattern_of v) q) mended-so ∙ named-burst.3 q ∙ wrong-here q h)
              ∙ received-bit q h

      -- ---- what becomes of multiblock i

      -- nothing is wrong in any group, or there is a burst in one
      one_of : ((g : ℕ) → g < C.groups → (c : ℕ) → wrong i g c ≡ 0) ⊎ ((g : ℕ) × (g < C.groups) × BurstSet lanes.limit C.positions (wrong i g))
      one_of = go C.groups (le_refl C.groups) (λ g lg h c. absurd (omega arith))
        where
          go : (k : ℕ) → k ≤ C.groups → ((g : ℕ) → g < C.groups → k ≤ g → (c : ℕ) → wrong i g c ≡ 0)
              → ((g : ℕ) → g < C.groups → (c : ℕ) → wrong i g c ≡ 0) ⊎ ((g : ℕ) × (g < C.groups) × BurstSet lanes.limit C.positions (wrong i g))
          go zero h z = inl (λ g lg c. z g lg (omega arith) c)
          go (suc k) h z =
              ⊎_elim
              (λ none. go k (omega arith) (λ g lg h c. elim (ℕ_discrete g k) [ yes q ↦ ap (λ (x : ℕ). wrong i x c) q ∙ none c | no q ↦ z g lg (omega (arith, q)) c ]))
              (λ burst. inr (k, h, burst))
              (W.wrong-or R k h a b lanes.sends.bits lanes.bits i lanes.limit lanes.clear n lanes.some lanes.wide lanes.close l)

      module _ (within : lanes.limit ≤ C.limit) where
        narrow : lanes.limit ≤ C.width
        narrow = omega (arith, within, (proper R.sync some).reach)

        -- with a code that repairs it is right
        pub repairs-right : repairs R.sync ≡ true → Right i
        repairs-right mends =
            ⊎_elim (λ none. agreed-right (agreed none) (clean-data none)) (λ burst. repaired-right burst.0 burst.1 burst.2 narrow mends within) one_of

        -- with any code it is right, or has failed
        pub right-or-failed : Right i ⊎ (verdict R b i ≡ failed)
        right-or-failed = by (repairs R.sync) refl
          where
            by : (mends : Bool) → repairs R.sync ≡ mends → Right i ⊎ (verdict R b i ≡ failed)
            by true e = inl (repairs-right e)
            by false e =
                ⊎_elim (λ none. inl (agreed-right (agreed none) (clean-data none))) (λ burst. inr (noticed burst.0 burst.1 burst.2 narrow e)) one_of

        -- with a code that only notices, a hit in its data is noticed
        pub hit-noticed : repairs R.sync ≡ false → (q : ℕ) → q < 2048 → flipped (data_place R.gap i q) ≡ 1 → verdict R b i ≡ failed
        hit-noticed r q k e =
            let at = group_of q k some in
            noticed at.0 at.2
            (W.one-burst R at.0 at.2 a b lanes.sends.bits lanes.bits i lanes.limit lanes.clear n lanes.some lanes.wide lanes.close l at.1
            (W.wrong-data R at.0 at.2 a b lanes.sends.bits lanes.bits i at.1 at.3 ∙ ap (λ (x : ℕ). flipped (data_place R.gap i x)) at.4 ∙ e)) narrow r

    -- with no bit flipped from its start to the next one's end it agrees, and is right
    module _ (z : (x : ℕ) → 8 * lane_octets R.gap * i ≤ x → x < 8 * lane_octets R.gap * (i + 2) → flipped x ≡ 0) where
      pub untouched : verdict R b i ≡ agrees
      untouched = agreed (λ g lg. W.none-wrong R g lg a b lanes.sends.bits lanes.bits i z)

      pub untouched-right : Right i
      untouched-right = agreed-right untouched (λ q h.
          z (data_place R.gap i q) (data-from-start R.gap i q)
          (omega (arith, data-inside R.gap i q h, mul-suc (8 * lane_octets R.gap) i, ap (λ (x : ℕ). 8 * lane_octets R.gap * x) {x = i + 2} {y = suc (suc i)} (omega arith), mul-suc (8 * lane_octets R.gap) (suc i))))

  -- ---- the history that it leaves, and the octets that are released

  pub left-history : (i : ℕ) → Right i → (waiting R b (suc i)).history ≡ history_after (bit_at user) history (2048 * (first + suc i))
  left-history i right =
      next-history R b i
      ∙ number-ext (bit_at (repaired R b i)) (sent (bit_at user) history) 1990 (2048 * (first + suc i) - 58) 58
      (λ j h. right (1990 + j) (omega arith) ∙ ap (sent (bit_at user) history) {x = 2048 * (first + i) + (1990 + j)} {y = 2048 * (first + suc i) - 58 + j} (omega arith))
      ∙ sym (history-sent (bit_at user) (bit_at_lt user) history (2048 * (first + suc i)) (omega arith))

  abbrev pub octet : ℕ → ℕ → ℕ
  octet i j = get_or (release_at R b (suc i) (waiting R b i)).octets j 0

  module _ (octet-lt : (j : ℕ) → get_or user j 0 < 256) where
    right-octet : (i j : ℕ) → Right i → j < 256 → (8 ≤ j) ⊎ ((waiting R b i).history % 2 ^ 58 ≡ history_after (bit_at user) history (8 * (256 * (first + i)))) → octet i j ≡ get_or user (256 * (first + i) + j) 0
    right-octet i j right h known =
        ap (λ (l : List ℕ). get_or l j 0) (octets-are R b i)
        ∙ octet-undone user history (256 * (first + i)) 256 (repaired R b i)
        (λ q l. right q (omega arith) ∙ ap (sent (bit_at user) history) {x = 2048 * (first + i) + q} {y = 8 * (256 * (first + i)) + q} (omega arith))
        (waiting R b i).history j h known (octet-lt (256 * (first + i) + j))

    -- past the first eight octets whatever came before, and all of them after a multiblock that is right
    pub late-octet : (i j : ℕ) → Right i → j < 256 → 8 ≤ j → octet i j ≡ get_or user (256 * (first + i) + j) 0
    late-octet i j right h late = right-octet i j right h (inl late)

    pub next-octet : (i j : ℕ) → Right i → Right (suc i) → j < 256 → octet (suc i) j ≡ get_or user (256 * (first + suc i) + j) 0
    next-octet i j before right h =
        right-octet (suc i) j right h
        (inr (ap (λ (x : ℕ). x % 2 ^ 58) (left-history i before)
        ∙ mod-eq_of_lt (history-lt (bit_at user) history (2048 * (first + suc i)))
        ∙ ap (history_after (bit_at user) history) {x = 2048 * (first + suc i)} {y = 8 * (256 * (first + suc i))} (omega arith)))

    -- ---- which octets are called sound

    abbrev pub status : ℕ → ℕ
    status i = (release_at R b (suc i) (waiting R b i)).status

    module _ (some : 0 < C.groups) (within : lanes.limit ≤ C.limit) where
      not-failed : (i : ℕ) → suc i < n → status_of (verdict R b i) ≢ 2 → Right i
      not-failed i l m = ⊎_elim (λ r. r) (λ f. absurd (m (ap status_of f))) (right-or-failed i l some within)

      -- a history is trusted only after a multiblock that is right
      trusted-right : (i j : ℕ) → suc i < n → (waiting R b i).trusted ≡ true → Right i → j < 256 → octet i j ≡ get_or user (256 * (first + i) + j) 0
      trusted-right zero j l t right h = absurd (true≢false (sym t ∙ first-trusted R b))
      trusted-right (suc i) j l t right h = next-octet i j (not-failed i (omega arith) before) right h
        where
          before : status_of (verdict R b i) ≢ 2
          before e = true≢false (sym t ∙ next-trusted R b i ∙ untrusted-after (verdict R b i) e)

      -- an octet called sound is the one sent, and so is each after it in its multiblock
      pub sound-octet : (i k j : ℕ) → suc i < n → k ≤ j → j < 256 → soundness R.sync (status i) k ≡ sound → octet i j ≡ get_or user (256 * (first + i) + j) 0
      sound-octet i k j l m h e =
          let believe = believed (verdict R b i) (waiting R b i).trusted k (ap (λ (x : ℕ). intact x k) (sym (status-is R b i)) ∙ (called-sound R.sync (status i) k e).0) in
          let right = not-failed i l believe.not-failed in
          ⊎_elim (λ t. trusted-right i j l t right h) (λ (late : 8 ≤ k). late-octet i j right h (omega arith)) believe.known

      pub hit-status : repairs R.sync ≡ false → (i q : ℕ) → suc i < n → q < 2048 → bit_xor (a (data_place R.gap i q)) (b (data_place R.gap i q)) ≡ 1 → (status i ≡ 2) ⊎ (status i ≡ 6)
      hit-status notices i q l h e = by (waiting R b i).trusted refl
        where
          is-failed : status i ≡ released_status failed (waiting R b i).trusted
          is-failed = status-is R b i ∙ ap (λ (v : Verdict). released_status v (waiting R b i).trusted) (hit-noticed i l some within notices q h e)

          by : (t : Bool) → (waiting R b i).trusted ≡ t → (status i ≡ 2) ⊎ (status i ≡ 6)
          by true t = inl (is-failed ∙ ap (released_status failed) t ∙ status-trusted failed)
          by false t = inr (is-failed ∙ ap (released_status failed) t ∙ status-untrusted failed)

    pub untouched-status : (i : ℕ) → suc (suc i) < n
        → ((x : ℕ) → 8 * lane_octets R.gap * i ≤ x → x < 8 * lane_octets R.gap * (i + 3) → bit_xor (a x) (b x) ≡ 0) → status (suc i) ≡ 0
    untouched-status i l z =
        status-is R b (suc i)
        ∙ ap₂ released_status own (next-trusted R b i ∙ ap trusted_after before ∙ trusted-after agrees (λ e. absurd (omega arith)))
        ∙ status-trusted agrees
      where
        own : verdict R b (suc i) ≡ agrees
        own = untouched (suc i) l (λ x h k. z x (omega (arith, mul-suc (8 * lane_octets R.gap) i)) (omega (arith, later)))
          where
            later : 8 * lane_octets R.gap * (suc i + 2) ≡ 8 * lane_octets R.gap * (i + 3)
            later = ap (λ (x : ℕ). 8 * lane_octets R.gap * x) {x = suc i + 2} {y = i + 3} (omega arith)

        before : verdict R b i ≡ agrees
        before = untouched i (omega arith) (λ x h k. z x h (omega (arith, mul-suc (8 * lane_octets R.gap) (i + 2), later)))
          where
            later : 8 * lane_octets R.gap * suc (i + 2) ≡ 8 * lane_octets R.gap * (i + 3)
            later = ap (λ (x : ℕ). 8 * lane_octets R.gap * x) {x = suc (i + 2)} {y = i + 3} (omega arith)
