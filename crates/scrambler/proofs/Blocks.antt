-- Scrambling and descrambling 64 bits at once by shifts, and the 32 blocks of a multiblock one after the other: clause 7.2.4.
-- Assumes nothing.
use mathlib.Core.Path.{◌≡◌, refl, sym, ap, ap₂, ◌∙◌}
use Prim.Native.Nat.{ℕ, ◌+◌, ◌-◌, ◌*◌, ◌/◌, ◌%◌, ◌^◌, ◌≤◌, ◌<◌}
use native.Mathlib.Nat.{div-one, mod-eq_of_lt, div-eq_of_lt, lt_of_lt_of_le, mul_assoc, mul-mod_left, mod-lt, zero-add}
use native.Mathlib.Decide.{dec_le}
use native.Mathlib.Omega.{arith}
use lib.Dec.{lit≤}
use lib.Pow.{pow_pos, pow-add, pow_mono, shr-shr, shl-shr}
use lib.Bits.{bit_xor, xor_shr, xor_mod, xor_zero_r, xor_self, xor_lt}
use Rattle.bits.specs.Order.{number, digit}
use Rattle.bits.proofs.Numbers.{low_digit, number-ext, number_lt, digit_at, number-digit, number-low, digit-number, digit_lt}
use Rattle.bits.proofs.Xor.{xor_assoc, xor-swap}
use Rattle.scrambler.specs.Scrambling.{sent, history_after, earlier, plain}
use Rattle.scrambler.proofs.Scrambling.{earlier-in, earlier-out, recent-plain, plain-ext, all_come, come-number, plain-add, sent-ext, sent-add, sent-lt, undone, history-sent}

-- ---- one block

-- a word's own digits make it
whole : (word : ℕ) → word < 2 ^ 64 → number (digit 64 word) 0 64 ≡ word
whole word h = number-digit 64 word 0 64 (lit≤ tt) ∙ ap (λ (x : ℕ). x % 2 ^ 64) (div-one word) ∙ mod-eq_of_lt h

-- below its shift a number has no bits
shifted_in : (x i t : ℕ) → t < i → x * 2 ^ i / 2 ^ t % 2 ≡ 0
shifted_in x i t h =
    ap (λ (y : ℕ). x * 2 ^ y / 2 ^ t % 2) {x = i} {y = i - t - 1 + 1 + t} (omega arith)
    ∙ ap (λ (y : ℕ). y / 2 ^ t % 2) (ap (λ (y : ℕ). x * y) (pow-add 2 (i - t - 1 + 1) t) ∙ sym (mul_assoc x (2 ^ (i - t - 1 + 1)) (2 ^ t)))
    ∙ ap (λ (y : ℕ). y % 2) (shl-shr (x * 2 ^ (i - t - 1 + 1)) t ∙ ap (λ (y : ℕ). x * y) (pow-add 2 (i - t - 1) 1) ∙ sym (mul_assoc x (2 ^ (i - t - 1)) 2))
    ∙ mul-mod_left (x * 2 ^ (i - t - 1)) 2

module _ (block history : ℕ) (block-lt : block < 2 ^ 64) where
  -- the bits that stand d before those of a block: the block shifted down, and above it the latest d bits of the history
  tap : (d i j : ℕ) → i + d ≡ 64 → j < 64 → earlier history (digit 64 block) j d ≡ bit_xor (block / 2 ^ d) (history * 2 ^ i % 2 ^ 64) / 2 ^ (63 - j) % 2
  tap d i j e l = go (dec_le d j) ∙ sym parts
    where
      parts : bit_xor (block / 2 ^ d) (history * 2 ^ i % 2 ^ 64) / 2 ^ (63 - j) % 2 ≡ bit_xor (block / 2 ^ (d + (63 - j)) % 2) (history * 2 ^ i / 2 ^ (63 - j) % 2)
      parts =
          ap (λ (x : ℕ). x % 2) (xor_shr (block / 2 ^ d) (history * 2 ^ i % 2 ^ 64) (63 - j))
          ∙ xor_mod (block / 2 ^ d / 2 ^ (63 - j)) (history * 2 ^ i % 2 ^ 64 / 2 ^ (63 - j)) 1
          ∙ ap₂ bit_xor (ap (λ (x : ℕ). x % 2) (shr-shr block d (63 - j))) (low_digit (history * 2 ^ i) 64 (63 - j) (omega arith))

      go : Dec (d ≤ j) → earlier history (digit 64 block) j d ≡ bit_xor (block / 2 ^ (d + (63 - j)) % 2) (history * 2 ^ i / 2 ^ (63 - j) % 2)
      go (yes q) =
          earlier-in history (digit 64 block) j d q
          ∙ digit_at 64 block (j - d)
          ∙ ap (λ (x : ℕ). block / 2 ^ x % 2) {x = 64 - 1 - (j - d)} {y = d + (63 - j)} (omega arith)
          ∙ sym (ap (bit_xor (block / 2 ^ (d + (63 - j)) % 2)) (shifted_in history i (63 - j) (omega arith)) ∙ xor_zero_r (block / 2 ^ (d + (63 - j)) % 2))
      go (no q) =
          earlier-out history (digit 64 block) j d (omega arith)
          ∙ sym (ap₂ bit_xor
          (ap (λ (x : ℕ). x % 2) (div-eq_of_lt (lt_of_lt_of_le block-lt (pow_mono {i = 64} {j = d + (63 - j)} (omega arith)))))
          (ap (λ (x : ℕ). history * 2 ^ i / 2 ^ x % 2) {x = 63 - j} {y = i + (d - j - 1)} (omega arith) ∙ ap (λ (x : ℕ). x % 2) (sym (shr-shr (history * 2 ^ i) i (d - j - 1)) ∙ ap (λ (x : ℕ). x / 2 ^ (d - j - 1)) (shl-shr history i))))

  -- the block descrambled, with the two taps as the rule has them
  taps : bit_xor block (bit_xor (bit_xor (block / 2 ^ 39) (history * 2 ^ 25 % 2 ^ 64)) (bit_xor (block / 2 ^ 58) (history * 2 ^ 6 % 2 ^ 64))) ≡ number (plain history (digit 64 block)) 0 64
  taps =
      sym (number-ext (plain history (digit 64 block)) (digit 64 v) 0 0 64 (λ j l. bit (0 + j) (omega arith)) ∙ whole v v-lt)
    where
      p : ℕ
      p = bit_xor (block / 2 ^ 39) (history * 2 ^ 25 % 2 ^ 64)

      q : ℕ
      q = bit_xor (block / 2 ^ 58) (history * 2 ^ 6 % 2 ^ 64)

      v : ℕ
      v = bit_xor block (bit_xor p q)

      v-lt : v < 2 ^ 64
      v-lt =
          xor_lt 64 block (bit_xor p q) block-lt
          (xor_lt 64 p q (xor_lt 64 (block / 2 ^ 39) (history * 2 ^ 25 % 2 ^ 64) (omega arith) (mod-lt (history * 2 ^ 25) (pow_pos 64)))
          (xor_lt 64 (block / 2 ^ 58) (history * 2 ^ 6 % 2 ^ 64) (omega arith) (mod-lt (history * 2 ^ 6) (pow_pos 64))))

      bit : (j : ℕ) → j < 64 → plain history (digit 64 block) j ≡ digit 64 v j
      bit j l =
          unfold plain in refl
          ∙ ap₂ bit_xor (digit_at 64 block j) (ap₂ bit_xor (tap 39 25 j refl l) (tap 58 6 j refl l))
          ∙ sym (digit_at 64 v j
          ∙ ap (λ (x : ℕ). x % 2) (xor_shr block (bit_xor p q) (63 - j) ∙ ap (bit_xor (block / 2 ^ (63 - j))) (xor_shr p q (63 - j)))
          ∙ xor_mod (block / 2 ^ (63 - j)) (bit_xor (p / 2 ^ (63 - j)) (q / 2 ^ (63 - j))) 1
          ∙ ap (bit_xor (block / 2 ^ (63 - j) % 2)) (xor_mod (p / 2 ^ (63 - j)) (q / 2 ^ (63 - j)) 1))

  -- the same in the code's order
  pub descramble-block : bit_xor (bit_xor (bit_xor block (block / 2 ^ 39)) (block / 2 ^ 58)) (bit_xor (history * 2 ^ 25 % 2 ^ 64) (history * 2 ^ 6 % 2 ^ 64)) ≡ number (plain history (digit 64 block)) 0 64
  descramble-block =
      let own = bit_xor (block / 2 ^ 39) (block / 2 ^ 58) in
      let before = bit_xor (history * 2 ^ 25 % 2 ^ 64) (history * 2 ^ 6 % 2 ^ 64) in
      ap (λ (x : ℕ). bit_xor x before) (xor_assoc block (block / 2 ^ 39) (block / 2 ^ 58))
      ∙ xor_assoc block own before
      ∙ ap (bit_xor block) (xor-swap (block / 2 ^ 39) (block / 2 ^ 58) (history * 2 ^ 25 % 2 ^ 64) (history * 2 ^ 6 % 2 ^ 64))
      ∙ taps

-- what the scrambler computes: descrambling the block sent gives the user's block back, and only one block does
module _ (user history own : ℕ) (user-lt : user < 2 ^ 64) (own_is : own ≡ bit_xor (bit_xor user (history * 2 ^ 25 % 2 ^ 64)) (history * 2 ^ 6 % 2 ^ 64)) where
  block : ℕ
  block = number (sent (digit 64 user) history) 0 64

  sent-bits : (k : ℕ) → sent (digit 64 user) history k < 2
  sent-bits = sent-lt (digit 64 user) (digit_lt 64 user) history

  block-lt : block < 2 ^ 64
  unfolding block
  block-lt = number_lt (sent (digit 64 user) history) sent-bits 0 64

  back : number (plain history (digit 64 block)) 0 64 ≡ user
  unfolding block
  back =
      number-ext (plain history (digit 64 block)) (digit 64 user) 0 0 64
      (λ j l. plain-ext history (digit 64 block) (sent (digit 64 user) history) (0 + j) (λ k q. digit-number (sent (digit 64 user) history) sent-bits 0 64 k (omega arith) ∙ ap (sent (digit 64 user) history) (zero-add k)) ∙ undone (digit 64 user) (digit_lt 64 user) history (0 + j))
      ∙ whole user user-lt

  shifts : ℕ
  shifts = bit_xor (block / 2 ^ 39) (block / 2 ^ 58)

  own_block : own ≡ bit_xor block shifts
  unfolding shifts
  own_block =
      let before = bit_xor (history * 2 ^ 25 % 2 ^ 64) (history * 2 ^ 6 % 2 ^ 64) in
      own_is ∙ xor_assoc user (history * 2 ^ 25 % 2 ^ 64) (history * 2 ^ 6 % 2 ^ 64)
      ∙ ap (λ (x : ℕ). bit_xor x before) (sym (descramble-block block history block-lt ∙ back))
      ∙ xor_assoc (bit_xor (bit_xor block (block / 2 ^ 39)) (block / 2 ^ 58)) before before
      ∙ ap (bit_xor (bit_xor (bit_xor block (block / 2 ^ 39)) (block / 2 ^ 58))) (xor_self before)
      ∙ xor_zero_r (bit_xor (bit_xor block (block / 2 ^ 39)) (block / 2 ^ 58))
      ∙ xor_assoc block (block / 2 ^ 39) (block / 2 ^ 58)

  -- shifted down far enough, nothing is left of the shifts
  gone : (j k : ℕ) → 64 ≤ j + k → block / 2 ^ j / 2 ^ k ≡ 0
  gone j k h = shr-shr block j k ∙ div-eq_of_lt (lt_of_lt_of_le block-lt (pow_mono h))

  down : (k : ℕ) → 25 ≤ k → own / 2 ^ k ≡ block / 2 ^ k
  unfolding shifts
  down k h =
      ap (λ (x : ℕ). x / 2 ^ k) own_block
      ∙ xor_shr block shifts k
      ∙ ap (bit_xor (block / 2 ^ k)) (xor_shr (block / 2 ^ 39) (block / 2 ^ 58) k ∙ ap₂ bit_xor (gone 39 k (omega arith)) (gone 58 k (omega arith)))
      ∙ xor_zero_r (block / 2 ^ k)

  pub scramble-block : bit_xor (bit_xor own (own / 2 ^ 39)) (own / 2 ^ 58) ≡ number (sent (digit 64 user) history) 0 64
  unfolding block shifts
  scramble-block =
      xor_assoc own (own / 2 ^ 39) (own / 2 ^ 58)
      ∙ ap₂ bit_xor own_block (ap₂ bit_xor (down 39 (omega arith)) (down 58 (omega arith)))
      ∙ xor_assoc block shifts shifts ∙ ap (bit_xor block) (xor_self shifts) ∙ xor_zero_r block

-- ---- one block after the other

module _ (user : ℕ → ℕ) (bits : (k : ℕ) → user k < 2) (history i word past : ℕ) (word-is : word ≡ number user (64 * i) 64) (past_is : past ≡ history_after user history (64 * i)) where
  -- block i of the stream sent
  pub next-sent : number (sent (digit 64 word) past) 0 64 ≡ number (sent user history) (64 * i) 64
  next-sent =
      number-ext (sent (digit 64 word) past) (sent user history) 0 (64 * i) 64
      (λ j l. ap (λ (x : ℕ). sent (digit 64 word) x (0 + j)) past_is
      ∙ sent-ext (digit 64 word) (λ k. user (64 * i + k)) (history_after user history (64 * i)) (0 + j) (λ k q. ap (λ (x : ℕ). digit 64 x k) word-is ∙ digit-number user bits (64 * i) 64 k (omega arith))
      ∙ ap (sent (λ k. user (64 * i + k)) (history_after user history (64 * i))) (zero-add j)
      ∙ sym (sent-add user history (64 * i) j))

  -- and the history after it
  pub next-history : (block : ℕ) → block ≡ number (sent (digit 64 word) past) 0 64 → block % 2 ^ 58 ≡ history_after user history (64 * (i + 1))
  next-history block e =
      ap (λ (x : ℕ). x % 2 ^ 58) (e ∙ next-sent)
      ∙ number-low (sent user history) (sent-lt user bits history) (64 * i) 6 58
      ∙ ap (λ (x : ℕ). number (sent user history) x 58) {x = 64 * i + 6} {y = 64 * (i + 1) - 58} (omega arith)
      ∙ sym (history-sent user bits history (64 * (i + 1)) (omega arith))

module _ (stream : ℕ → ℕ) (bits : (k : ℕ) → stream k < 2) (history i word past : ℕ) (word-is : word ≡ number stream (64 * i) 64) where
  -- block i of the user's stream
  pub next-plain : past ≡ all_come history stream (64 * i) % 2 ^ 58 → number (plain past (digit 64 word)) 0 64 ≡ number (plain history stream) (64 * i) 64
  next-plain past_is =
      number-ext (plain past (digit 64 word)) (plain history stream) 0 (64 * i) 64
      (λ j l. ap (λ (x : ℕ). plain x (digit 64 word) (0 + j)) past_is
      ∙ recent-plain (all_come history stream (64 * i)) (digit 64 word) (0 + j)
      ∙ plain-ext (all_come history stream (64 * i)) (digit 64 word) (λ k. stream (64 * i + k)) (0 + j) (λ k q. ap (λ (x : ℕ). digit 64 x k) word-is ∙ digit-number stream bits (64 * i) 64 k (omega arith))
      ∙ ap (plain (all_come history stream (64 * i)) (λ k. stream (64 * i + k))) (zero-add j)
      ∙ sym (plain-add history stream bits (64 * i) j))

  -- and the history after it
  pub next-come : word % 2 ^ 58 ≡ all_come history stream (64 * (i + 1)) % 2 ^ 58
  next-come =
      ap (λ (x : ℕ). x % 2 ^ 58) word-is
      ∙ number-low stream bits (64 * i) 6 58
      ∙ sym (ap (λ (x : ℕ). all_come history stream x % 2 ^ 58) {x = 64 * (i + 1)} {y = 64 * i + 6 + 58} (omega arith) ∙ come-number history stream bits (64 * i + 6) 58)
