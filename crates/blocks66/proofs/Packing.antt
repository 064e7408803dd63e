-- Headers and data of 66-bit blocks gathered and laid down by shifts, across octet edges: clauses 7.1.2 and 7.2.2. A multiblock is 33 words
-- of 64 bits: block b begins 2 * b bits into word b and ends in the next. Assumes nothing.
use mathlib.Core.List.{List}
use mathlib.Core.Path.{◌≡◌, sym, ap, ap₂, ◌∙◌, subst}
use Prim.Native.Nat.{ℕ, ◌+◌, ◌-◌, ◌*◌, ◌/◌, ◌%◌, ◌^◌, ◌≤◌, ◌<◌}
use native.Mathlib.Nat.{add-mul, mul_assoc, mod-eq_of_lt}
use native.Mathlib.Omega.{arith}
use lib.Bits.{bit_and, bit_or, and_mask, or_shifted}
use lib.ListN.{length}
use lib.Pow.{pow-add, high, low, field, mod-pow-add, mod-mod-pow, shl_exact, shl_lt, shr_lt, shr-shr}
use Rattle.bits.specs.Order.{bit_at, digit, number, octets_of}
use Rattle.bits.proofs.Numbers.{digit_at, digit_lt, number-split, number-low, number-high, number-ext, digit-number, number-digit}
use Rattle.bits.proofs.Octets.{length-octets_of}
use Rattle.bits.proofs.Words.{shift-left}
use Rattle.frame.specs.Headers.{header_of}
use Rattle.frame.specs.Lane.{first_bit, second_bit, data_bit, multiblock_bit, multiblock}
use Rattle.frame.proofs.Lane.{multiblock_bit-lt}
use Rattle.frame.proofs.Sizes.{width-66, octets-66, multiblock-octets}
use Rattle.frame.proofs.Gathering.{header-number, block-number, header_of-lt, header_of-bit, header-written, data-written}

-- two shifts left drop what leaves the word
shift-twice : (x s t n : ℕ) → s + t + n ≡ 64 → x * 2 ^ s % 2 ^ 64 * 2 ^ t % 2 ^ 64 ≡ x % 2 ^ n * 2 ^ (s + t)
shift-twice x s t n e =
    ap (λ (y : ℕ). y * 2 ^ t % 2 ^ 64) (shift-left x s (omega arith) ∙ ap (λ (y : ℕ). x % 2 ^ y * 2 ^ s) {x = 64 - s} {y = t + n} (omega arith))
    ∙ ap (λ (y : ℕ). y % 2 ^ 64) (mul_assoc (x % 2 ^ (t + n)) (2 ^ s) (2 ^ t) ∙ ap (λ (y : ℕ). x % 2 ^ (t + n) * y) (sym (pow-add 2 s t)))
    ∙ shift-left (x % 2 ^ (t + n)) (s + t) (omega arith)
    ∙ ap (λ (y : ℕ). x % 2 ^ (t + n) % 2 ^ y * 2 ^ (s + t)) {x = 64 - (s + t)} {y = n} (omega arith)
    ∙ ap (λ (y : ℕ). y * 2 ^ (s + t)) (mod-mod-pow x t n)

-- ---- reading

-- word >> (62 - t) & 3: two bits that stand t bits into a word
pub two-bits : (word t : ℕ) → t ≤ 62 → bit_and (word / 2 ^ (62 - t)) 3 ≡ number (digit 64 word) t 2
two-bits word t h = and_mask (word / 2 ^ (62 - t)) 2 ∙ sym (number-digit 64 word t 2 (omega arith) ∙ ap (λ (x : ℕ). word / 2 ^ x % 4) {x = 64 - t - 2} {y = 62 - t} (omega arith))

-- word << 2 << t | next >> (62 - t): the 64 bits behind them
pub two-words : (word next t : ℕ) → next < 2 ^ 64 → t ≤ 62
    → bit_or (word * 2 ^ 2 % 2 ^ 64 * 2 ^ t % 2 ^ 64) (next / 2 ^ (62 - t)) ≡ number (digit 128 (word * 2 ^ 64 + next)) (t + 2) 64
two-words word next t h ht =
    let s = 62 - t in
    let v = word * 2 ^ 64 + next in
    let whole : 2 + t + s ≡ 64 = omega arith in
    let lower : next / 2 ^ s ≡ v / 2 ^ s % 2 ^ (2 + t) = sym (sym (field v (2 + t) s) ∙ ap (λ (x : ℕ). v % 2 ^ x / 2 ^ s) whole ∙ ap (λ (x : ℕ). x / 2 ^ s) (low word 64 h)) in
    let upper : word ≡ v / 2 ^ s / 2 ^ (2 + t) = sym (shr-shr v s (2 + t) ∙ ap (λ (x : ℕ). v / 2 ^ x) {x = s + (2 + t)} {y = 64} (omega arith) ∙ high word 64 h) in
    ap (λ (x : ℕ). bit_or x (next / 2 ^ s)) (shift-twice word 2 t s whole)
    ∙ or_shifted (word % 2 ^ s) (2 + t) (next / 2 ^ s) (shr_lt (2 + t) s (subst (λ (x : ℕ). next < 2 ^ x) (sym whole) h))
    ∙ ap₂ (λ (x y : ℕ). x % 2 ^ s * 2 ^ (2 + t) + y) upper lower
    ∙ sym (number-digit 128 v (t + 2) 64 (omega arith)
    ∙ ap₂ (λ (x y : ℕ). v / 2 ^ x % 2 ^ y) {x = 128 - (t + 2) - 64} {y = s} {u = 64} {v = s + (2 + t)} (omega arith) (omega arith)
    ∙ mod-pow-add (v / 2 ^ s) s (2 + t))

module _ (lane : ℕ → ℕ) (bits : (k : ℕ) → lane k < 2) where
  -- block b, of word b and the next
  module _ (b word : ℕ) (h : b < 32) (ew : word ≡ number lane (64 * b) 64) where
    pub data-read : (next block : ℕ) → next ≡ number lane (64 * (b + 1)) 64 → block ≡ number (digit 128 (word * 2 ^ 64 + next)) (2 * b + 2) 64 → block ≡ number (data_bit 0 lane 0) (64 * b) 64
    data-read next block en eb =
        let both : word * 2 ^ 64 + next ≡ number lane (64 * b) 128 =
        ap₂ (λ (x y : ℕ). x * 2 ^ 64 + y) ew (en ∙ ap (λ (x : ℕ). number lane x 64) {x = 64 * (b + 1)} {y = 64 * b + 64} (omega arith)) ∙ sym (number-split lane (64 * b) 64 64) in
        eb
        ∙ number-ext (digit 128 (word * 2 ^ 64 + next)) lane (2 * b + 2) (66 * b + 2) 64
        (λ j q. ap (λ (x : ℕ). digit 128 x (2 * b + 2 + j)) both ∙ digit-number lane bits (64 * b) 128 (2 * b + 2 + j) (omega arith) ∙ ap lane (omega arith))
        ∙ ap (λ (x : ℕ). number lane (x * b + 2) 64) (sym width-66)
        ∙ sym (block-number lane b)

    pub header_read_lem : (header : ℕ) → header ≡ number (digit 64 word) (2 * b) 2 → header ≡ first_bit 0 lane 0 b * 2 + second_bit 0 lane 0 b
    header_read_lem header eh =
        eh
        ∙ number-ext (digit 64 word) lane (2 * b) (66 * b) 2
        (λ j q. ap (λ (x : ℕ). digit 64 x (2 * b + j)) ew ∙ digit-number lane bits (64 * b) 64 (2 * b + j) (omega arith) ∙ ap lane (omega arith))
        ∙ ap (λ (x : ℕ). number lane (x * b) 2) (sym width-66)
        ∙ header-number 0 lane b

-- ---- writing

-- the header that carries bit b of a sync word, found by a shift
module _ (sync b : ℕ) where
  sync-bit : digit 32 sync b ≡ bit_and (sync / 2 ^ (31 - b)) 1
  sync-bit = digit_at 32 sync b ∙ sym (and_mask (sync / 2 ^ (31 - b)) 1)

  pub header-of-one : bit_and (sync / 2 ^ (31 - b)) 1 ≡ 1 → header_of (digit 32 sync b) ≡ 1
  header-of-one e = header_of-bit (digit 32 sync b) (digit_lt 32 sync b) ∙ ap (λ (x : ℕ). 2 - x) (sync-bit ∙ e)

  pub header-of-zero : (bit_and (sync / 2 ^ (31 - b)) 1 ≡ 1 → ⊥) → header_of (digit 32 sync b) ≡ 2
  header-of-zero h =
      let other : digit 32 sync b ≡ 1 → ⊥ = λ e. h (sym sync-bit ∙ e) in
      let zero : digit 32 sync b ≡ 0 = omega (arith, digit_lt 32 sync b, other) in
      header_of-bit (digit 32 sync b) (digit_lt 32 sync b) ∙ ap (λ (x : ℕ). 2 - x) zero

-- before << 1 << (63 - t) | header << (62 - t) | block >> 2 >> t: the last t bits of a block, a header, and the first bits of its block
pub word_made : (sync b before header block t : ℕ) → header ≡ header_of (digit 32 sync b) → block < 2 ^ 64 → t ≤ 62
    → bit_or (bit_or (before * 2 ^ 1 % 2 ^ 64 * 2 ^ (63 - t) % 2 ^ 64) (header * 2 ^ (62 - t) % 2 ^ 64)) (block / 2 ^ 2 / 2 ^ t)
    ≡ (before % 2 ^ t * 4 + header_of (digit 32 sync b)) * 2 ^ (62 - t) + block / 2 ^ (2 + t)
word_made sync b before header block t eh hb ht =
    let hh = subst (λ (x : ℕ). x < 4) (sym eh) (header_of-lt (digit 32 sync b)) in
    let s = 62 - t in
    let u = before % 2 ^ t in
    let top : 1 + (63 - t) ≡ 2 + s = omega arith in
    ap₂ bit_or
    (ap₂ bit_or (shift-twice before 1 (63 - t) t (omega arith) ∙ ap (λ (x : ℕ). u * 2 ^ x) top) (shl_exact 2 s 64 hh (omega arith))
    ∙ or_shifted u (2 + s) (header * 2 ^ s) (shl_lt 2 s hh)
    ∙ ap (λ (x : ℕ). u * x + header * 2 ^ s) (pow-add 2 2 s)
    ∙ sym (add-mul (u * 4) header (2 ^ s) ∙ ap (λ (x : ℕ). x + header * 2 ^ s) (mul_assoc u 4 (2 ^ s))))
    (shr-shr block 2 t)
    ∙ or_shifted (u * 4 + header) s (block / 2 ^ (2 + t)) (shr_lt s (2 + t) (subst (λ (x : ℕ). block < 2 ^ x) {x = 64} {y = s + (2 + t)} (omega arith) hb))
    ∙ ap (λ (x : ℕ). (u * 4 + x) * 2 ^ s + block / 2 ^ (2 + t)) eh

module _ (sync : ℕ) (octets : List ℕ) where
  lane : ℕ → ℕ
  lane = multiblock_bit 0 0 sync octets

  bits : (x : ℕ) → lane x < 2
  unfolding lane
  bits = multiblock_bit-lt 0 0 sync octets

  header_at : (b : ℕ) → number lane (66 * b) 2 ≡ header_of (digit 32 sync b)
  unfolding lane
  header_at b = ap (λ (x : ℕ). number lane (x * b) 2) (sym width-66) ∙ header-written 0 0 sync octets b

  data-at : (b : ℕ) → number lane (66 * b + 2) 64 ≡ number (bit_at octets) (64 * b) 64
  unfolding lane
  data-at b = ap (λ (x : ℕ). number lane (x * b + 2) 64) (sym width-66) ∙ data-written 0 sync octets b

  -- word b of the lane
  module _ (b block : ℕ) (h : b < 32) (eb : block ≡ number (bit_at octets) (64 * b) 64) where
    pub word-written : (before word : ℕ) → before % 2 ^ (2 * b) ≡ number (multiblock_bit 0 0 sync octets) (64 * b) (2 * b)
        → word ≡ (before % 2 ^ (2 * b) * 4 + header_of (digit 32 sync b)) * 2 ^ (62 - 2 * b) + block / 2 ^ (2 + 2 * b)
        → word ≡ number (multiblock_bit 0 0 sync octets) (64 * b) 64
    unfolding lane
    word-written before word ep ew =
        let t = 2 * b in
        let s = 62 - t in
        let place : 64 * b + t ≡ 66 * b = omega arith in
        let upper : before % 2 ^ t * 4 + header_of (digit 32 sync b) ≡ number lane (64 * b) (t + 2) =
        ap₂ (λ (x y : ℕ). x * 4 + y) ep (sym (header_at b) ∙ ap (λ (x : ℕ). number lane x 2) (sym place)) ∙ sym (number-split lane (64 * b) t 2) in
        let lower : block / 2 ^ (2 + t) ≡ number lane (64 * b + (t + 2)) s =
        ap (λ (x : ℕ). x / 2 ^ (2 + t)) (eb ∙ sym (data-at b) ∙ ap (number lane (66 * b + 2)) {x = 64} {y = s + (2 + t)} (omega arith))
        ∙ number-high lane bits (66 * b + 2) s (2 + t)
        ∙ ap (λ (x : ℕ). number lane x s) (omega arith) in
        ew
        ∙ ap₂ (λ (x y : ℕ). x * 2 ^ s + y) upper lower
        ∙ sym (number-split lane (64 * b) (t + 2) s)
        ∙ ap (number lane (64 * b)) (omega arith)

    -- what the next word begins with
    pub before-next : block % 2 ^ (2 * (b + 1)) ≡ number (multiblock_bit 0 0 sync octets) (64 * (b + 1)) (2 * (b + 1))
    unfolding lane
    before-next =
        ap (λ (x : ℕ). x % 2 ^ (2 * (b + 1))) (eb ∙ sym (data-at b) ∙ ap (number lane (66 * b + 2)) {x = 64} {y = 62 - 2 * b + 2 * (b + 1)} (omega arith))
        ∙ number-low lane bits (66 * b + 2) (62 - 2 * b) (2 * (b + 1))
        ∙ ap (λ (x : ℕ). number lane x (2 * (b + 1))) (omega arith)

  -- the word after the last block
  pub last_word : (b before : ℕ) → b ≡ 32 → before < 2 ^ 64 → before % 2 ^ (2 * b) ≡ number (multiblock_bit 0 0 sync octets) (64 * b) (2 * b)
      → before ≡ number (multiblock_bit 0 0 sync octets) (64 * 32) 64
  last_word b before e h p =
      sym (mod-eq_of_lt h) ∙ ap (λ (x : ℕ). before % 2 ^ (2 * x)) (sym e) ∙ p ∙ ap (λ (x : ℕ). number (multiblock_bit 0 0 sync octets) (64 * x) (2 * x)) e

  pub octets-written : octets_of (multiblock_bit 0 0 sync octets) (8 * (32 + 1)) ≡ multiblock 0 0 sync octets
  octets-written = ap (octets_of (multiblock_bit 0 0 sync octets)) (sym octets-66) ∙ multiblock-octets 0 0 sync octets

  pub length-written : length (multiblock 0 0 sync octets) ≡ 8 * (32 + 1)
  length-written = ap length (sym octets-written) ∙ length-octets_of (multiblock_bit 0 0 sync octets) (8 * (32 + 1))
