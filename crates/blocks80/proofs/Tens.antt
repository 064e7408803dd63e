-- 80-bit blocks as two halves of 40 bits, each four times a pair of bits and an octet: clauses 7.1.2 and 7.2.5; request 2. Assumes nothing.
use mathlib.Core.List.{List}
use mathlib.Core.Path.{◌≡◌, sym, ap, ap₂, ◌∙◌, subst}
use Prim.Native.Nat.{ℕ, zero, suc, ◌+◌, ◌-◌, ◌*◌, ◌/◌, ◌%◌, ◌^◌, ◌≤◌, ◌<◌}
use native.Mathlib.Nat.{div-one}
use native.Mathlib.Omega.{arith}
use lib.Dec.{lit≤}
use lib.ListN.{length}
use lib.Pow.{high, low, shl_exact, shr-shr}
use Rattle.bits.specs.Order.{bit_at, digit, number, octets_of, laid, laid_at}
use Rattle.bits.proofs.Numbers.{bit_at_lt, number-split, number_lt, number-low, number-high}
use Rattle.bits.proofs.Laid.{laid-over}
use Rattle.bits.proofs.Words.{shift-left}
use Rattle.fill.specs.Register.{register_after, shifts}
use Rattle.fill.specs.Table38.{pairs_of, packed, fill_bit}
use Rattle.fill.proofs.Table38.{pair-bits, packed-pair}
use Rattle.frame.specs.Headers.{header_of}
use Rattle.frame.specs.Lane.{first_bit, second_bit, data_bit, multiblock_bit, multiblock}
use Rattle.frame.proofs.Sizes.{width-80, octets-80, multiblock-octets}
use Rattle.frame.proofs.Lane.{multiblock_bit-lt}
use Rattle.frame.proofs.Gathering.{header-number, octet-number, header_of-lt, header-written, octet-written, gap-written}
use Rattle.blocks80.specs.inner.Half.{four_tens, four_octets, pairs_apart, octets_apart, half, gathered}

-- ---- runs of 40 and of 32 bits

module _ (f : ℕ → ℕ) (p : ℕ) where
  forty : number f p 40 ≡ four_tens (number f p 10) (number f (p + 10) 10) (number f (p + 20) 10) (number f (p + 30) 10)
  forty =
      number-split f p 30 10
      ∙ ap (λ (x : ℕ). x * 1024 + number f (p + 30) 10) (number-split f p 20 10 ∙ ap (λ (x : ℕ). x * 1024 + number f (p + 20) 10) (number-split f p 10 10))

  octets : number f p 32 ≡ four_octets (number f p 8) (number f (p + 8) 8) (number f (p + 16) 8) (number f (p + 24) 8)
  octets =
      number-split f p 24 8
      ∙ ap (λ (x : ℕ). x * 256 + number f (p + 24) 8) (number-split f p 16 8 ∙ ap (λ (x : ℕ). x * 256 + number f (p + 16) 8) (number-split f p 8 8))

pub pairs-apart-lt : (pairs : ℕ) → pairs_apart pairs < 2 ^ 32
unfolding pairs_apart
pairs-apart-lt pairs = omega arith

pub octets-apart-lt : (octets : ℕ) → octets_apart octets < 2 ^ 38
unfolding octets_apart
octets-apart-lt octets = omega arith

same-tens : {a b c d a' b' c' d' : ℕ} → a ≡ a' → b ≡ b' → c ≡ c' → d ≡ d' → four_tens a b c d ≡ four_tens a' b' c' d'
same-tens e f g h = rw (e, f, g, h)

tens-apart : (p q r s a b c d : ℕ) → four_tens (p * 256 + a) (q * 256 + b) (r * 256 + c) (s * 256 + d) ≡ four_tens p q r s * 256 + four_tens a b c d
tens-apart p q r s a b c d = omega arith

same-octets : {a b c d a' b' c' d' : ℕ} → a ≡ a' → b ≡ b' → c ≡ c' → d ≡ d' → four_octets a b c d ≡ four_octets a' b' c' d'
same-octets e f g h = rw (e, f, g, h)

-- ---- reading

pub gathered-lt : (h : ℕ) → gathered h < 2 ^ 32
unfolding gathered
gathered-lt h = omega arith

module _ (lane : ℕ → ℕ) (bits : (k : ℕ) → lane k < 2) where
  -- the octets of half a block: the last eight of each ten bits
  half-read : (p : ℕ) → gathered (number lane p 40) ≡ four_octets (number lane (p + 2) 8) (number lane (p + 12) 8) (number lane (p + 22) 8) (number lane (p + 32) 8)
  unfolding gathered
  half-read p =
      same-octets
      (ap (λ (x : ℕ). x % 256) (number-high lane bits p 10 30) ∙ number-low lane bits p 2 8)
      (ap (λ (x : ℕ). x % 256) (number-high lane bits p 20 20) ∙ number-low lane bits p 12 8)
      (ap (λ (x : ℕ). x % 256) (number-high lane bits p 30 10) ∙ number-low lane bits p 22 8)
      (number-low lane bits p 32 8)

  -- block b, of its first 64 bits and its last
  module _ (b upper lower : ℕ) (eu : upper ≡ number lane (80 * b) 64) (el : lower ≡ number lane (80 * b + 16) 64) where
    first-half : upper / 2 ^ 24 ≡ number lane (80 * b) 40
    first-half = ap (λ (x : ℕ). x / 2 ^ 24) eu ∙ number-high lane bits (80 * b) 40 24

    second-half : lower % 2 ^ 40 ≡ number lane (80 * b + 40) 40
    second-half = ap (λ (x : ℕ). x % 2 ^ 40) el ∙ number-low lane bits (80 * b + 16) 24 40 ∙ ap (λ (x : ℕ). number lane x 40) {x = 80 * b + 16 + 24} {y = 80 * b + 40} (omega arith)

    pub header_read_lem : upper / 2 ^ 62 ≡ first_bit 2 lane 0 b * 2 + second_bit 2 lane 0 b
    header_read_lem =
        ap (λ (x : ℕ). x / 2 ^ 62) eu ∙ number-high lane bits (80 * b) 2 62 ∙ ap (λ (x : ℕ). number lane (x * b) 2) (sym width-80) ∙ header-number 2 lane b

    -- octet k of the block
    octet-read : (k : ℕ) → k < 8 → number (data_bit 2 lane 0) (64 * b + 8 * k) 8 ≡ number lane (80 * b + (10 * k + 2)) 8
    octet-read k h =
        octet-number 2 lane b k h ∙ ap (λ (x : ℕ). number lane (x * b + (2 + 10 * k)) 8) width-80
        ∙ ap (λ (x : ℕ). number lane x 8) {x = 80 * b + (2 + 10 * k)} {y = 80 * b + (10 * k + 2)} (omega arith)

    half-data : (k : ℕ) → k ≤ 4 → number (data_bit 2 lane 0) (64 * b + 8 * k) 32 ≡ gathered (number lane (80 * b + 10 * k) 40)
    half-data k h =
        let from = 64 * b + 8 * k in
        let here : (i : ℕ) → i < 4 → number (data_bit 2 lane 0) (from + 8 * i) 8 ≡ number lane (80 * b + 10 * k + (10 * i + 2)) 8 =
        λ i l. ap (λ (x : ℕ). number (data_bit 2 lane 0) x 8) {x = from + 8 * i} {y = 64 * b + 8 * (k + i)} (omega arith) ∙ octet-read (k + i) (omega arith)
        ∙ ap (λ (x : ℕ). number lane x 8) {x = 80 * b + (10 * (k + i) + 2)} {y = 80 * b + 10 * k + (10 * i + 2)} (omega arith) in
        let start : number (data_bit 2 lane 0) from 8 ≡ number lane (80 * b + 10 * k + 2) 8 = ap (λ (x : ℕ). number (data_bit 2 lane 0) x 8) {x = from} {y = from + 8 * 0} (omega arith) ∙ here 0 (lit≤ tt) in
        octets (data_bit 2 lane 0) from
        ∙ same-octets start (here 1 (lit≤ tt)) (here 2 (lit≤ tt)) (here 3 (lit≤ tt))
        ∙ sym (half-read (80 * b + 10 * k))

    pub data-read : gathered (upper / 2 ^ 24) * 2 ^ 32 % 2 ^ 64 + gathered (lower % 2 ^ 40) ≡ number (data_bit 2 lane 0) (64 * b) 64
    data-read =
        let up : gathered (upper / 2 ^ 24) ≡ number (data_bit 2 lane 0) (64 * b) 32 =
        ap gathered (first-half ∙ ap (λ (x : ℕ). number lane x 40) {x = 80 * b} {y = 80 * b + 10 * 0} (omega arith)) ∙ sym (half-data 0 (lit≤ tt))
        ∙ ap (λ (x : ℕ). number (data_bit 2 lane 0) x 32) {x = 64 * b + 8 * 0} {y = 64 * b} (omega arith) in
        let low : gathered (lower % 2 ^ 40) ≡ number (data_bit 2 lane 0) (64 * b + 32) 32 = ap gathered second-half ∙ sym (half-data 4 (lit≤ tt)) in
        ap₂ (λ (x y : ℕ). x + y) (shl_exact 32 32 64 (gathered-lt (upper / 2 ^ 24)) (lit≤ tt) ∙ ap (λ (x : ℕ). x * 2 ^ 32) up) low
        ∙ sym (number-split (data_bit 2 lane 0) (64 * b) 32 32)

-- ---- writing

-- pair k + 1 of a header and the pairs behind it
behind : (pairs header k : ℕ) → header < 4 → (pairs * 4 + header) / 2 ^ (2 * (k + 1)) % 4 ≡ pairs / 2 ^ (2 * k) % 4
behind pairs header k h =
    ap (λ (x : ℕ). (pairs * 4 + header) / 2 ^ x % 4) {x = 2 * (k + 1)} {y = 2 + 2 * k} (omega arith)
    ∙ ap (λ (x : ℕ). x % 4) (sym (shr-shr (pairs * 4 + header) 2 (2 * k)) ∙ ap (λ (x : ℕ). x / 2 ^ (2 * k)) (high pairs 2 h))

-- octet k of 64 bits
octet-of : (f : ℕ → ℕ) → ((k : ℕ) → f k < 2) → (p k : ℕ) → k < 8 → number f p 64 / 2 ^ (56 - 8 * k) % 256 ≡ number f (p + 8 * k) 8
octet-of f bits p k h =
    ap (λ (x : ℕ). number f p x / 2 ^ (56 - 8 * k) % 256) {x = 64} {y = 8 * k + 8 + (56 - 8 * k)} (omega arith)
    ∙ ap (λ (x : ℕ). x % 256) (number-high f bits p (8 * k + 8) (56 - 8 * k))
    ∙ number-low f bits p (8 * k) 8

-- block b of a multiblock: its register, its pairs, and its data
module _ (register sync : ℕ) (octets : List ℕ) (b fill pairs own : ℕ) (is-fill : fill ≡ register_after register (shifts * b))
    (is-pairs : pairs ≡ packed (pairs_of fill) * 4 + header_of (digit 32 sync b)) (is-own : own ≡ number (bit_at octets) (64 * b) 64) where
  lane : ℕ → ℕ
  lane = multiblock_bit 2 register sync octets

  bits : (x : ℕ) → lane x < 2
  unfolding lane
  bits = multiblock_bit-lt 2 register sync octets

  pair-written : (k : ℕ) → k < 8 → number lane (80 * b + 10 * k) 2 ≡ pairs / 2 ^ (2 * k) % 4
  unfolding lane
  pair-written zero h =
      ap (λ (x : ℕ). number lane x 2) {x = 80 * b + 10 * 0} {y = 80 * b} (omega arith)
      ∙ ap (λ (x : ℕ). number lane (x * b) 2) (sym width-80)
      ∙ header-written 2 register sync octets b
      ∙ sym (ap (λ (x : ℕ). x % 4) (div-one pairs ∙ is-pairs) ∙ low (packed (pairs_of fill)) 2 (header_of-lt (digit 32 sync b)))
  pair-written (suc k) h =
      ap (λ (x : ℕ). number lane x 2) {x = 80 * b + 10 * suc k} {y = 80 * b + (10 + 10 * k)} (omega arith)
      ∙ ap (λ (x : ℕ). number lane (x * b + (10 + 10 * k)) 2) (sym width-80)
      ∙ gap-written 2 register sync octets b k (omega arith)
      ∙ ap (λ (x : ℕ). number (fill_bit x) (2 * k) 2) (sym is-fill)
      ∙ pair-bits fill k
      ∙ sym (ap (λ (x : ℕ). pairs / 2 ^ (2 * x) % 4) {x = suc k} {y = k + 1} (omega arith)
      ∙ ap (λ (x : ℕ). x / 2 ^ (2 * (k + 1)) % 4) is-pairs
      ∙ behind (packed (pairs_of fill)) (header_of (digit 32 sync b)) k (header_of-lt (digit 32 sync b))
      ∙ packed-pair fill k (omega arith))

  ten-written : (k : ℕ) → k < 8 → number lane (80 * b + 10 * k) 10 ≡ pairs / 2 ^ (2 * k) % 4 * 256 + own / 2 ^ (56 - 8 * k) % 256
  unfolding lane
  ten-written k h =
      number-split lane (80 * b + 10 * k) 2 8
      ∙ ap₂ (λ (x y : ℕ). x * 256 + y) (pair-written k h)
      (ap (λ (x : ℕ). number lane x 8) {x = 80 * b + 10 * k + 2} {y = 80 * b + (2 + 10 * k)} (omega arith)
      ∙ ap (λ (x : ℕ). number lane (x * b + (2 + 10 * k)) 8) (sym width-80)
      ∙ octet-written 2 register sync octets b k h
      ∙ sym (ap (λ (x : ℕ). x / 2 ^ (56 - 8 * k) % 256) is-own ∙ octet-of (bit_at octets) (bit_at_lt octets) (64 * b) k h))

  -- from pair k on, four pairs with their octets
  half-written : (k : ℕ) → k ≤ 4 → number lane (80 * b + 10 * k) 40
      ≡ four_tens (number lane (80 * b + 10 * k) 10) (number lane (80 * b + 10 * (k + 1)) 10) (number lane (80 * b + 10 * (k + 2)) 10) (number lane (80 * b + 10 * (k + 3)) 10)
  half-written k h =
      let p = 80 * b + 10 * k in
      let place : (i : ℕ) → number lane (p + 10 * i) 10 ≡ number lane (80 * b + 10 * (k + i)) 10 =
      λ i. ap (λ (x : ℕ). number lane x 10) {x = p + 10 * i} {y = 80 * b + 10 * (k + i)} (omega arith) in
      forty lane p ∙ omega (arith, place 1, place 2, place 3)

  -- the half from pair k on, of pairs and octets of its own
  half_of : (k v w : ℕ) → k ≤ 4
      → ((i : ℕ) → i < 4 → number lane (80 * b + 10 * (k + i)) 10 ≡ v / 2 ^ (2 * i) % 4 * 256 + w / 2 ^ (24 - 8 * i) % 256) → half v w ≡ number lane (80 * b + 10 * k) 40
  unfolding half pairs_apart octets_apart
  half_of k v w h e =
      let zeroth : number lane (80 * b + 10 * k) 10 ≡ v / 2 ^ (2 * 0) % 4 * 256 + w / 2 ^ (24 - 8 * 0) % 256 =
      ap (λ (x : ℕ). number lane x 10) {x = 80 * b + 10 * k} {y = 80 * b + 10 * (k + 0)} (omega arith) ∙ e 0 (lit≤ tt) in
      sym (half-written k h ∙ same-tens zeroth (e 1 (lit≤ tt)) (e 2 (lit≤ tt)) (e 3 (lit≤ tt)) ∙ tens-apart _ _ _ _ _ _ _ _)

  upper-half : half pairs (own / 2 ^ 32) ≡ number lane (80 * b) 40
  upper-half =
      half_of 0 pairs (own / 2 ^ 32) (lit≤ tt)
      (λ i h. ap (λ (x : ℕ). number lane (80 * b + 10 * x) 10) {x = 0 + i} {y = i} (omega arith) ∙ ten-written i (omega arith)
      ∙ ap (λ (x : ℕ). pairs / 2 ^ (2 * i) % 4 * 256 + x % 256) (sym (shr-shr own 32 (24 - 8 * i) ∙ ap (λ (x : ℕ). own / 2 ^ x) {x = 32 + (24 - 8 * i)} {y = 56 - 8 * i} (omega arith))))
      ∙ ap (λ (x : ℕ). number lane x 40) {x = 80 * b + 10 * 0} {y = 80 * b} (omega arith)

  lower-half : half (pairs / 2 ^ 8) own ≡ number lane (80 * b + 40) 40
  lower-half =
      half_of 4 (pairs / 2 ^ 8) own (lit≤ tt)
      (λ i h.
      let place : 56 - 8 * (4 + i) ≡ 24 - 8 * i = omega arith in
      ten-written (4 + i) (omega arith)
      ∙ ap₂ (λ (x y : ℕ). x % 4 * 256 + own / 2 ^ y % 256)
      (sym (shr-shr pairs 8 (2 * i) ∙ ap (λ (x : ℕ). pairs / 2 ^ x) {x = 8 + 2 * i} {y = 2 * (4 + i)} (omega arith))) place)

  -- the first 64 bits of the block, and the last
  module _ (upper lower : ℕ) (eu : upper ≡ half pairs (own / 2 ^ 32)) (el : lower ≡ half (pairs / 2 ^ 8) own) where
    first_word : upper * 2 ^ 24 % 2 ^ 64 + lower / 2 ^ 16 ≡ number lane (80 * b) 64
    first_word =
        let u = eu ∙ upper-half in
        ap₂ (λ (x y : ℕ). x + y)
        (shl_exact 40 24 64 (subst (λ (x : ℕ). x < 2 ^ 40) (sym u) (number_lt lane bits (80 * b) 40)) (lit≤ tt) ∙ ap (λ (x : ℕ). x * 2 ^ 24) u)
        (ap (λ (x : ℕ). x / 2 ^ 16) (el ∙ lower-half) ∙ number-high lane bits (80 * b + 40) 24 16)
        ∙ sym (number-split lane (80 * b) 40 24)

    last_word : upper * 2 ^ 40 % 2 ^ 64 + lower ≡ number lane (80 * b + 16) 64
    last_word =
        ap₂ (λ (x y : ℕ). x + y)
        (shift-left upper 40 (lit≤ tt) ∙ ap (λ (x : ℕ). x % 2 ^ 24 * 2 ^ 40) (eu ∙ upper-half) ∙ ap (λ (x : ℕ). x * 2 ^ 40) (number-low lane bits (80 * b) 16 24))
        (el ∙ lower-half ∙ ap (λ (x : ℕ). number lane x 40) {x = 80 * b + 40} {y = 80 * b + 16 + 24} (omega arith))
        ∙ sym (number-split lane (80 * b + 16) 24 40)

    pub first_fits : upper * 2 ^ 24 % 2 ^ 64 + lower / 2 ^ 16 < 2 ^ 64
    first_fits = subst (λ (x : ℕ). x < 2 ^ 64) (sym first_word) (number_lt lane bits (80 * b) 64)

    pub last_fits : upper * 2 ^ 40 % 2 ^ 64 + lower < 2 ^ 64
    last_fits = subst (λ (x : ℕ). x < 2 ^ 64) (sym last_word) (number_lt lane bits (80 * b + 16) 64)

    -- both laid down: ten octets more
    pub block-laid : (old : List ℕ) → 10 * b + 10 ≤ length old
        → laid_at (octets_of (digit 64 (upper * 2 ^ 40 % 2 ^ 64 + lower)) 8) (10 * b + 2)
        (laid_at (octets_of (digit 64 (upper * 2 ^ 24 % 2 ^ 64 + lower / 2 ^ 16)) 8) (10 * b) (laid (octets_of (multiblock_bit 2 register sync octets) (10 * b)) old))
        ≡ laid (octets_of (multiblock_bit 2 register sync octets) (10 * (b + 1))) old
    unfolding lane
    block-laid old h =
        ap (laid_at (octets_of (digit 64 (upper * 2 ^ 40 % 2 ^ 64 + lower)) 8) (10 * b + 2))
        (laid-over lane bits (10 * b) (10 * b) _ old (omega arith) (omega arith) (omega arith) (first_word ∙ ap (λ (x : ℕ). number lane x 64) {x = 80 * b} {y = 8 * (10 * b)} (omega arith)))
        ∙ laid-over lane bits (10 * b + 2) (10 * b + 8) _ old (omega arith) (omega arith) (omega arith)
        (last_word ∙ ap (λ (x : ℕ). number lane x 64) {x = 80 * b + 16} {y = 8 * (10 * b + 2)} (omega arith))
        ∙ ap (λ (x : ℕ). laid (octets_of lane x) old) {x = 10 * b + 2 + 8} {y = 10 * (b + 1)} (omega arith)

-- 32 blocks
pub octets-written : (register sync : ℕ) (octets : List ℕ) → octets_of (multiblock_bit 2 register sync octets) (10 * 32) ≡ multiblock 2 register sync octets
octets-written register sync octets = ap (octets_of (multiblock_bit 2 register sync octets)) (sym octets-80) ∙ multiblock-octets 2 register sync octets
