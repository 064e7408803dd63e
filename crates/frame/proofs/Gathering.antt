-- What loops over the 32 blocks of a multiblock gather and lay down, over any gap between the data octets: clauses 7.1.2, 7.1.3 and 7.2.5.
-- Assumes nothing.
use mathlib.Core.Bool.{Bool, true, false}
use mathlib.Core.List.{List, []}
use mathlib.Core.Path.{◌≡◌, refl, sym, ap, ap₂, ◌∙◌, subst}
use Prim.Native.Nat.{ℕ, zero, suc, ◌+◌, ◌-◌, ◌*◌, ◌/◌, ◌%◌, ◌^◌, ◌≤◌, ◌<◌}
use native.Mathlib.Nat.{add-zero, zero-add, add-mul, div-add-mod'}
use native.Mathlib.Omega.{arith}
use lib.Bits.{bit_and, bit_or, and_mask, or_shifted}
use lib.Dec.{eqb, lit≤}
use lib.ListN.{length, get_or, drop}
use lib.Pow.{shl_exact}
use Rattle.std.specs.Simd.{first_chunks}
use Rattle.bits.specs.Choice.{pick}
use Rattle.bits.specs.Order.{bit_at, digit, number, octets_of, word_bit, laid}
use Rattle.bits.proofs.Numbers.{number_more, number-two, number_lt, number-ext}
use Rattle.bits.proofs.Xor.{bit-cases}
use Rattle.bits.proofs.Octets.{length-octets_of, bit-octets_of, bit-take, bit-drop}
use Rattle.bits.proofs.Laid.{laid-all}
use Rattle.bits.proofs.WordLists.{word_bit-lt, number_word}
use Rattle.fill.specs.Register.{register_after, shifts}
use Rattle.fill.specs.Table38.{fill_bit}
use Rattle.frame.specs.Headers.{header_of}
use Rattle.frame.specs.Lane.{block_width, header_place, data_place, first_bit, second_bit, data_bit, data_octets, block_bit, multiblock_bit}
use Rattle.frame.proofs.Lane.{offset-lt, fill-lt, multiblock-at, block-data, block-fill}
use Rattle.frame.proofs.Reading.{first-lt, second_lt}

-- ---- reading

-- bit j of piece b of a lane cut into pieces of n octets
piece-bit : (n k : ℕ) (lane : List ℕ) (b j : ℕ) → b < k → j < 8 * n → bit_at (get_or (first_chunks n k lane) b []) j ≡ bit_at lane (8 * (b * n) + j)
piece-bit n zero lane b j hb hj = elim hb [ ]
piece-bit n (suc k) lane zero j hb hj = bit-take n lane j hj ∙ ap (bit_at lane) (omega arith)
piece-bit n (suc k) lane (suc b) j hb hj =
    piece-bit n k (drop n lane) b j (omega arith) hj
    ∙ bit-drop n lane (8 * (b * n) + j)
    ∙ ap (bit_at lane) (omega (arith, add-mul 1 b n))

-- a word of it
pub piece-word : (n k : ℕ) {pieces : List (List ℕ)} (lane : List ℕ) (b at place : ℕ) → pieces ≡ first_chunks n k lane → b < k → at + 64 ≤ 8 * n
    → place ≡ 8 * (b * n) + at → number (bit_at (get_or pieces b [])) at 64 ≡ number (bit_at lane) place 64
piece-word n k lane b at place e hb ha p =
    rw e (number-ext (bit_at (get_or (first_chunks n k lane) b [])) (bit_at lane) at place 64
    (λ j q. piece-bit n k lane b (at + j) hb (omega arith) ∙ ap (bit_at lane) (omega (arith, p))))

-- bits << 1 | bit
bit-more : (f : ℕ → ℕ) → ((k : ℕ) → f k < 2) → (n word bit : ℕ) → n < 32 → word ≡ number f 0 n → bit ≡ f n → bit_or (word * 2 ^ 1 % 2 ^ 32) bit ≡ number f 0 (n + 1)
bit-more f bits n word bit h ew eb =
    ap (λ (x : ℕ). bit_or x bit) (shl_exact n 1 32 (subst (λ (x : ℕ). x < 2 ^ n) (sym ew) (number_lt f bits 0 n)) (omega arith))
    ∙ or_shifted word 1 bit (subst (λ (x : ℕ). x < 2) (sym eb) (bits n))
    ∙ ap₂ (λ (x y : ℕ). x * 2 + y) ew (eb ∙ ap f (sym (zero-add n)))
    ∙ sym (number_more f 0 n)

-- the header of block b, of its value
module _ (gap : ℕ) (lane : ℕ → ℕ) (bits : (k : ℕ) → lane k < 2) (b header : ℕ) (h : b < 32) (eh : header ≡ first_bit gap lane 0 b * 2 + second_bit gap lane 0 b) where
  pub first_more : (first : ℕ) → first ≡ number (first_bit gap lane 0) 0 b → bit_or (first * 2 ^ 1 % 2 ^ 32) (header / 2 ^ 1) ≡ number (first_bit gap lane 0) 0 (b + 1)
  first_more first e = bit-more (first_bit gap lane 0) (first-lt gap lane bits 0) b first (header / 2 ^ 1) h e (omega (arith, eh, second_lt gap lane bits 0 b))

  pub second_more : (second : ℕ) → second ≡ number (second_bit gap lane 0) 0 b → bit_or (second * 2 ^ 1 % 2 ^ 32) (bit_and header 1) ≡ number (second_bit gap lane 0) 0 (b + 1)
  second_more second e = bit-more (second_bit gap lane 0) (second_lt gap lane bits 0) b second (bit_and header 1) h e (omega (arith, and_mask header 1, eh, second_lt gap lane bits 0 b))

-- block b of a lane's first multiblock: its header, its octet k, and without gaps all its data
module _ (gap : ℕ) (lane : ℕ → ℕ) (b : ℕ) where
  pub header-number : number lane (block_width gap * b) 2 ≡ first_bit gap lane 0 b * 2 + second_bit gap lane 0 b
  unfolding first_bit second_bit header_place
  header-number = ap (λ (x : ℕ). number lane (block_width gap * x) 2) {x = b} {y = 32 * 0 + b} (omega arith) ∙ number-two lane (block_width gap * (32 * 0 + b))

  data-at : (q : ℕ) → q < 64 → data_bit gap lane 0 (64 * b + q) ≡ lane (block_width gap * b + (2 + q + gap * (q / 8)))
  unfolding data_bit data_place header_place
  data-at q h =
      let block : 32 * 0 + (64 * b + q) / 64 ≡ b = omega arith in
      let own : (64 * b + q) % 64 ≡ q = omega arith in
      ap lane (ap₂ (λ (x y : ℕ). block_width gap * x + 2 + y + gap * (y / 8)) block own ∙ omega arith)

  pub octet-number : (k : ℕ) → k < 8 → number (data_bit gap lane 0) (64 * b + 8 * k) 8 ≡ number lane (block_width gap * b + (2 + (8 + gap) * k)) 8
  octet-number k h =
      number-ext (data_bit gap lane 0) lane (64 * b + 8 * k) (block_width gap * b + (2 + (8 + gap) * k)) 8
      (λ j q.
      let octet : (8 * k + j) / 8 ≡ k = omega arith in
      ap (data_bit gap lane 0) {x = 64 * b + 8 * k + j} {y = 64 * b + (8 * k + j)} (omega arith)
      ∙ data-at (8 * k + j) (omega arith)
      ∙ ap lane (omega (arith, add-mul 8 gap k, ap (λ (x : ℕ). gap * x) octet)))

pub block-number : (lane : ℕ → ℕ) (b : ℕ) → number (data_bit 0 lane 0) (64 * b) 64 ≡ number lane (block_width 0 * b + 2) 64
block-number lane b =
    number-ext (data_bit 0 lane 0) lane (64 * b) (block_width 0 * b + 2) 64 (λ j q. data-at 0 lane b j q ∙ ap lane (omega arith))

-- all 32 blocks laid over 256 octets are the data of the multiblock
pub octets-read : (gap : ℕ) (lane : ℕ → ℕ) (b : ℕ) (old : List ℕ) {octets : List ℕ} → b ≡ 32 → length old ≡ 256
    → octets ≡ laid (octets_of (data_bit gap lane 0) (8 * b)) old → octets ≡ data_octets gap lane 0
unfolding data_octets
octets-read gap lane b old e long so_far =
    let all = octets_of (data_bit gap lane 0) 256 in
    so_far ∙ ap (λ (x : ℕ). laid (octets_of (data_bit gap lane 0) (8 * x)) old) e ∙ laid-all all old (omega (arith, length-octets_of (data_bit gap lane 0) 256))

-- ---- writing

-- a header has two bits, and is 2 less the bit that it carries
pub header_of-lt : (bit : ℕ) → header_of bit < 4
unfolding header_of
header_of-lt bit = go (eqb bit 1)
  where
    go : (t : Bool) → pick t 1 2 < 4
    go true = lit≤ tt
    go false = lit≤ tt

pub header_of-bit : (bit : ℕ) → bit < 2 → header_of bit ≡ 2 - bit
unfolding header_of
header_of-bit bit h = bit-cases (λ (x : ℕ). pick (eqb x 1) 1 2 ≡ 2 - x) refl refl bit h

-- block b of a multiblock
module _ (gap register sync : ℕ) (octets : List ℕ) (b : ℕ) where
  abbrev lane : ℕ → ℕ
  lane = multiblock_bit gap register sync octets

  at : (o : ℕ) → o < block_width gap → lane (block_width gap * b + o) ≡ block_bit gap (digit 32 sync b) (fill_bit (register_after register (shifts * b))) (λ q. bit_at octets (64 * b + q)) o
  at = multiblock-at gap register sync octets b

  pub header-written : number (multiblock_bit gap register sync octets) (block_width gap * b) 2 ≡ header_of (digit 32 sync b)
  unfolding block_bit
  header-written =
      let wide : 2 ≤ block_width gap = unfold block_width in omega arith in
      number-two lane (block_width gap * b)
      ∙ ap₂ (λ (x y : ℕ). x * 2 + y) (ap lane (sym (add-zero (block_width gap * b))) ∙ at 0 (omega arith)) (at 1 (omega arith))
      ∙ div-add-mod' (header_of (digit 32 sync b)) 2

  -- octet k, and the gap behind it
  module _ (k : ℕ) where
    pub octet-written : k < 8 → number (multiblock_bit gap register sync octets) (block_width gap * b + (2 + (8 + gap) * k)) 8 ≡ number (bit_at octets) (64 * b + 8 * k) 8
    octet-written h =
        number-ext lane (bit_at octets) (block_width gap * b + (2 + (8 + gap) * k)) (64 * b + 8 * k) 8
        (λ j q.
        let r : (8 * k + j) / 8 ≡ k = omega arith in
        let place : 2 + (8 + gap) * k + j ≡ 2 + (8 * k + j) + gap * ((8 * k + j) / 8) = omega (arith, add-mul 8 gap k, ap (λ (x : ℕ). gap * x) r) in
        ap lane {x = block_width gap * b + (2 + (8 + gap) * k) + j} {y = block_width gap * b + (2 + (8 * k + j) + gap * ((8 * k + j) / 8))} (omega (arith, place))
        ∙ at (2 + (8 * k + j) + gap * ((8 * k + j) / 8)) (offset-lt gap (8 * k + j) (omega arith))
        ∙ block-data gap (digit 32 sync b) (fill_bit (register_after register (shifts * b))) (λ q. bit_at octets (64 * b + q)) (8 * k + j)
        ∙ ap (bit_at octets) (omega arith))

    pub gap-written : k < 7 → number (multiblock_bit gap register sync octets) (block_width gap * b + (10 + (8 + gap) * k)) gap ≡ number (fill_bit (register_after register (shifts * b))) (gap * k) gap
    gap-written h =
        number-ext lane (fill_bit (register_after register (shifts * b))) (block_width gap * b + (10 + (8 + gap) * k)) (gap * k) gap
        (λ j q.
        ap lane {x = block_width gap * b + (10 + (8 + gap) * k) + j} {y = block_width gap * b + (10 + (8 + gap) * k + j)} (omega arith)
        ∙ at (10 + (8 + gap) * k + j) (fill-lt gap k j h q)
        ∙ block-fill gap (digit 32 sync b) (fill_bit (register_after register (shifts * b))) (λ q. bit_at octets (64 * b + q)) k j q)

-- without gaps all the data of block b
pub data-written : (register sync : ℕ) (octets : List ℕ) (b : ℕ)
    → number (multiblock_bit 0 register sync octets) (block_width 0 * b + 2) 64 ≡ number (bit_at octets) (64 * b) 64
data-written register sync octets b =
    number-ext (multiblock_bit 0 register sync octets) (bit_at octets) (block_width 0 * b + 2) (64 * b) 64
    (λ j h.
    ap (multiblock_bit 0 register sync octets) {x = block_width 0 * b + 2 + j} {y = block_width 0 * b + (2 + j + 0 * (j / 8))} (omega arith)
    ∙ multiblock-at 0 register sync octets b (2 + j + 0 * (j / 8)) (offset-lt 0 j h)
    ∙ block-data 0 (digit 32 sync b) (fill_bit (register_after register (shifts * b))) (λ q. bit_at octets (64 * b + q)) j)

-- the octets of 32 words have word b where block b takes it
pub block-given : (words : List ℕ) (b : ℕ) → b < 32 → get_or words b 0 < 2 ^ 64 → get_or words b 0 ≡ number (bit_at (octets_of (word_bit words) 256)) (64 * b) 64
block-given words b h short =
    sym (number-ext (bit_at (octets_of (word_bit words) 256)) (word_bit words) (64 * b) (64 * b) 64 (λ j q. bit-octets_of (word_bit words) (word_bit-lt words) 256 (64 * b + j) (omega arith))
    ∙ number_word words b short)
