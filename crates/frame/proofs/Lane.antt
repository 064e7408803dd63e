-- What a multiblock is read as: as what was written, wherever on a lane it stands, and by its data bits and headers alone. Clauses 7.1.2,
-- 7.1.3 and 7.2.2, over any gap between the data octets of a block. Assumes nothing.
use mathlib.Core.Bool.{Bool, true, false}
use mathlib.Core.List.{List, []}
use mathlib.Core.Path.{◌≡◌, refl, sym, ap, ap₂, ◌∙◌}
use Prim.Native.Nat.{ℕ, zero, suc, ◌+◌, ◌-◌, ◌*◌, ◌/◌, ◌%◌, ◌≤◌, ◌<◌}
use native.Mathlib.Nat.{add-zero, add-mul, mul-add, mul_assoc, mul-suc, mul-le-mul_left, mul-add-div, mul-add-mod_self_left, div-eq_of_lt, div-lt_iff_lt-mul, mod-eq_of_lt, mod-lt, div-add-mod, div-add-mod'}
use native.Mathlib.Omega.{arith}
use borrow.Author.Tests.{lt-ltb, le-ltb, le-leb, lt-leb, ne_eqb}
use lib.Dec.{eqb, ltb, lit≤}
use lib.ListN.{length, get_or, take, replicate}
use Rattle.bits.specs.Choice.{pick}
use Rattle.bits.specs.Order.{bit_at, digit, number}
use Rattle.bits.proofs.Numbers.{bit_at_lt, bit-none, digit_lt, number-ext, number-zeros}
use Rattle.bits.proofs.Octets.{bit-octets_of, bit-take, octets_of-ext, octets_of-bits, octets-zeros}
use Rattle.fill.specs.Register.{register_after, shifts, still}
use Rattle.fill.specs.Table38.{fill_bit}
use Rattle.fill.proofs.Registers.{moves}
use Rattle.fill.proofs.Table38.{fill_bit-lt}
use Rattle.frame.specs.Headers.{value, header_read, carries, header_of}
use Rattle.frame.specs.Lane.{block_width, lane_octets, header_place, data_place, data_bit, fill_place, first_bit, second_bit, value_at, header_at, sync_bit, invalid_headers, data_octets, lane_read, block_bit, multiblock_bit, multiblock, fill_after, fill_bound}
use Rattle.frame.proofs.Reading.{carries-lt, invalid-le, among_same, carried}

-- ---- a place of a run of blocks: its block, and where in the block

module _ (gap : ℕ) where
  width : 66 ≤ block_width gap
  unfolding block_width
  width = omega arith

  block_of : (b o : ℕ) → o < block_width gap → (block_width gap * b + o) / block_width gap ≡ b
  block_of b o h = mul-add-div (omega (arith, width)) b o ∙ ap (λ (x : ℕ). b + x) (div-eq_of_lt h) ∙ add-zero b

  pub offset-of : (b o : ℕ) → o < block_width gap → (block_width gap * b + o) % block_width gap ≡ o
  offset-of b o h = mul-add-mod_self_left (block_width gap) b o ∙ mod-eq_of_lt h

  -- a bit of one of the 32 blocks is one of the multiblock's
  within : (b o : ℕ) → b < 32 → o < block_width gap → block_width gap * b + o < 8 * lane_octets gap
  unfolding lane_octets
  within b o hb ho = omega (arith, mul-suc (block_width gap) b, mul-le-mul_left (block_width gap) hb)

  -- a data bit stands in its block
  pub offset-lt : (r : ℕ) → r < 64 → 2 + r + gap * (r / 8) < block_width gap
  unfolding block_width
  offset-lt r h = let last : r / 8 ≤ 7 = omega arith in omega (arith, mul-le-mul_left gap last)

  -- and so does a fill bit
  pub fill-lt : (k i : ℕ) → k < 7 → i < gap → 10 + (8 + gap) * k + i < block_width gap
  unfolding block_width
  fill-lt k i h l = omega (arith, add-mul 8 gap k, mul-le-mul_left gap h, mul-suc gap k)

-- ---- what is written

pick-lt : (t : Bool) {a b n : ℕ} → a < n → b < n → pick t a b < n
pick-lt true ha hb = ha
pick-lt false ha hb = hb

block_bit-lt : (gap b : ℕ) (fill block : ℕ → ℕ) → ((j : ℕ) → fill j < 2) → ((q : ℕ) → block q < 2) → (o : ℕ) → block_bit gap b fill block o < 2
unfolding block_bit header_of
block_bit-lt gap b fill block f d zero = let short : pick (eqb b 1) 1 2 < 3 = pick-lt (eqb b 1) (omega arith) (omega arith) in omega arith
block_bit-lt gap b fill block f d (suc zero) = omega arith
block_bit-lt gap b fill block f d (suc (suc o)) =
    let k = o / (8 + gap) in
    let j = o % (8 + gap) in
    pick-lt (ltb j 8) (d (8 * k + j)) (f (gap * k + (j - 8)))

module _ (gap register sync : ℕ) (octets : List ℕ) where
  -- the fill bits and the data bits of block b
  abbrev fill_in : ℕ → ℕ → ℕ
  fill_in b = fill_bit (register_after register (shifts * b))

  abbrev block_in : ℕ → ℕ → ℕ
  block_in b q = bit_at octets (64 * b + q)

  pub multiblock_bit-lt : (x : ℕ) → multiblock_bit gap register sync octets x < 2
  unfolding multiblock_bit
  multiblock_bit-lt x =
      let b = x / block_width gap in
      block_bit-lt gap (digit 32 sync b) (fill_in b) (block_in b) (fill_bit-lt (register_after register (shifts * b))) (λ q. bit_at_lt octets (64 * b + q)) (x % block_width gap)

  -- the bits of the octets written
  pub multiblock-bits : (x : ℕ) → x < 8 * lane_octets gap → bit_at (multiblock gap register sync octets) x ≡ multiblock_bit gap register sync octets x
  unfolding multiblock
  multiblock-bits x h = bit-octets_of (multiblock_bit gap register sync octets) multiblock_bit-lt (lane_octets gap) x h

  -- bit o of block b
  pub multiblock-at : (b o : ℕ) → o < block_width gap
      → multiblock_bit gap register sync octets (block_width gap * b + o) ≡ block_bit gap (digit 32 sync b) (fill_in b) (block_in b) o
  unfolding multiblock_bit
  multiblock-at b o h =
      ap₂ (λ (x y : ℕ). block_bit gap (digit 32 sync x) (fill_in x) (block_in x) y) (block_of gap b o h) (offset-of gap b o h)

-- a place behind the header: bit j of the octet and the gap that have number k
module _ (gap b : ℕ) (fill block : ℕ → ℕ) where
  behind : (k j : ℕ) → j < 8 + gap → block_bit gap b fill block (2 + ((8 + gap) * k + j)) ≡ pick (ltb j 8) (block (8 * k + j)) (fill (gap * k + (j - 8)))
  unfolding block_bit
  behind k j h =
      let o = (8 + gap) * k + j in
      let upper : o / (8 + gap) ≡ k = mul-add-div (omega arith) k j ∙ ap (λ (x : ℕ). k + x) (div-eq_of_lt h) ∙ add-zero k in
      let lower : o % (8 + gap) ≡ j = mul-add-mod_self_left (8 + gap) k j ∙ mod-eq_of_lt h in
      ap (block_bit gap b fill block) {x = 2 + o} {y = suc (suc o)} (omega arith)
      ∙ ap₂ (λ (x y : ℕ). pick (ltb y 8) (block (8 * x + y)) (fill (gap * x + (y - 8)))) upper lower

  -- data bit r of a block
  pub block-data : (r : ℕ) → block_bit gap b fill block (2 + r + gap * (r / 8)) ≡ block r
  block-data r =
      ap (block_bit gap b fill block) {x = 2 + r + gap * (r / 8)} {y = 2 + ((8 + gap) * (r / 8) + r % 8)} (omega (arith, add-mul 8 gap (r / 8)))
      ∙ behind (r / 8) (r % 8) (omega arith)
      ∙ ap (λ (t : Bool). pick t (block (8 * (r / 8) + r % 8)) (fill (gap * (r / 8) + (r % 8 - 8)))) (lt-ltb (r % 8) 8 (omega arith))
      ∙ ap block (omega arith)

  -- bit i of the gap behind octet k
  pub block-fill : (k i : ℕ) → i < gap → block_bit gap b fill block (10 + (8 + gap) * k + i) ≡ fill (gap * k + i)
  block-fill k i h =
      ap (block_bit gap b fill block) {x = 10 + (8 + gap) * k + i} {y = 2 + ((8 + gap) * k + (8 + i))} (omega arith)
      ∙ behind k (8 + i) (omega arith)
      ∙ ap (λ (t : Bool). pick t (block (8 * k + (8 + i))) (fill (gap * k + (8 + i - 8)))) (le-ltb (8 + i) 8 (omega arith))
      ∙ ap fill (omega arith)

-- ---- what is read are bits

pub data_bit-lt : (gap : ℕ) (lane : ℕ → ℕ) → ((k : ℕ) → lane k < 2) → (m q : ℕ) → data_bit gap lane m q < 2
unfolding data_bit
data_bit-lt gap lane bits m q = bits (data_place gap m q)

pub sync_bit-lt : (gap : ℕ) (lane : ℕ → ℕ) (m t : ℕ) → sync_bit gap lane m t < 2
unfolding sync_bit
sync_bit-lt gap lane m t = carries-lt (header_at gap lane m t)

-- a header is what its value reads as
pub header-by-value : (gap : ℕ) (lane : ℕ → ℕ) (m t v : ℕ) → value_at gap lane m t ≡ v → header_at gap lane m t ≡ header_read v
unfolding header_at
header-by-value gap lane m t v e = ap header_read e

-- no more headers are invalid than there are
pub invalid-at-le : (gap : ℕ) (lane : ℕ → ℕ) (m : ℕ) → invalid_headers gap lane m ≤ 32
unfolding invalid_headers
invalid-at-le gap lane m = invalid-le (header_at gap lane m)

-- ---- what was written reads back

header-halves : (h : ℕ) → value (h / 2) (h % 2) ≡ h
unfolding value
header-halves h = div-add-mod' h 2

-- a lane that begins with a multiblock
module _ (gap register sync : ℕ) (octets : List ℕ) (lane : ℕ → ℕ) (begins : (x : ℕ) → x < 8 * lane_octets gap → lane x ≡ multiblock_bit gap register sync octets x) where
  start : (t : ℕ) → block_width gap * (32 * 0 + t) ≡ block_width gap * t
  start t = ap (λ (x : ℕ). block_width gap * x) (omega arith)

  lane-at : (b o : ℕ) → b < 32 → o < block_width gap
      → lane (block_width gap * b + o) ≡ block_bit gap (digit 32 sync b) (fill_bit (register_after register (shifts * b))) (λ q. bit_at octets (64 * b + q)) o
  lane-at b o hb ho = begins (block_width gap * b + o) (within gap b o hb ho) ∙ multiblock-at gap register sync octets b o ho

  pub data-back : (q : ℕ) → q < 2048 → data_bit gap lane 0 q ≡ bit_at octets q
  unfolding data_bit data_place header_place
  data-back q h =
      let b = q / 64 in
      let r = q % 64 in
      ap lane {x = block_width gap * (32 * 0 + b) + 2 + r + gap * (r / 8)} {y = block_width gap * b + (2 + r + gap * (r / 8))} (omega (arith, start b))
      ∙ lane-at b (2 + r + gap * (r / 8)) (omega arith) (offset-lt gap r (omega arith))
      ∙ block-data gap (digit 32 sync b) (fill_bit (register_after register (shifts * b))) (λ q. bit_at octets (64 * b + q)) r
      ∙ ap (bit_at octets) (omega arith)

  pub value-back : (t : ℕ) → t < 32 → value_at gap lane 0 t ≡ header_of (digit 32 sync t)
  unfolding value_at first_bit second_bit header_place block_bit
  value-back t h =
      let first : lane (block_width gap * (32 * 0 + t)) ≡ header_of (digit 32 sync t) / 2 = ap lane (omega (arith, start t)) ∙ lane-at t 0 h (omega (arith, width gap)) in
      let second : lane (block_width gap * (32 * 0 + t) + 1) ≡ header_of (digit 32 sync t) % 2 = ap lane (omega (arith, start t)) ∙ lane-at t 1 h (omega (arith, width gap)) in
      ap₂ value first second ∙ header-halves (header_of (digit 32 sync t))

  pub sync-back : (t : ℕ) → t < 32 → sync_bit gap lane 0 t ≡ digit 32 sync t
  unfolding sync_bit header_at
  sync-back t h = ap (λ (v : ℕ). carries (header_read v)) (value-back t h) ∙ carried (digit 32 sync t) (digit_lt 32 sync t)

  pub fill-back : (t j : ℕ) → t < 32 → j < 7 * gap → lane (fill_place gap 0 t j) ≡ fill_bit (register_after register (shifts * t)) j
  unfolding fill_place header_place
  fill-back t j ht hj =
      let some : 0 < gap = omega arith in
      let k = j / gap in
      let i = j % gap in
      let short : i < gap = mod-lt j some in
      let last : k < 7 = (div-lt_iff_lt-mul some).1 hj in
      ap lane {x = block_width gap * (32 * 0 + t) + 10 + (8 + gap) * k + i} {y = block_width gap * t + (10 + (8 + gap) * k + i)} (omega (arith, start t))
      ∙ lane-at t (10 + (8 + gap) * k + i) ht (fill-lt gap k i last short)
      ∙ block-fill gap (digit 32 sync t) (fill_bit (register_after register (shifts * t))) (λ q. bit_at octets (64 * t + q)) k i short
      ∙ ap (fill_bit (register_after register (shifts * t))) (div-add-mod j gap)

  pub octets-back : ((j : ℕ) → j < 256 → get_or octets j 0 < 256) → 256 ≤ length octets → data_octets gap lane 0 ≡ take 256 octets
  unfolding data_octets
  octets-back octet-lt h = octets_of-ext (data_bit gap lane 0) (bit_at octets) 256 (λ q l. data-back q (omega arith)) ∙ octets_of-bits octets 256 octet-lt h

-- ---- multiblock m is multiblock 0 of the lane from there on

-- the lane from multiblock m on
abbrev pub lane_from : ℕ → (ℕ → ℕ) → ℕ → ℕ → ℕ
lane_from gap lane m x = lane (8 * lane_octets gap * m + x)

module _ (gap : ℕ) (lane : ℕ → ℕ) (m : ℕ) where
  header-moved : (t : ℕ) → header_place gap m t ≡ 8 * lane_octets gap * m + header_place gap 0 t
  unfolding header_place lane_octets
  header-moved t =
      let w = block_width gap in
      omega (arith, mul-add w (32 * m) t, mul_assoc w 32 m, mul-add w (32 * 0) t, mul_assoc w 32 0, mul_assoc 8 (4 * w) m)

  pub data-moved : (q : ℕ) → data_bit gap lane m q ≡ data_bit gap (lane_from gap lane m) 0 q
  unfolding data_bit data_place
  data-moved q = ap lane (omega (arith, header-moved (q / 64)))

  pub value-moved : (t : ℕ) → value_at gap lane m t ≡ value_at gap (lane_from gap lane m) 0 t
  unfolding value_at first_bit second_bit
  value-moved t = ap₂ (λ (x y : ℕ). value (lane x) (lane y)) (header-moved t) (omega (arith, header-moved t))

  pub header-at-moved : (t : ℕ) → header_at gap lane m t ≡ header_at gap (lane_from gap lane m) 0 t
  unfolding header_at
  header-at-moved t = ap header_read (value-moved t)

  pub sync-moved : (t : ℕ) → sync_bit gap lane m t ≡ sync_bit gap (lane_from gap lane m) 0 t
  unfolding sync_bit
  sync-moved t = ap carries (header-at-moved t)

  pub invalid-moved : invalid_headers gap lane m ≡ invalid_headers gap (lane_from gap lane m) 0
  unfolding invalid_headers
  invalid-moved = among_same (header_at gap lane m) (header_at gap (lane_from gap lane m) 0) (λ t h. header-at-moved t)

  pub fill-moved-on : (t j : ℕ) → lane (fill_place gap m t j) ≡ lane_from gap lane m (fill_place gap 0 t j)
  unfolding fill_place
  fill-moved-on t j = ap lane (omega (arith, header-moved t))

  pub octets-moved : data_octets gap lane m ≡ data_octets gap (lane_from gap lane m) 0
  unfolding data_octets
  octets-moved = octets_of-ext (data_bit gap lane m) (data_bit gap (lane_from gap lane m) 0) 256 (λ q h. data-moved q)

-- ---- only data bits and headers count

module _ (gap : ℕ) (f g : ℕ → ℕ) (m : ℕ) where
  pub same-octets : ((q : ℕ) → q < 2048 → data_bit gap f m q ≡ data_bit gap g m q) → data_octets gap f m ≡ data_octets gap g m
  unfolding data_octets
  same-octets h = octets_of-ext (data_bit gap f m) (data_bit gap g m) 256 (λ q l. h q (omega arith))

  pub same-sync : (t : ℕ) → header_at gap f m t ≡ header_at gap g m t → sync_bit gap f m t ≡ sync_bit gap g m t
  unfolding sync_bit
  same-sync t e = ap carries e

  pub same-invalid : ((t : ℕ) → t < 32 → header_at gap f m t ≡ header_at gap g m t) → invalid_headers gap f m ≡ invalid_headers gap g m
  unfolding invalid_headers
  same-invalid e = among_same (header_at gap f m) (header_at gap g m) e

-- ---- without gaps a multiblock has no fill bits

gapless : (sync : ℕ) (fill other block : ℕ → ℕ) (o : ℕ) → block_bit 0 sync fill block o ≡ block_bit 0 sync other block o
unfolding block_bit
gapless sync fill other block zero = refl
gapless sync fill other block (suc zero) = refl
gapless sync fill other block (suc (suc o)) =
    let octet : ltb (o % 8) 8 ≡ true = lt-ltb (o % 8) 8 (omega arith) in
    ap (λ (t : Bool). pick t (block (8 * (o / 8) + o % 8)) (fill (0 * (o / 8) + (o % 8 - 8)))) octet
    ∙ sym (ap (λ (t : Bool). pick t (block (8 * (o / 8) + o % 8)) (other (0 * (o / 8) + (o % 8 - 8)))) octet)

pub no-fill : (register other sync : ℕ) (octets : List ℕ) → multiblock 0 register sync octets ≡ multiblock 0 other sync octets
unfolding multiblock multiblock_bit
no-fill register other sync octets =
    octets_of-ext (multiblock_bit 0 register sync octets) (multiblock_bit 0 other sync octets) (lane_octets 0)
    (λ x h. gapless (digit 32 sync (x / block_width 0)) _ _ (λ q. bit_at octets (64 * (x / block_width 0) + q)) (x % block_width 0))

-- the register moves on with blocks that have gaps, and with no others
pub fill-kept : (register : ℕ) → fill_after 0 register ≡ register
unfolding fill_after
fill-kept register = refl

pub fill-moved : (gap register : ℕ) → (gap ≡ 0 → ⊥) → fill_after gap register ≡ register_after register (shifts * 32)
unfolding fill_after
fill-moved gap register n = ap (λ (t : Bool). pick t register (register_after register (shifts * 32))) (ne_eqb gap 0 n)

-- a register that a sender may have leaves one that it may have
pub fill-fits : (gap register : ℕ) → register < fill_bound gap → fill_after gap register < fill_bound gap
unfolding fill_after
fill-fits gap register = by (eqb gap 0)
  where
    by : (t : Bool) → register < pick t 1 still → pick t register (register_after register (shifts * 32)) < pick t 1 still
    by true h = h
    by false h = moves register (shifts * 32) h

pub fill-bound : (gap : ℕ) → (gap ≡ 0 → ⊥) → fill_bound gap ≡ still
fill-bound gap n = ap (λ (t : Bool). pick t 1 still) (ne_eqb gap 0 n)

-- fresh is 0
pub fill-some : (gap : ℕ) → 0 < fill_bound gap
fill-some gap = by (eqb gap 0)
  where
    by : (t : Bool) → 0 < pick t 1 still
    by true = lit≤ tt
    by false = lit≤ tt

-- ---- a lane that is cut off behind its first multiblock reads the same

module _ (gap : ℕ) (lane : List ℕ) (n : ℕ) (long : lane_octets gap ≤ n) where
  own-bit : (b o : ℕ) → b < 32 → o < block_width gap → bit_at (take n lane) (block_width gap * (32 * 0 + b) + o) ≡ bit_at lane (block_width gap * (32 * 0 + b) + o)
  own-bit b o hb ho =
      let start : block_width gap * (32 * 0 + b) ≡ block_width gap * b = ap (λ (x : ℕ). block_width gap * x) (omega arith) in
      bit-take n lane (block_width gap * (32 * 0 + b) + o) (omega (arith, start, within gap b o hb ho, long))

  own-octets : data_octets gap (bit_at (take n lane)) 0 ≡ data_octets gap (bit_at lane) 0
  own-octets = same-octets gap (bit_at (take n lane)) (bit_at lane) 0 own-data
    where
      place : (q : ℕ) → data_place gap 0 q ≡ block_width gap * (32 * 0 + q / 64) + (2 + q % 64 + gap * (q % 64 / 8))
      place q = unfold data_place header_place in omega arith

      own-data : (q : ℕ) → q < 2048 → data_bit gap (bit_at (take n lane)) 0 q ≡ data_bit gap (bit_at lane) 0 q
      own-data q h =
          unfold data_bit in
          (ap (bit_at (take n lane)) (place q)
          ∙ own-bit (q / 64) (2 + q % 64 + gap * (q % 64 / 8)) (omega arith) (offset-lt gap (q % 64) (omega arith))
          ∙ ap (bit_at lane) (sym (place q)))

  own-firsts : number (first_bit gap (bit_at (take n lane)) 0) 0 32 ≡ number (first_bit gap (bit_at lane) 0) 0 32
  unfolding first_bit header_place
  own-firsts =
      number-ext (first_bit gap (bit_at (take n lane)) 0) (first_bit gap (bit_at lane) 0) 0 0 32
      (λ j q. ap (bit_at (take n lane)) (sym (add-zero _)) ∙ own-bit (0 + j) 0 (omega arith) (omega (arith, width gap)) ∙ ap (bit_at lane) (add-zero _))

  own-seconds : number (second_bit gap (bit_at (take n lane)) 0) 0 32 ≡ number (second_bit gap (bit_at lane) 0) 0 32
  unfolding second_bit header_place
  own-seconds =
      number-ext (second_bit gap (bit_at (take n lane)) 0) (second_bit gap (bit_at lane) 0) 0 0 32
      (λ j q. own-bit (0 + j) 1 (omega arith) (omega (arith, width gap)))

-- ---- the lane that a multiblock is read from

pub read_whole : (gap : ℕ) (lane : List ℕ) → lane_octets gap ≤ length lane → lane_read gap lane ≡ bit_at lane
unfolding lane_read
read_whole gap lane h = ap (λ (t : Bool). bit_at (pick t lane [])) (le-leb (lane_octets gap) (length lane) h)

-- its multiblock is that of its first octets, as many as a multiblock has or more
module _ (gap n : ℕ) (lane own : List ℕ) (long : lane_octets gap ≤ n) (fits : n ≤ length lane) (is : own ≡ take n lane) where
  whole : lane_read gap lane ≡ bit_at lane
  whole = read_whole gap lane (omega (arith, long, fits))

  pub read-octets : data_octets gap (bit_at own) 0 ≡ data_octets gap (lane_read gap lane) 0
  read-octets = rw whole (rw is (own-octets gap lane n long))

  pub read-firsts : number (first_bit gap (bit_at own) 0) 0 32 ≡ number (first_bit gap (lane_read gap lane) 0) 0 32
  read-firsts = rw whole (rw is (own-firsts gap lane n long))

  pub read-seconds : number (second_bit gap (bit_at own) 0) 0 32 ≡ number (second_bit gap (lane_read gap lane) 0) 0 32
  read-seconds = rw whole (rw is (own-seconds gap lane n long))

-- of one that is too short all bits are 0
module _ (gap : ℕ) (lane : List ℕ) (short : length lane < lane_octets gap) where
  none_read : (x : ℕ) → lane_read gap lane x ≡ 0
  unfolding lane_read
  none_read x = ap (λ (t : Bool). bit_at (pick t lane []) x) (lt-leb (lane_octets gap) (length lane) short) ∙ bit-none x

  pub no-octets : replicate 256 0 ≡ data_octets gap (lane_read gap lane) 0
  unfolding data_octets data_bit
  no-octets = sym (octets-zeros (data_bit gap (lane_read gap lane) 0) (λ q. none_read (data_place gap 0 q)) 256)

  pub no-firsts : 0 ≡ number (first_bit gap (lane_read gap lane) 0) 0 32
  unfolding first_bit
  no-firsts = sym (number-zeros (first_bit gap (lane_read gap lane) 0) (λ t. none_read (header_place gap 0 t)) 0 32)

  pub no-seconds : 0 ≡ number (second_bit gap (lane_read gap lane) 0) 0 32
  unfolding second_bit
  no-seconds = sym (number-zeros (second_bit gap (lane_read gap lane) 0) (λ t. none_read (header_place gap 0 t + 1)) 0 32)
