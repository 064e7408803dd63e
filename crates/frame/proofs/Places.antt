-- Where bits stand on a lane, as a number and a multiple of the gap, so that distances are sums; and what is read there: clauses 7.1.2 and
-- 7.1.3. Assumes nothing.
use mathlib.Core.Path.{◌≡◌, refl, ap, ap₂, ◌∙◌}
use mathlib.Core.Bool.{Bool, true, false, ◌&&◌}
use Prim.Native.Nat.{ℕ, ◌+◌, ◌-◌, ◌*◌, ◌/◌, ◌%◌, ◌≤◌, ◌<◌}
use native.Mathlib.Nat.{add-mul, mul-add, mul_assoc, mul_comm, mul-le-mul_left, mul-add-mod_self_left, mod-eq_of_lt}
use native.Mathlib.Omega.{arith}
use borrow.Author.Tests.{le-leb, lt-leb}
use lib.Dec.{leb}
use Rattle.bits.specs.Order.{bit_at}
use Rattle.bits.proofs.Octets.{bit-octets_of}
use Rattle.frame.specs.Headers.{value, header_read}
use Rattle.frame.specs.Lane.{block_width, lane_octets, header_place, data_place, in_gap, data_bit, first_bit, second_bit, value_at, header_at, data_octets}
use Rattle.frame.proofs.Lane.{offset-of, offset-lt, data_bit-lt}

blocks : (gap t : ℕ) → block_width gap * t ≡ 66 * t + gap * (7 * t)
unfolding block_width
blocks gap t = add-mul 66 (7 * gap) t ∙ ap (λ (x : ℕ). 66 * t + x) (ap (λ (x : ℕ). x * t) (mul_comm 7 gap) ∙ mul_assoc gap 7 t)

pub header-form : (gap m t : ℕ) → header_place gap m t ≡ 66 * (32 * m + t) + gap * (7 * (32 * m + t))
unfolding header_place
header-form gap m t = blocks gap (32 * m + t)

pub data-form : (gap m q : ℕ) → data_place gap m q ≡ 66 * (32 * m + q / 64) + 2 + q % 64 + gap * (7 * (32 * m + q / 64) + q % 64 / 8)
unfolding data_place
data-form gap m q =
    let a = header-form gap m (q / 64) in
    let b = mul-add gap (7 * (32 * m + q / 64)) (q % 64 / 8) in
    omega arith

-- where multiblock m begins
pub start-form : (gap m : ℕ) → 8 * lane_octets gap * m ≡ 66 * (32 * m) + gap * (7 * (32 * m))
unfolding lane_octets
start-form gap m =
    let a = blocks gap (32 * m) in
    let b = mul_assoc 32 (block_width gap) m in
    let c = mul_assoc (block_width gap) 32 m in
    let d = ap (λ (x : ℕ). x * m) (mul_comm (block_width gap) 32) in
    omega arith

-- ---- what stands in a gap: the fill bits, no header and no data bit

module _ (gap : ℕ) where
  in_block : (b o : ℕ) → o < block_width gap → in_gap gap (block_width gap * b + o) ≡ (leb 2 o && leb 8 ((o - 2) % (8 + gap)))
  unfolding in_gap
  in_block b o h = ap (λ (x : ℕ). leb 2 x && leb 8 ((x - 2) % (8 + gap))) (offset-of gap b o h)

  -- behind the header: bit j of the octet and the gap that have number k
  behind : (b k j : ℕ) → j < 8 + gap → 2 + ((8 + gap) * k + j) < block_width gap → in_gap gap (block_width gap * b + (2 + ((8 + gap) * k + j))) ≡ leb 8 j
  behind b k j h l =
      let o = (8 + gap) * k + j in
      in_block b (2 + o) l
      ∙ ap₂ (λ (t : Bool) (x : ℕ). t && leb 8 x) (le-leb 2 (2 + o) (omega arith))
      (ap (λ (x : ℕ). x % (8 + gap)) {x = 2 + o - 2} {y = o} (omega arith) ∙ mul-add-mod_self_left (8 + gap) k j ∙ mod-eq_of_lt h)

  pub header-in-none : (m t : ℕ) → in_gap gap (header_place gap m t) ≡ false
  unfolding header_place block_width
  header-in-none m t = ap (in_gap gap) (omega arith) ∙ in_block (32 * m + t) 0 (omega arith)

  pub second-in-none : (m t : ℕ) → in_gap gap (header_place gap m t + 1) ≡ false
  unfolding header_place block_width
  second-in-none m t = in_block (32 * m + t) 1 (omega arith)

  pub data-in-none : (m q : ℕ) → in_gap gap (data_place gap m q) ≡ false
  unfolding data_place header_place
  data-in-none m q =
      let r = q % 64 in
      let form : 2 + r + gap * (r / 8) ≡ 2 + ((8 + gap) * (r / 8) + r % 8) = omega (arith, add-mul 8 gap (r / 8)) in
      ap (in_gap gap) (omega (arith, form))
      ∙ behind (32 * m + q / 64) (r / 8) (r % 8) (omega arith) (omega (arith, form, offset-lt gap r (omega arith)))
      ∙ lt-leb 8 (r % 8) (omega arith)

  -- bit i of the gap behind octet k
  pub fill-in-gap : (m t k i : ℕ) → k < 7 → i < gap → in_gap gap (header_place gap m t + (10 + (8 + gap) * k + i)) ≡ true
  unfolding header_place block_width
  fill-in-gap m t k i hk hi =
      let last : (8 + gap) * k ≤ (8 + gap) * 6 = mul-le-mul_left (8 + gap) (omega arith) in
      ap (in_gap gap) (omega arith)
      ∙ behind (32 * m + t) k (8 + i) (omega arith) (omega (arith, last))
      ∙ le-leb 8 (8 + i) (omega arith)

-- ---- what is read there

pub data_is : (gap : ℕ) (lane : ℕ → ℕ) (m q : ℕ) → data_bit gap lane m q ≡ lane (data_place gap m q)
unfolding data_bit
data_is gap lane m q = refl

pub data-octets-bit : (gap : ℕ) (lane : ℕ → ℕ) → ((k : ℕ) → lane k < 2) → (m q : ℕ) → q < 2048 → bit_at (data_octets gap lane m) q ≡ data_bit gap lane m q
unfolding data_octets
data-octets-bit gap lane bits m q h = bit-octets_of (data_bit gap lane m) (data_bit-lt gap lane bits m) 256 q (omega arith)

-- lanes that agree in the two bits of a header have the same header there
pub header-same : (gap : ℕ) (f g : ℕ → ℕ) (m t : ℕ) → f (header_place gap m t) ≡ g (header_place gap m t) → f (header_place gap m t + 1) ≡ g (header_place gap m t + 1)
    → header_at gap f m t ≡ header_at gap g m t
unfolding header_at value_at first_bit second_bit
header-same gap f g m t first second = ap₂ (λ (a b : ℕ). header_read (value a b)) first second
