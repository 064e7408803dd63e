-- Where the positions of a group's codeword stand on a lane: further apart there than in the codeword, and all within two multiblocks. Over any gap
-- and any layout whose parity bits stand behind their group, in order. Assumes nothing.
use mathlib.Core.Path.{◌≡◌, sym, ◌∙◌}
use Prim.Native.Nat.{ℕ, suc, ◌+◌, ◌-◌, ◌*◌, ◌/◌, ◌%◌, ◌<◌, ◌≤◌}
use native.Mathlib.Nat.{mul-add, mul-suc, mul-one, mul_assoc, mul-le-mul_left}
use native.Mathlib.Omega.{arith}
use Rattle.parity.specs.Codeword.{Code, data_bits}
use Rattle.frame.specs.declared.modes.Row.{Row}
use Rattle.frame.specs.Modes.{code}
use Rattle.frame.specs.Lane.{lane_octets, header_place, data_place}
use Rattle.frame.proofs.Rows.{all-grouped, blocks-some}
use Rattle.frame.proofs.Groups.{group_place, all-ordered, places-between}
use Rattle.frame.proofs.Places.{header-form, data-form, start-form}

-- a place as a number and a multiple of the gap
abbrev header_base : ℕ → ℕ → ℕ
header_base m t = 66 * (32 * m + t)

abbrev gaps : ℕ → ℕ → ℕ
gaps m t = 7 * (32 * m + t)

abbrev data_base : ℕ → ℕ → ℕ
data_base m q = header_base m (q / 64) + 2 + q % 64

abbrev data_gaps : ℕ → ℕ → ℕ
data_gaps m q = gaps m (q / 64) + q % 64 / 8

far : (g a b c e d x y : ℕ) → x ≤ a + g * b → c + g * e ≤ y → a + d ≤ c → b ≤ e → x + d ≤ y
far g a b c e d x y hx hy h k = let m : g * b ≤ g * e = mul-le-mul_left g k in omega arith

near : (g a b c e x y : ℕ) → a + g * b ≤ x → y ≤ c + g * e → c ≤ a + 4223 → e ≤ b + 448 → y ≤ x + 16 * lane_octets g
near g a b c e x y hx hy h k =
    let z = start-form g 2 in
    let m : g * e ≤ g * (b + 448) = mul-le-mul_left g k in
    let n : g * (b + 448) ≡ g * b + g * 448 = mul-add g b 448 in
    omega arith

-- what a multiblock has stands before the next one
pub data-inside : (g m q : ℕ) → q < 2048 → data_place g m q < 8 * lane_octets g * suc m
data-inside g m q h =
    let e = start-form g (suc m) in
    let z = far g (data_base m q) (data_gaps m q) (header_base (suc m) 0) (gaps (suc m) 0) 1 (data_place g m q) (8 * lane_octets g * suc m)
    (omega (arith, data-form g m q)) (omega arith) (omega arith) (omega arith) in omega arith

pub data-from-start : (g m q : ℕ) → 8 * lane_octets g * m ≤ data_place g m q
data-from-start g m q =
    let e = start-form g m in
    let z = far g (header_base m 0) (gaps m 0) (data_base m q) (data_gaps m q) 0 (8 * lane_octets g * m) (data_place g m q)
    (omega arith) (omega (arith, data-form g m q)) (omega arith) (omega arith) in omega arith

pub header-inside : (g m t : ℕ) → t < 32 → header_place g m t + 1 < 8 * lane_octets g * suc m
header-inside g m t h =
    let e = start-form g (suc m) in
    let z = far g (header_base m t + 1) (gaps m t) (header_base (suc m) 0) (gaps (suc m) 0) 1 (header_place g m t + 1) (8 * lane_octets g * suc m)
    (omega (arith, header-form g m t)) (omega arith) (omega arith) (omega arith) in omega arith

pub header-from-start : (g m t : ℕ) → 8 * lane_octets g * m ≤ header_place g m t
header-from-start g m t =
    let e = start-form g m in
    let z = far g (header_base m 0) (gaps m 0) (header_base m t) (gaps m t) 0 (8 * lane_octets g * m) (header_place g m t)
    (omega arith) (omega (arith, header-form g m t)) (omega arith) (omega arith) in omega arith

-- bit x of the lane has a part in position c of the codeword of group g of multiblock i
pub data At (R : Row) (i g c x : ℕ) : Type 0 where
  in-data : c < data_bits (code R.sync) → x ≡ data_place R.gap i (data_bits (code R.sync) * g + c) → At R i g c x
  in_head : (r : ℕ) → c ≡ data_bits (code R.sync) + r → r < (code R.sync).width → header_place R.gap i (group_place R.sync g r) ≤ x → x ≤ header_place R.gap i (group_place R.sync g r) + 1 → At R i g c x

module _ (R : Row) (i g : ℕ) (l : g < (code R.sync).groups) where
  abbrev C : Code
  C = code R.sync

  -- the blocks up to the group's end, and where its data begin
  abbrev upto : ℕ
  upto = C.blocks * suc g

  abbrev from : ℕ
  from = data_bits C * g

  end_is : from + data_bits C ≡ 64 * upto
  end_is = sym (mul-suc (data_bits C) g) ∙ mul_assoc 64 C.blocks (suc g)

  some-groups : 0 < C.groups
  some-groups = omega arith

  inside : 64 * upto ≤ 2048
  inside =
      let z : data_bits C * suc g ≤ data_bits C * C.groups = mul-le-mul_left (data_bits C) l in
      omega (arith, all-grouped R.sync some-groups, mul-suc (data_bits C) g, end_is)

  begun : 1 ≤ upto
  begun =
      let h : 1 ≤ suc g = omega arith in
      let z : C.blocks * 1 ≤ C.blocks * suc g = mul-le-mul_left C.blocks h in
      omega (arith, blocks-some R.sync some-groups, mul-one C.blocks)

  behind : (r : ℕ) → r < C.width → upto + r ≤ group_place R.sync g r
  behind r h = (all-ordered R.sync).behind g r l h

  before-64 : (r : ℕ) → r < C.width → group_place R.sync g r < 64
  before-64 r h = (all-ordered R.sync).inside g r l h

  -- further apart in the lane than in the codeword
  pub expanding : (c d x y : ℕ) → c < d → At R i g c x → At R i g d y → x + (d - c) ≤ y
  expanding c d x y h (in-data hc ex) (in-data hd ey) =
      let k = R.gap in
      far k (data_base i (from + c)) (data_gaps i (from + c)) (data_base i (from + d)) (data_gaps i (from + d)) (d - c) x y
      (omega (arith, data-form k i (from + c))) (omega (arith, data-form k i (from + d))) (omega arith) (omega arith)
  expanding c d x y h (in-data hc ex) (in_head r ed hr lo hi) =
      let k = R.gap in
      let t = group_place R.sync g r in
      let b : upto + r ≤ t = behind r hr in
      far k (data_base i (from + c)) (data_gaps i (from + c)) (header_base i t) (gaps i t) (d - c) x y
      (omega (arith, data-form k i (from + c))) (omega (arith, header-form k i t)) (omega (arith, end_is)) (omega (arith, end_is))
  expanding c d x y h (in_head r ec hr lo hi) (in-data hd ey) = absurd (omega arith)
  expanding c d x y h (in_head r ec hr lo hi) (in_head s ed hs lo2 hi2) =
      let k = R.gap in
      let t = group_place R.sync g r in
      let u = group_place R.sync g s in
      let a : t + (s - r) ≤ u = places-between R.sync g l r s (omega arith) hs in
      far k (header_base i t + 1) (gaps i t) (header_base i u) (gaps i u) (d - c) x y
      (omega (arith, header-form k i t)) (omega (arith, header-form k i u)) (omega arith) (omega arith)

  first-place : (c x : ℕ) → At R i g c x → header_base i 0 + 2 + R.gap * (gaps i 0) ≤ x
  first-place c x (in-data hc ex) =
      let k = R.gap in
      let z = far k (header_base i 0 + 2) (gaps i 0) (data_base i (from + c)) (data_gaps i (from + c)) 0 (header_base i 0 + 2 + k * (gaps i 0)) x
      (omega arith) (omega (arith, data-form k i (from + c))) (omega arith) (omega arith) in omega arith
  first-place c x (in_head r ec hr lo hi) =
      let k = R.gap in
      let t = group_place R.sync g r in
      let b : upto + r ≤ t = behind r hr in
      let z = far k (header_base i 0 + 2) (gaps i 0) (header_base i t) (gaps i t) 0 (header_base i 0 + 2 + k * (gaps i 0)) x
      (omega arith) (omega (arith, header-form k i t)) (omega (arith, begun)) (omega arith) in omega arith

  last-place : (c x : ℕ) → At R i g c x → x ≤ header_base (suc i) 31 + 1 + R.gap * (gaps (suc i) 31)
  last-place c x (in-data hc ex) =
      let k = R.gap in
      let z = far k (data_base i (from + c)) (data_gaps i (from + c)) (header_base (suc i) 31 + 1) (gaps (suc i) 31) 0 x (header_base (suc i) 31 + 1 + k * (gaps (suc i) 31))
      (omega (arith, data-form k i (from + c))) (omega arith) (omega (arith, end_is, inside)) (omega (arith, end_is, inside)) in omega arith
  last-place c x (in_head r ec hr lo hi) =
      let k = R.gap in
      let t = group_place R.sync g r in
      let s : t < 64 = before-64 r hr in
      let z = far k (header_base i t + 1) (gaps i t) (header_base (suc i) 31 + 1) (gaps (suc i) 31) 0 x (header_base (suc i) 31 + 1 + k * (gaps (suc i) 31))
      (omega (arith, header-form k i t)) (omega arith) (omega arith) (omega arith) in omega arith

  -- within two multiblocks
  pub spans : (c d x y : ℕ) → At R i g c x → At R i g d y → y ≤ x + 16 * lane_octets R.gap
  spans c d x y p q =
      near R.gap (header_base i 0 + 2) (gaps i 0) (header_base (suc i) 31 + 1) (gaps (suc i) 31) x y (first-place c x p) (last-place d y q) (omega arith) (omega arith)

  -- on the lane, if the next multiblock is
  pub on-lane : (n c x : ℕ) → suc i < n → At R i g c x → x < 8 * lane_octets R.gap * n
  on-lane n c x h p =
      let k = R.gap in
      let e = start-form k n in
      let z = far k (header_base (suc i) 31 + 1) (gaps (suc i) 31) (header_base n 0) (gaps n 0) 1 x (header_base n 0 + k * gaps n 0)
      (last-place c x p) (omega arith) (omega arith) (omega arith) in omega arith

  -- not before its multiblock, and not past the next
  pub from_start : (c x : ℕ) → At R i g c x → 8 * lane_octets R.gap * i ≤ x
  from_start c x p = let e = start-form R.gap i in let z = first-place c x p in omega arith
