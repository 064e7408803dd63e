-- The parity of a multiblock: numbers of w bits joined in one, cut again and added, once over the width; and what it is with one group.
-- Clauses 7.4.2, 7.4.3 and 7.5.2; request 5. Assumes nothing.
use mathlib.Core.Path.{◌≡◌, refl, sym, ap, ap₂, ◌∙◌, subst}
use mathlib.Core.List.{List}
use Prim.Native.Nat.{ℕ, zero, suc, ◌+◌, ◌*◌, ◌/◌, ◌%◌, ◌^◌, ◌≤◌, ◌<◌}
use native.Mathlib.Nat.{zero-mul, zero-add, mul-zero, mul-suc, mul-le-mul_left, le_trans, lt_of_lt_of_le, mod-eq_of_lt, zero-mod, zero-div, not-suc-le-zero}
use native.Mathlib.Numerals.{add-one}
use native.Mathlib.Decide.{ℕ_discrete}
use native.Mathlib.Omega.{arith}
use lib.Arith.{digits_lt, digits_div, digits_mod}
use lib.Bits.{bit_xor, xor_block}
use lib.ListN.{length}
use lib.Pow.{pow_pos, pow-add, pow_mono}
use Rattle.bits.specs.Order.{bit_at, bits_of, list_from, number}
use Rattle.bits.proofs.Lists.{list_ext}
use Rattle.bits.proofs.Numbers.{number-split, number-none}
use Rattle.polynomial.specs.Remainder.{remainder, remainder_from}
use Rattle.polynomial.proofs.Remainder.{from_zero, remainder-lt}
use Rattle.parity.specs.Codeword.{Code, parity_of, data_bits, group_parity, joined, multiblock_parity}

inside : (d g j n : ℕ) → g < n → j < d → d * g + j < d * n
inside d g j n l m = let z : d * suc g ≤ d * n = mul-le-mul_left d l in omega (arith, mul-suc d g)

-- ---- numbers joined

module _ (w : ℕ) where
  pub joined-ext : (f h : ℕ → ℕ) (n : ℕ) → ((g : ℕ) → g < n → f g ≡ h g) → joined w f n ≡ joined w h n
  unfolding joined
  joined-ext f h zero e = refl
  joined-ext f h (suc n) e = ap₂ (λ (x y : ℕ). x * 2 ^ w + y) (joined-ext f h n (λ g l. e g (omega arith))) (e n (omega arith))

  -- one number is itself, and none is 0
  pub joined-none : (f : ℕ → ℕ) → joined w f 0 ≡ 0
  unfolding joined
  joined-none f = refl

  pub joined-one : (f : ℕ → ℕ) → joined w f 1 ≡ f 0
  unfolding joined
  joined-one f = ap (λ (x : ℕ). x + f 0) (zero-mul (2 ^ w)) ∙ zero-add (f 0)

  module _ (f : ℕ → ℕ) (small : (g : ℕ) → f g < 2 ^ w) where
    pub joined-lt : (n : ℕ) → joined w f n < 2 ^ (w * n)
    unfolding joined
    joined-lt zero = subst (λ (x : ℕ). 0 < 2 ^ x) (sym (mul-zero w)) (pow_pos 0)
    joined-lt (suc n) =
        subst (λ (x : ℕ). joined w f n * 2 ^ w + f n < x) (sym (ap (λ (x : ℕ). 2 ^ x) (mul-suc w n) ∙ pow-add 2 (w * n) w))
        (digits_lt (joined-lt n) (small n))

    -- the last is the lowest
    pub joined-last : (n : ℕ) → joined w f (suc n) % 2 ^ w ≡ f n
    unfolding joined
    joined-last n = digits_mod (joined w f n) (small n)

    pub joined-others : (n : ℕ) → joined w f (suc n) / 2 ^ w ≡ joined w f n
    unfolding joined
    joined-others n = digits_div (joined w f n) (small n)

    -- 0 only if each is
    pub joined-zero : (n : ℕ) → joined w f n ≡ 0 → (g : ℕ) → g < n → f g ≡ 0
    joined-zero zero e g l = absurd (not-suc-le-zero l)
    joined-zero (suc n) e g l =
        by (joined-zero n (sym (joined-others n) ∙ ap (λ (x : ℕ). x / 2 ^ w) e ∙ zero-div (2 ^ w)) g) (ℕ_discrete g n)
      where
        by : (g < n → f g ≡ 0) → Dec (g ≡ n) → f g ≡ 0
        by others (yes same) = ap f same ∙ sym (joined-last n) ∙ ap (λ (x : ℕ). x % 2 ^ w) e ∙ zero-mod (2 ^ w)
        by others (no other) = others (omega (arith, other))

  pub joined-zeros : (f : ℕ → ℕ) (n : ℕ) → ((g : ℕ) → g < n → f g ≡ 0) → joined w f n ≡ 0
  unfolding joined
  joined-zeros f zero z = refl
  joined-zeros f (suc n) z = ap₂ (λ (x y : ℕ). x * 2 ^ w + y) (joined-zeros f n (λ g l. z g (omega arith))) (z n (omega arith)) ∙ ap (λ (x : ℕ). x + 0) (zero-mul (2 ^ w))

  -- joined numbers are added one by one
  pub joined-xor : (f h : ℕ → ℕ) → ((g : ℕ) → f g < 2 ^ w) → ((g : ℕ) → h g < 2 ^ w) → (n : ℕ)
      → bit_xor (joined w f n) (joined w h n) ≡ joined w (λ g. bit_xor (f g) (h g)) n
  unfolding joined
  joined-xor f h a b zero = refl
  joined-xor f h a b (suc n) = xor_block w (joined w f n) (joined w h n) (f n) (h n) (a n) (b n) ∙ ap (λ (x : ℕ). x * 2 ^ w + bit_xor (f n) (h n)) (joined-xor f h a b n)

  -- the bits of a stream, w at a time
  pub joined_number : (bits : ℕ → ℕ) (n : ℕ) → joined w (λ g. number bits (w * g) w) n ≡ number bits 0 (w * n)
  unfolding joined
  joined_number bits zero = number-none bits 0 ∙ ap (number bits 0) (sym (mul-zero w))
  joined_number bits (suc n) =
      ap₂ (λ (x k : ℕ). x * 2 ^ w + number bits k w) (joined_number bits n) (sym (zero-add (w * n)))
      ∙ sym (number-split bits 0 (w * n) w)
      ∙ ap (number bits 0) (sym (mul-suc w n))

-- ---- a multiblock's parity

-- a group's remainder, once all its blocks are taken
pub group-all : (C : Code) («data» : ℕ → ℕ) (g k s : ℕ) → k ≡ C.blocks → s ≡ remainder_from C.width C.lower 0 (list_from «data» (data_bits C * g) (64 * k))
    → s ≡ group_parity C «data» g
unfolding group_parity
group-all C bits g k s all e =
    e
    ∙ from_zero C.width C.lower (list_from bits (data_bits C * g) (64 * k))
    ∙ ap (λ (n : ℕ). remainder C.width C.lower (list_from bits (data_bits C * g) (64 * n))) all

module _ (C : Code) (fits : C.lower < 2 ^ C.width) («data» : ℕ → ℕ) where
  pub group_parity-lt : (g : ℕ) → group_parity C «data» g < 2 ^ C.width
  unfolding group_parity
  group_parity-lt g = remainder-lt C.width C.lower fits (list_from «data» (data_bits C * g) (data_bits C))

  pub multiblock-lt : multiblock_parity C «data» < 2 ^ (C.width * C.groups)
  unfolding multiblock_parity
  multiblock-lt = joined-lt C.width (group_parity C «data») group_parity-lt C.groups

  -- as the code joins them, in 32 bits: it has room for all, and one more is shifted in
  module _ (room : C.width * C.groups ≤ 32) where
    pub groups-lt : (n : ℕ) → n ≤ C.groups → joined C.width (group_parity C «data») n < 2 ^ 32
    groups-lt n h =
        lt_of_lt_of_le (joined-lt C.width (group_parity C «data») group_parity-lt n) (pow_mono (le_trans (mul-le-mul_left C.width h) room))

    pub groups-more : (n whole part : ℕ) → n < C.groups → whole ≡ joined C.width (group_parity C «data») n → part ≡ group_parity C «data» n
        → whole * 2 ^ C.width % 2 ^ 32 + part ≡ joined C.width (group_parity C «data») (n + 1)
    unfolding joined
    groups-more n whole part h e p =
        let before = joined C.width (group_parity C «data») n in
        let more : joined C.width (group_parity C «data») (n + 1) ≡ before * 2 ^ C.width + group_parity C «data» n = ap (joined C.width (group_parity C «data»)) (add-one n) in
        let fit : before * 2 ^ C.width < 2 ^ 32 = omega (arith, groups-lt (n + 1) (omega arith)) in
        ap₂ (λ (x y : ℕ). x * 2 ^ C.width % 2 ^ 32 + y) e p
        ∙ ap (λ (x : ℕ). x + group_parity C «data» n) (mod-eq_of_lt fit)
        ∙ sym more

-- the same bits, the same parity
pub parity-ext : (C : Code) (a b : ℕ → ℕ) → ((q : ℕ) → q < data_bits C * C.groups → a q ≡ b q) → multiblock_parity C a ≡ multiblock_parity C b
unfolding multiblock_parity group_parity
parity-ext C a b e =
    joined-ext C.width (group_parity C a) (group_parity C b) C.groups (λ g l.
    ap (remainder C.width C.lower) (list_ext a b (data_bits C * g) (data_bits C * g) (data_bits C) (λ j m. e (data_bits C * g + j) (inside (data_bits C) g j C.groups l m))))

-- with one group it is that of the octets, where they are as many as the group has
pub one-group : (C : Code) → C.groups ≡ 1 → (octets : List ℕ) → 8 * length octets ≡ data_bits C → multiblock_parity C (bit_at octets) ≡ parity_of C octets
unfolding multiblock_parity group_parity parity_of bits_of
one-group C one octets long =
    ap (joined C.width (group_parity C (bit_at octets))) one
    ∙ joined-one C.width (group_parity C (bit_at octets))
    ∙ ap₂ (λ (k n : ℕ). remainder C.width C.lower (list_from (bit_at octets) k n)) (mul-zero (data_bits C)) (sym long)

-- and without groups it is 0
pub no-group : (C : Code) → C.groups ≡ 0 → («data» : ℕ → ℕ) → multiblock_parity C «data» ≡ 0
unfolding multiblock_parity
no-group C none bits = ap (joined C.width (group_parity C bits)) none ∙ joined-none C.width (group_parity C bits)
