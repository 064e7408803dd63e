-- Laws of the pairs of fill bits: each stands in its place of the packed number, only the 17 low bits of a register count, and a pair is replaced
-- by shifts at once. Clause 7.2.5, Table 38; request 2. Assumes nothing.
use mathlib.Core.Path.{◌≡◌, refl, sym, ap, ap₂, ◌∙◌, subst}
use mathlib.Core.List.{List, [], ◌∷◌}
use mathlib.Core.Bool.{◌&&◌}
use Prim.Native.Nat.{ℕ, zero, suc, ◌+◌, ◌-◌, ◌*◌, ◌/◌, ◌%◌, ◌^◌, ◌<◌}
use native.Mathlib.Nat.{div-one, zero-div, mod-lt, mod-one, pow-suc, add-zero, zero-add, mul-one, mul_assoc, not-suc-le-zero}
use native.Mathlib.Omega.{arith}
use lib.Dec.{eqb}
use lib.ListN.{length, get_or, set}
use lib.Arith.{digits_lt}
use lib.Pow.{pow_pos, pow-add, shr-shr, shl_exact, high, low, mod-pow-add}
use lib.Bits.{bit_and, bit_xor, and_mask, xor_lt, xor_self, xor_block, xor_zero_r}
use Rattle.bits.specs.Order.{number, digit}
use Rattle.bits.proofs.Choice.{pick-both}
use Rattle.bits.proofs.Numbers.{low_digit, number-two, digit_lt, digit_at}
use Rattle.bits.proofs.Xor.{odd-lt, xor_assoc}
use Rattle.fill.specs.Table38.{prbs, Replaced, never, at, Filled, filled, table38, pair_in, pairs_in, pairs_of, pair_of, fill_bit, packed}

-- ---- a pair, and its two bits

row_lt : (register : ℕ) (row : Filled) → pair_in register row < 4
row_lt register (filled high low never) = omega (arith, odd-lt (register / 2 ^ high), odd-lt (register / 2 ^ low))
row_lt register (filled high low (at second first)) =
    pick-both (λ (x : ℕ). x < 4) (eqb (prbs register 1) second && eqb (prbs register 0) first) _ _ (λ e. omega (arith, odd-lt (register / 2 ^ 2)))
    (λ e. omega (arith, odd-lt (register / 2 ^ high), odd-lt (register / 2 ^ low)))

rows-lt : (register : ℕ) (rows : List Filled) (k : ℕ) → get_or (pairs_in register rows) k 0 < 4
rows-lt register [] k = omega arith
rows-lt register (row ∷ rows) zero = row_lt register row
rows-lt register (row ∷ rows) (suc k) = rows-lt register rows k

pub pair_lt : (register k : ℕ) → pair_of register k < 4
unfolding pair_of pairs_of
pair_lt register k = rows-lt register table38 k

pub fill_bit-lt : (register j : ℕ) → fill_bit register j < 2
unfolding fill_bit
fill_bit-lt register j = digit_lt 2 (pair_of register (j / 2)) (j % 2)

pub pair-bits : (register k : ℕ) → number (fill_bit register) (2 * k) 2 ≡ pair_of register k
unfolding fill_bit
pair-bits register k =
    number-two (fill_bit register) (2 * k)
    ∙ ap₂ (λ (x y : ℕ). x * 2 + y)
    (ap₂ bit {x = 2 * k / 2} {y = k} {u = 2 * k % 2} {v = 0} (omega arith) (omega arith))
    (ap₂ bit {x = (2 * k + 1) / 2} {y = k} {u = (2 * k + 1) % 2} {v = 1} (omega arith) (omega arith))
    ∙ omega (arith, pair_lt register k, digit_at 2 (pair_of register k) 0, digit_at 2 (pair_of register k) 1)
  where
    bit : ℕ → ℕ → ℕ
    bit x y = digit 2 (pair_of register x) y

-- ---- pairs as one number

pairs_lt : (xs : List ℕ) → ((k : ℕ) → get_or xs k 0 < 4) → packed xs < 4 ^ length xs
unfolding packed
pairs_lt [] small = omega arith
pairs_lt (x ∷ xs) small =
    subst (λ (y : ℕ). packed xs * 4 + x < y) (sym (pow-suc 4 (length xs))) (digits_lt (pairs_lt xs (λ k. small (suc k))) (small 0))

at_place : (xs : List ℕ) → ((k : ℕ) → get_or xs k 0 < 4) → (k : ℕ) → packed xs / 2 ^ (2 * k) % 4 ≡ get_or xs k 0
unfolding packed
at_place [] small k = ap (λ (x : ℕ). x % 4) (zero-div (2 ^ (2 * k)))
at_place (x ∷ xs) small zero = ap (λ (x : ℕ). x % 4) (div-one (packed xs * 4 + x)) ∙ low (packed xs) 2 (small 0)
at_place (x ∷ xs) small (suc k) =
    ap (λ (y : ℕ). (packed xs * 4 + x) / 2 ^ y % 4) {x = 2 * suc k} {y = 2 + 2 * k} (omega arith)
    ∙ ap (λ (x : ℕ). x % 4) (sym (shr-shr (packed xs * 4 + x) 2 (2 * k)) ∙ ap (λ (x : ℕ). x / 2 ^ (2 * k)) (high (packed xs) 2 (small 0)))
    ∙ at_place xs (λ j. small (suc j)) k

pub packed-pair : (register k : ℕ) → k < 7 → packed (pairs_of register) / 2 ^ (2 * k) % 4 ≡ pair_of register k
unfolding pair_of pairs_of
packed-pair register k h = at_place (pairs_of register) (rows-lt register table38) k

pub packed_lt : (register : ℕ) → packed (pairs_of register) < 2 ^ 14
unfolding pairs_of
packed_lt register = pairs_lt (pairs_of register) (rows-lt register table38)

-- ---- only the 17 low bits of a register count

same_row : (register high low : ℕ) (when : Replaced) → high < 17 → low < 17
    → pair_in (register % 2 ^ 17) (filled high low when) ≡ pair_in register (filled high low when)
same_row register high low never h l = ap₂ (λ (x y : ℕ). x * 2 + y) (low_digit register 17 high h) (low_digit register 17 low l)
same_row register high low (at second first) h l =
    let b0 = low_digit register 17 0 (omega arith) in
    let b1 = low_digit register 17 1 (omega arith) in
    let b2 = low_digit register 17 2 (omega arith) in
    let left = low_digit register 17 high h in
    let right = low_digit register 17 low l in
    simp (b0, b1, b2, left, right)

pub same-pairs : (register : ℕ) → pairs_of (register % 2 ^ 17) ≡ pairs_of register
unfolding pairs_of
same-pairs register =
    ap₂ ◌∷◌ (same_row register 4 3 never (omega arith) (omega arith))
    (ap₂ ◌∷◌ (same_row register 6 5 (at 0 0) (omega arith) (omega arith))
    (ap₂ ◌∷◌ (same_row register 8 7 (at 0 1) (omega arith) (omega arith))
    (ap₂ ◌∷◌ (same_row register 10 9 never (omega arith) (omega arith))
    (ap₂ ◌∷◌ (same_row register 12 11 (at 1 0) (omega arith) (omega arith))
    (ap₂ ◌∷◌ (same_row register 14 13 (at 1 1) (omega arith) (omega arith))
    (ap₂ ◌∷◌ (same_row register 16 15 never (omega arith) (omega arith)) refl))))))

pub same-pair : (register k : ℕ) → pair_of (register % 2 ^ 17) k ≡ pair_of register k
unfolding pair_of
same-pair register k = ap (λ (x : List ℕ). get_or x k 0) (same-pairs register)

pub same-fill : (register j : ℕ) → fill_bit (register % 2 ^ 17) j ≡ fill_bit register j
unfolding fill_bit
same-fill register j = ap (λ (x : ℕ). digit 2 x (j % 2)) (same-pair register (j / 2))

-- ---- a pair replaced by shifts

-- the n pairs of a number's bits from bit k on, none of them replaced
abbrev plain : ℕ → ℕ → ℕ → List ℕ
plain register k zero = []
plain register k (suc n) = (prbs register (k + 1) * 2 + prbs register k) ∷ plain register (k + 2) n

packed-plain : (register k n : ℕ) → packed (plain register k n) ≡ register / 2 ^ k % 2 ^ (2 * n)
unfolding packed
packed-plain register k zero = sym (mod-one (register / 2 ^ k))
packed-plain register k (suc n) =
    ap₂ (λ (x y : ℕ). x * 4 + y) (packed-plain register (k + 2) n ∙ ap (λ (x : ℕ). x % 2 ^ (2 * n)) (sym (shr-shr register k 2)))
    (ap (λ (x : ℕ). x % 2 * 2 + register / 2 ^ k % 2) (sym (shr-shr register k 1)) ∙ sym (mod-pow-add (register / 2 ^ k) 1 1))
    ∙ sym (ap (λ (x : ℕ). register / 2 ^ k % 2 ^ x) {x = 2 * suc n} {y = 2 * n + 2} (omega arith) ∙ mod-pow-add (register / 2 ^ k) (2 * n) 2)

plain-lt : (register k n j : ℕ) → get_or (plain register k n) j 0 < 4
plain-lt register k zero j = omega arith
plain-lt register k (suc n) zero = omega (arith, odd-lt (register / 2 ^ (k + 1)), odd-lt (register / 2 ^ k))
plain-lt register k (suc n) (suc j) = plain-lt register (k + 2) n j

-- exclusive or with the two pairs puts the other in place of the one that stands
swap : (xs : List ℕ) → ((k : ℕ) → get_or xs k 0 < 4) → (other k : ℕ) → other < 4 → k < length xs
    → bit_xor (packed xs) (bit_xor (get_or xs k 0) other * 2 ^ (2 * k)) ≡ packed (set xs k other)
unfolding packed
swap [] small other k l h = absurd (not-suc-le-zero h)
swap (x ∷ xs) small other zero l h =
    ap (bit_xor (packed xs * 4 + x)) (mul-one (bit_xor x other) ∙ sym (zero-add (bit_xor x other)))
    ∙ xor_block 2 (packed xs) 0 x (bit_xor x other) (small 0) (xor_lt 2 x other (small 0) l)
    ∙ ap₂ (λ (y z : ℕ). y * 4 + z) (xor_zero_r (packed xs)) (sym (xor_assoc x x other) ∙ ap (λ (y : ℕ). bit_xor y other) (xor_self x))
swap (x ∷ xs) small other (suc k) l h =
    let both = bit_xor (get_or xs k 0) other in
    ap (bit_xor (packed xs * 4 + x))
    (ap (λ (y : ℕ). both * 2 ^ y) {x = 2 * suc k} {y = 2 * k + 2} (omega arith)
    ∙ ap (λ (y : ℕ). both * y) (pow-add 2 (2 * k) 2) ∙ sym (mul_assoc both (2 ^ (2 * k)) 4) ∙ sym (add-zero (both * 2 ^ (2 * k) * 4)))
    ∙ xor_block 2 (packed xs) (both * 2 ^ (2 * k)) x 0 (small 0) (omega arith)
    ∙ ap₂ (λ (y z : ℕ). y * 4 + z) (swap xs (λ j. small (suc j)) other k l (omega arith)) (xor_zero_r x)

module _ (register : ℕ) where
  -- what a replaced pair is replaced with
  abbrev instead : ℕ
  instead = (1 - prbs register 2) * 2 + prbs register 2

  -- the same as the code has it
  abbrev other : ℕ
  other = 2 - register / 2 ^ 2 % 2

  abbrev own : ℕ
  own = bit_and (register / 2 ^ 3) (2 ^ 14 - 1)

  own_is : own ≡ packed (plain register 3 7)
  own_is = and_mask (register / 2 ^ 3) 14 ∙ sym (packed-plain register 3 7)

  other-is : other ≡ instead
  other-is = omega arith

  -- pair k of the seven replaced
  abbrev replaced : ℕ → ℕ
  replaced place = bit_xor own (bit_xor (own / 2 ^ place % 4) other * 2 ^ place % 2 ^ 32)

  replaced-at : (k : ℕ) → k < 7 → set (plain register 3 7) k instead ≡ pairs_of register → replaced (2 * k) ≡ packed (pairs_of register)
  replaced-at k h e =
      ap₂ bit_xor own_is
      (ap₂ (λ (x y : ℕ). bit_xor x y * 2 ^ (2 * k) % 2 ^ 32)
      (ap (λ (x : ℕ). x / 2 ^ (2 * k) % 4) own_is ∙ at_place (plain register 3 7) small k) other-is
      ∙ shl_exact 2 (2 * k) 32 (xor_lt 2 (get_or (plain register 3 7) k 0) instead (small k) instead-lt) (omega arith))
      ∙ swap (plain register 3 7) small instead k instead-lt h
      ∙ ap packed e
    where
      small : (j : ℕ) → get_or (plain register 3 7) j 0 < 4
      small = plain-lt register 3 7

      instead-lt : instead < 4
      instead-lt = omega (arith, odd-lt (register / 2 ^ 2))

  -- the pair that its row says is replaced, by PRBS[1:0]
  module _ (place : ℕ) where
    abbrev Said : Filled → Type 0
    Said row = row ≡ filled (place + 4) (place + 3) (at (register % 4 / 2) (register % 4 % 2))

    abbrev Done : Type 0
    Done = (place < 32) × (replaced place ≡ packed (pairs_of register))

    never-said : (high low : ℕ) → Said (filled high low never) → Done
    never-said high low said = let none : ◌≡◌ {A = ℕ} 0 1 = cc in absurd (omega arith)

    row-said : (k second first : ℕ) → k < 7 → Said (filled (2 * k + 4) (2 * k + 3) (at second first))
        → (register / 2 % 2 ≡ second → register / 1 % 2 ≡ first → set (plain register 3 7) k instead ≡ pairs_of register) → Done
    row-said k second first h said e =
        let high_is : 2 * k + 4 ≡ place + 4 = cc in
        let b1 : second ≡ register % 4 / 2 = cc in
        let b0 : first ≡ register % 4 % 2 = cc in
        let at-k : place ≡ 2 * k = omega arith in
        (omega arith, ap replaced at-k ∙ replaced-at k h (e (omega arith) (omega arith)))

    chosen : (k : ℕ) → Said (get_or table38 k (filled 0 0 never)) → Done
    unfolding pairs_of
    chosen zero said = never-said 4 3 said
    chosen (suc zero) said = row-said 1 0 0 (omega arith) said (λ b1 b0. rw (b1, b0))
    chosen (suc (suc zero)) said = row-said 2 0 1 (omega arith) said (λ b1 b0. rw (b1, b0))
    chosen (suc (suc (suc zero))) said = never-said 10 9 said
    chosen (suc (suc (suc (suc zero)))) said = row-said 4 1 0 (omega arith) said (λ b1 b0. rw (b1, b0))
    chosen (suc (suc (suc (suc (suc zero))))) said = row-said 5 1 1 (omega arith) said (λ b1 b0. rw (b1, b0))
    chosen (suc (suc (suc (suc (suc (suc zero)))))) said = never-said 16 15 said
    chosen (suc (suc (suc (suc (suc (suc (suc k))))))) said = never-said 0 0 said

    pub replaced-as-said : (register % 4 < 4 → Said (get_or table38 (place / 2) (filled 0 0 never))) → Done
    replaced-as-said said = chosen (place / 2) (said (mod-lt register (pow_pos 2)))
