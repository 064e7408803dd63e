-- Maps of numbers that exclusive or goes through: shifts, masks and their sums. Two of them that agree at each single bit agree everywhere.
-- Assumes nothing.
use mathlib.Core.Path.{◌≡◌, refl, sym, ap, ap₂, ◌∙◌, subst}
use Prim.Native.Nat.{ℕ, zero, suc, ◌+◌, ◌-◌, ◌*◌, ◌/◌, ◌%◌, ◌^◌, ◌<◌, min}
use native.Mathlib.Nat.{mod-lt, pow-suc, div-lt_iff_lt-mul, mul_comm, zero-mul, one-mul, add-zero, le_refl, min-le_left, lt_of_le_of_lt}
use native.Mathlib.Omega.{arith}
use lib.Arith.{lt-one, bin_ind}
use lib.Pow.{pow_pos, split}
use lib.Dec.{T, eqb, eqb→eq}
use lib.Bits.{bit_and, bit_xor, differ, and_step, xor_self, xor_shr, xor_mod, xor_block, xor_shifted}
use Rattle.bits.proofs.Xor.{bit-cases, odd-lt, xor-half, xor-odd, xor-swap, xor-digit}
use Rattle.bits.specs.Order.{number, digit}
use Rattle.bits.proofs.Numbers.{number-ext, number-xor}
use Rattle.bits.proofs.Tests.{every, every-at}

abbrev pub Additive : (ℕ → ℕ) → Type 0
Additive F = (a b : ℕ) → F (bit_xor a b) ≡ bit_xor (F a) (F b)

pub additive-zero : (F : ℕ → ℕ) → Additive F → F 0 ≡ 0
additive-zero F h = h 0 0 ∙ xor_self (F 0)

-- a number below 2^(n+1) is its highest bit and the rest
top_bit : (n x : ℕ) → x < 2 ^ suc n → x / 2 ^ n < 2
top_bit n x h = (div-lt_iff_lt-mul (pow_pos n)).1 (subst (λ (y : ℕ). x < y) (pow-suc 2 n ∙ mul_comm (2 ^ n) 2) h)

top_split : (n x : ℕ) → x ≡ bit_xor (x / 2 ^ n * 2 ^ n) (x % 2 ^ n)
top_split n x = sym (xor_shifted (x / 2 ^ n) n (x % 2 ^ n) (mod-lt x (pow_pos n)) ∙ split x n)

module _ (F G : ℕ → ℕ) (hF : Additive F) (hG : Additive G) where
  one_bit : (n c : ℕ) → F (2 ^ n) ≡ G (2 ^ n) → c < 2 → F (c * 2 ^ n) ≡ G (c * 2 ^ n)
  one_bit n c e h =
      bit-cases (λ (c : ℕ). F (c * 2 ^ n) ≡ G (c * 2 ^ n))
      (ap F (zero-mul (2 ^ n)) ∙ additive-zero F hF ∙ sym (ap G (zero-mul (2 ^ n)) ∙ additive-zero G hG))
      (ap F (one-mul (2 ^ n)) ∙ e ∙ ap G (sym (one-mul (2 ^ n)))) c h

  pub agree : (n : ℕ) → ((i : ℕ) → i < n → F (2 ^ i) ≡ G (2 ^ i)) → (x : ℕ) → x < 2 ^ n → F x ≡ G x
  agree zero e x h = ap F (lt-one h) ∙ additive-zero F hF ∙ sym (ap G (lt-one h) ∙ additive-zero G hG)
  agree (suc n) e x h =
      ap F (top_split n x)
      ∙ hF (x / 2 ^ n * 2 ^ n) (x % 2 ^ n)
      ∙ ap₂ bit_xor (one_bit n (x / 2 ^ n) (e n (le_refl (suc n))) (top_bit n x h)) (agree n (λ i l. e i (omega arith)) (x % 2 ^ n) (mod-lt x (pow_pos n)))
      ∙ sym (ap G (top_split n x) ∙ hG (x / 2 ^ n * 2 ^ n) (x % 2 ^ n))

  -- the same by one computed test
  pub agree-test : (n : ℕ) → T (every (λ i. eqb (F (2 ^ i)) (G (2 ^ i))) n) → (x : ℕ) → x < 2 ^ n → F x ≡ G x
  agree-test n t = agree n (λ i h. eqb→eq (F (2 ^ i)) (G (2 ^ i)) (every-at (λ i. eqb (F (2 ^ i)) (G (2 ^ i))) n t i h))

-- ---- what is additive

pub shift-right : (k : ℕ) → Additive (λ (a : ℕ). a / 2 ^ k)
shift-right k a b = xor_shr a b k

pub shift-up : (k : ℕ) → Additive (λ (a : ℕ). a * 2 ^ k)
shift-up k a b =
    sym (ap₂ bit_xor (sym (add-zero (a * 2 ^ k))) (sym (add-zero (b * 2 ^ k))) ∙ xor_block k a b 0 0 (pow_pos k) (pow_pos k) ∙ add-zero (bit_xor a b * 2 ^ k))

pub low_bits : (k : ℕ) → Additive (λ (a : ℕ). a % 2 ^ k)
low_bits k a b = xor_mod a b k

pub shift-left : (k w : ℕ) → Additive (λ (a : ℕ). a * 2 ^ k % 2 ^ w)
shift-left k w a b = ap (λ (x : ℕ). x % 2 ^ w) (shift-up k a b) ∙ xor_mod (a * 2 ^ k) (b * 2 ^ k) w

pub bit : (k : ℕ) → Additive (λ (a : ℕ). a / 2 ^ k % 2)
bit k a b = ap (λ (x : ℕ). x % 2) (xor_shr a b k) ∙ xor_mod (a / 2 ^ k) (b / 2 ^ k) 1

-- the bits that a mask keeps
min-lt : (x m : ℕ) → x < 2 → min x m < 2
min-lt x m h = lt_of_le_of_lt (min-le_left x m) h

min-xor : (x y m : ℕ) → x < 2 → y < 2 → m < 2 → min (differ x y) m ≡ bit_xor (min x m) (min y m)
min-xor x y m hx hy hm =
    bit-cases (λ (x : ℕ). min (differ x y) m ≡ bit_xor (min x m) (min y m))
    (bit-cases (λ (m : ℕ). min y m ≡ bit_xor (min 0 m) (min y m)) refl refl m hm)
    (bit-cases (λ (y : ℕ). min (differ 1 y) m ≡ bit_xor (min 1 m) (min y m))
    (bit-cases (λ (m : ℕ). min 1 m ≡ bit_xor (min 1 m) (min 0 m)) refl refl m hm)
    (bit-cases (λ (m : ℕ). min 0 m ≡ bit_xor (min 1 m) (min 1 m)) refl refl m hm) y hy) x hx

pub masked : (m : ℕ) → Additive (λ (a : ℕ). bit_and a m)
masked m a b =
    bin_ind (λ (a : ℕ). (b m : ℕ) → bit_and (bit_xor a b) m ≡ bit_xor (bit_and a m) (bit_and b m)) (λ b m. refl)
    (λ a ih b m.
    and_step (bit_xor a b) m
    ∙ ap₂ (λ (x y : ℕ). bit_and x (m / 2) * 2 + min y (m % 2)) (xor-half a b) (xor-odd a b)
    ∙ ap₂ (λ (x y : ℕ). x * 2 + y) (ih (b / 2) (m / 2)) (min-xor (a % 2) (b % 2) (m % 2) (odd-lt a) (odd-lt b) (odd-lt m))
    ∙ sym (ap₂ bit_xor (and_step a m) (and_step b m) ∙ xor-digit (bit_and (a / 2) (m / 2)) (bit_and (b / 2) (m / 2)) (min (a % 2) (m % 2)) (min (b % 2) (m % 2)) (min-lt (a % 2) (m % 2) (odd-lt a)) (min-lt (b % 2) (m % 2) (odd-lt b)))) a b m

pub both : (F G : ℕ → ℕ) → Additive F → Additive G → Additive (λ (a : ℕ). bit_xor (F a) (G a))
both F G f g a b = ap₂ bit_xor (f a b) (g a b) ∙ xor-swap (F a) (F b) (G a) (G b)

pub after : (F G : ℕ → ℕ) → Additive F → Additive G → Additive (λ (a : ℕ). F (G a))
after F G f g a b = ap F (g a b) ∙ f (G a) (G b)

-- ---- numbers of bits

pub digit-xor : (n j : ℕ) → Additive (λ (v : ℕ). digit n v j)
unfolding digit
digit-xor n j = bit (n - 1 - j)

-- the number that some additive bits write
pub numbered : (f : ℕ → ℕ → ℕ) → ((v j : ℕ) → f v j < 2) → ((j : ℕ) → Additive (λ (v : ℕ). f v j)) → (k n : ℕ) → Additive (λ (v : ℕ). number (f v) k n)
numbered f d h k n a b =
    number-ext (f (bit_xor a b)) (λ j. bit_xor (f a j) (f b j)) k k n (λ j q. h (k + j) a b) ∙ number-xor (f a) (f b) (d a) (d b) k n
