-- Laws of exclusive or that the library lacks: it is associative, and doubles and scales. Assumes nothing.
use mathlib.Core.Path.{◌≡◌, refl, sym, ap, ap₂, ◌∙◌}
use Prim.Native.Nat.{ℕ, zero, suc, ◌+◌, ◌*◌, ◌/◌, ◌%◌, ◌<◌}
use native.Mathlib.Nat.{mod-lt, not-suc-le-zero, le_of_suc-le-suc, zero-lt-suc, mul-div_cancel, mul-mod_left, add-zero, zero-mul}
use native.Mathlib.Omega.{arith}
use lib.Arith.{bin_ind, digits_mod}
use lib.Bits.{bit_xor, differ, xor_step, xor_shr, xor_block, xor_comm, xor_self, xor_zero_r}

-- what holds of 0 and of 1 holds of every bit
pub bit-cases {ℓ} : (P : ℕ → Type ℓ) → P 0 → P 1 → (b : ℕ) → b < 2 → P b
bit-cases P p q zero h = p
bit-cases P p q (suc zero) h = q
bit-cases P p q (suc (suc b)) h = absurd (not-suc-le-zero (le_of_suc-le-suc (le_of_suc-le-suc h)))

pub odd-lt : (a : ℕ) → a % 2 < 2
odd-lt a = mod-lt a (zero-lt-suc 1)

-- ---- bit by bit

differ-lt : (x y : ℕ) → x < 2 → y < 2 → differ x y < 2
differ-lt x y hx hy =
    bit-cases (λ (x : ℕ). differ x y < 2) hy (bit-cases (λ (y : ℕ). differ 1 y < 2) (omega arith) (omega arith) y hy) x hx

differ-assoc : (x y z : ℕ) → x < 2 → y < 2 → z < 2 → differ (differ x y) z ≡ differ x (differ y z)
differ-assoc x y z hx hy hz =
    bit-cases (λ (x : ℕ). differ (differ x y) z ≡ differ x (differ y z)) refl
    (bit-cases (λ (y : ℕ). differ (differ 1 y) z ≡ differ 1 (differ y z)) refl
    (bit-cases (λ (z : ℕ). differ 0 z ≡ differ 1 (differ 1 z)) refl refl z hz) y hy) x hx

pub xor-half : (a b : ℕ) → bit_xor a b / 2 ≡ bit_xor (a / 2) (b / 2)
xor-half a b = xor_shr a b 1

pub xor-odd : (a b : ℕ) → bit_xor a b % 2 ≡ differ (a % 2) (b % 2)
xor-odd a b = ap (λ (x : ℕ). x % 2) (xor_step a b) ∙ digits_mod (bit_xor (a / 2) (b / 2)) (differ-lt (a % 2) (b % 2) (odd-lt a) (odd-lt b))

-- ---- regrouping

pub xor_assoc : (a b c : ℕ) → bit_xor (bit_xor a b) c ≡ bit_xor a (bit_xor b c)
xor_assoc =
    bin_ind (λ (a : ℕ). (b c : ℕ) → bit_xor (bit_xor a b) c ≡ bit_xor a (bit_xor b c)) (λ b c. refl)
    (λ a ih b c.
    xor_step (bit_xor a b) c
    ∙ ap₂ (λ (x y : ℕ). bit_xor x (c / 2) * 2 + differ y (c % 2)) (xor-half a b) (xor-odd a b)
    ∙ ap₂ (λ (x y : ℕ). x * 2 + y) (ih (b / 2) (c / 2)) (differ-assoc (a % 2) (b % 2) (c % 2) (odd-lt a) (odd-lt b) (odd-lt c))
    ∙ ap₂ (λ (x y : ℕ). bit_xor (a / 2) x * 2 + differ (a % 2) y) (sym (xor-half b c)) (sym (xor-odd b c))
    ∙ sym (xor_step a (bit_xor b c)))

pub xor-swap : (a b c d : ℕ) → bit_xor (bit_xor a b) (bit_xor c d) ≡ bit_xor (bit_xor a c) (bit_xor b d)
xor-swap a b c d =
    xor_assoc a b (bit_xor c d)
    ∙ ap (bit_xor a) (sym (xor_assoc b c d) ∙ ap (λ (x : ℕ). bit_xor x d) (xor_comm b c) ∙ xor_assoc c b d)
    ∙ sym (xor_assoc a c (bit_xor b d))

pub xor-eq : (a b : ℕ) → bit_xor a b ≡ 0 → a ≡ b
xor-eq a b e =
    sym (xor_zero_r a) ∙ ap (bit_xor a) (sym (xor_self b)) ∙ sym (xor_assoc a b b) ∙ ap (λ (x : ℕ). bit_xor x b) e

-- ---- multiples

pub xor-double : (a b : ℕ) → bit_xor a b * 2 ≡ bit_xor (a * 2) (b * 2)
xor-double a b =
    sym (xor_step (a * 2) (b * 2)
    ∙ ap₂ (λ (x y : ℕ). bit_xor x y * 2 + differ (a * 2 % 2) (b * 2 % 2)) (mul-div_cancel a (zero-lt-suc 1)) (mul-div_cancel b (zero-lt-suc 1))
    ∙ ap₂ (λ (x y : ℕ). bit_xor a b * 2 + differ x y) (mul-mod_left a 2) (mul-mod_left b 2)
    ∙ add-zero (bit_xor a b * 2))

-- one digit more
pub xor-digit : (a b x y : ℕ) → x < 2 → y < 2 → bit_xor (a * 2 + x) (b * 2 + y) ≡ bit_xor a b * 2 + bit_xor x y
xor-digit a b x y hx hy = xor_block 1 a b x y hx hy

-- of the multiples of g by two bits
pub xor-scale : (x y g : ℕ) → x < 2 → y < 2 → differ x y * g ≡ bit_xor (x * g) (y * g)
xor-scale x y g hx hy =
    bit-cases (λ (x : ℕ). differ x y * g ≡ bit_xor (x * g) (y * g)) (ap (λ (z : ℕ). bit_xor z (y * g)) (sym (zero-mul g)))
    (bit-cases (λ (y : ℕ). differ 1 y * g ≡ bit_xor (1 * g) (y * g))
    (sym (ap (bit_xor (1 * g)) (zero-mul g) ∙ xor_zero_r (1 * g)))
    (zero-mul g ∙ sym (xor_self (1 * g))) y hy) x hx
