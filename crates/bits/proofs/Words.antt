-- Octets put together by shifts. Assumes nothing.
use mathlib.Core.Path.{◌≡◌, sym, ap, ap₂, ◌∙◌}
use mathlib.Core.List.{List, [], ◌∷◌}
use Prim.Native.Nat.{ℕ, ◌+◌, ◌-◌, ◌*◌, ◌%◌, ◌^◌, ◌≤◌, ◌<◌}
use native.Mathlib.Nat.{add-zero, mul_assoc, add-mul, mul-mod_left}
use native.Mathlib.Omega.{arith}
use lib.ListN.{length, get_or}
use lib.Pow.{pow-add, mod-pow-add, shl_exact, shl_lt, shl-shr}
use lib.Bits.{bit_or, or_shifted}
use Rattle.std.specs.Int.{w64, from_be_bytes}
use Rattle.bits.specs.Order.{bit_at, number}
use Rattle.bits.proofs.Numbers.{number-split, number-octet, number-next, past_end}

-- a shift left drops what leaves the word
pub shift-left : (x t : ℕ) → t ≤ 64 → x * 2 ^ t % 2 ^ 64 ≡ x % 2 ^ (64 - t) * 2 ^ t
shift-left x t h =
    ap (λ (z : ℕ). x * 2 ^ t % 2 ^ z) {x = 64} {y = 64 - t + t} (omega arith)
    ∙ mod-pow-add (x * 2 ^ t) (64 - t) t
    ∙ ap₂ (λ (y z : ℕ). y % 2 ^ (64 - t) * 2 ^ t + z) (shl-shr x t) (mul-mod_left x (2 ^ t))
    ∙ add-zero _

-- word | octet << s, laid below the m octets that are there
module _ (octets : List ℕ) (octet-lt : (i : ℕ) → get_or octets i 0 < 256) (at : ℕ) where
  lay : (m s word : ℕ) → 8 + s ≤ 64 → word ≡ number (bit_at octets) (8 * at) (8 * m) * 2 ^ (8 + s)
      → bit_or word (get_or octets (at + m) 0 * 2 ^ s % 2 ^ 64) ≡ number (bit_at octets) (8 * at) (8 * (m + 1)) * 2 ^ s
  lay m s word l e =
      let octet = get_or octets (at + m) 0 in
      let upper = number (bit_at octets) (8 * at) (8 * m) in
      ap₂ bit_or e (shl_exact 8 s 64 (octet-lt (at + m)) l)
      ∙ or_shifted upper (8 + s) (octet * 2 ^ s) (shl_lt 8 s (octet-lt (at + m)))
      ∙ ap (λ (x : ℕ). upper * x + octet * 2 ^ s) (pow-add 2 8 s)
      ∙ sym (add-mul (upper * 256) octet (2 ^ s) ∙ ap (λ (x : ℕ). x + octet * 2 ^ s) (mul_assoc upper 256 (2 ^ s)))
      ∙ ap (λ (x : ℕ). x * 2 ^ s) (sym (number-next octets at m (octet-lt (at + m))))

  -- octet by octet from the top of a word down
  pub gather : (i word octet : ℕ) → i < 8 → word ≡ number (bit_at octets) (8 * at) (8 * i) * 2 ^ (64 - 8 * i) → octet ≡ get_or octets (at + i) 0
      → bit_or word (octet * 2 ^ (56 - 8 * i) % 2 ^ 64) ≡ number (bit_at octets) (8 * at) (8 * (i + 1)) * 2 ^ (64 - 8 * (i + 1))
  gather i word octet h e o =
      ap (λ (x : ℕ). bit_or word (x * 2 ^ (56 - 8 * i) % 2 ^ 64)) o
      ∙ lay i (56 - 8 * i) word (omega arith) (e ∙ ap (λ (x : ℕ). number (bit_at octets) (8 * at) (8 * i) * 2 ^ x) {x = 64 - 8 * i} {y = 8 + (56 - 8 * i)} (omega arith))
      ∙ ap (λ (x : ℕ). number (bit_at octets) (8 * at) (8 * (i + 1)) * 2 ^ x) {x = 56 - 8 * i} {y = 64 - 8 * (i + 1)} (omega arith)

-- the octets to the end, where the rest of the word is past it
pub gathered : (octets : List ℕ) (at i word : ℕ) → i ≤ 8 → length octets ≤ at + i → word ≡ number (bit_at octets) (8 * at) (8 * i) * 2 ^ (64 - 8 * i) → word ≡ number (bit_at octets) (8 * at) 64
gathered octets at i word h end e =
    let f = bit_at octets in
    e
    ∙ sym (ap (number f (8 * at)) {x = 64} {y = 8 * i + (64 - 8 * i)} (omega arith)
    ∙ number-split f (8 * at) (8 * i) (64 - 8 * i)
    ∙ ap (λ (x : ℕ). number f (8 * at) (8 * i) * 2 ^ (64 - 8 * i) + x) (ap (λ (x : ℕ). number f x (64 - 8 * i)) {x = 8 * at + 8 * i} {y = 8 * (at + i)} (omega arith) ∙ past_end octets (at + i) (64 - 8 * i) end)
    ∙ add-zero _)

-- eight octets as one number
pub load : (octets : List ℕ) → ((i : ℕ) → get_or octets i 0 < 256) → (at : ℕ)
    → from_be_bytes w64 (get_or octets at 0 ∷ get_or octets (at + 1) 0 ∷ get_or octets (at + 2) 0 ∷ get_or octets (at + 3) 0 ∷ get_or octets (at + 4) 0 ∷ get_or octets (at + 5) 0 ∷ get_or octets (at + 6) 0 ∷ get_or octets (at + 7) 0 ∷ [])
    ≡ number (bit_at octets) (8 * at) 64
load octets octet-lt at =
    let e0 = number-octet octets at (octet-lt at) in
    let e1 = number-next octets at 1 (octet-lt (at + 1)) in
    let e2 = number-next octets at 2 (octet-lt (at + 2)) in
    let e3 = number-next octets at 3 (octet-lt (at + 3)) in
    let e4 = number-next octets at 4 (octet-lt (at + 4)) in
    let e5 = number-next octets at 5 (octet-lt (at + 5)) in
    let e6 = number-next octets at 6 (octet-lt (at + 6)) in
    let e7 = number-next octets at 7 (octet-lt (at + 7)) in
    omega arith
