-- A block's remainder is the sum of what its octets leave, each by its row. Assumes nothing.
use mathlib.Core.Path.{◌≡◌, sym, ap, ap₂, ◌∙◌}
use mathlib.Core.List.{List, []}
use Prim.Native.Nat.{ℕ, zero, suc, ◌+◌, ◌-◌, ◌*◌, ◌/◌, ◌%◌, ◌^◌, ◌≤◌, ◌<◌}
use native.Mathlib.Nat.{add-zero, add-suc, suc-add, zero-add, le_refl, mod-lt}
use native.Mathlib.Omega.{arith}
use lib.ListN.{get_or}
use lib.Pow.{pow_pos}
use lib.Bits.{bit_xor, xor_shr, xor_mod, xor_zero_r}
use Rattle.bits.specs.Order.{list_from, digits, digit, octets_of}
use Rattle.bits.proofs.Blocks.{octet-in}
use Rattle.bits.proofs.Lists.{get_or-list, digits_low}
use Rattle.bits.proofs.Xor.{xor_assoc}
use Rattle.polynomial.specs.Polynomial.{times_power}
use Rattle.polynomial.specs.Remainder.{remainder_from}
use Rattle.polynomial.proofs.Remainder.{no_digit}
use Rattle.polynomial.proofs.Digits.{from_parts}
use Rattle.rows.specs.Rows.{row_entry, rows_from, eight_rows}
use Rattle.rows.proofs.Rows.{moved, entry-moved}

-- octet k of a word with another over it
pub index-laid : (word over k octet above : ℕ) → k < 8 → octet ≡ get_or (octets_of (digit 64 word) 8) k 0 → above ≡ get_or (octets_of (digit 64 over) 8) k 0
    → bit_xor octet above ≡ bit_xor word over / 2 ^ (8 * (7 - k)) % 256
index-laid word over k octet above h o a =
    let n = 56 - 8 * k in
    ap₂ bit_xor (o ∙ sym (octet-in word k h)) (a ∙ sym (octet-in over k h))
    ∙ sym (ap (λ (x : ℕ). bit_xor word over / 2 ^ x % 256) {x = 8 * (7 - k)} {y = n} (omega arith)
    ∙ ap (λ (x : ℕ). x % 256) (xor_shr word over n)
    ∙ xor_mod (word / 2 ^ n) (over / 2 ^ n) 8)

module _ (w g : ℕ) where
  row_at : (k n j : ℕ) → j < n → get_or (rows_from w g k n) j [] ≡ list_from (row_entry w g (k + j)) 0 256
  unfolding rows_from
  row_at k zero j h = absurd (omega arith)
  row_at k (suc n) zero h = ap (λ (k : ℕ). list_from (row_entry w g k) 0 256) (sym (add-zero k))
  row_at k (suc n) (suc j) h = row_at (suc k) n j (omega arith) ∙ ap (λ (k : ℕ). list_from (row_entry w g k) 0 256) (suc-add k j ∙ sym (add-suc k j))

  entry_at : (k v : ℕ) → k < 8 → v < 256 → get_or (get_or (eight_rows w g) k []) v 0 ≡ row_entry w g k v
  entry_at k v hk hv =
      ap (λ (l : List ℕ). get_or l v 0) (row_at 0 8 k hk)
      ∙ get_or-list (row_entry w g (0 + k)) 0 256 v hv
      ∙ ap₂ (row_entry w g) (zero-add k) (zero-add v)

  module _ (block : ℕ) where
    -- what the octets from octet k on leave
    abbrev pub rest_from : ℕ → ℕ
    rest_from k = remainder_from w g 0 (digits (64 - 8 * k) block)

    -- octet k leaves what its row has, and the others what they left
    rest_more : (k v : ℕ) → k < 8 → v ≡ block / 2 ^ (8 * (7 - k)) % 256 → bit_xor (row_entry w g k v) (rest_from (k + 1)) ≡ rest_from k
    unfolding moved
    rest_more k v h e =
        let n = 8 * (7 - k) in
        let own : digits 8 v ≡ digits 8 (block / 2 ^ n) =
        ap (digits 8) e ∙ digits_low 8 8 (block / 2 ^ n) (le_refl 8) in
        ap₂ bit_xor
        (entry-moved w g k v ∙ ap (λ (l : List ℕ). times_power w g n (remainder_from w g 0 l)) own)
        (ap (λ (m : ℕ). remainder_from w g 0 (digits m block)) {x = 64 - 8 * (k + 1)} {y = n} (omega arith))
        ∙ sym (from_parts w g 8 n block)
        ∙ ap (λ (m : ℕ). remainder_from w g 0 (digits m block)) {x = 8 + n} {y = 64 - 8 * k} (omega arith)

    -- as the code has it
    pub octet-more : (table : List (List ℕ)) → table ≡ eight_rows w g → (k v s : ℕ) → k < 8 → v ≡ block / 2 ^ (8 * (7 - k)) % 256
        → bit_xor (bit_xor s (get_or (get_or table k []) v 0)) (rest_from (k + 1)) ≡ bit_xor s (rest_from k)
    octet-more table t k v s h e =
        ap (λ (l : List (List ℕ)). bit_xor (bit_xor s (get_or (get_or l k []) v 0)) (rest_from (k + 1))) t
        ∙ ap (λ (x : ℕ). bit_xor (bit_xor s x) (rest_from (k + 1))) (entry_at k v h (omega (arith, mod-lt (block / 2 ^ (8 * (7 - k))) (pow_pos 8))))
        ∙ xor_assoc s (row_entry w g k v) (rest_from (k + 1))
        ∙ ap (bit_xor s) (rest_more k v h e)

    pub octets-all : (k s : ℕ) → 8 ≤ k → bit_xor s (rest_from k) ≡ rest_from 0 → s ≡ rest_from 0
    octets-all k s h e =
        sym (ap (bit_xor s) (ap (λ (m : ℕ). remainder_from w g 0 (digits m block)) {x = 64 - 8 * k} {y = 0} (omega arith) ∙ no_digit w g 0 block) ∙ xor_zero_r s)
        ∙ e
