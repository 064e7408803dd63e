-- Blocks of 64 bits: the octets of a word, and octets taken eight at a time as words. Assumes nothing.
use mathlib.Core.Path.{◌≡◌, refl, sym, ap, ap₂, ◌∙◌}
use mathlib.Core.List.{List, ◌∷◌, map}
use Prim.Native.Nat.{ℕ, zero, suc, ◌+◌, ◌-◌, ◌*◌, ◌/◌, ◌%◌, ◌^◌, ◌≤◌, ◌<◌}
use native.Mathlib.Nat.{zero-add}
use native.Mathlib.Omega.{arith}
use lib.ListN.{length, get_or, take, drop, get_or-eq_default}
use lib.Seq.{take_all, drop-drop}
use Rattle.std.specs.Simd.{first_chunks}
use Rattle.bits.specs.Order.{bit_at, list_from, number, digit, octets_of, word_bit, words_of}
use Rattle.bits.proofs.Numbers.{bit_at_lt, digit-number, number-digit, number-ext}
use Rattle.bits.proofs.Lists.{list_ext}
use Rattle.bits.proofs.WordLists.{bit-words_of}
use Rattle.bits.proofs.Octets.{length-octets_of, get_or-octets_of, octets_of-ext, octets_of-bits, bit-take, bit-drop}

-- ---- the octets of a word

pub octet-in : (word k : ℕ) → k < 8 → word / 2 ^ (56 - 8 * k) % 256 ≡ get_or (octets_of (digit 64 word) 8) k 0
octet-in word k h =
    ap (λ (x : ℕ). word / 2 ^ x % 256) {x = 56 - 8 * k} {y = 64 - 8 * k - 8} (omega arith)
    ∙ sym (get_or-octets_of (digit 64 word) 8 k h ∙ number-digit 64 word (8 * k) 8 (omega arith))

pub octet-past : (word k : ℕ) → 8 ≤ k → 0 ≡ get_or (octets_of (digit 64 word) 8) k 0
octet-past word k h = sym (get_or-eq_default (octets_of (digit 64 word) 8) 0 (omega (arith, length-octets_of (digit 64 word) 8)))

-- eight octets are those of the word that they make
pub eight-octets : (octets : List ℕ) → ((i : ℕ) → get_or octets i 0 < 256) → length octets ≡ 8 → octets ≡ octets_of (digit 64 (number (bit_at octets) 0 64)) 8
eight-octets octets octet-lt h =
    let f = bit_at octets in
    sym (octets_of-ext (digit 64 (number f 0 64)) f 8 (λ k l. digit-number f (bit_at_lt octets) 0 64 k l ∙ ap f (zero-add k))
    ∙ octets_of-bits octets 8 (λ j l. octet-lt j) (omega arith)
    ∙ take_all 8 octets (omega arith))

-- ---- octets taken eight at a time

module _ (octets : List ℕ) where
  chunk-word : (i : ℕ) → number (bit_at (take 8 (drop (8 * i) octets))) 0 64 ≡ number (bit_at octets) (64 * i) 64
  chunk-word i =
      number-ext (bit_at (take 8 (drop (8 * i) octets))) (bit_at octets) 0 (64 * i) 64
      (λ j l. bit-take 8 (drop (8 * i) octets) (0 + j) (omega arith) ∙ bit-drop (8 * i) octets (0 + j) ∙ ap (bit_at octets) (omega arith))

  chunks-from : (i n : ℕ) → map (λ (block : List ℕ). number (bit_at block) 0 64) (first_chunks 8 n (drop (8 * i) octets)) ≡ list_from (λ i. number (bit_at octets) (64 * i) 64) i n
  unfolding list_from
  chunks-from i zero = refl
  chunks-from i (suc n) =
      ap₂ ◌∷◌ (chunk-word i)
      (ap (λ (rest : List ℕ). map (λ (block : List ℕ). number (bit_at block) 0 64) (first_chunks 8 n rest)) (drop-drop 8 (8 * i) octets ∙ ap (λ (k : ℕ). drop k octets) {x = 8 * i + 8} {y = 8 * suc i} (omega arith))
      ∙ chunks-from (suc i) n)

  chunks-words : (n : ℕ) → map (λ (block : List ℕ). number (bit_at block) 0 64) (first_chunks 8 n octets) ≡ words_of (bit_at octets) n
  unfolding words_of
  chunks-words n = chunks-from 0 n

  -- their bits are the octets' own
  pub bits-chunks : (blocks : List (List ℕ)) (n : ℕ) → blocks ≡ first_chunks 8 n octets → length blocks ≡ n
      → list_from (word_bit (map (λ (block : List ℕ). number (bit_at block) 0 64) blocks)) 0 (64 * length blocks) ≡ list_from (bit_at octets) 0 (64 * n)
  bits-chunks blocks n e long =
      ap₂ (λ (words : List ℕ) (m : ℕ). list_from (word_bit words) 0 (64 * m)) (ap (map (λ (block : List ℕ). number (bit_at block) 0 64)) e ∙ chunks-words n) long
      ∙ list_ext (word_bit (words_of (bit_at octets) n)) (bit_at octets) 0 0 (64 * n) (λ j h. bit-words_of (bit_at octets) (bit_at_lt octets) n (0 + j) (omega arith))
