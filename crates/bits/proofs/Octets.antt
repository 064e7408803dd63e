-- Octets made of a stream's bits have those bits, and octets made of their own bits are themselves. Assumes nothing.
use mathlib.Core.Path.{◌≡◌, refl, sym, ap, ap₂, ◌∙◌}
use mathlib.Core.List.{List, ◌∷◌, ◌++◌}
use Prim.Native.Nat.{ℕ, zero, suc, ◌+◌, ◌-◌, ◌*◌, ◌/◌, ◌%◌, ◌^◌, ◌≤◌, ◌<◌}
use native.Mathlib.Nat.{zero-add}
use native.Mathlib.Omega.{arith}
use lib.ListN.{length, get_or, take, drop, replicate, get_or-append, length-drop}
use lib.Seq.{get_or-take, get_or-drop, length-take-le, ext_get_or}
use Rattle.bits.specs.Order.{bit_at, list_from, bits_of, number, digit, octets_of}
use Rattle.bits.proofs.Numbers.{digit-number, number-ext, number-zeros, number-octet, bit-octet}
use Rattle.bits.proofs.Lists.{list_ext, length-list, get_or-list, bits_from, from_start}

-- ---- octets of a stream

module _ (f : ℕ → ℕ) where
  pub length-octets_of : (n : ℕ) → length (octets_of f n) ≡ n
  unfolding octets_of
  length-octets_of n = length-list (λ j. number f (8 * j) 8) 0 n

  pub get_or-octets_of : (n j : ℕ) → j < n → get_or (octets_of f n) j 0 ≡ number f (8 * j) 8
  unfolding octets_of
  get_or-octets_of n j h = get_or-list (λ j. number f (8 * j) 8) 0 n j h ∙ ap (λ (i : ℕ). number f (8 * i) 8) (zero-add j)

  pub bit-octets_of : ((k : ℕ) → f k < 2) → (n k : ℕ) → k < 8 * n → bit_at (octets_of f n) k ≡ f k
  unfolding digit
  bit-octets_of bits n k h =
      ap (bit_at (octets_of f n)) {x = k} {y = 8 * (k / 8) + k % 8} (omega arith)
      ∙ bit-octet (octets_of f n) (k / 8) (k % 8) (omega arith)
      ∙ ap (λ (x : ℕ). x / 2 ^ (7 - k % 8) % 2) (get_or-octets_of n (k / 8) (omega arith))
      ∙ ap (λ (x : ℕ). number f (8 * (k / 8)) 8 / 2 ^ x % 2) {x = 7 - k % 8} {y = 8 - 1 - k % 8} (omega arith)
      ∙ digit-number f bits (8 * (k / 8)) 8 (k % 8) (omega arith)
      ∙ ap f (omega arith)

pub octets_of-ext : (f g : ℕ → ℕ) (n : ℕ) → ((k : ℕ) → k < 8 * n → f k ≡ g k) → octets_of f n ≡ octets_of g n
unfolding octets_of
octets_of-ext f g n h =
    list_ext (λ j. number f (8 * j) 8) (λ j. number g (8 * j) 8) 0 0 n
    (λ j l. number-ext f g (8 * (0 + j)) (8 * (0 + j)) 8 (λ i q. h (8 * (0 + j) + i) (omega arith)))

-- ---- octets of their own bits

pub octets_of-bits : (s : List ℕ) (n : ℕ) → ((j : ℕ) → j < n → get_or s j 0 < 256) → n ≤ length s → octets_of (bit_at s) n ≡ take n s
octets_of-bits s n octet-lt h =
    ext_get_or 0 (octets_of (bit_at s) n) (take n s) (length-octets_of (bit_at s) n ∙ sym (length-take-le n s h))
    (λ j l.
    let q : j < n = omega (arith, length-octets_of (bit_at s) n) in
    get_or-octets_of (bit_at s) n j q ∙ number-octet s j (octet-lt j q) ∙ sym (get_or-take n s j 0 q))

-- the octets from octet a on
pub bit-drop : (a : ℕ) (s : List ℕ) (k : ℕ) → bit_at (drop a s) k ≡ bit_at s (8 * a + k)
unfolding bit_at
bit-drop a s k =
    ap₂ (λ (x y : ℕ). x / 2 ^ (7 - y) % 2) (get_or-drop a s (k / 8) 0 ∙ ap (λ (x : ℕ). get_or s x 0) {x = a + k / 8} {y = (8 * a + k) / 8} (omega arith)) (omega arith)

pub bits-drop : (a : ℕ) (s : List ℕ) → bits_of (drop a s) ≡ bits_from s a
unfolding bits_of
bits-drop a s =
    ap (λ (n : ℕ). list_from (bit_at (drop a s)) 0 (8 * n)) (length-drop a s)
    ∙ list_ext (bit_at (drop a s)) (bit_at s) 0 (8 * a) (8 * (length s - a)) (λ j _. bit-drop a s (0 + j) ∙ ap (bit_at s) (omega arith))

-- past the first octet, the bits are those of the rest
pub after_first : (v : ℕ) (octets : List ℕ) → bits_from (v ∷ octets) 1 ≡ bits_of octets
after_first v octets =
    ap (list_from (bit_at (v ∷ octets)) 8) {x = 8 * (length (v ∷ octets) - 1)} {y = 8 * (length octets - 0)} (omega arith)
    ∙ list_ext (bit_at (v ∷ octets)) (bit_at octets) 8 0 (8 * (length octets - 0)) (λ j _. sym (bit-drop 1 (v ∷ octets) j) ∙ ap (bit_at octets) (sym (zero-add j)))
    ∙ from_start octets

-- the first n octets, and octets with others behind them
pub bit-take : (n : ℕ) (s : List ℕ) (k : ℕ) → k < 8 * n → bit_at (take n s) k ≡ bit_at s k
unfolding bit_at
bit-take n s k h = ap (λ (x : ℕ). x / 2 ^ (7 - k % 8) % 2) (get_or-take n s (k / 8) 0 (omega arith))

pub bit-append : (s t : List ℕ) (k : ℕ) → k < 8 * length s → bit_at (s ++ t) k ≡ bit_at s k
unfolding bit_at
bit-append s t k h = ap (λ (x : ℕ). x / 2 ^ (7 - k % 8) % 2) (get_or-append s t 0 (k / 8) (omega arith))

-- octets of bits that are all 0
module _ (f : ℕ → ℕ) (none : (j : ℕ) → f j ≡ 0) where
  zeros-from : (k n : ℕ) → list_from (λ j. number f (8 * j) 8) k n ≡ replicate n 0
  unfolding list_from
  zeros-from k zero = refl
  zeros-from k (suc n) = ap₂ ◌∷◌ (number-zeros f none (8 * k) 8) (zeros-from (suc k) n)

  pub octets-zeros : (n : ℕ) → octets_of f n ≡ replicate n 0
  unfolding octets_of
  octets-zeros = zeros-from 0
