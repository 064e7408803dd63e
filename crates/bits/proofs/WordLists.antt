-- Words made of a stream's bits have those bits, and their octets are the stream's: document 01, "From octets to lane bits". Assumes nothing.
use mathlib.Core.Path.{◌≡◌, refl, sym, ap, ap₂, ◌∙◌}
use mathlib.Core.List.{List, [], ◌∷◌, ◌++◌}
use Prim.Native.Nat.{ℕ, ◌+◌, ◌-◌, ◌*◌, ◌/◌, ◌%◌, ◌^◌, ◌<◌}
use native.Mathlib.Nat.{zero-add, mod-eq_of_lt}
use native.Mathlib.Omega.{arith}
use lib.ListN.{length, get_or, set}
use Rattle.bits.specs.Order.{bit_at, list_from, bits_of, number, digit, octets_of, word_bit, words_of, octets_in, laid, laid_at}
use Rattle.bits.proofs.Numbers.{digit_lt, digit-number, number-ext, number-whole, number_digits}
use Rattle.bits.proofs.Lists.{list_ext, list-append, length-list, get_or-list}
use Rattle.bits.proofs.Octets.{length-octets_of, bit-octets_of, octets_of-ext}
use Rattle.bits.proofs.Laid.{laid-start, laid-all, laid-set}

module _ (words : List ℕ) where
  pub word_bit-lt : (k : ℕ) → word_bit words k < 2
  unfolding word_bit
  word_bit-lt k = digit_lt 64 (get_or words (k / 64) 0) (k % 64)

  -- the bits of word i, and word i from its bits
  pub word_bit-word : (i j : ℕ) → j < 64 → word_bit words (64 * i + j) ≡ digit 64 (get_or words i 0) j
  unfolding word_bit
  word_bit-word i j h = ap₂ (λ (x y : ℕ). digit 64 (get_or words x 0) y) (omega arith) (omega arith)

  pub number_low : (i : ℕ) → number (word_bit words) (64 * i) 64 ≡ get_or words i 0 % 2 ^ 64
  unfolding digit
  number_low i =
      number-ext (word_bit words) (λ j. get_or words i 0 / 2 ^ (64 - 1 - j) % 2) (64 * i) 0 64 (λ j q. word_bit-word i j q ∙ ap (digit 64 (get_or words i 0)) (sym (zero-add j)))
      ∙ number-whole 64 (get_or words i 0)

  pub number_word : (i : ℕ) → get_or words i 0 < 2 ^ 64 → number (word_bit words) (64 * i) 64 ≡ get_or words i 0
  number_word i h = number_low i ∙ mod-eq_of_lt h

  -- the octets that words hold
  pub length-octets_in : length (octets_in words) ≡ 8 * length words
  unfolding octets_in
  length-octets_in = length-octets_of (word_bit words) (8 * length words)

  pub bit-octets_in : (k : ℕ) → k < 64 * length words → bit_at (octets_in words) k ≡ word_bit words k
  unfolding octets_in
  bit-octets_in k h = bit-octets_of (word_bit words) word_bit-lt (8 * length words) k (omega arith)

  pub bits_of-octets_in : bits_of (octets_in words) ≡ list_from (word_bit words) 0 (64 * length words)
  unfolding bits_of
  bits_of-octets_in =
      ap (list_from (bit_at (octets_in words)) 0) {x = 8 * length (octets_in words)} {y = 64 * length words} (omega (arith, length-octets_in))
      ∙ list_ext (bit_at (octets_in words)) (word_bit words) 0 0 (64 * length words) (λ j h. bit-octets_in (0 + j) (omega arith))

-- words of a stream
module _ (f : ℕ → ℕ) where
  pub length-words_of : (n : ℕ) → length (words_of f n) ≡ n
  unfolding words_of
  length-words_of n = length-list (λ i. number f (64 * i) 64) 0 n

  pub get_or-words_of : (n i : ℕ) → i < n → get_or (words_of f n) i 0 ≡ number f (64 * i) 64
  unfolding words_of
  get_or-words_of n i h = get_or-list (λ i. number f (64 * i) 64) 0 n i h ∙ ap (λ (x : ℕ). number f (64 * x) 64) (zero-add i)

  -- laid over others: none, and one more stored
  pub words-none : (old : List ℕ) → old ≡ laid (words_of f 0) old
  unfolding laid words_of list_from
  words-none old = refl

  pub words_more : (i word : ℕ) (old : List ℕ) → i < length old → word ≡ number f (64 * i) 64 → set (laid (words_of f i) old) i word ≡ laid (words_of f (i + 1)) old
  words_more i word old h e =
      ap (λ (x : ℕ). set (laid (words_of f i) old) x word) (sym (length-words_of i))
      ∙ laid-set (words_of f i) old word (omega (arith, length-words_of i))
      ∙ ap (λ (x : List ℕ). laid x old) (unfold words_of list_from in (ap (λ (x : ℕ). words_of f i ++ x ∷ []) (e ∙ ap (λ (x : ℕ). number f (64 * x) 64) (sym (zero-add i))) ∙ sym (list-append (λ i. number f (64 * i) 64) 0 i 1)))

  module _ (bits : (k : ℕ) → f k < 2) where
    pub bit-words_of : (n k : ℕ) → k < 64 * n → word_bit (words_of f n) k ≡ f k
    bit-words_of n k h =
        ap (word_bit (words_of f n)) {x = k} {y = 64 * (k / 64) + k % 64} (omega arith)
        ∙ word_bit-word (words_of f n) (k / 64) (k % 64) (omega arith)
        ∙ ap (λ (x : ℕ). digit 64 x (k % 64)) (get_or-words_of n (k / 64) (omega arith))
        ∙ digit-number f bits (64 * (k / 64)) 64 (k % 64) (omega arith)
        ∙ ap f (omega arith)

    pub octets_in-words_of : (n : ℕ) → octets_in (words_of f n) ≡ octets_of f (8 * n)
    unfolding octets_in
    octets_in-words_of n =
        ap (λ (x : ℕ). octets_of (word_bit (words_of f n)) (8 * x)) (length-words_of n)
        ∙ octets_of-ext (word_bit (words_of f n)) f (8 * n) (λ k h. bit-words_of n k (omega arith))

-- a word laid over eight octets reads back
pub word_back : (word : ℕ) (old : List ℕ) → word < 2 ^ 64 → length old ≡ 8 → number (bit_at (laid_at (octets_of (digit 64 word) 8) 0 old)) 0 64 ≡ word
word_back word old h e =
    let new = octets_of (digit 64 word) 8 in
    let n : length new ≡ 8 = length-octets_of (digit 64 word) 8 in
    ap (λ (l : List ℕ). number (bit_at l) 0 64) (laid-start new old (omega arith) ∙ laid-all new old (omega arith))
    ∙ number-ext (bit_at new) (digit 64 word) 0 0 64 (λ j l. bit-octets_of (digit 64 word) (digit_lt 64 word) 8 (0 + j) (omega arith))
    ∙ number_digits 64 word h
