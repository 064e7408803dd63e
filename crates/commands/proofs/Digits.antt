-- Words put together to a command, and read from it again. Assumes nothing.
use mathlib.Core.Path.{◌≡◌, refl, sym, ap, ap₂, subst, ◌∙◌}
use mathlib.Core.Bool.{Bool, false, not, ◌&&◌, ◌||◌}
use Prim.Native.Nat.{ℕ, zero, suc, ◌+◌, ◌-◌, ◌*◌, ◌/◌, ◌%◌, ◌^◌, ◌<◌}
use native.Mathlib.Nat.{pow-suc, mod-lt}
use native.Mathlib.Decide.{dec_lt}
use native.Mathlib.Omega.{arith}
use borrow.Author.Tests.{le-leb, lt-leb, leb-true, leb-false, eq-eqb, eqb-true, lt-ltb, le-ltb}
use lib.Dec.{leb, ltb, eqb, lit<}
use lib.Count.{ones}
use lib.Pow.{shr-shr, shr_lt}
use Rattle.std.proofs.lemmas.Bool.{and_right, or_parts, not-false}
use Rattle.bits.specs.Choice.{pick}
use Rattle.bits.proofs.Choice.{pick-both, parts-true}
use Rattle.parity.specs.Codeword.{joined}
use Rattle.parity.proofs.Groups.{joined-ext, joined-last, joined-others}
use Rattle.commands.specs.declared.words.Word.{Word}
use Rattle.commands.specs.declared.words.Word.TheVariants.{Header, Payload, Padding, Spoilt, End}
use Rattle.commands.specs.Words.{parity_bit, with_parity, word_in, spoilt, said}

-- ---- words as digits of a number

-- word m from the end
abbrev from_end : ℕ → ℕ → ℕ
from_end v m = v / 2 ^ (6 * m) % 64

end-next : (v m : ℕ) → from_end v (suc m) ≡ from_end (v / 64) m
end-next v m =
    let six : 2 ^ (6 * suc m) ≡ 2 ^ (6 + 6 * m) = ap (λ (k : ℕ). 2 ^ k) {x = 6 * suc m} {y = 6 + 6 * m} (omega arith) in
    ap (λ (x : ℕ). v / x % 64) six ∙ ap (λ (x : ℕ). x % 64) (sym (shr-shr v 6 (6 * m)))

-- each of some words is read from the number that they make
pub word_back : (word : ℕ → ℕ) → ((i : ℕ) → word i < 64) → (n j : ℕ) → j < n → from_end (joined 6 word n) (n - 1 - j) ≡ word j
word_back word small zero j h = absurd (omega (arith, h))
word_back word small (suc n) j h = by (dec_lt j n) (λ low. word_back word small n j low)
  where
    by : Dec (j < n) → (j < n → from_end (joined 6 word n) (n - 1 - j) ≡ word j) → from_end (joined 6 word (suc n)) (suc n - 1 - j) ≡ word j
    by (yes low) next =
        ap (from_end (joined 6 word (suc n))) {x = suc n - 1 - j} {y = suc (n - 1 - j)} (omega arith)
        ∙ end-next (joined 6 word (suc n)) (n - 1 - j)
        ∙ ap (λ (v : ℕ). from_end v (n - 1 - j)) (joined-others 6 word small n)
        ∙ next low
    by (no over) next =
        let last : joined 6 word (suc n) % 64 ≡ word n = joined-last 6 word small n in
        ap (from_end (joined 6 word (suc n))) {x = suc n - 1 - j} {y = 0} (omega (arith, h))
        ∙ omega (arith, last)
        ∙ ap word {x = n} {y = j} (omega (arith, h))

-- and a number is what its words make
pub rebuilt : (n v : ℕ) → v < 2 ^ (6 * n) → joined 6 (λ (j : ℕ). from_end v (n - 1 - j)) n ≡ v
unfolding joined
rebuilt zero v h = omega (arith, h)
rebuilt (suc n) v h =
    let six : 2 ^ (6 * suc n) ≡ 2 ^ (6 * n + 6) = ap (λ (k : ℕ). 2 ^ k) {x = 6 * suc n} {y = 6 * n + 6} (omega arith) in
    let less : v / 64 < 2 ^ (6 * n) = shr_lt (6 * n) 6 (subst (λ (x : ℕ). v < x) six h) in
    let front : joined 6 (λ (j : ℕ). from_end v (suc n - 1 - j)) n ≡ v / 64
    = joined-ext 6 (λ (j : ℕ). from_end v (suc n - 1 - j)) (λ (j : ℕ). from_end (v / 64) (n - 1 - j)) n
    (λ j i. ap (from_end v) {x = suc n - 1 - j} {y = suc (n - 1 - j)} (omega (arith, i)) ∙ end-next v (n - 1 - j))
    ∙ rebuilt n (v / 64) less in
    let end : from_end v (suc n - 1 - n) ≡ v % 64 = ap (from_end v) {x = suc n - 1 - n} {y = 0} (omega arith) ∙ omega arith in
    omega (arith, front, end)

-- ---- a command and its words

bit-small : (v : ℕ) → parity_bit v < 2
unfolding parity_bit
bit-small v = mod-lt (ones v) (lit< tt)

pub above : (v : ℕ) → with_parity v / 2 ≡ v
unfolding with_parity
above v = omega (arith, bit-small v)

pub below : (v : ℕ) → with_parity v % 2 ≡ parity_bit v
unfolding with_parity
below v = omega (arith, bit-small v)

-- word j of a command is its own digit
pub word-is : (n c j : ℕ) → word_in n c j ≡ from_end (c / 2) (n - 1 - j)
unfolding word_in
word-is n c j =
    ap (λ (k : ℕ). c / 2 ^ k % 64) {x = 6 * (n - 1 - j) + 1} {y = 1 + 6 * (n - 1 - j)} (omega arith)
    ∙ ap (λ (x : ℕ). x % 64) (sym (shr-shr c 1 (6 * (n - 1 - j))))

-- what is written has no mark, and is not spoilt
pub unmarked : (n v : ℕ) → v < 2 ^ (6 * n) → with_parity v < 2 ^ (6 * n + 1)
unmarked n v h =
    let twice : 2 ^ (6 * n + 1) ≡ 2 ^ (6 * n) * 2 = ap (λ (k : ℕ). 2 ^ k) {x = 6 * n + 1} {y = suc (6 * n)} (omega arith) ∙ pow-suc 2 (6 * n) in
    omega (arith, twice, h, above v)

pub not-spoilt : (n v : ℕ) → v < 2 ^ (6 * n) → spoilt n (with_parity v) ≡ false
unfolding spoilt
not-spoilt n v h =
    let right = eq-eqb (with_parity v % 2) (parity_bit (with_parity v / 2)) (below v ∙ ap parity_bit (sym (above v))) in
    ap₂ (λ (a b : Bool). a || not b) (lt-leb (2 ^ (6 * n + 1)) (with_parity v) (unmarked n v h)) right

-- and what is not spoilt is what its words make
pub whole-command : (n c : ℕ) → spoilt n c ≡ false → c ≡ with_parity (joined 6 (word_in n c) n)
unfolding spoilt with_parity
whole-command n c e =
    let both = or_parts (leb (2 ^ (6 * n + 1)) c) (not (eqb (c % 2) (parity_bit (c / 2)))) e in
    let twice : 2 ^ (6 * n + 1) ≡ 2 ^ (6 * n) * 2 = ap (λ (k : ℕ). 2 ^ k) {x = 6 * n + 1} {y = suc (6 * n)} (omega arith) ∙ pow-suc 2 (6 * n) in
    let less : c / 2 < 2 ^ (6 * n) = omega (arith, twice, leb-false (2 ^ (6 * n + 1)) c both.0) in
    let bit : c % 2 ≡ parity_bit (c / 2) = eqb-true (c % 2) (parity_bit (c / 2)) (not-false _ both.1) in
    let words : joined 6 (word_in n c) n ≡ c / 2 = joined-ext 6 (word_in n c) (λ (j : ℕ). from_end (c / 2) (n - 1 - j)) n (λ j _. word-is n c j) ∙ rebuilt n (c / 2) less in
    let parts : c ≡ c / 2 * 2 + parity_bit (c / 2) = omega (arith, bit) in
    parts ∙ ap (λ (v : ℕ). v * 2 + parity_bit v) (sym words)

-- ---- what a word says

-- the word that says it; of a spoilt command, or past the end, 0
abbrev pub saying : Word → ℕ
saying (Header code) = code
saying (Payload bits) = 32 + bits
saying Padding = 0
saying Spoilt = 0
saying End = 0

pub said-header : (j code : ℕ) → code < 32 → j ≡ 0 → said j code ≡ Header code
unfolding said
said-header j code h e =
    ap (λ (b : Bool). pick b (Payload (code - 32)) (pick (eqb code 0 && ltb 0 j) Padding (Header code))) (lt-leb 32 code h)
    ∙ ap (λ (b : Bool). pick b Padding (Header code)) (and_right (eqb code 0) (ltb 0 j) (le-ltb 0 j (omega (arith, e))))

pub said-payload : (j bits : ℕ) → said j (32 + bits) ≡ Payload bits
unfolding said
said-payload j bits =
    ap (λ (b : Bool). pick b (Payload (32 + bits - 32)) (pick (eqb (32 + bits) 0 && ltb 0 j) Padding (Header (32 + bits)))) (le-leb 32 (32 + bits) (omega arith))
    ∙ ap Payload {x = 32 + bits - 32} {y = bits} (omega arith)

pub said-padding : (j : ℕ) → 0 < j → said j 0 ≡ Padding
unfolding said
said-padding j h = ap (λ (b : Bool). pick b Padding (Header 0)) (lt-ltb 0 j h)

pub saying-said : (j word : ℕ) → saying (said j word) ≡ word
unfolding said
saying-said j word =
    pick-both (λ (w : Word). saying w ≡ word) (leb 32 word) (Payload (word - 32)) (pick (eqb word 0 && ltb 0 j) Padding (Header word))
    (λ t. omega (arith, leb-true 32 word t))
    (λ _. pick-both (λ (w : Word). saying w ≡ word) (eqb word 0 && ltb 0 j) Padding (Header word) (λ t. sym (eqb-true word 0 (parts-true (eqb word 0) (ltb 0 j) t).0)) (λ _. refl))
