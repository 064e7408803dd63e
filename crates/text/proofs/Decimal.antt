-- Decimal numbers: their last digit, how many digits they have, and how long the lines made of them are. Document 01, "Capture and
-- listing". Assumes nothing.
use mathlib.Core.Path.{◌≡◌, sym, ap, ap₂, ◌∙◌}
use mathlib.Core.Bool.{Bool, true, false}
use mathlib.Core.List.{List, [], ◌∷◌, ◌++◌}
use Prim.Native.Nat.{ℕ, zero, suc, ◌+◌, ◌-◌, ◌*◌, ◌/◌, ◌%◌, ◌^◌, ◌≤◌, ◌<◌}
use native.Mathlib.Nat.{pow-suc, one-le-pow}
use native.Mathlib.Omega.{arith}
use borrow.Author.Tests.{lt-ltb, le-ltb}
use lib.Dec.{ltb}
use lib.ListN.{length, set, length-append}
use Rattle.bits.specs.Choice.{pick}
use Rattle.bits.specs.Order.{laid_at}
use Rattle.frame.specs.declared.modes.Row.{Row}
use Rattle.text.specs.Text.{digits_of, decimal, refused_line, name_of, head_line, release_line}
use Rattle.text.specs.inner.Wrote.{field}
use Rattle.text.proofs.Wrote.{laid-before, laid-alone}

-- ---- digits

-- room for one digit more changes nothing
spare : (most n : ℕ) → n < 10 ^ suc most → digits_of (suc most) n ≡ digits_of (suc (suc most)) n
unfolding digits_of
spare zero n h = simp (lt-ltb n 10 h)
spare (suc most) n h =
    let below : n < 10 ^ suc most * 10 = rw pow-suc at h in
    ap (λ (l : List ℕ). pick (ltb n 10) ((48 + n) ∷ []) (l ++ ((48 + n % 10) ∷ []))) (spare most (n / 10) (omega arith))

pub one-digit : (n : ℕ) → n < 10 → decimal n ≡ (48 + n) ∷ []
unfolding decimal digits_of
one-digit n h = simp (lt-ltb n 10 h)

pub last-digit : (n : ℕ) → 10 ≤ n → n < 4294967296 → decimal n ≡ decimal (n / 10) ++ ((48 + n % 10) ∷ [])
unfolding decimal digits_of
last-digit n h k =
    simp (le-ltb n 10 h) (ap (λ (l : List ℕ). l ++ ((48 + n % 10) ∷ [])) (spare 18 (n / 10) (omega arith)))

-- ---- how many there are

pub digit-more : (n : ℕ) → 10 ≤ n → n < 4294967296 → length (decimal n) ≡ length (decimal (n / 10)) + 1
digit-more n h small = ap length (last-digit n h small) ∙ length-append (decimal (n / 10)) ((48 + n % 10) ∷ [])

pub count-one : (n : ℕ) → n < 10 → 1 ≡ length (decimal n)
count-one n h = sym (ap length (one-digit n h))

pub count : (d n : ℕ) → 10 ^ d ≤ n → n < 10 ^ suc d → n < 4294967296 → suc d ≡ length (decimal n)
count zero n low high small = count-one n high
count (suc d) n low high small =
    let from : 10 ^ d * 10 ≤ n = rw pow-suc at low in
    let below : n < 10 ^ suc d * 10 = rw pow-suc at high in
    let some : 1 ≤ 10 ^ d = one-le-pow d 10 (omega arith) in
    omega (arith, digit-more n (omega arith) small, count d (n / 10) (omega arith) (omega arith) (omega arith))

-- ---- digits laid before a place, the last one first

pub laid-digit : (n end : ℕ) (old : List ℕ) → n < 10 → length (decimal n) ≤ end → end ≤ length old → set old (end - 1) (48 + n) ≡ laid_at (decimal n) (end - length (decimal n)) old
laid-digit n end old h k room =
    let one = one-digit n h in
    laid-alone (48 + n) (end - 1) old (omega (arith, ap length one))
    ∙ ap₂ (λ (x : List ℕ) (y : ℕ). laid_at x (end - y) old) (sym one) (sym (ap length one))

pub laid-digits : (n end : ℕ) (old : List ℕ) → 10 ≤ n → n < 4294967296 → length (decimal n) ≤ end → end ≤ length old
    → laid_at (decimal (n / 10)) (end - 1 - length (decimal (n / 10))) (set old (end - 1) (48 + n % 10)) ≡ laid_at (decimal n) (end - length (decimal n)) old
laid-digits n end old h small k room =
    let front = decimal (n / 10) in
    let at = end - length (decimal n) in
    let more = digit-more n h small in
    let start : end - 1 - length front ≡ at = omega (arith, more) in
    let last : end - 1 ≡ at + length front = omega (arith, more) in
    ap₂ (λ (x y : ℕ). laid_at front x (set old y (48 + n % 10))) start last
    ∙ laid-before front (48 + n % 10) at old (omega arith)
    ∙ ap (λ (x : List ℕ). laid_at x at old) (sym (last-digit n h small))

-- ---- at least one, and no more than so many

longer : (t : Bool) (a b : List ℕ) (m : ℕ) → m ≤ length a → m ≤ length b → m ≤ length (pick t a b)
longer true a b m h k = h
longer false a b m h k = k

pub some-digits : (n : ℕ) → 1 ≤ length (decimal n)
unfolding decimal digits_of
some-digits n =
    longer (ltb n 10) ((48 + n) ∷ []) (digits_of 19 (n / 10) ++ ((48 + n % 10) ∷ [])) 1 (omega arith)
    (omega (arith, length-append (digits_of 19 (n / 10)) ((48 + n % 10) ∷ [])))

shorter : (t : Bool) (a b : List ℕ) (m : ℕ) → length a ≤ m → length b ≤ m → length (pick t a b) ≤ m
shorter true a b m h k = h
shorter false a b m h k = k

digits-length : (most n : ℕ) → length (digits_of most n) ≤ most
unfolding digits_of
digits-length zero n = omega arith
digits-length (suc most) n =
    shorter (ltb n 10) ((48 + n) ∷ []) (digits_of most (n / 10) ++ ((48 + n % 10) ∷ [])) (suc most) (omega arith)
    (omega (arith, length-append (digits_of most (n / 10)) ((48 + n % 10) ∷ []), digits-length most (n / 10)))

pub decimal-length : (n : ℕ) → length (decimal n) ≤ 20
unfolding decimal
decimal-length n = digits-length 20 n

-- a number below 10^d has at most d digits
digits-below : (d most n : ℕ) → n < 10 ^ suc d → length (digits_of most n) ≤ suc d
unfolding digits_of
digits-below d zero n h = omega arith
digits-below zero (suc most) n h = simp (lt-ltb n 10 h) (omega arith)
digits-below (suc d) (suc most) n h =
    let below : n < 10 ^ suc d * 10 = rw pow-suc at h in
    shorter (ltb n 10) ((48 + n) ∷ []) (digits_of most (n / 10) ++ ((48 + n % 10) ∷ [])) (suc (suc d)) (omega arith)
    (omega (arith, length-append (digits_of most (n / 10)) ((48 + n % 10) ∷ []), digits-below d most (n / 10) (omega arith)))

pub decimal-below : (d n : ℕ) → n < 10 ^ suc d → length (decimal n) ≤ suc d
unfolding decimal
decimal-below d n h = digits-below d 20 n h

-- ---- fields and lines

pub field-length : (n end : ℕ) → length (field n end) ≡ length (decimal n) + 1
field-length n end = length-append (decimal n) (end ∷ [])

pub line-length : (k status place pattern : ℕ)
    → length (release_line k status place pattern) ≡ length (decimal k) + length (decimal status) + length (decimal place) + length (decimal pattern) + 4
unfolding release_line
line-length k status place pattern =
    omega (
      arith,
      length-append (field k 32) (field status 32 ++ (field place 32 ++ field pattern 10)),
      length-append (field status 32) (field place 32 ++ field pattern 10),
      length-append (field place 32) (field pattern 10),
      field-length k 32,
      field-length status 32,
      field-length place 32,
      field-length pattern 10,
    )

pub head-length : (R : Row) (E received released : ℕ)
    → length (head_line R E received released) ≡ length (name_of R) + length (decimal E) + length (decimal received) + length (decimal released) + 3
unfolding head_line
head-length R E received released =
    omega (
      arith,
      length-append (name_of R) (field E 32 ++ (field received 32 ++ field released 10)),
      length-append (field E 32) (field received 32 ++ field released 10),
      length-append (field received 32) (field released 10),
      field-length E 32,
      field-length received 32,
      field-length released 10,
    )

pub refusal-length : (n : ℕ) → length (refused_line n) ≡ 8 + length (decimal n) + 1
unfolding refused_line
refusal-length n = omega (arith, field-length n 10)
