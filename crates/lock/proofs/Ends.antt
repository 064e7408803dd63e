-- On an undamaged lane with the pilot signal of `Stream`, once 32 headers were seen, exactly the blocks match that end an extended multiblock.
-- Assumes nothing.
use mathlib.Core.Path.{◌≡◌, refl, sym, ap, ◌∙◌}
use mathlib.Core.Bool.{Bool, true, false, true≢false}
use mathlib.Core.Logic.{⊎_elim}
use Prim.Native.Nat.{ℕ, ◌+◌, ◌-◌, ◌*◌, ◌/◌, ◌%◌, ◌^◌, ◌≤◌, ◌<◌}
use native.Mathlib.Nat.{mod-lt, mod-eq_of_lt, mul-add-mod_self_left, div-add-mod, mod-mod_of_dvd, dvd-mul_right, div-one}
use native.Mathlib.Omega.{arith}
use borrow.Author.Tests.{eq-eqb, ne_eqb, eqb-true, eqb-false}
use lib.Dec.{eqb}
use lib.Pow.{mod-pow-add}
use Rattle.bits.proofs.Choice.{pick-both}
use Rattle.lock.specs.ExtendedTable.{matches}
use Rattle.lock.specs.Stream.{always_one, PilotSync}
use Rattle.lock.specs.declared.ExtendedLock.{ExtendedLock}
use Rattle.lock.proofs.Matches.{match-from, match-tells}
use Rattle.lock.proofs.Follow.{lt-or-ge}
use Rattle.lock.proofs.Window.{Seen}

-- the five latest bits of a number that ends in 00001
ending : (x : ℕ) → x % 2 ^ 5 ≡ 1 → (x / 2 ^ 0 % 2 ≡ 1) × (x / 2 ^ 1 % 2 ≡ 0) × (x / 2 ^ 2 % 2 ≡ 0) × (x / 2 ^ 3 % 2 ≡ 0) × (x / 2 ^ 4 % 2 ≡ 0)
ending x e = omega arith

top : (x k : ℕ) → x / 2 ^ k % 2 ≡ 0 → x % 2 ^ (1 + k) ≡ x % 2 ^ k
top x k e = mod-pow-add x 1 k ∙ ap (λ (y : ℕ). y * 2 ^ k + x % 2 ^ k) e ∙ omega arith

ended : (x : ℕ) → x / 2 ^ 0 % 2 ≡ 1 → x / 2 ^ 1 % 2 ≡ 0 → x / 2 ^ 2 % 2 ≡ 0 → x / 2 ^ 3 % 2 ≡ 0 → x / 2 ^ 4 % 2 ≡ 0 → x % 2 ^ 5 ≡ 1
ended x a b c d e = top x 4 e ∙ top x 3 d ∙ top x 2 c ∙ top x 1 b ∙ ap (λ (y : ℕ). y % 2) (sym (div-one x)) ∙ a

mod-back : (m d p : ℕ) → 0 < p → d ≤ m % p → (m - d) % p ≡ m % p - d
mod-back m d p h l =
    let z : m - d ≡ p * (m / p) + (m % p - d) = omega (arith, div-add-mod m p) in
    let k = mod-lt m h in
    ap (λ (y : ℕ). y % p) z ∙ mul-add-mod_self_left p (m / p) (m % p - d) ∙ mod-eq_of_lt (omega arith)

same-as : (m : Bool) (a b : ℕ) → (a ≡ b → m ≡ true) → (m ≡ true → a ≡ b) → m ≡ eqb a b
same-as true a b f g = sym (eq-eqb a b (g refl))
same-as false a b f g = sym (ne_eqb a b (λ e. true≢false (sym (f e))))

module _ (E p : ℕ) (sync : ℕ → ℕ) (w : PilotSync E p sync) (some : 1 ≤ E) where
  -- in 0, 0, 0, 0, 1 the 1 is at position 31
  at-end : (n : ℕ) → 4 ≤ n → sync n ≡ 1 → ((i : ℕ) → 1 ≤ i → i ≤ 4 → sync (n - i) ≡ 0) → (n + p) % 32 ≡ 31
  at-end n l o z =
      let m = (n + p) % 32 in
      -- a 1 at position k, i before
      let no : (k i : ℕ) → 1 ≤ i → i ≤ 4 → (n - i + p) % 32 ≡ k → always_one k ≡ true → ⊥ =
      λ k i a b c d. omega (arith, w.ones (n - i) (ap always_one c ∙ d), z i a b) in
      let b₄ : m < 4 → m ≡ 31 = λ r. absurd (no 31 (m + 1) (omega arith) (omega arith) (omega arith) refl) in
      let more : (k j : ℕ) → (m < k → m ≡ 31) → (k ≤ m → m < j → ⊥) → m < j → m ≡ 31 =
      λ k j f g r. ⊎_elim (λ (a : m < k). f a) (λ (a : k ≤ m). absurd (g a r)) (lt-or-ge m k) in
      let b₈ = more 4 8 b₄ (λ a b. no 3 (m - 3) (omega arith) (omega arith) (omega arith) refl) in
      let b₁₂ = more 8 12 b₈ (λ a b. no 7 (m - 7) (omega arith) (omega arith) (omega arith) refl) in
      let b₁₆ = more 12 16 b₁₂ (λ a b. no 11 (m - 11) (omega arith) (omega arith) (omega arith) refl) in
      let b₂₀ = more 16 20 b₁₆ (λ a b. no 15 (m - 15) (omega arith) (omega arith) (omega arith) refl) in
      let b₂₄ = more 20 24 b₂₀ (λ a b. no 19 (m - 19) (omega arith) (omega arith) (omega arith) refl) in
      let b₂₆ = more 24 26 b₂₄ (λ a b. no 21 (m - 21) (omega arith) (omega arith) (omega arith) refl) in
      let b₂₇ = more 26 27 b₂₆ (λ a b. no 23 (m - 23) (omega arith) (omega arith) (omega arith) refl) in
      let b₃₁ = more 27 31 b₂₇ (λ a b. omega (arith, w.zeros n (omega arith) (omega arith))) in
      ⊎_elim (λ (a : m < 31). b₃₁ a) (λ (a : 31 ≤ m). omega arith) (lt-or-ge m 31)

  position : (n : ℕ) → (n + p) % (32 * E) % 32 ≡ (n + p) % 32
  position n = mod-mod_of_dvd 32 (n + p) (dvd-mul_right 32 E)

  back : (n d : ℕ) → d ≤ n → d ≤ (n + p) % (32 * E) → (n - d + p) % (32 * E) ≡ (n + p) % (32 * E) - d
  back n d l k = ap (λ (y : ℕ). y % (32 * E)) {x = n - d + p} {y = n + p - d} (omega arith) ∙ mod-back (n + p) d (32 * E) (omega arith) k

  module _ (n : ℕ) (x : ExtendedLock) (l : 31 ≤ n) (v : Seen sync (1 + n) x) where
    bit : (i : ℕ) → i < 32 → x.headers / 2 ^ i % 2 ≡ sync (n - i)
    bit i r = v.window i (n - i) r (omega arith)

    end-matches : (n + p) % (32 * E) ≡ 32 * E - 1 → matches x ≡ true
    end-matches r =
        let m : (n + p) % 32 ≡ 31 = sym (position n) ∙ ap (λ (a : ℕ). a % 32) r ∙ omega arith in
        let z : (i : ℕ) → 1 ≤ i → i ≤ 4 → sync (n - i) ≡ 0 = λ i a b. w.zeros (n - i) (omega arith) (omega arith) in
        let o : sync (n - 0) ≡ 1 = w.ones (n - 0) (ap always_one {x = (n - 0 + p) % 32} {y = 31} (omega arith)) in
        let t : sync (n - 9) ≡ 1 = w.last_mark (n - 9) (back n 9 (omega arith) (omega arith) ∙ omega arith) in
        let f : x.headers % 2 ^ 5 ≡ 1 =
        ended x.headers (bit 0 (omega arith) ∙ o) (bit 1 (omega arith) ∙ z 1 (omega arith) (omega arith)) (bit 2 (omega arith) ∙ z 2 (omega arith) (omega arith)) (bit 3 (omega arith) ∙ z 3 (omega arith) (omega arith)) (bit 4 (omega arith) ∙ z 4 (omega arith) (omega arith)) in
        match-from x (omega (arith, v.many (omega arith))) (bit 9 (omega arith) ∙ t) f

    match-ends : matches x ≡ true → (n + p) % (32 * E) ≡ 32 * E - 1
    match-ends r =
        let c = (n + p) % (32 * E) in
        let a = match-tells x r in
        let f = ending x.headers a.1 in
        let t : sync (n - 9) ≡ 1 = sym (bit 9 (omega arith)) ∙ a.0 in
        let o : sync n ≡ 1 = ap sync {x = n} {y = n - 0} (omega arith) ∙ sym (bit 0 (omega arith)) ∙ f.0 in
        let z₁ : sync (n - 1) ≡ 0 = sym (bit 1 (omega arith)) ∙ f.1 in
        let z₂ : sync (n - 2) ≡ 0 = sym (bit 2 (omega arith)) ∙ f.2 in
        let z₃ : sync (n - 3) ≡ 0 = sym (bit 3 (omega arith)) ∙ f.3 in
        let z₄ : sync (n - 4) ≡ 0 = sym (bit 4 (omega arith)) ∙ f.4 in
        let at : (i k : ℕ) → i ≡ k → sync (n - k) ≡ 0 → sync (n - i) ≡ 0 = λ i k d u. ap (λ (j : ℕ). sync (n - j)) d ∙ u in
        let z : (i : ℕ) → 1 ≤ i → i ≤ 4 → sync (n - i) ≡ 0 =
        λ i g h. ⊎_elim (λ (k : i < 2). at i 1 (omega arith) z₁)
        (λ (k₂ : 2 ≤ i). ⊎_elim (λ (k : i < 3). at i 2 (omega arith) z₂)
        (λ (k₃ : 3 ≤ i). ⊎_elim (λ (k : i < 4). at i 3 (omega arith) z₃) (λ (k : 4 ≤ i). at i 4 (omega arith) z₄) (lt-or-ge i 4)) (lt-or-ge i 3)) (lt-or-ge i 2) in
        let m : (n + p) % 32 ≡ 31 = at-end n (omega arith) o z in
        let u : c % 32 ≡ 31 = position n ∙ m in
        let d = back n 9 (omega arith) (omega arith) in
        pick-both (λ (k : ℕ). c ≡ 32 * E - 1) (eqb c (32 * E - 1)) 0 0
        (λ g. eqb-true c (32 * E - 1) g)
        (λ g. absurd (omega (arith, t, w.other_marks (n - 9) (omega arith) (λ k. eqb-false c (32 * E - 1) g (omega arith)))))

    pub matches-at-ends : matches x ≡ eqb ((n + p) % (32 * E)) (32 * E - 1)
    matches-at-ends = same-as (matches x) ((n + p) % (32 * E)) (32 * E - 1) end-matches match-ends
