-- The last 32 headers hold the latest bits of a stream, in their order. Assumes nothing.
use mathlib.Core.Path.{◌≡◌, refl, sym, ap, ◌∙◌}
use mathlib.Core.Logic.{⊎_elim}
use Prim.Native.Nat.{ℕ, zero, suc, ◌+◌, ◌*◌, ◌/◌, ◌%◌, ◌^◌, ◌≤◌, ◌<◌}
use native.Mathlib.Nat.{div-one}
use native.Mathlib.Omega.{arith}
use borrow.Author.Tests.{lt-ltb, ltb-true}
use lib.Dec.{ltb}
use lib.Pow.{high, shr-shr}
use Rattle.bits.proofs.Choice.{pick-both}
use Rattle.bits.proofs.Numbers.{low_digit}
use Rattle.frame.specs.declared.headers.Header.{Header}
use Rattle.frame.specs.Headers.{carries}
use Rattle.frame.proofs.Reading.{carries-lt}
use Rattle.lock.specs.ExtendedTable.{with_header, fresh_extended, extended_step}
use Rattle.lock.specs.declared.ExtendedLock.{ExtendedLock}
use Rattle.lock.proofs.ExtendedRows.{with-seen, with-headers, step_same}
use Rattle.lock.proofs.Follow.{lt-or-ge}

shifted : (x b i : ℕ) → b < 2 → i < 31 → (x % 2 ^ 31 * 2 + b) / 2 ^ (1 + i) % 2 ≡ x / 2 ^ i % 2
shifted x b i h l =
    ap (λ (y : ℕ). y % 2) (sym (shr-shr (x % 2 ^ 31 * 2 + b) 1 i) ∙ ap (λ (y : ℕ). y / 2 ^ i) (high (x % 2 ^ 31) 1 h))
    ∙ low_digit x 31 i l

-- once k bits of the stream s were seen
pub record Seen (s : ℕ → ℕ) (k : ℕ) (x : ExtendedLock) : Type 0 where
  pub few : k ≤ 32 → x.seen ≡ k
  pub many : 32 ≤ k → x.seen ≡ 32
  pub window : (i j : ℕ) → i < 32 → j + i + 1 ≡ k → x.headers / 2 ^ i % 2 ≡ s j

pub seen_none : (s : ℕ → ℕ) → Seen s 0 fresh_extended
seen_none s = record { few = λ h. refl; many = λ h. absurd (omega arith); window = λ i j h q. absurd (omega arith) }

window_more : (s : ℕ → ℕ) (k x b : ℕ) → b < 2 → b ≡ s k → ((i j : ℕ) → i < 32 → j + i + 1 ≡ k → x / 2 ^ i % 2 ≡ s j)
    → (i j : ℕ) → i < 32 → j + i + 1 ≡ suc k → (x % 2 ^ 31 * 2 + b) / 2 ^ i % 2 ≡ s j
window_more s k x b l e w zero j h q =
    let z : k ≡ j = omega arith in
    let y : (x % 2 ^ 31 * 2 + b) / 1 % 2 ≡ b = ap (λ (n : ℕ). n % 2) (div-one (x % 2 ^ 31 * 2 + b)) ∙ omega arith in
    y ∙ e ∙ ap s z
window_more s k x b l e w (suc i) j h q =
    ap (λ (n : ℕ). (x % 2 ^ 31 * 2 + b) / 2 ^ n % 2) {x = suc i} {y = 1 + i} (omega arith) ∙ shifted x b i l (omega arith) ∙ w i j (omega arith) (omega arith)

pub seen_more : (s : ℕ → ℕ) (k : ℕ) (header : Header) (x : ExtendedLock) → carries header ≡ s k → Seen s k x → Seen s (suc k) (with_header x header)
seen_more s k header x e w = record {
  few = λ h. with-seen x header ∙ simp (lt-ltb x.seen 32 (omega (arith, w.few (omega arith)))) (omega (arith, w.few (omega arith)));
  many = λ h. with-seen x header ∙ pick-both (λ (n : ℕ). n ≡ 32) (ltb x.seen 32) (x.seen + 1) 32
      (λ q. ⊎_elim (λ (r : k < 32). omega (arith, w.few (omega arith))) (λ (r : 32 ≤ k). absurd (omega (arith, w.many r, ltb-true x.seen 32 q))) (lt-or-ge k 32))
      (λ q. refl);
  window = λ i j h q. ap (λ (n : ℕ). n / 2 ^ i % 2) (with-headers x header) ∙ window_more s k x.headers (carries header) (carries-lt header) e w.window i j h q;
}

pub seen_step : (s : ℕ → ℕ) (k period : ℕ) (header : Header) (x : ExtendedLock) → carries header ≡ s k → Seen s k x → Seen s (suc k) (extended_step period x header)
seen_step s k period header x e w =
    let v = seen_more s k header x e w in
    let m = step_same period x header in
    record { few = λ h. m.seen ∙ v.few h; many = λ h. m.seen ∙ v.many h; window = λ i j h q. ap (λ (n : ℕ). n / 2 ^ i % 2) m.headers ∙ v.window i j h q }
