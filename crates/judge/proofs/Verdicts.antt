-- What a verdict can be: document 01, "What the receiver releases". Assumes nothing.
use mathlib.Core.Path.{◌≡◌, refl}
use Rattle.std.specs.Prelude.{Option, Some, None}
use mathlib.Core.Bool.{true}
use mathlib.Core.List.{List}
use Prim.Native.Nat.{ℕ, ◌%◌, ◌^◌, ◌≤◌, ◌<◌}
use native.Mathlib.Omega.{arith}
use lib.Dec.{eqb}
use Rattle.bits.proofs.Choice.{pick-both}
use Rattle.parity.specs.declared.Burst.{Burst}
use Rattle.parity.specs.Answer.{burst_for}
use Rattle.parity.proofs.Answer.{Answer, answers, found-place}
use Rattle.frame.specs.declared.modes.Sync.{Sync}
use Rattle.frame.specs.Modes.{code, repairs}
use Rattle.judge.specs.declared.Verdict.{Verdict}
use Rattle.judge.specs.Judge.{status_of, place_of, pattern_of, agrees, failed, by_burst, verdict_of, judged}
use Rattle.judge.proofs.Judging.{difference}

-- a place and a pattern of a burst with status 1, which only a code that repairs brings about; none with any other
pub record Cases (S : Sync) (status place pattern : ℕ) : Type 0 where
  pub burst : status ≡ 1 → (repairs S ≡ true) × (place < (code S).positions) × (pattern % 2 ≡ 1) × (pattern < 2 ^ (code S).limit)
  pub none : (status ≡ 1 → ⊥) → (place ≡ 0) × (pattern ≡ 0)

pub record Judged (S : Sync) (v : Verdict) : Type 0 where
  pub status : status_of v ≤ 2
  pub cases : Cases S (status_of v) (place_of v) (pattern_of v)

module _ (S : Sync) where
  as-it-is : Judged S agrees
  as-it-is = record { status = omega arith; cases = record { burst = λ e. absurd (omega arith); none = λ _. (refl, refl) } }

  no-burst : Judged S failed
  no-burst = record { status = omega arith; cases = record { burst = λ e. absurd (omega arith); none = λ _. (refl, refl) } }

  burst-cases : repairs S ≡ true → (s : ℕ) (b : Option Burst) → Answer (code S) s b → Judged S (by_burst b)
  burst-cases y s (Some burst) a =
      let p = found-place a in
      record { status = omega arith; cases = record { burst = λ e. (y, p.0, p.1, p.2); none = λ n. absurd (n refl) } }
  burst-cases y s None a = no-burst

pub verdict-cases : (S : Sync) (octets : List ℕ) (parity : ℕ) → Judged S (judged S octets parity)
unfolding judged verdict_of
verdict-cases S octets parity =
    let d = difference S octets parity in
    let C = code S in
    pick-both (Judged S) (eqb d 0) agrees _ (λ _. as-it-is S)
    (λ _. pick-both (Judged S) (repairs S) (by_burst (burst_for C d)) failed (λ y. burst-cases S y d (burst_for C d) (answers C d)) (λ _. no-burst S))
