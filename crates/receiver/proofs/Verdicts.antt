-- What a release can be: document 01, "What the receiver releases". Assumes nothing.
use mathlib.Core.Path.{subst}
use mathlib.Core.Logic.{◌⊎◌, inl, inr}
use mathlib.Core.Bool.{Bool, true, false}
use Prim.Native.Nat.{ℕ, ◌%◌, ◌≤◌}
use native.Mathlib.Omega.{arith}
use Rattle.frame.specs.declared.modes.Sync.{Sync}
use Rattle.frame.specs.declared.modes.Row.{Row}
use Rattle.judge.specs.declared.Verdict.{Verdict}
use Rattle.judge.specs.Judge.{status_of, place_of, pattern_of, judged, released_status}
use Rattle.judge.proofs.Verdicts.{Cases, Judged, verdict-cases}
use Rattle.judge.proofs.Judging.{status-trusted, status-untrusted}
use Rattle.receiver.specs.declared.Receiver.{Receiver}
use Rattle.receiver.specs.Release.{Release, parity_at, verdict_at, release_at}

-- a status is one of 0, 1, 2, 4, 5, 6; a place and a pattern stand with 1 and 5 alone
pub record Released (S : Sync) (r : Release) : Type 0 where
  pub status : (r.status ≤ 2) ⊎ ((4 ≤ r.status) × (r.status ≤ 6))
  pub cases : Cases S (r.status % 4) r.place r.pattern

module _ (R : Row) (lane : ℕ → ℕ) where
  pub release-cases : (m : ℕ) (s : Receiver) → Released R.sync (release_at R lane m s)
  unfolding release_at verdict_at
  release-cases m s = by s.trusted
    where
      v : Verdict
      v = judged R.sync s.octets (parity_at R lane m s)

      j : Judged R.sync v
      j = verdict-cases R.sync s.octets (parity_at R lane m s)

      by : (t : Bool) → Released R.sync (record { octets = (release_at R lane m s).octets; status = released_status v t; command = s.command; place = place_of v; pattern = pattern_of v; invalid = s.invalid })
      by true = record {
        status = inl (omega (arith, status-trusted v, j.status));
        cases = subst (λ (x : ℕ). Cases R.sync x (place_of v) (pattern_of v)) {x = status_of v} {y = released_status v true % 4} (omega (arith, status-trusted v, j.status)) j.cases;
      }
      by false = record {
        status = inr (omega (arith, status-untrusted v), omega (arith, status-untrusted v, j.status));
        cases = subst (λ (x : ℕ). Cases R.sync x (place_of v) (pattern_of v)) {x = status_of v} {y = released_status v false % 4} (omega (arith, status-untrusted v, j.status)) j.cases;
      }
