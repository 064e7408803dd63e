-- What one header does to extended lock: to the headers seen, and in each phase at a look and between looks. Assumes nothing.
use mathlib.Core.Path.{◌≡◌, refl, ap}
use mathlib.Core.Bool.{Bool, true, false}
use Prim.Native.Nat.{ℕ, ◌+◌, ◌-◌, ◌*◌, ◌%◌, ◌^◌, ◌<◌}
use native.Mathlib.Omega.{arith}
use borrow.Author.Tests.{eq-eqb, ne_eqb}
use lib.Dec.{ltb, eqb}
use Rattle.bits.specs.Choice.{pick}
use Rattle.bits.proofs.Choice.{pick-both}
use Rattle.frame.specs.declared.headers.Header.{Header}
use Rattle.frame.specs.Headers.{carries}
use Rattle.lock.specs.ExtendedTable.{with_header, matches, hunting, following, locked, extended_row, moved, extended_step}
use Rattle.lock.specs.declared.Phase.{Phase}
use Rattle.lock.specs.declared.Phase.TheVariants.{Hunting, Following, Locked}
use Rattle.lock.specs.declared.ExtendedLock.{ExtendedLock}

-- ---- the last 32 headers

module _ (x : ExtendedLock) (header : Header) where
  pub with-seen : (with_header x header).seen ≡ pick (ltb x.seen 32) (x.seen + 1) 32
  unfolding with_header
  with-seen = refl

  pub with-headers : (with_header x header).headers ≡ x.headers % 2 ^ 31 * 2 + carries header
  unfolding with_header
  with-headers = refl

  -- a header more leaves the phase
  pub with-hunting : with_header (hunting x) header ≡ hunting (with_header x header)
  unfolding with_header
  with-hunting = refl

  pub with-following : (good next kept : ℕ) → with_header (following x good next kept) header ≡ following (with_header x header) good next kept
  unfolding with_header
  with-following good next kept = refl

  pub with-locked : (bad next : ℕ) → with_header (locked x bad next) header ≡ locked (with_header x header) bad next
  unfolding with_header
  with-locked bad next = refl

-- ---- the rows of the table

module _ (period : ℕ) (x : ExtendedLock) where
  pub hunts-on : moved period (hunting x) false ≡ hunting x
  unfolding moved
  hunts-on = refl

  pub finds : moved period (hunting x) true ≡ following x 1 period 0
  unfolding moved
  finds = refl

  -- where nothing is kept
  pub waits : (good next : ℕ) → 1 < next → moved period (following x good next 0) false ≡ following x good (next - 1) 0
  unfolding moved
  waits good next h = simp (ne_eqb next 1 (λ z. omega arith))

  pub confirms : (good next : ℕ) → next ≡ 1 → good < 3 → moved period (following x good next 0) true ≡ following x (good + 1) period 0
  unfolding moved
  confirms good next h k = simp (eq-eqb next 1 h, ne_eqb (good + 1) 4 (λ z. omega arith))

  pub locks : (next : ℕ) → next ≡ 1 → moved period (following x 3 next 0) true ≡ locked x 0 period
  unfolding moved
  locks next h = simp (eq-eqb next 1 h)

  pub holds_on : (next : ℕ) → 1 < next → moved period (locked x 0 next) false ≡ locked x 0 (next - 1)
  unfolding moved
  holds_on next h = simp (ne_eqb next 1 (λ z. omega arith))

  pub holds-again : (next : ℕ) → next ≡ 1 → moved period (locked x 0 next) true ≡ locked x 0 period
  unfolding moved
  holds-again next h = simp (eq-eqb next 1 h)

-- ---- a step

-- the table moves no header
pub record SameHeaders (x y : ExtendedLock) : Type 0 where
  pub seen : y.seen ≡ x.seen
  pub headers : y.headers ≡ x.headers

module _ (period : ℕ) (x : ExtendedLock) where
  same : (y : ExtendedLock) → y.seen ≡ x.seen → y.headers ≡ x.headers → SameHeaders x y
  same y e f = record { seen = e; headers = f }

  same_row : (phase : Phase) (look match : Bool) → SameHeaders x (extended_row phase look match period x)
  same_row Hunting look true = same _ refl refl
  same_row Hunting look false = same _ refl refl
  same_row Following false match = same _ refl refl
  same_row Following true true = pick-both (SameHeaders x) (eqb (x.good + 1) 4) _ _ (λ e. same _ refl refl) (λ e. same _ refl refl)
  same_row Following true false = pick-both (SameHeaders x) (eqb x.kept 0) _ _ (λ e. same _ refl refl) (λ e. same _ refl refl)
  same_row Locked false match = same _ refl refl
  same_row Locked true true = same _ refl refl
  same_row Locked true false = pick-both (SameHeaders x) (eqb (x.bad + 1) 8) _ _ (λ e. same _ refl refl) (λ e. same _ refl refl)

module _ (period : ℕ) (x : ExtendedLock) (header : Header) where
  pub step_same : SameHeaders (with_header x header) (extended_step period x header)
  unfolding extended_step moved
  step_same = let y = with_header x header in same_row period y y.phase (eqb y.next 1) (matches y)

  pub step_by : (m : Bool) → matches (with_header x header) ≡ m → extended_step period x header ≡ moved period (with_header x header) m
  unfolding extended_step
  step_by m e = ap (moved period (with_header x header)) e
