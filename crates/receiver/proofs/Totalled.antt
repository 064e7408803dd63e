-- What a count comes to: the number of releases of its kind, or the greatest number where that is more. Request 7. Assumes nothing.
use mathlib.Core.Path.{◌≡◌, refl, sym, ap, ◌∙◌, subst}
use mathlib.Core.Logic.{⊎_elim}
use mathlib.Core.Bool.{Bool, true, false}
use mathlib.Core.List.{List, [], ◌∷◌, ◌++◌}
use Prim.Native.Nat.{ℕ, zero, suc, ◌+◌, ◌%◌, ◌<◌, ◌≤◌, min}
use native.Mathlib.Omega.{arith}
use borrow.Author.Tests.{le-ltb, ltb-true, ltb-false}
use lib.Dec.{ltb, eqb}
use lib.ListN.{length, length-append}
use Rattle.bits.specs.Choice.{pick, bit_of}
use Rattle.frame.specs.declared.modes.Row.{Row}
use Rattle.judge.specs.declared.Verdict.{Verdict}
use Rattle.judge.specs.Judge.{status_of, released_status}
use Rattle.receiver.specs.declared.Receiver.{Receiver}
use Rattle.receiver.specs.Release.{fresh, Release, Step, release_at, step, run}
use Rattle.receiver.specs.Totals.{most_count, stopped, added, total, totalled, how_many}
use Rattle.receiver.specs.Entry.{column}
use Rattle.receiver.proofs.Counts.{step-released, step-first}
use Rattle.receiver.proofs.Carried.{run-keeps}
use Rattle.receiver.proofs.Verdicts.{release-cases}
use Rattle.receiver.proofs.Buffers.{column-length}
use Rattle.receiver.proofs.Numbered.{column-append}

-- ---- a number that stops

stopped-below : (n : ℕ) → n ≤ most_count → stopped n ≡ n
unfolding stopped
stopped-below n h = by (ltb n most_count) refl
  where
    by : (b : Bool) → ltb n most_count ≡ b → pick b n most_count ≡ n
    by true e = refl
    by false e = omega (arith, ltb-false n most_count e)

stopped-past : (n : ℕ) → most_count ≤ n → stopped n ≡ most_count
unfolding stopped
stopped-past n h = rw (le-ltb n most_count h)

stopped-short : (n : ℕ) → stopped n < most_count → stopped n ≡ n
unfolding stopped
stopped-short n h = by (ltb n most_count) h
  where
    by : (b : Bool) → pick b n most_count < most_count → pick b n most_count ≡ n
    by true l = refl
    by false l = absurd (omega arith)

stopped-le : (n : ℕ) → stopped n ≤ most_count
unfolding stopped
stopped-le n = by (ltb n most_count) refl
  where
    by : (b : Bool) → ltb n most_count ≡ b → pick b n most_count ≤ most_count
    by true e = omega (arith, ltb-true n most_count e)
    by false e = omega arith

-- ---- one release more

-- by a sum that stops at the greatest number of 32 bits
pub one_more : (count : ℕ) → min (count + 1) most_count ≡ stopped (suc count)
unfolding stopped
one_more count = by (ltb (suc count) most_count) refl
  where
    by : (b : Bool) → ltb (suc count) most_count ≡ b → min (count + 1) most_count ≡ pick b (suc count) most_count
    by true e = omega (arith, ltb-true (suc count) most_count e)
    by false e = omega (arith, ltb-false (suc count) most_count e)

-- a history that isn't trusted makes no difference
pub same-kind : (kind count : ℕ) (v : Verdict) (trusted : Bool) → added kind count (status_of v) ≡ added kind count (released_status v trusted)
unfolding added released_status
same-kind kind count v true = ap (λ (n : ℕ). pick (eqb (n % 4) kind) (stopped (suc count)) count) {x = status_of v} {y = status_of v + 0} (omega arith)
same-kind kind count v false = ap (λ (n : ℕ). pick (eqb n kind) (stopped (suc count)) count) {x = status_of v % 4} {y = (status_of v + 4) % 4} (omega arith)

-- ---- all of them

stopped-again : (a b : ℕ) → stopped (stopped a + b) ≡ stopped (a + b)
stopped-again a b = by (ltb a most_count) refl
  where
    by : (t : Bool) → ltb a most_count ≡ t → stopped (stopped a + b) ≡ stopped (a + b)
    by true e = ap (λ (x : ℕ). stopped (x + b)) (stopped-below a (omega (arith, ltb-true a most_count e)))
    by false e =
        let past = ltb-false a most_count e in
        stopped-past (stopped a + b) (omega (arith, stopped-past a past)) ∙ sym (stopped-past (a + b) (omega arith))

-- a count grows by the releases of its kind
added_is : (kind count status : ℕ) → count ≤ most_count → added kind count status ≡ stopped (count + bit_of (eqb (status % 4) kind))
unfolding added
added_is kind count status h = by (eqb (status % 4) kind)
  where
    by : (b : Bool) → pick b (stopped (suc count)) count ≡ stopped (count + bit_of b)
    by true = ap stopped (omega arith)
    by false = sym (ap stopped {x = count + 0} {y = count} (omega arith) ∙ stopped-below count h)

total-is : (kind count : ℕ) (out : List Release) → count ≤ most_count → total kind count out ≡ stopped (count + how_many kind (column (λ (r : Release). r.status) out))
unfolding total how_many column
total-is kind count [] h = sym (ap stopped {x = count + 0} {y = count} (omega arith) ∙ stopped-below count h)
total-is kind count (r ∷ out) h =
    let one = bit_of (eqb (r.status % 4) kind) in
    let more = how_many kind (column (λ (x : Release). x.status) out) in
    let is = added_is kind count r.status h in
    total-is kind (added kind count r.status) out (omega (arith, is, stopped-le (count + one)))
    ∙ ap (λ (x : ℕ). stopped (x + more)) is
    ∙ stopped-again (count + one) more
    ∙ ap stopped {x = count + one + more} {y = count + (one + more)} (omega arith)

-- ---- of three kinds

how-many-append : (kind : ℕ) (a b : List ℕ) → how_many kind (a ++ b) ≡ how_many kind a + how_many kind b
unfolding how_many
how-many-append kind [] b = omega arith
how-many-append kind (x ∷ a) b = omega (arith, how-many-append kind a b)

-- as many as there are
abbrev InThree : List ℕ → Type 0
InThree l = how_many 0 l + how_many 1 l + how_many 2 l ≡ length l

both-in-three : (a b : List ℕ) → InThree a → InThree b → InThree (a ++ b)
both-in-three a b h k = omega (arith, h, k, how-many-append 0 a b, how-many-append 1 a b, how-many-append 2 a b, length-append a b)

one-in-three : (status : ℕ) → status % 4 ≤ 2 → InThree (status ∷ [])
unfolding how_many
one-in-three status h = by (status % 4) h
  where
    by : (kind : ℕ) → kind ≤ 2 → (bit_of (eqb kind 0) + 0) + (bit_of (eqb kind 1) + 0) + (bit_of (eqb kind 2) + 0) ≡ 1
    by zero l = refl
    by (suc zero) l = refl
    by (suc (suc zero)) l = refl
    by (suc (suc (suc k))) l = absurd (omega arith)

module _ (R : Row) (lane : ℕ → ℕ) where
  abbrev statuses : List Release → List ℕ
  statuses = column (λ (r : Release). r.status)

  kind-of : (m : ℕ) (s : Receiver) → (release_at R lane m s).status % 4 ≤ 2
  kind-of m s = ⊎_elim (λ l. omega arith) (λ l. omega (arith, l.0, l.1)) (release-cases R lane m s).status

  step-in-three : (m : ℕ) (s : Receiver) → InThree (statuses (step R lane m s).out)
  step-in-three m s = by s.waiting refl
    where
      by : (w : Bool) → s.waiting ≡ w → InThree (statuses (step R lane m s).out)
      by true e =
          subst (λ (l : List Release). InThree (statuses l)) (sym (step-released R lane m s e)) (unfold column in one-in-three (release_at R lane m s).status (kind-of m s))
      by false e = subst (λ (x : Step). InThree (statuses x.out)) (sym (step-first R lane m s e)) (unfold column how_many in refl)

  run-in-three : (s : Receiver) (n : ℕ) → InThree (statuses (run R lane s n).out)
  unfolding run column how_many
  run-in-three s zero = refl
  run-in-three s (suc n) =
      subst InThree (sym (column-append (λ (r : Release). r.status) (run R lane s n).out (step R lane n (run R lane s n).state).out))
      (both-in-three (statuses (run R lane s n).out) _ (run-in-three s n) (step-in-three n (run R lane s n).state))

  -- ---- from a fresh state

  -- the counts after n multiblocks, and the statuses released
  abbrev pub counted : ℕ → Receiver
  counted n = (totalled (run R lane fresh n)).state

  abbrev pub told : ℕ → List ℕ
  told n = statuses (run R lane fresh n).out

  from-none : (kind count n : ℕ) → count ≡ 0 → total kind count (run R lane fresh n).out ≡ stopped (how_many kind (told n))
  from-none kind count n e =
      total-is kind count (run R lane fresh n).out (omega arith) ∙ ap stopped {x = count + how_many kind (told n)} {y = how_many kind (told n)} (omega arith)

  pub count-by-kind : (n : ℕ) → ((counted n).sound ≡ stopped (how_many 0 (told n))) × ((counted n).repaired ≡ stopped (how_many 1 (told n))) × ((counted n).failed ≡ stopped (how_many 2 (told n)))
  count-by-kind n =
      let keeps = run-keeps R lane fresh n in (
        from-none 0 _ n (ap (λ (t : Step). t.state.sound) keeps),
        from-none 1 _ n (ap (λ (t : Step). t.state.repaired) keeps),
        from-none 2 _ n (ap (λ (t : Step). t.state.failed) keeps),
      )

  pub counts-add-up : (n : ℕ) → (counted n).sound < most_count → (counted n).repaired < most_count → (counted n).failed < most_count
      → (counted n).sound + (counted n).repaired + (counted n).failed ≡ length (run R lane fresh n).out
  counts-add-up n h k l =
      let is = count-by-kind n in
      let a = stopped-short (how_many 0 (told n)) (omega (arith, is.0)) in
      let b = stopped-short (how_many 1 (told n)) (omega (arith, is.1)) in
      let c = stopped-short (how_many 2 (told n)) (omega (arith, is.2)) in
      omega (arith, is.0, is.1, is.2, a, b, c, run-in-three fresh n, column-length (λ (r : Release). r.status) (run R lane fresh n).out)
