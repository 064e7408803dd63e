use mathlib.Core.Path.{◌≡◌, refl, sym, ◌∙◌, subst}
use mathlib.Core.Bool.{true}
use lib.Dec.{T}
use Rattle.std.proofs.Common.{Result, Ok, Err}
use Rattle.answers.specs.declared.Refusal.{Refusal}
use Rattle.bits.specs.Refusals.{refusal_by}
use Rattle.lock.specs.declared.Lock.{Lock}
use Rattle.lock.specs.Refusals.{step_answer}
use Rattle.zaytulobe.specs.declared.locks.LockNumbers.{LockNumbers}
use Rattle.zaytulobe.specs.Locks.{fit, state_of, read}
use Rattle.zaytulobe.specs.Locking.{answer_numbers, in_numbers, step_numbers}
use Rattle.zaytulobe.proofs.Back.{lock-numbers, only-fitting}
use Rattle.zaytulobe.proofs.locking.step.Goals as goal

-- a refusal hands back the numbers given, which are those of the state
answer-back : (x : LockNumbers) (given : Lock) (r : Result Lock Refusal) → (fit x ≡ true) × (given ≡ state_of x) → answer_numbers x r ≡ in_numbers (step_answer given r)
unfolding in_numbers
answer-back x given (Ok next) e = refl
answer-back x given (Err why) e = rw e.1 (rw (lock-numbers x (subst T (sym e.0) tt)))

pub returns : goal.returns
unfolding step_numbers refusal_by read
returns c =
    let a = c.args in
    let given = c.in_ok-given.given in
    let t = only-fitting (fit a.lock) (state_of a.lock) given c.in_ok-given.ensures in
    answer-back a.lock given c.step.result t
    ∙ rw (c.step.ensures, t.1) (sym (simp (sym c.known.ensures, c.if-not-known.false, sym c.extent_fits.ensures, c.if-not-extent_fits.false, t.0)))
