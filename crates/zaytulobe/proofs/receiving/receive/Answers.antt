use mathlib.Core.Path.{◌≡◌, refl, sym, ◌∙◌, subst}
use mathlib.Core.Bool.{true}
use mathlib.Core.List.{List}
use Prim.Native.Nat.{ℕ}
use lib.Dec.{T}
use Rattle.std.proofs.Common.{Result, Ok, Err}
use Rattle.answers.specs.declared.Ran.{Ran}
use Rattle.answers.specs.declared.Refusal.{Refusal}
use Rattle.answers.specs.Numbers.{answered}
use Rattle.bits.specs.Refusals.{refusal_by}
use Rattle.receiver.specs.declared.Receiver.{Receiver}
use Rattle.receiver.specs.Entry as receiver
use Rattle.zaytulobe.specs.declared.receivers.ReceiverNumbers.{ReceiverNumbers}
use Rattle.zaytulobe.specs.Receivers.{fit, state_of, read}
use Rattle.zaytulobe.specs.Receiving.{answer_numbers, done, in_numbers, receive_numbers}
use Rattle.zaytulobe.proofs.Back.{receiver-numbers, only-fitting}
use Rattle.zaytulobe.proofs.receiving.receive.Goals as goal

-- a refusal hands back the numbers given, which are those of the state
answer-back : (x : ReceiverNumbers) (given : Receiver) (r : Result (Ran Receiver) Refusal) (o s c p q i : List ℕ) → (fit x ≡ true) × (given ≡ state_of x)
    → done (answer_numbers x r) o s c p q i ≡ in_numbers (receiver.done (answered given r) o s c p q i)
unfolding in_numbers
answer-back x given (Ok ran) o s c p q i e = refl
answer-back x given (Err why) o s c p q i e = rw e.1 (rw (receiver-numbers x (subst T (sym e.0) tt)))

pub returns : goal.returns
unfolding receive_numbers refusal_by read
returns c =
    let a = c.args in
    let given = c.in_ok-given.given in
    let t = only-fitting (fit a.state) (state_of a.state) given c.in_ok-given.ensures in
    answer-back a.state given c.receive.result _ _ _ _ _ _ t
    ∙ rw (c.receive.ensures, t.1) (sym (simp (sym c.known.ensures, c.if-not-known.false, t.0)))
