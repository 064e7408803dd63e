-- What the numbers of refusal and of answers say: no refusal has the number 0, no two have the same, and no two answers are the same in numbers.
-- Document 01, "Numbers of refusal". Assumes nothing.
use mathlib.Core.Path.{◌≡◌, refl, sym, ap, ◌∙◌}
use mathlib.Core.List.{List, [], ◌∷◌}
use Prim.Native.Nat.{ℕ}
use native.Mathlib.Omega.{arith}
use lib.ListN.{get_or}
use Rattle.std.specs.Prelude.{Result, Ok, Err, ⊤}
use Rattle.answers.specs.declared.Ran.{Ran}
use Rattle.answers.specs.declared.Refusal.{Refusal}
use Rattle.answers.specs.declared.Refusal.TheVariants.{Mode, Extent, State, Length, Count, Commands, Room, Capture, Header, Long, Code}
use Rattle.answers.specs.Numbers.{number, refused, Counted, counted, Answer, answered}

pub number-above : (why : Refusal) → number why ≡ 0 → ⊥
number-above Mode e = absurd (omega arith)
number-above Extent e = absurd (omega arith)
number-above State e = absurd (omega arith)
number-above Length e = absurd (omega arith)
number-above Count e = absurd (omega arith)
number-above Commands e = absurd (omega arith)
number-above Room e = absurd (omega arith)
number-above Capture e = absurd (omega arith)
number-above Header e = absurd (omega arith)
number-above Long e = absurd (omega arith)
number-above Code e = absurd (omega arith)

-- the refusal of a number, which is its place here: 0 is none's
abbrev by_number : List Refusal
by_number = Mode ∷ Mode ∷ Extent ∷ State ∷ Length ∷ Count ∷ Commands ∷ Room ∷ Capture ∷ Header ∷ Long ∷ Code ∷ []

abbrev meant : ℕ → Refusal
meant n = get_or by_number n Mode

number-meant : (why : Refusal) → meant (number why) ≡ why
number-meant Mode = refl
number-meant Extent = refl
number-meant State = refl
number-meant Length = refl
number-meant Count = refl
number-meant Commands = refl
number-meant Room = refl
number-meant Capture = refl
number-meant Header = refl
number-meant Long = refl
number-meant Code = refl

pub number_one : (a b : Refusal) → number a ≡ number b → a ≡ b
number_one a b e = sym (number-meant a) ∙ ap meant e ∙ number-meant b

pub refused_one : (a b : Result ⊤ Refusal) → refused a ≡ refused b → a ≡ b
refused_one (Ok x) (Ok y) e = refl
refused_one (Ok x) (Err b) e = absurd (number-above b (sym e))
refused_one (Err a) (Ok y) e = absurd (number-above a e)
refused_one (Err a) (Err b) e = ap Err (number_one a b e)

pub counted_one : (a b : Result ℕ Refusal) → counted a ≡ counted b → a ≡ b
counted_one (Ok x) (Ok y) e = ap (λ (c : Counted). Ok c.count) e
counted_one (Ok x) (Err b) e = absurd (number-above b (sym (ap (λ (c : Counted). c.refusal) e)))
counted_one (Err a) (Ok y) e = absurd (number-above a (ap (λ (c : Counted). c.refusal) e))
counted_one (Err a) (Err b) e = ap Err (number_one a b (ap (λ (c : Counted). c.refusal) e))

pub answered_one : {S : Type 0} (state : S) (a b : Result (Ran S) Refusal) → answered state a ≡ answered state b → a ≡ b
answered_one {S} state (Ok x) (Ok y) e = ap (λ (c : Answer S). Ok (record { count = c.count; state = c.state })) e
answered_one {S} state (Ok x) (Err b) e = absurd (number-above b (sym (ap (λ (c : Answer S). c.refusal) e)))
answered_one {S} state (Err a) (Ok y) e = absurd (number-above a (ap (λ (c : Answer S). c.refusal) e))
answered_one {S} state (Err a) (Err b) e = ap Err (number_one a b (ap (λ (c : Answer S). c.refusal) e))
