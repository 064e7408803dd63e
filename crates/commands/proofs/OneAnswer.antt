-- No two answers of a read are the same in numbers: document 01, "Numbers of refusal". Assumes nothing.
use mathlib.Core.Path.{◌≡◌, sym, ap}
use Prim.Native.Nat.{ℕ}
use Rattle.std.specs.Prelude.{Result, Ok, Err}
use Rattle.answers.specs.declared.Refusal.{Refusal}
use Rattle.answers.proofs.Numbers.{number-above, number_one}
use Rattle.commands.specs.declared.events.Read.{Read}
use Rattle.commands.specs.Reading.{Reading, read_as}

pub reading_one : (from : ℕ) (a b : Result Read Refusal) → read_as from a ≡ read_as from b → a ≡ b
reading_one from (Ok x) (Ok y) e = ap (λ (r : Reading). Ok (record { event = r.event; begin = r.begin; next = r.next })) e
reading_one from (Ok x) (Err b) e = absurd (number-above b (sym (ap (λ (r : Reading). r.refusal) e)))
reading_one from (Err a) (Ok y) e = absurd (number-above a (ap (λ (r : Reading). r.refusal) e))
reading_one from (Err a) (Err b) e = ap Err (number_one a b (ap (λ (r : Reading). r.refusal) e))
