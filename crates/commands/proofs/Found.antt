-- What is found past all words of a list. Assumes nothing.
use mathlib.Core.Path.{◌≡◌, sym, ap, ◌∙◌}
use mathlib.Core.Bool.{true}
use mathlib.Core.List.{List}
use Prim.Native.Nat.{ℕ, ◌+◌, ◌-◌, ◌*◌, ◌≤◌}
use native.Mathlib.Nat.{mul_comm, le-div_iff_mul-le}
use native.Mathlib.Omega.{arith}
use lib.ListN.{length}
use Rattle.std.specs.Prelude.{None}
use Rattle.commands.specs.declared.words.Word.TheVariants.{End}
use Rattle.commands.specs.Words.{word_at}
use Rattle.commands.specs.Reading.{meant, in_a_row, found, event_at, begin_from, event_from, event_in}
use Rattle.commands.proofs.Spoken.{at-end}
use Rattle.commands.proofs.InARow.{row-none}

-- past all words there is none
pub past_all : (n : ℕ) (commands : List ℕ) (i : ℕ) → 1 ≤ n → n * length commands ≤ i → word_at n commands i ≡ End
past_all n commands i h b = at-end n commands i ((le-div_iff_mul-le {k = n} {x = length commands} {y = i} h).1 (omega (arith, mul_comm n (length commands))))

-- so that a read from there finds nothing
pub from_past : (n : ℕ) (commands : List ℕ) (from : ℕ) → 1 ≤ n → n * length commands ≤ from → found None from from ≡ event_in n commands from
unfolding event_in event_from begin_from
from_past n commands from h b =
    let words = word_at n commands in
    let left : n * length commands - from ≡ 0 = omega arith in
    let here : begin_from n words (n * length commands) from ≡ from
    = ap (λ (k : ℕ). from + in_a_row (meant true true) words from k) left ∙ omega (arith, row-none (meant true true) words from) in
    sym (ap (λ (b : ℕ). event_at n words b (words b)) here ∙ ap (event_at n words from) (past_all n commands from h b))
