-- A message written: what may be relied on where it is not refused, and the answer. Document 01, "Numbers of refusal". Assumes nothing.
use mathlib.Core.Path.{◌≡◌}
use mathlib.Core.Bool.{true, false, not}
use mathlib.Core.List.{List}
use Prim.Native.Nat.{ℕ, ◌≤◌, ◌<◌}
use native.Mathlib.Nat.{pos_of_ne-zero, div-le_of_le-mul}
use native.Mathlib.Omega.{arith}
use borrow.Author.Tests.{eqb-false, ltb-false, not-false}
use lib.ListN.{length}
use Rattle.std.proofs.lemmas.Bool.{or_parts}
use Rattle.bits.specs.Bounds.{all_below}
use Rattle.bits.specs.Order.{laid, list_from}
use Rattle.bits.proofs.Refusals.{test_of, not-given}
use Rattle.commands.specs.Table51.{function_of}
use Rattle.commands.specs.Writing.{channel_words, commands_for, command_of, written, refusals, refusal_of, done, writing}
use Rattle.commands.proofs.Table.{most-few, defined-small}

-- ---- a message that is not refused

module _ (n code : ℕ) (payload : List ℕ) (room : ℕ) (accepted : refusal_of n code payload room ≡ 0) where
  -- no line of the table applies
  not_so : (k : ℕ) → test_of k (refusals n code payload room) ≡ false
  unfolding refusal_of
  not_so k = not-given k (refusals n code payload room) tt accepted

  pub channel : 0 < n
  channel = pos_of_ne-zero (eqb-false n 0 (not_so 1))

  pub line_defined : (function_of code).defined ≡ true
  line_defined = not-false _ (not_so 11)

  pub code-small : code < 32
  code-small = defined-small code line_defined

  pub fits : all_below 32 payload ≡ true
  fits = not-false _ (or_parts (not (all_below 32 payload)) _ (not_so 6)).0

  pub enough : (function_of code).fewest ≤ length payload
  enough = ltb-false (length payload) (function_of code).fewest (or_parts (not (all_below 32 payload)) _ (not_so 6)).1

  pub not-long : length payload ≤ (function_of code).most
  not-long = ltb-false (function_of code).most (length payload) (not_so 10)

  short : length payload ≤ 7
  short = omega (arith, not-long, most-few code)

  pub count-few : commands_for n (length payload) ≤ 8
  unfolding commands_for
  count-few = div-le_of_le-mul n (omega (arith, short, channel))

  pub count_fits : commands_for n (length payload) ≤ room
  count_fits = ltb-false room (commands_for n (length payload)) (not_so 7)

-- ---- and what is answered to it

module _ (mode code : ℕ) (payload old : List ℕ) (n : ℕ) (words : n ≡ channel_words mode) where
  pub is-written : 0 ≡ refusal_of n code payload (length old) → (count : ℕ) → count ≡ commands_for n (length payload) → (all : List ℕ)
      → all ≡ laid (list_from (command_of n code payload) 0 count) old
      → done (record { refusal = 0; count = count }) all ≡ writing mode code payload old
  unfolding writing written
  is-written e count ec all ea = rw (← words, ← e, ea, ec)
