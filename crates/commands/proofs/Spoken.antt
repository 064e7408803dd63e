-- What the words of a list say, by cases, and where a command ends.
-- Assumes nothing.
use mathlib.Core.Path.{◌≡◌}
use mathlib.Core.Bool.{false}
use mathlib.Core.List.{List}
use Prim.Native.Nat.{ℕ, ◌+◌, ◌*◌, ◌/◌, ◌%◌, ◌≤◌, ◌<◌}
use native.Mathlib.Nat.{mul-add, mul-one, mod-add-div, mod-lt}
use native.Mathlib.Omega.{arith}
use borrow.Author.Tests.{lt-ltb, le-ltb}
use lib.ListN.{length, get_or}
use Rattle.commands.specs.declared.words.Word.TheVariants.{End}
use Rattle.commands.specs.Words.{word_in, spoilt, said, word_at}

module _ (n : ℕ) (commands : List ℕ) (i : ℕ) where
  pub at-end : length commands ≤ i / n → word_at n commands i ≡ End
  unfolding word_at
  at-end h = rw (le-ltb (i / n) (length commands) h)

  module _ (h : i / n < length commands) where
    pub at-word : spoilt n (get_or commands (i / n) 0) ≡ false → word_at n commands i ≡ said (i % n) (word_in n (get_or commands (i / n) 0) (i % n))
    unfolding word_at
    at-word e = rw (lt-ltb (i / n) (length commands) h, e)

-- the command behind that of word i begins behind word i
pub past-command-above : (n i : ℕ) → 0 < n → i < n * (i / n + 1)
past-command-above n i h = omega (arith, mul-add n (i / n) 1, mul-one n, mod-add-div i n, mod-lt i h)
