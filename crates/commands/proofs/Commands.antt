-- The words of a message are of six bits: clauses 7.3.7.3 and 7.3.7.4. Assumes nothing.
use mathlib.Core.Path.{◌≡◌, refl}
use mathlib.Core.Bool.{true}
use mathlib.Core.List.{List}
use Prim.Native.Nat.{ℕ, zero, suc, ◌+◌, ◌-◌, ◌*◌, ◌^◌, ◌≤◌, ◌<◌}
use native.Mathlib.Nat.{lt_of_lt_of_le}
use native.Mathlib.Omega.{arith}
use borrow.Author.Tests.{lt-ltb, le-ltb}
use lib.Dec.{ltb, lit<}
use lib.ListN.{length, get_or}
use lib.Pow.{pow_mono}
use Rattle.bits.specs.Bounds.{all_below}
use Rattle.bits.proofs.Bounds.{one_below}
use Rattle.bits.proofs.Choice.{pick-both}
use Rattle.parity.proofs.Groups.{joined-lt}
use Rattle.commands.specs.Words.{together}
use Rattle.commands.specs.Writing.{message_word}

-- ---- words of a message

module _ (code : ℕ) (payload : List ℕ) where
  pub is-header : (i : ℕ) → i ≡ 0 → code ≡ message_word code payload i
  unfolding message_word
  is-header i e = rw e

  pub is-payload : (i : ℕ) → (i ≡ 0 → ⊥) → i ≤ length payload → 32 + get_or payload (i - 1) 0 ≡ message_word code payload i
  unfolding message_word
  is-payload zero some h = absurd (some refl)
  is-payload (suc i) some h = let here : suc i - 1 ≡ i = omega arith in rw (here, lt-ltb i (length payload) h)

  pub is-idle : (i : ℕ) → length payload < i → 0 ≡ message_word code payload i
  unfolding message_word
  is-idle zero h = absurd (omega arith)
  is-idle (suc i) h = rw (le-ltb i (length payload) (omega arith))

  pub word_small : code < 32 → all_below 32 payload ≡ true → (i : ℕ) → message_word code payload i < 64
  unfolding message_word
  word_small small below zero = omega arith
  word_small small below (suc i) =
      pick-both (λ (w : ℕ). w < 64) (ltb i (length payload)) (32 + get_or payload i 0) 0
      (λ _. omega (arith, one_below 32 payload (lit< tt) below i)) (λ _. lit< tt)

-- ---- words of a command

module _ (code : ℕ) (payload : List ℕ) (small : code < 32) (below : all_below 32 payload ≡ true) where
  pub together-less : (k n : ℕ) → together (message_word code payload) k n < 2 ^ (6 * n)
  together-less k n = joined-lt 6 (λ (j : ℕ). message_word code payload (k + j)) (λ j. word_small code payload small below (k + j)) n

  -- so that few words make a small number
  pub together-within : (most k n : ℕ) → n ≤ most → together (message_word code payload) k n < 2 ^ (6 * most)
  together-within most k n h = lt_of_lt_of_le (together-less k n) (pow_mono (omega (arith, h)))
