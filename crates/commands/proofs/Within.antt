-- The commands of messages are never refused by the reader. Assumes nothing.
use mathlib.Core.Path.{◌≡◌, refl, sym, ap, ◌∙◌}
use mathlib.Core.Bool.{true, not}
use mathlib.Core.List.{List, [], ◌∷◌, ◌++◌}
use Prim.Native.Nat.{ℕ, zero, suc, ◌+◌, ◌*◌, ◌^◌, ◌≤◌, ◌<◌}
use native.Mathlib.Omega.{arith}
use borrow.Author.Tests.{lt-ltb, ne_eqb}
use lib.Dec.{ltb, eqb, lit≤}
use lib.ListN.{length}
use Rattle.bits.specs.Bounds.{all_below}
use Rattle.bits.specs.Order.{list_from}
use Rattle.bits.specs.Refusals.{◌when◌}
use Rattle.bits.proofs.Choice.{both_true, parts-true, pick-both}
use Rattle.bits.proofs.Refusals.{passed, none_left}
use Rattle.frame.specs.declared.modes.Sync.{Sync}
use Rattle.frame.specs.declared.modes.Sync.TheVariants.{Crc12, Fec, Crc3, Command}
use Rattle.frame.specs.Modes.{command_words, flagged_bound, known, row}
use Rattle.commands.specs.Words.{together}
use Rattle.commands.specs.Writing.{channel_words, message_word, commands_for, command_of, written}
use Rattle.commands.specs.Reading.{refusal_of}
use Rattle.commands.specs.Promises.{Given, encoded, Accepted, all_encoded, AllAccepted}
use Rattle.commands.proofs.Entry.{channel, code-small, fits}
use Rattle.commands.proofs.Digits.{unmarked}
use Rattle.commands.proofs.Commands.{together-less}

-- ---- lists below a bound

list-below : (bound : ℕ) (f : ℕ → ℕ) (k n : ℕ) → ((j : ℕ) → f j < bound) → all_below bound (list_from f k n) ≡ true
unfolding list_from all_below
list-below bound f k zero h = refl
list-below bound f k (suc n) h = both_true (ltb (f k) bound) (all_below bound (list_from f (suc k) n)) (lt-ltb (f k) bound (h k)) (list-below bound f (suc k) n h)

both_below : (bound : ℕ) (l m : List ℕ) → all_below bound l ≡ true → all_below bound m ≡ true → all_below bound (l ++ m) ≡ true
unfolding all_below
both_below bound [] m e f = f
both_below bound (x ∷ l) m e f =
    let parts = parts-true (ltb x bound) (all_below bound l) e in
    both_true (ltb x bound) (all_below bound (l ++ m)) parts.0 (both_below bound l m parts.1 f)

-- ---- the commands of a mode

by-sync : (S : Sync) → 1 ≤ command_words S → 2 ^ (6 * command_words S + 1) ≤ flagged_bound S
by-sync Crc12 h = lit≤ tt
by-sync Fec h = absurd (omega (arith, h))
by-sync Crc3 h = lit≤ tt
by-sync Command h = lit≤ tt

-- a command with no mark is below its mode's bound
unmarked-fits : (mode : ℕ) → 1 ≤ channel_words mode → 2 ^ (6 * channel_words mode + 1) ≤ flagged_bound (row mode).sync
unfolding channel_words
unmarked-fits mode =
    pick-both (λ (n : ℕ). 1 ≤ n → 2 ^ (6 * n + 1) ≤ flagged_bound (row mode).sync) (known mode) (command_words (row mode).sync) 0
    (λ _. by-sync (row mode).sync) (λ _ h. absurd (omega (arith, h)))

module _ (mode : ℕ) where
  abbrev bound : ℕ
  bound = flagged_bound (row mode).sync

  message-fits : (m : Given) → Accepted mode m → all_below bound (encoded mode m) ≡ true
  unfolding written command_of
  message-fits m ok =
      let n = channel_words mode in
      let size = length (encoded mode m) in
      let small = code-small n m.code m.payload size ok in
      let below = fits n m.code m.payload size ok in
      list-below bound (command_of n m.code m.payload) 0 (commands_for n (length m.payload))
      (λ k. omega (arith, unmarked n (together (message_word m.code m.payload) (n * k) n) (together-less m.code m.payload small below (n * k) n), unmarked-fits mode (channel n m.code m.payload size ok)))

  all_fit : (messages : List Given) → AllAccepted mode messages → all_below bound (all_encoded mode messages) ≡ true
  unfolding all_below
  all_fit [] ok = refl
  all_fit (m ∷ messages) (ok, rest) = both_below bound (encoded mode m) (all_encoded mode messages) (message-fits m ok) (all_fit messages rest)

  pub messages-taken : (messages : List Given) → 1 ≤ channel_words mode → AllAccepted mode messages → refusal_of mode (all_encoded mode messages) ≡ 0
  unfolding refusal_of
  messages-taken messages some ok =
      sym (none_left ∙ passed 6 (not (all_below bound (all_encoded mode messages))) [] (ap not (all_fit messages ok))
      ∙ passed 1 (eqb (channel_words mode) 0) (6 when not (all_below bound (all_encoded mode messages)) ∷ []) (ne_eqb (channel_words mode) 0 (λ e. absurd (omega (arith, some, e)))))
