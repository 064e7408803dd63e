-- States in range: a run that starts in one leaves one, and a fresh state is one. Document 01, "Numbers of refusal", line 3; request 5.
-- Assumes nothing.
use mathlib.Core.Path.{◌≡◌}
use mathlib.Core.Bool.{true}
use mathlib.Core.List.{List, [], ◌∷◌}
use Prim.Native.Nat.{ℕ, ◌+◌, ◌^◌, ◌≤◌, ◌<◌}
use native.Mathlib.Omega.{arith}
use borrow.Author.Tests.{ltb-true, lt-ltb, eqb-false}
use lib.Dec.{ltb, eqb}
use lib.ListN.{take, drop}
use lib.Pow.{pow_pos}
use Rattle.bits.specs.Choice.{pick}
use Rattle.bits.specs.Order.{bit_at}
use Rattle.bits.proofs.Choice.{pick-both, both_true, parts-true}
use Rattle.scrambler.specs.Scrambling.{scrambled}
use Rattle.scrambler.proofs.Scrambling.{history-lt}
use Rattle.parity.specs.Codeword.{multiblock_parity}
use Rattle.frame.specs.declared.modes.Row.{Row}
use Rattle.frame.specs.Modes.{before, code, parity_width}
use Rattle.frame.specs.Lane.{fill_bound}
use Rattle.frame.proofs.Groups.{split-lt}
use Rattle.frame.proofs.Lane.{fill-fits, fill-some}
use Rattle.sender.specs.declared.Sender.{Sender}
use Rattle.sender.specs.Lane.{fresh, parts_sent, after_one, after}
use Rattle.sender.specs.Refusal.{state_fits}

-- the number of the next multiblock is below E again
number_lt : (n E : ℕ) → n < E → pick (eqb (n + 1) E) 0 (n + 1) < E
number_lt n E h =
    pick-both (λ (x : ℕ). x < E) (eqb (n + 1) E) 0 (n + 1) (λ _. omega arith) (λ e. let differ = eqb-false (n + 1) E e in omega arith)

-- each field in its range
pub record Fits (R : Row) (E : ℕ) (s : Sender) : Type 0 where
  pub history : s.history < 2 ^ 58
  pub parity : s.parity < 2 ^ parity_width R.sync before  -- of a multiblock's parity the part that the next sync word carries
  pub number : s.number < E
  pub fill : s.fill < fill_bound R.gap

module _ (R : Row) (E : ℕ) where
  abbrev bound : ℕ
  bound = 2 ^ parity_width R.sync before

  abbrev fills : ℕ
  fills = fill_bound R.gap

  -- the test says what it should
  pub in-range : (s : Sender) → state_fits bound fills E s ≡ true → Fits R E s
  unfolding state_fits
  in-range s e =
      let a = parts-true (ltb s.history (2 ^ 58)) _ e in
      let b = parts-true (ltb s.parity bound) _ a.1 in
      let c = parts-true (ltb s.number E) (ltb s.fill fills) b.1 in
      record { history = ltb-true _ _ a.0; parity = ltb-true _ _ b.0; number = ltb-true _ _ c.0; fill = ltb-true _ _ c.1 }

  pub fitting : (s : Sender) → Fits R E s → state_fits bound fills E s ≡ true
  unfolding state_fits
  fitting s f =
      both_true _ _ (lt-ltb s.history (2 ^ 58) f.history)
      (both_true _ _ (lt-ltb s.parity bound f.parity) (both_true _ _ (lt-ltb s.number E f.number) (lt-ltb s.fill fills f.fill)))

  -- what a multiblock leaves, and so a run
  pub one_number : (s : Sender) (user : List ℕ) → s.number < E → (after_one R E s user).number < E
  unfolding after_one
  one_number s user h = number_lt s.number E h

  one-fits : (s : Sender) (user : List ℕ) → Fits R E s → Fits R E (after_one R E s user)
  unfolding after_one parts_sent
  one-fits s user f = record {
    history = history-lt (bit_at user) s.history 2048;
    parity = (split-lt R.sync (multiblock_parity (code R.sync) (bit_at (scrambled user s.history 256)))).0;
    number = number_lt s.number E f.number;
    fill = fill-fits R.gap s.fill f.fill;
  }

  pub run_fits : (s : Sender) (user commands : List ℕ) → Fits R E s → Fits R E (after R E s user commands)
  unfolding after
  run_fits s user [] f = f
  run_fits s user (c ∷ commands) f = run_fits (after_one R E s (take 256 user)) (drop 256 user) commands (one-fits s (take 256 user) f)

  pub fresh-fits : 1 ≤ E → Fits R E fresh
  fresh-fits h = record { history = pow_pos 58; parity = pow_pos (parity_width R.sync before); number = h; fill = fill-some R.gap }
