-- What each refusal stands for, and what an accepted call has: document 01, "Numbers of refusal". Assumes nothing.
use mathlib.Core.Path.{◌≡◌, sym}
use mathlib.Core.Bool.{Bool, true, false}
use Prim.Native.Nat.{ℕ, ◌*◌, ◌/◌, ◌%◌, ◌^◌, ◌≤◌, ◌<◌}
use native.Mathlib.Omega.{arith}
use borrow.Author.Tests.{lt-ltb, le-leb, leb-true, eqb-true, ltb-false, not-false}
use lib.Dec.{leb}
use Rattle.bits.proofs.Choice.{parts-true}
use Rattle.bits.proofs.Refusals.{not-given}
use Rattle.frame.specs.Modes.{row}
use Rattle.frame.specs.Lane.{lane_octets}
use Rattle.receiver.specs.declared.Receiver.{Receiver}
use Rattle.receiver.specs.Refusal.{as_fresh, state_fits, releases, room_for, refusals, refusal_of}
use Rattle.receiver.specs.inner.Turn.{Room}

-- ---- the state

module _ (flagged owns : ℕ) (s : Receiver) (h : s.history < 2 ^ 58) (c : s.command < flagged) (i : s.invalid ≤ 32) (o : s.own < owns) where
  pub waiting-fits : s.waiting ≡ true → true ≡ state_fits flagged owns s
  unfolding state_fits
  waiting-fits w = sym (rw (lt-ltb s.history (2 ^ 58) h, lt-ltb s.command flagged c, le-leb s.invalid 32 i, lt-ltb s.own owns o, w))

  pub idle-fits : s.waiting ≡ false → as_fresh s ≡ state_fits flagged owns s
  unfolding state_fits
  idle-fits w = sym (rw (lt-ltb s.history (2 ^ 58) h, lt-ltb s.command flagged c, le-leb s.invalid 32 i, lt-ltb s.own owns o, w))

-- ---- an accepted call

pub record Accepted (mode : ℕ) (s : Receiver) (lane octets statuses commands places patterns invalid : ℕ) : Type 0 where
  pub whole : lane % lane_octets (row mode).gap ≡ 0
  pub few : lane / lane_octets (row mode).gap ≤ (row mode).most
  pub room : Room (releases s.waiting (lane / lane_octets (row mode).gap)) octets statuses commands places patterns invalid

pub room-is : (k octets statuses commands places patterns invalid : ℕ) → room_for k octets statuses commands places patterns invalid ≡ true → Room k octets statuses commands places patterns invalid
unfolding room_for
room-is k octets statuses commands places patterns invalid e =
    let a = parts-true (leb (256 * k) octets) _ e in
    let b = parts-true (leb k statuses) _ a.1 in
    let c = parts-true (leb k commands) _ b.1 in
    let d = parts-true (leb k places) _ c.1 in
    let f = parts-true (leb k patterns) (leb k invalid) d.1 in
    record {
      octets-fit = leb-true _ _ a.0;
      statuses-fit = leb-true _ _ b.0;
      commands-fit = leb-true _ _ c.0;
      places-fit = leb-true _ _ d.0;
      patterns-fit = leb-true _ _ f.0;
      invalid-fit = leb-true _ _ f.1;
    }

pub accepted : (mode : ℕ) (s : Receiver) (lane octets statuses commands places patterns invalid : ℕ) → refusal_of mode s lane octets statuses commands places patterns invalid ≡ 0
    → Accepted mode s lane octets statuses commands places patterns invalid
unfolding refusal_of
accepted mode s lane octets statuses commands places patterns invalid e =
    let lines = refusals mode s lane octets statuses commands places patterns invalid in
    record {
      whole = eqb-true _ _ (not-false _ (not-given 4 lines tt e));
      few = ltb-false _ _ (not-given 5 lines tt e);
      room = room-is _ octets statuses commands places patterns invalid (not-false _ (not-given 7 lines tt e));
    }

pub releases-le : (waiting : Bool) (n : ℕ) → releases waiting n ≤ n
unfolding releases
releases-le true n = omega arith
releases-le false n = omega arith
