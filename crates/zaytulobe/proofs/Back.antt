-- Numbers that fit stand for one state, and a state's numbers fit: to the other form and back nothing changes. So a refused call hands
-- back the state given. Assumes nothing.
use mathlib.Core.Path.{◌≡◌, refl, ap₂}
use mathlib.Core.Bool.{Bool, true, false, ◌&&◌}
use Prim.Native.Nat.{ℕ, zero, suc, ◌≤◌}
use native.Mathlib.Omega.{arith}
use lib.Dec.{T, leb, leb→le}
use Rattle.std.proofs.Common.{Ok, Err}
use Rattle.answers.specs.declared.Refusal.TheVariants.{State}
use Rattle.bits.specs.Choice.{pick, bit_of}
use Rattle.bits.proofs.Tests.{left, right}
use Rattle.receiver.specs.declared.Receiver.{Receiver}
use Rattle.lock.specs.declared.Phase.{Phase}
use Rattle.lock.specs.declared.Phase.TheVariants.{Hunting, Following, Locked}
use Rattle.lock.specs.declared.Lock.{Lock}
use Rattle.zaytulobe.specs.declared.receivers.ReceiverNumbers.{ReceiverNumbers}
use Rattle.zaytulobe.specs.declared.locks.LockNumbers.{LockNumbers}
use Rattle.zaytulobe.specs.Bool.{is_bool, bool_of}
use Rattle.zaytulobe.specs.Receivers as receivers
use Rattle.zaytulobe.specs.Locks as locks

-- bools and phases
bool-back : (n : ℕ) → n ≤ 1 → bit_of (bool_of n) ≡ n
bool-back zero h = refl
bool-back (suc zero) h = refl
bool-back (suc (suc n)) h = omega (arith, h)

bit-back : (b : Bool) → bool_of (bit_of b) ≡ b
bit-back true = refl
bit-back false = refl

phase-back : (n : ℕ) → n ≤ 2 → locks.phase_number (locks.phase_of n) ≡ n
unfolding locks.phase_of
phase-back zero h = refl
phase-back (suc zero) h = refl
phase-back (suc (suc zero)) h = refl
phase-back (suc (suc (suc n))) h = omega (arith, h)

number-back : (p : Phase) → locks.phase_of (locks.phase_number p) ≡ p
unfolding locks.phase_of
number-back Hunting = refl
number-back Following = refl
number-back Locked = refl

-- what is read from numbers is the state that they stand for, and they fit
pub only-fitting : {A : Type 0} (fits : Bool) (state given : A) → Ok given ≡ pick fits (Ok state) (Err State) → (fits ≡ true) × (given ≡ state)
only-fitting true state given e = (refl, cc)
only-fitting false state given e = cc

-- a receiver's state
pub receiver-numbers : (x : ReceiverNumbers) → T (receivers.fit x) → receivers.as_numbers (receivers.state_of x) ≡ x
unfolding receivers.fit receivers.as_numbers receivers.state_of
receiver-numbers x h =
    ap₂ (λ (w t : ℕ). record { history = x.history; command = x.command; waiting = w; trusted = t; octets = x.octets; invalid = x.invalid; own = x.own; sound = x.sound; repaired = x.repaired; failed = x.failed })
    (bool-back x.waiting (leb→le x.waiting 1 (left (is_bool x.waiting) (is_bool x.trusted) h)))
    (bool-back x.trusted (leb→le x.trusted 1 (right (is_bool x.waiting) (is_bool x.trusted) h)))

pub receiver-state : (s : Receiver) → receivers.state_of (receivers.as_numbers s) ≡ s
unfolding receivers.as_numbers receivers.state_of
receiver-state s =
    ap₂ (λ (w t : Bool). record { waiting = w; octets = s.octets; history = s.history; trusted = t; command = s.command; invalid = s.invalid; own = s.own; sound = s.sound; repaired = s.repaired; failed = s.failed })
    (bit-back s.waiting) (bit-back s.trusted)

pub receiver-fits : (s : Receiver) → T (receivers.fit (receivers.as_numbers s))
unfolding receivers.fit receivers.as_numbers
receiver-fits s = go s.waiting s.trusted
  where
    go : (w t : Bool) → T (is_bool (bit_of w) && is_bool (bit_of t))
    go true true = tt
    go true false = tt
    go false true = tt
    go false false = tt

-- the locks' state
pub lock-numbers : (x : LockNumbers) → T (locks.fit x) → locks.as_numbers (locks.state_of x) ≡ x
unfolding locks.fit locks.as_numbers locks.state_of
lock-numbers x h =
    ap₂ (λ (l p : ℕ). record {
      header = record { locked = l; offset = x.header.offset; run = x.header.run; bad = x.header.bad };
      extended = record {
        phase = p;
        seen = x.extended.seen;
        headers = x.extended.headers;
        good = x.extended.good;
        bad = x.extended.bad;
        next = x.extended.next;
        kept = x.extended.kept;
      };
    })
    (bool-back x.header.locked (leb→le x.header.locked 1 (left (is_bool x.header.locked) (leb x.extended.phase 2) h)))
    (phase-back x.extended.phase (leb→le x.extended.phase 2 (right (is_bool x.header.locked) (leb x.extended.phase 2) h)))

pub lock_state : (l : Lock) → locks.state_of (locks.as_numbers l) ≡ l
unfolding locks.as_numbers locks.state_of
lock_state l =
    ap₂ (λ (b : Bool) (p : Phase). record {
      header = record { locked = b; offset = l.header.offset; run = l.header.run; bad = l.header.bad };
      extended = record {
        phase = p;
        seen = l.extended.seen;
        headers = l.extended.headers;
        good = l.extended.good;
        bad = l.extended.bad;
        next = l.extended.next;
        kept = l.extended.kept;
      };
    })
    (bit-back l.header.locked) (number-back l.extended.phase)

pub lock-fits : (l : Lock) → T (locks.fit (locks.as_numbers l))
unfolding locks.fit locks.as_numbers
lock-fits l = go l.header.locked l.extended.phase
  where
    go : (b : Bool) (p : Phase) → T (is_bool (bit_of b) && leb (locks.phase_number p) 2)
    go true Hunting = tt
    go true Following = tt
    go true Locked = tt
    go false Hunting = tt
    go false Following = tt
    go false Locked = tt
