-- What a call gives that starts from a fresh receiver, and what its lists hold: document 01, "What the receiver releases". Assumes nothing.
use mathlib.Core.Path.{◌≡◌, sym, ap, ◌∙◌}
use mathlib.Core.Bool.{true, not}
use mathlib.Core.List.{List}
use Prim.Native.Nat.{ℕ, ◌-◌, ◌*◌, ◌/◌, ◌%◌, ◌≤◌}
use borrow.Author.Tests.{le-leb, le-ltb, eq-eqb}
use lib.ListN.{length}
use Rattle.bits.specs.Order.{bit_at}
use Rattle.bits.proofs.Refusals.{passed, none_left}
use Rattle.frame.specs.declared.modes.Row.{Row}
use Rattle.frame.specs.Modes.{known, row}
use Rattle.frame.specs.Lane.{lane_octets}
use Rattle.receiver.specs.Release.{fresh, run}
use Rattle.receiver.specs.Totals.{totalled}
use Rattle.receiver.specs.Refusal.{releases, room_for, refusal_of}
use Rattle.receiver.specs.Entry.{laid_out, entry}
use Rattle.receiver.specs.inner.Turn.{Room}
use Rattle.receiver.proofs.Accepted.{fresh-accepted}
use Rattle.receiver.proofs.Counts.{counts}

has_room : (k octets statuses commands places patterns invalid : ℕ) → Room k octets statuses commands places patterns invalid → room_for k octets statuses commands places patterns invalid ≡ true
unfolding room_for
has_room k octets statuses commands places patterns invalid r =
    rw (le-leb (256 * k) octets r.octets-fit, le-leb k statuses r.statuses-fit, le-leb k commands r.commands-fit, le-leb k places r.places-fit, le-leb k patterns r.patterns-fit, le-leb k invalid r.invalid-fit)

-- whole multiblocks, no more than a call takes, with room for all but one: all is received
module _ (mode : ℕ) (lane o st c p q i : List ℕ) where
  abbrev L : ℕ
  L = lane_octets (row mode).gap

  module _ (is_known : known mode ≡ true) (whole : length lane % L ≡ 0) (few : length lane / L ≤ (row mode).most)
      (room : Room (length lane / L - 1) (length o) (length st) (length c) (length p) (length q) (length i)) where
    not-refused : refusal_of mode fresh (length lane) (length o) (length st) (length c) (length p) (length q) (length i) ≡ 0
    unfolding releases refusal_of
    not-refused =
        sym
        (none_left
        ∙ passed 7 _ _ (ap not (has_room (length lane / L - 1) (length o) (length st) (length c) (length p) (length q) (length i) room))
        ∙ passed 5 _ _ (le-ltb (row mode).most (length lane / L) few)
        ∙ passed 4 _ _ (ap not (eq-eqb (length lane % L) 0 whole))
        ∙ passed 3 _ _ (ap not (fresh-accepted (row mode).sync))
        ∙ passed 1 _ _ (ap not is_known))

    pub all-received : entry mode fresh lane o st c p q i ≡ laid_out (totalled (run (row mode) (bit_at lane) fresh (length lane / L))) o st c p q i
    unfolding entry
    all-received = rw (eq-eqb _ 0 not-refused)

-- all but the last are released
pub all_but_one : (R : Row) (lane : ℕ → ℕ) (n : ℕ) → length (run R lane fresh n).out ≡ n - 1
unfolding releases
all_but_one R lane n = counts R lane fresh n
