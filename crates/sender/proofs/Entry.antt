-- A call whole: what an accepted one may rely on, its two answers, and that the state it returns is accepted again.
-- Document 01, "Numbers of refusal". Assumes nothing.
use mathlib.Core.Path.{◌≡◌, refl, sym, ◌∙◌, subst}
use mathlib.Core.Bool.{false, true≢false}
use mathlib.Core.List.{List, []}
use Prim.Native.Nat.{ℕ, ◌*◌, ◌/◌, ◌%◌, ◌^◌, ◌≤◌, ◌<◌}
use native.Mathlib.Nat.{div-add-mod'}
use native.Mathlib.Omega.{arith}
use borrow.Author.Tests.{eqb-true, ltb-false, not-true, not-false}
use lib.Dec.{eqb}
use lib.ListN.{length, get_or}
use lib.Pow.{pow_pos}
use Rattle.bits.specs.Order.{laid}
use Rattle.bits.proofs.Bounds.{one_below}
use Rattle.bits.proofs.Choice.{pick-both, parts-true}
use Rattle.bits.proofs.Refusals.{test_of, not-given, Given, first, later, only-when}
use Rattle.frame.specs.declared.modes.Row.{Row}
use Rattle.frame.specs.Modes.{row, command_width}
use Rattle.frame.specs.Lane.{lane_octets}
use Rattle.frame.proofs.Rows.{extent-within}
use Rattle.sender.specs.declared.Sender.{Sender}
use Rattle.sender.specs.Lane.{lane, after}
use Rattle.sender.specs.Refusal.{refusals, refusal_of}
use Rattle.sender.specs.Entry.{Done, done, entry}
use Rattle.sender.proofs.States.{Fits, in-range, fitting, run_fits}

nothing_left : {k : ℕ} → Given k [] → ⊥
nothing_left = elim [ ]

module _ (mode E : ℕ) (s : Sender) (user commands old : List ℕ) where
  abbrev refusal : ℕ
  refusal = refusal_of mode E s user commands old

  -- the answer's refusal is the lowest number that applies
  pub answered : (entry mode E s user commands old).answer.refusal ≡ refusal
  unfolding entry
  answered =
      pick-both (λ (d : Done). d.answer.refusal ≡ refusal) (eqb refusal 0)
      (done (record { refusal = 0; count = length commands; state = after (row mode) E s user commands }) (laid (lane (row mode) E s user commands) old))
      (done (record { refusal = refusal; count = 0; state = s }) old)
      (λ e. sym (eqb-true refusal 0 e)) (λ _. refl)

  -- a state in range is not what a call is refused for
  pub never-for-state : Fits (row mode) E s → refusal ≡ 3 → ⊥
  unfolding refusal_of
  never-for-state f e = by (only-when 3 (refusals mode E s user commands old) (λ z. absurd (omega (arith, z))) e)
    where
      by : Given 3 (refusals mode E s user commands old) → ⊥
      by (later _ _ _ _ (later _ _ _ _ (first _ _ t))) = true≢false (sym (fitting (row mode) E s f) ∙ not-true _ t)
      by (later _ _ _ _ (later _ _ _ _ (later _ _ _ _ (later _ _ _ _ (later _ _ _ _ (later _ _ _ _ (later _ _ _ _ g))))))) = nothing_left g

  -- ---- an accepted call

  module _ (e : refusal_of mode E s user commands old ≡ 0) where
    -- no line of the table applies
    not_so : (k : ℕ) → test_of k (refusals mode E s user commands old) ≡ false
    unfolding refusal_of
    not_so k = not-given k (refusals mode E s user commands old) tt e

    pub returned : (entry mode E s user commands old).answer.state ≡ after (row mode) E s user commands
    unfolding entry
    returned = rw e

    pub counted : (entry mode E s user commands old).answer.count ≡ length commands
    unfolding entry
    counted = rw e

    pub written : (entry mode E s user commands old).lane ≡ laid (lane (row mode) E s user commands) old
    unfolding entry
    written = rw e

    each : length commands ≡ length user / 256
    each = eqb-true _ _ (parts-true _ _ (not-false _ (not_so 6))).0

    -- each command has no more bits than the mode's sync word carries
    pub commands-fit : (i : ℕ) → get_or commands i 0 < 2 ^ command_width (row mode).sync
    commands-fit =
        one_below (2 ^ command_width (row mode).sync) commands (pow_pos (command_width (row mode).sync))
        (parts-true (eqb (length commands) (length user / 256)) _ (not-false _ (not_so 6))).1

    pub whole : length user ≡ 256 * length commands
    whole = omega (arith, each, eqb-true (length user % 256) 0 (not-false _ (not_so 4)), div-add-mod' (length user) 256)

    pub blocks : (1 ≤ E) × (E ≤ 256)
    blocks = extent-within E (not-false _ (not_so 2))

    pub fits : Fits (row mode) E s
    fits = in-range (row mode) E s (not-false _ (not_so 3))

    room : lane_octets (row mode).gap * length commands ≤ length old
    room = subst (λ (n : ℕ). lane_octets (row mode).gap * n ≤ length old) (sym each) (ltb-false _ _ (not_so 7))

    -- the state that comes back is in range again
    pub returned-fits : Fits (row mode) E (entry mode E s user commands old).answer.state
    returned-fits = rw returned (run_fits (row mode) E s user commands fits)

  -- ---- what the run needs

  module _ (e : 0 ≡ refusal_of mode E s user commands old) (R : Row) (own : R ≡ row mode) (size : ℕ) (es : size ≡ lane_octets R.gap) where
    pub in-bounds : (256 * length commands ≤ length user) × (size * length commands ≤ length old) × (s.number < E)
    in-bounds = rw (es, own) (omega (arith, whole (sym e)), room (sym e), (fits (sym e)).number)
