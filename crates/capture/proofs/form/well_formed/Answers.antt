use Prim.Native.Nat.{ℕ, ◌+◌, ◌-◌}
use mathlib.Core.Path.{◌≡◌, refl, sym, ap, ◌∙◌}
use mathlib.Core.Bool.{Bool, true, false, ◌&&◌}
use native.Mathlib.Omega.{arith}
use borrow.Author.Tests.{le-leb, lt-leb}
use lib.Dec.{leb, eqb}
use lib.ListN.{length}
use Rattle.bits.specs.Order.{bit_at, number}
use Rattle.frame.proofs.Rows.{longest-is}
use Rattle.capture.specs.Form.{mode_of, longest_of, well_formed}
use Rattle.capture.proofs.form.well_formed.Goals as goal
use Rattle.capture.proofs.form.well_formed.Goals.{then-long-ge11, else-long-ge11, then-long-longest_of, else-long-longest_of}

in_a_row : (s t x : Bool) → ((s && t) && x) ≡ (s && (t && x))
in_a_row true t x = refl
in_a_row false t x = refl

pub overflow_add-longest_of : goal.overflow_add-longest_of
overflow_add-longest_of c = omega (arith, c.longest_of.ensures.1, longest-is)

pub returns-then-count_at-eq3 : goal.returns-then-count_at-eq3
unfolding well_formed
returns-then-count_at-eq3 c =
    let capture = c.args.capture.now in
    let sizes = leb 11 (length capture) && leb (length capture) (11 + longest_of (mode_of capture)) in
    let three = eqb (number (bit_at capture) 0 32) 3 in
    let first : c.if-long-ge11.value ≡ sizes
    = elim c.if-long-ge11.branch [
      | then-long-ge11 w ↦ w.value-is ∙ rw (le-leb 11 (length capture) w.if-long-ge11.true, w.longest_of.ensures.0, w.mode_of.ensures) refl
      | else-long-ge11 w ↦ w.value-is ∙ rw (lt-leb 11 (length capture) w.if-long-ge11.false) refl
    ] in
    let second : c.if-long-longest_of.value ≡ (sizes && three)
    = elim c.if-long-longest_of.branch [
      | then-long-longest_of w ↦ w.value-is ∙ ap (λ (x : ℕ). eqb x 3) w.count_at.ensures ∙ ap (λ (t : Bool). t && three) (sym w.if-long-longest_of.true ∙ first)
      | else-long-longest_of w ↦ w.value-is ∙ w.if-long-longest_of.false ∙ ap (λ (t : Bool). t && three) (sym w.if-long-longest_of.false ∙ first)
    ] in
    let last = eqb (number (bit_at capture) 56 32) (length capture - 11) in
    ap (λ (x : ℕ). eqb x (length capture - 11)) c.count_at-then-count_at-eq3.ensures
    ∙ ap (λ (t : Bool). t && last) (sym c.if-count_at-eq3.true ∙ second) ∙ in_a_row sizes three last

pub returns-else-count_at-eq3 : goal.returns-else-count_at-eq3
unfolding well_formed
returns-else-count_at-eq3 c =
    let capture = c.args.capture.now in
    let sizes = leb 11 (length capture) && leb (length capture) (11 + longest_of (mode_of capture)) in
    let three = eqb (number (bit_at capture) 0 32) 3 in
    let first : c.if-long-ge11.value ≡ sizes
    = elim c.if-long-ge11.branch [
      | then-long-ge11 w ↦ w.value-is ∙ rw (le-leb 11 (length capture) w.if-long-ge11.true, w.longest_of.ensures.0, w.mode_of.ensures) refl
      | else-long-ge11 w ↦ w.value-is ∙ rw (lt-leb 11 (length capture) w.if-long-ge11.false) refl
    ] in
    let second : c.if-long-longest_of.value ≡ (sizes && three)
    = elim c.if-long-longest_of.branch [
      | then-long-longest_of w ↦ w.value-is ∙ ap (λ (x : ℕ). eqb x 3) w.count_at.ensures ∙ ap (λ (t : Bool). t && three) (sym w.if-long-longest_of.true ∙ first)
      | else-long-longest_of w ↦ w.value-is ∙ w.if-long-longest_of.false ∙ ap (λ (t : Bool). t && three) (sym w.if-long-longest_of.false ∙ first)
    ] in
    let last = eqb (number (bit_at capture) 56 32) (length capture - 11) in
    c.if-count_at-eq3.false ∙ ap (λ (t : Bool). t && last) (sym c.if-count_at-eq3.false ∙ second) ∙ in_a_row sizes three last
