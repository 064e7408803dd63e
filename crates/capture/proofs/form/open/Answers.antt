use mathlib.Core.Path.{sym}
use Prim.Native.Nat.{◌-◌}
use native.Mathlib.Omega.{arith}
use lib.ListN.{length, drop, length-drop}
use lib.Seq.{take_all}
use Rattle.capture.specs.Form.{lane_of}
use Rattle.capture.proofs.Refusals.{accepted, not-opened, read_off}
use Rattle.capture.proofs.form.open.Goals as goal

pub returns-in_err-check : goal.returns-in_err-check
returns-in_err-check g c =
    (c.takes.result, rw (← c.mode_of-mode.ensures) c.takes.ensures, not-opened _ c.args.capture.now _ c.from_residual.result c.from_residual.ensures.1 c.in_err-check.ensures)

pub slice_bounds-result-count : goal.slice_bounds-result-count
slice_bounds-result-count g c = omega (arith, (accepted (λ _. c.takes.result) c.args.capture.now (sym c.in_ok-check.ensures)).long)

pub slice_bounds-result-start : goal.slice_bounds-result-start
slice_bounds-result-start g c = omega (arith, (accepted (λ _. c.takes.result) c.args.capture.now (sym c.in_ok-check.ensures)).long)

pub returns : goal.returns
unfolding lane_of
returns g c =
    let capture = c.args.capture.now in
    (c.takes.result, rw (← c.mode_of-mode.ensures) c.takes.ensures, read_off (λ _. c.takes.result) capture _ _ _ c.in_ok-check.ensures c.mode_of-mode.ensures c.extent_of.ensures (take_all (length capture - 11) (drop 11 capture) (omega (arith, length-drop 11 capture))))
