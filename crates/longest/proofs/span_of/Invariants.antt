use Prim.Native.Nat.{◌≤◌}
use mathlib.Core.Path.{◌≡◌}
use lib.ListN.{drop}
use Rattle.longest.specs.Longest.{scan, span_of}
use Rattle.longest.proofs.span_of.Given as goal

abbrev pub invariant-loop-i : goal.invariant-loop-i
invariant-loop-i l = (l.start ≤ l.i) × (scan (drop l.i l.statuses) l.i l.start l.best ≡ span_of l.statuses)
