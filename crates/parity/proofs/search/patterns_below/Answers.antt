use Rattle.std.proofs.Common.{rules}
use Prim.Native.Nat.{◌-◌}
use native.Mathlib.Omega.{arith}
use native.Mathlib.Nat.{le_refl}
use lib.Pow.{pow_mono}
use Rattle.parity.proofs.Trap.{trap-shows, remainder-shows}
use Rattle.parity.proofs.search.patterns_below.Goals as goal

pub returns-then-trap-eq1 : goal.returns-then-trap-eq1
returns-then-trap-eq1 c = (le_refl 512, pow_mono {i = 9} {j = 2074 - c.args.place} (omega arith), λ pattern e. e.burst.short)

pub returns-then-place-le-LAST : goal.returns-then-place-le-LAST
returns-then-place-le-LAST c =
    let a = c.args in
    let known = c.requires in
    let here = c.if-place-le-LAST.true in (
      search rules,
      search rules,
      λ pattern e.
          absurd (c.if-trap-eq1.false (trap-shows a.remainder a.place pattern e a.trap known.remainder_bound.1 here (known.trap_value here))),
    )

pub returns : goal.returns
returns c =
    let a = c.args in
    (search rules, search rules, λ pattern e. absurd (c.if-remainder-left-eq1.false (remainder-shows a.remainder a.place pattern e (search rules))))
