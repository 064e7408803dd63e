use Rattle.std.proofs.Common.{rules}
use Prim.Native.Nat.{◌+◌}
use mathlib.Core.Path.{◌≡◌, sym, ap, ◌∙◌}
use native.Mathlib.Omega.{arith}
use lib.Dec.{lit<, lit≤}
use Rattle.parity.specs.Codeword.{crc3, group_parity, joined, multiblock_parity}
use Rattle.parity.proofs.Groups.{joined-none, groups-lt, groups-more}
use Rattle.parity.proofs.group.of_all.Goals as goal

pub loop-g-init : goal.loop-g-init
loop-g-init g c = (search rules, sym (joined-none 3 (group_parity crc3 (g.B.Blocks.bit c.args.blocks))))

pub overflow_add-whole : goal.overflow_add-whole
overflow_add-whole g c =
    let l = c.loop-g in
    let bits = g.B.Blocks.bit c.args.blocks in
    record { fits = rw (groups-more crc3 (lit< tt) bits (lit≤ tt) l.g l.whole c.of_group.result (omega arith) l.invariant.1 c.of_group.ensures) (groups-lt crc3 (lit< tt) bits (lit≤ tt) (l.g + 1) (omega arith)) }

pub loop-g-preserved : goal.loop-g-preserved
loop-g-preserved g c =
    let l = c.loop-g in
    let bits = g.B.Blocks.bit c.args.blocks in
    (search rules, groups-more crc3 (lit< tt) bits (lit≤ tt) l.g l.whole c.of_group.result (omega arith) l.invariant.1 c.of_group.ensures)

pub returns : goal.returns
unfolding multiblock_parity
returns g c =
    let l = c.loop-g in
    let all : l.g ≡ 4 = omega arith in
    l.invariant.1 ∙ ap (joined 3 (group_parity crc3 (g.B.Blocks.bit c.args.blocks))) all
