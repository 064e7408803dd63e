use Rattle.lock.proofs.ExtendedRange.{phase-range, phase-with}
use Rattle.lock.proofs.extended.next.Goals as goal

pub moved-requires : goal.moved-requires
moved-requires c = let a = c.args in rw c.with_header-lock.ensures (phase-with a.period a.lock a.header (phase-range a.period a.lock c.requires))
