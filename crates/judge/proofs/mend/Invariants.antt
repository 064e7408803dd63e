use Rattle.judge.proofs.Mending.{Mending}
use Rattle.judge.proofs.mend.Given as goal

abbrev pub invariant-loop-bit : goal.invariant-loop-bit
invariant-loop-bit l = Mending l.initial.out l.burst.place l.burst.pattern l.out l.bit
