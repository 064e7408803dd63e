use lib.ListN.{length}
use Rattle.text.specs.Text.{lines_of}
use Rattle.text.specs.inner.Wrote.{Wrote}
use Rattle.text.proofs.lines.Releases.put_lines.Given as goal

abbrev pub invariant-loop-k : goal.invariant-loop-k
invariant-loop-k l = Wrote (lines_of (length l.yielded) l.self.statuses.now l.self.places.now l.self.patterns.now) l.start l.initial.text l.at l.text
