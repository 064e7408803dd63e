-- How many were written, as numbers for callers in C: document 01, "Numbers of refusal". Assumes nothing.
use Rattle.answers.specs.Numbers.{Counted}
use Rattle.zaytulobe.specs.declared.counts.CountedNumbers.{CountedNumbers}

-- the answer that numbers stand for
abbrev pub as_counted : CountedNumbers → Counted
as_counted x = record { refusal = x.refusal; count = x.count }
