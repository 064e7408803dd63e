-- The sender's answer as numbers for callers in C: document 01, "Numbers of refusal". Assumes nothing.
use Rattle.answers.specs.Numbers.{Answer}
use Rattle.sender.specs.declared.Sender.{Sender}
use Rattle.zaytulobe.specs.declared.SentNumbers.{SentNumbers}

-- the answer that numbers stand for
abbrev pub as_answer : SentNumbers → Answer Sender
as_answer x = record { refusal = x.refusal; count = x.count; state = x.state }
