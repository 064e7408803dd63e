-- No two answers for callers in C are the same in the answers that they stand for: document 01, "Numbers of refusal". Assumes nothing.
use mathlib.Core.Path.{◌≡◌, ap}
use Rattle.answers.specs.Numbers.{Counted, Answer}
use Rattle.sender.specs.declared.Sender.{Sender}
use Rattle.zaytulobe.specs.declared.counts.CountedNumbers.{CountedNumbers}
use Rattle.zaytulobe.specs.declared.SentNumbers.{SentNumbers}
use Rattle.zaytulobe.specs.Counts.{as_counted}
use Rattle.zaytulobe.specs.Sending.{as_answer}

pub counted_numbers_one : (a b : CountedNumbers) → as_counted a ≡ as_counted b → a ≡ b
counted_numbers_one a b e = ap {A = Counted} {B = CountedNumbers} (λ (c : Counted). record { refusal = c.refusal; count = c.count }) e

pub sent_numbers_one : (a b : SentNumbers) → as_answer a ≡ as_answer b → a ≡ b
sent_numbers_one a b e = ap {A = Answer Sender} {B = SentNumbers} (λ (c : Answer Sender). record { refusal = c.refusal; count = c.count; state = c.state }) e
