-- The numbers of refusal, and what an answer is in numbers: document 01, "Numbers of refusal"; of 10 and 11 request 6. Assumes nothing.
use Rattle.std.specs.Prelude.{ℕ, Result, Ok, Err}
use Rattle.answers.specs.declared.Refusal.{Refusal}
use Rattle.answers.specs.declared.Refusal.TheVariants.{Mode, Extent, State, Length, Count, Commands, Room, Capture, Header, Long, Code}
use Rattle.answers.specs.declared.Ran.{Ran}

abbrev pub number : Refusal → ℕ
number Mode = 1
number Extent = 2
number State = 3
number Length = 4
number Count = 5
number Commands = 6
number Room = 7
number Capture = 8
number Header = 9
number Long = 10
number Code = 11

-- the number by which an answer is refused; 0 where it is not
abbrev pub refused : {A : Type 0} → Result A Refusal → ℕ
refused (Ok a) = 0
refused (Err why) = number why

-- a refusal and 0, or 0 and how many were written
pub record Counted : Type 0 where
  pub refusal : ℕ
  pub count : ℕ

abbrev pub counted : Result ℕ Refusal → Counted
counted (Ok count) = record { refusal = 0; count = count }
counted (Err why) = record { refusal = number why; count = 0 }

-- a refusal, 0 and the state that was given; or 0, how many multiblocks, and the state for the next call
pub record Answer (S : Type 0) : Type 0 where
  pub refusal : ℕ
  pub count : ℕ
  pub state : S

abbrev pub answered : {S : Type 0} → S → Result (Ran S) Refusal → Answer S
answered state (Ok ran) = record { refusal = 0; count = ran.count; state = ran.state }
answered state (Err why) = record { refusal = number why; count = 0; state = state }
