-- No two answers of a step are the same in numbers: document 01, "Numbers of refusal". Assumes nothing.
use mathlib.Core.Path.{◌≡◌, sym, ap}
use Rattle.std.specs.Prelude.{Result, Ok, Err}
use Rattle.answers.specs.declared.Refusal.{Refusal}
use Rattle.answers.proofs.Numbers.{number-above, number_one}
use Rattle.lock.specs.declared.Lock.{Lock}
use Rattle.lock.specs.Refusals.{Stepped, step_answer}

pub stepped_one : (lock : Lock) (a b : Result Lock Refusal) → step_answer lock a ≡ step_answer lock b → a ≡ b
stepped_one lock (Ok x) (Ok y) e = ap (λ (s : Stepped). Ok s.lock) e
stepped_one lock (Ok x) (Err b) e = absurd (number-above b (sym (ap (λ (s : Stepped). s.refusal) e)))
stepped_one lock (Err a) (Ok y) e = absurd (number-above a (ap (λ (s : Stepped). s.refusal) e))
stepped_one lock (Err a) (Err b) e = ap Err (number_one a b (ap (λ (s : Stepped). s.refusal) e))
