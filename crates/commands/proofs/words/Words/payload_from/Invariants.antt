use mathlib.Core.Path.{◌≡◌}
use mathlib.Core.List.{List}
use Prim.Native.Nat.{ℕ}
use Rattle.bits.specs.Order.{list_from, laid}
use Rattle.commands.specs.Words.{word_at}
use Rattle.commands.specs.Reading.{five_bits}
use Rattle.commands.proofs.words.Words.payload_from.Given as goal

abbrev payload : ℕ → List ℕ → ℕ → ℕ
payload n commands i = five_bits (word_at n commands i)

abbrev pub invariant-loop-k : goal.invariant-loop-k
invariant-loop-k l = l.bits-items ≡ laid (list_from (payload l.self.each l.self.commands.now) l.at l.k) l.initial.bits-items
