-- Runs of the two locks: the step repeated over header values; clause 7.6; document 01, "Lock tables". Assumes nothing.
use Rattle.std.specs.Prelude.{List, [], ◌∷◌, ℕ}
use Rattle.bits.specs.Order.{list_from}
use Rattle.lock.specs.Table.{fresh}
use Rattle.lock.specs.Refusals.{stepped}
use Rattle.lock.specs.declared.Lock.{Lock}

-- the state after some header values, from any state
unfoldable pub after : ℕ → ℕ → Lock → List ℕ → Lock
after mode E lock [] = lock
after mode E lock (header ∷ headers) = after mode E (stepped mode E lock header).lock headers

-- the state after the first n of a stream of header values, from fresh
unfoldable pub state_after : ℕ → ℕ → (ℕ → ℕ) → ℕ → Lock
state_after mode E headers n = after mode E fresh (list_from headers 0 n)
