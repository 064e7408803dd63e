-- Scrambling and descrambling: clause 7.2.4; document 01, "From octets to lane bits".
-- A history is a number: bit 0 is the latest bit sent before. Only its 58 low bits count. Assumes nothing.
use Rattle.std.specs.Prelude.{List, ℕ, zero, suc, ◌+◌, ◌-◌, ◌*◌, ◌/◌, ◌%◌, ◌^◌, leb}
use Rattle.std.specs.Int.Bits.{bit_xor}
use Rattle.bits.specs.Choice.{pick}
use Rattle.bits.specs.Order.{bit_at, octets_of}

-- the bit sent for a user bit: that bit, plus the bit sent 39 before, plus the bit sent 58 before
unfoldable pub sent_bit : ℕ → ℕ → ℕ
sent_bit user history = bit_xor user (bit_xor (history / 2 ^ 38 % 2) (history / 2 ^ 57 % 2))

-- all bits sent, as a number, once the first n bits of a user's stream have followed a history
unfoldable pub all_sent : (ℕ → ℕ) → ℕ → ℕ → ℕ
all_sent user history zero = history
all_sent user history (suc n) = all_sent user history n * 2 + sent_bit (user n) (all_sent user history n)

-- bit k of the stream sent
unfoldable pub sent : (ℕ → ℕ) → ℕ → ℕ → ℕ
sent user history k = sent_bit (user k) (all_sent user history k)

-- the history after n bits: the 58 latest
unfoldable pub history_after : (ℕ → ℕ) → ℕ → ℕ → ℕ
history_after user history n = all_sent user history n % 2 ^ 58

-- the bit d places before place k of a stream that followed a history
unfoldable pub earlier : ℕ → (ℕ → ℕ) → ℕ → ℕ → ℕ
earlier history stream k d = pick (leb d k) (stream (k - d)) (history / 2 ^ (d - k - 1) % 2)

-- descrambling adds the same two bits
unfoldable pub plain : ℕ → (ℕ → ℕ) → ℕ → ℕ
plain history stream k = bit_xor (stream k) (bit_xor (earlier history stream k 39) (earlier history stream k 58))

-- the same of octets
unfoldable pub scrambled : List ℕ → ℕ → ℕ → List ℕ
scrambled octets history n = octets_of (sent (bit_at octets) history) n

unfoldable pub descrambled : List ℕ → ℕ → ℕ → List ℕ
descrambled octets history n = octets_of (plain history (bit_at octets)) n
