-- How a waiting multiblock is judged and mended: document 01, "What the receiver releases"; clauses 7.4.1, 7.5.1 and 7.5.3; request 5. Assumes
-- nothing.
use Rattle.std.specs.Prelude.{Bool, not, List, ℕ, ◌+◌, eqb, Option, Some, None}
use Rattle.std.specs.Int.Bits.{bit_xor}
use Rattle.bits.specs.Choice.{pick}
use Rattle.bits.specs.Order.{bit_at, octets_of}
use Rattle.parity.specs.declared.Burst.{Burst}
use Rattle.parity.specs.Codeword.{multiblock_parity}
use Rattle.parity.specs.Bursts.{flips}
use Rattle.parity.specs.Answer.{burst_for}
use Rattle.frame.specs.declared.modes.Sync.{Sync}
use Rattle.frame.specs.Modes.{code, repairs}
use Rattle.judge.specs.declared.Verdict.{Verdict}
use Rattle.judge.specs.declared.Verdict.TheVariants.{Agrees, Repaired, Failed}

-- ---- document 01's values for each case

-- 0: parity agrees; 1: it disagrees, and a burst explains it; 2: no burst does
abbrev pub status_of : Verdict → ℕ
status_of Agrees = 0
status_of (Repaired burst) = 1
status_of Failed = 2

-- 0 where there is no burst
abbrev pub place_of : Verdict → ℕ
place_of Agrees = 0
place_of (Repaired burst) = burst.place
place_of Failed = 0

abbrev pub pattern_of : Verdict → ℕ
pattern_of Agrees = 0
pattern_of (Repaired burst) = burst.pattern
pattern_of Failed = 0

-- ---- which case it is

abbrev pub agrees : Verdict
agrees = Agrees

abbrev pub failed : Verdict
failed = Failed

-- the burst that explains it, if there is one
abbrev pub by_burst : Option Burst → Verdict
by_burst (Some burst) = Repaired burst
by_burst None = failed

-- by the difference between the parity of what was received and the parity received: with more than one group it is 0 only where all agree, and
-- without groups always
unfoldable pub verdict_of : Sync → ℕ → Verdict
verdict_of S difference = pick (eqb difference 0) agrees (pick (repairs S) (by_burst (burst_for (code S) difference)) failed)

unfoldable pub judged : Sync → List ℕ → ℕ → Verdict
judged S octets parity = verdict_of S (bit_xor (multiblock_parity (code S) (bit_at octets)) parity)

-- the data with the burst flipped; positions from 2,048 on are parity
unfoldable pub mended : Verdict → List ℕ → List ℕ
mended v octets = octets_of (λ k. bit_xor (bit_at octets k) (flips (place_of v) (pattern_of v) k)) 256

-- 4 is added when the history before isn't trusted
unfoldable pub released_status : Verdict → Bool → ℕ
released_status v trusted = status_of v + pick trusted 0 4

-- the next history is trusted unless this multiblock failed
unfoldable pub trusted_after : Verdict → Bool
trusted_after v = not (eqb (status_of v) 2)
