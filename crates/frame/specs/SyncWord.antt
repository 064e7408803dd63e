-- Sync words, written and read by a layout of 32 fields: clauses 7.3.3 to 7.3.7; document 01, "From octets to lane bits"; request 5.
-- A sync word is a number of 32 bits: position 0 is the highest. Assumes nothing.
use Rattle.std.specs.Prelude.{List, [], ◌∷◌, ℕ, suc, ◌+◌, ◌-◌, ◌*◌, ◌/◌, ◌%◌, ◌^◌, eqb, leb, get_or}
use Rattle.bits.specs.Choice.{pick, bit_of}
use Rattle.bits.specs.Order.{number}
use Rattle.frame.specs.declared.modes.Sync.{Sync}
use Rattle.frame.specs.declared.sync.Parts.{Parts}
use Rattle.frame.specs.declared.headers.Header.{Header}
use Rattle.frame.specs.Headers.{carries, invalid}
use Rattle.frame.specs.Modes.{Whose, before, own, Field, parity, command, mark, fixed, layout, parity_width, command_width}

-- ---- the two parts of a parity

-- what a sync word carries of the parity before it, or of its own
abbrev pub part_of : Parts → Whose → ℕ
part_of p before = p.before
part_of p own = p.own

-- a multiblock's parity from its two parts, where only the bits that they have count: the part that the next sync word carries is the lowest
unfoldable pub whole : Sync → Parts → ℕ
whole S p = p.own % 2 ^ parity_width S own * 2 ^ parity_width S before + p.before % 2 ^ parity_width S before

-- and the two parts of a parity
unfoldable pub split : Sync → ℕ → Parts
split S whole = record { before = whole % 2 ^ parity_width S before; own = whole / 2 ^ parity_width S before % 2 ^ parity_width S own }

-- ---- written

-- what a field holds of parities p, a command c and an end mark e
unfoldable pub held : Parts → ℕ → ℕ → Field → ℕ
held p c e (parity whose k) = part_of p whose / 2 ^ k % 2
held p c e (command k) = c / 2 ^ k % 2
held p c e mark = e % 2
held p c e (fixed b) = b % 2

-- the word by any layout, and by that of a kind of sync word
unfoldable pub word_by : List Field → Parts → ℕ → ℕ → ℕ
word_by fields p c e = number (λ t. held p c e (get_or fields t (fixed 0))) 0 32

abbrev pub sync_word : Sync → Parts → ℕ → ℕ → ℕ
sync_word S = word_by (layout S)

-- ---- read

-- a number for each field, and none for two
unfoldable pub key : Field → ℕ
key (parity before k) = 5 * k
key (parity own k) = 5 * k + 1
key (command k) = 5 * k + 2
key mark = 3
key (fixed b) = 5 * b + 4

-- the position where a field stands first; past the end where it does not stand
unfoldable pub position : List Field → Field → ℕ
position [] x = 0
position (y ∷ l) x = pick (eqb (key x) (key y)) 0 (suc (position l x))

-- what sync bits carry, by any layout, of the w bits of a field
unfoldable pub read_by : List Field → (ℕ → Field) → ℕ → (ℕ → ℕ) → ℕ
read_by fields f w bits = number (λ j. bits (position fields (f (w - 1 - j)))) 0 w

-- the parities and the command that 32 sync bits carry
abbrev pub read_parity : Sync → Whose → (ℕ → ℕ) → ℕ
read_parity S whose = read_by (layout S) (parity whose) (parity_width S whose)

abbrev pub read_parts : Sync → (ℕ → ℕ) → Parts
read_parts S bits = record { before = read_parity S before bits; own = read_parity S own bits }

abbrev pub read_command : Sync → (ℕ → ℕ) → ℕ
read_command S = read_by (layout S) command (command_width S)

-- the command that 32 headers carry, with a flag above it where any of its own was invalid
unfoldable pub flagged_command : Sync → (ℕ → Header) → ℕ
flagged_command S headers =
    read_command S (λ t. carries (headers t)) + pick (leb 1 (read_command S (λ t. bit_of (invalid (headers t))))) (2 ^ command_width S) 0
