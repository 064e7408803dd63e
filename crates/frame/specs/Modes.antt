-- The modes, one row each: document 01, "From octets to lane bits"; requests 2, 5 and 6; clauses 7.1 and 7.3.4 to 7.3.7. Assumes nothing.
use Rattle.std.specs.Prelude.{Bool, true, false, ◌&&◌, List, [], ◌∷◌, ◌++◌, ℕ, zero, suc, ◌+◌, ◌-◌, ◌*◌, ◌/◌, ◌^◌, ltb, leb, eqb, length, get_or, replicate}
use Rattle.bits.specs.Choice.{pick}
use Rattle.parity.specs.Codeword.{Code, crc12, fec, crc3, no_code}
use Rattle.frame.specs.declared.modes.Sync.{Sync}
use Rattle.frame.specs.declared.modes.Sync.TheVariants.{Crc12, Fec, Crc3, Command}
use Rattle.frame.specs.declared.modes.Row.{Row}
use Rattle.frame.specs.declared.modes.Numbers.{Numbers}
use Rattle.frame.specs.Lane.{block_width, lane_octets, fill_bound}

-- ---- sync words

-- whose parity a sync word carries at a position: that of the multiblock before, or its own
pub data Whose : Type 0 where
  before : Whose
  own : Whose

-- what a sync word carries at a position
pub data Field : Type 0 where
  parity : Whose → ℕ → Field  -- bit k of what it carries of that parity
  command : ℕ → Field  -- bit k of this multiblock's command
  mark : Field  -- 1 in the last multiblock of an extended multiblock
  fixed : ℕ → Field  -- a bit that is always this

-- bits k + n - 1 down to k of a field
abbrev pub down : (ℕ → Field) → ℕ → ℕ → List Field
down f k zero = []
down f k (suc n) = f (k + n) ∷ down f k n

-- how every sync word ends: 0 0 0 0 1
abbrev pub ending : List Field
ending = replicate 4 (fixed 0) ++ fixed 1 ∷ []

-- the 32 fields by block: Tables 41, 45, 43 and 47. Of CRC-3's own parity the three highest bits are CRC-B, the next CRC-C, and the lowest CRC-D
abbrev pub layout : Sync → List Field
layout Crc12 =
    down (parity before) 9 3 ++ fixed 1 ∷ down (parity before) 6 3 ++ fixed 1 ∷ down (parity before) 3 3 ++ fixed 1 ∷ down (parity before) 0 3 ++ fixed 1
    ∷ down command 4 3 ++ fixed 1 ∷ command 3 ∷ fixed 1 ∷ mark ∷ fixed 1 ∷ down command 0 3 ++ ending
layout Fec = down (parity before) 4 22 ++ mark ∷ down (parity before) 0 4 ++ ending
layout Crc3 =
    down (parity before) 0 3 ++ fixed 1 ∷ down command 4 3 ++ fixed 1 ∷ down (parity own) 6 3 ++ fixed 1 ∷ down command 1 3 ++ fixed 1
    ∷ down (parity own) 3 3 ++ fixed 1 ∷ command 0 ∷ fixed 1 ∷ mark ∷ fixed 1 ∷ down (parity own) 0 3 ++ ending
layout Command =
    down command 16 3 ++ fixed 1 ∷ down command 13 3 ++ fixed 1 ∷ down command 10 3 ++ fixed 1 ∷ down command 7 3 ++ fixed 1
    ∷ down command 4 3 ++ fixed 1 ∷ command 3 ∷ fixed 1 ∷ mark ∷ fixed 1 ∷ down command 0 3 ++ ending

-- the code of the parity
abbrev pub code : Sync → Code
code Crc12 = crc12
code Fec = fec
code Crc3 = crc3
code Command = no_code

-- bits of what a sync word carries of a parity: of the one before the last group's remainder, and of its own those of all other groups
abbrev pub parity_width : Sync → Whose → ℕ
parity_width S before = (code S).width
parity_width S own = (code S).width * ((code S).groups - 1)

-- bits of a command
abbrev pub command_width : Sync → ℕ
command_width Crc12 = 7
command_width Fec = 0
command_width Crc3 = 7
command_width Command = 19

-- words of a command, of six bits each, and one bit of parity for all of them (clause 7.3.7.3; request 6)
abbrev pub command_words : Sync → ℕ
command_words S = command_width S / 6

-- commands with their flag are below this, and 0 is the only one where there is none
abbrev pub flagged_bound : Sync → ℕ
flagged_bound S = pick (eqb (command_width S) 0) 1 (2 ^ (command_width S + 1))

-- whether a burst is flipped back, or only noticed
abbrev pub repairs : Sync → Bool
repairs Crc12 = false
repairs Fec = true
repairs Crc3 = false
repairs Command = false

-- whether there is a parity that can disagree
abbrev pub checks : Sync → Bool
checks S = ltb 0 (code S).groups

-- ---- modes

-- a mode's number is its place here. By row: the sync word, the bits between the data octets of a block, the most multiblocks of one call
abbrev pub rows : List Row
rows =
    record { sync = Crc12; gap = 0; most = 240 }
    ∷ record { sync = Fec; gap = 0; most = 240 }
    ∷ record { sync = Crc12; gap = 2; most = 200 }
    ∷ record { sync = Fec; gap = 2; most = 200 }
    ∷ record { sync = Crc3; gap = 0; most = 240 }
    ∷ record { sync = Command; gap = 0; most = 240 }
    ∷ []

abbrev pub known : ℕ → Bool
known mode = ltb mode (length rows)

-- of a number that no mode has: no call takes a multiblock by it, and every entry refuses the number before it goes by its row
abbrev pub no_row : Row
no_row = record { sync = Crc12; gap = 0; most = 0 }

unfoldable pub row : ℕ → Row
row mode = get_or rows mode no_row

-- what follows from a row
abbrev pub numbers_of : Row → Numbers
numbers_of R = record {
  parities = 2 ^ parity_width R.sync before;
  owns = 2 ^ parity_width R.sync own;
  commands = 2 ^ command_width R.sync;
  flagged = flagged_bound R.sync;
  words = command_words R.sync;
  fills = fill_bound R.gap;
  octets = lane_octets R.gap;
  width = block_width R.gap;
  repairs = repairs R.sync;
}

-- the greatest of all rows' numbers: the most multiblocks of a call, and the longest lane of a call in octets
abbrev pub greatest : (Row → ℕ) → List Row → ℕ
greatest f [] = 0
greatest f (R ∷ rest) = pick (leb (greatest f rest) (f R)) (f R) (greatest f rest)

unfoldable pub most_of_all : ℕ
most_of_all = greatest (λ (R : Row). R.most) rows

unfoldable pub longest_lane : ℕ
longest_lane = greatest (λ (R : Row). lane_octets R.gap * R.most) rows

-- ---- E, the multiblocks of an extended multiblock

unfoldable pub extent_fits : ℕ → Bool
extent_fits E = leb 1 E && leb E 256
