-- A listing as octets: decimal numbers without leading zeros, and lines. Document 01, "Capture and listing"; request 2. Assumes nothing.
use Rattle.std.specs.Prelude.{List, [], ◌∷◌, ◌++◌, ℕ, zero, suc, ◌+◌, ◌/◌, ◌%◌, ltb, eqb, length, get_or}
use Rattle.bits.specs.Choice.{pick}
use Rattle.frame.specs.declared.modes.Sync.{Sync}
use Rattle.frame.specs.declared.modes.Sync.TheVariants.{Crc12, Fec, Crc3, Command}
use Rattle.frame.specs.declared.modes.Row.{Row}
use Rattle.frame.specs.Lane.{block_width}

-- the decimal digits of n, of which there are at most so many
unfoldable pub digits_of : ℕ → ℕ → List ℕ
digits_of zero n = []
digits_of (suc most) n = pick (ltb n 10) ((48 + n) ∷ []) (digits_of most (n / 10) ++ ((48 + n % 10) ∷ []))

-- n in decimal, for n below 10^20
unfoldable pub decimal : ℕ → List ℕ
decimal n = digits_of 20 n

-- a number and a space, and a number and the end of the line
abbrev pub spaced : ℕ → List ℕ
spaced n = decimal n ++ (32 ∷ [])

abbrev pub ended : ℕ → List ℕ
ended n = decimal n ++ (10 ∷ [])

-- "refused ", the number, and the end of the line
unfoldable pub refused_line : ℕ → List ℕ
refused_line n = 114 ∷ 101 ∷ 102 ∷ 117 ∷ 115 ∷ 101 ∷ 100 ∷ 32 ∷ ended n

-- "crc12", "fec", "crc3" or "cmd" (request 5)
abbrev pub sync_name : Sync → List ℕ
sync_name Crc12 = 99 ∷ 114 ∷ 99 ∷ 49 ∷ 50 ∷ []
sync_name Fec = 102 ∷ 101 ∷ 99 ∷ []
sync_name Crc3 = 99 ∷ 114 ∷ 99 ∷ 51 ∷ []
sync_name Command = 99 ∷ 109 ∷ 100 ∷ []

-- where blocks have gaps, "-" and the bits of a block (request 2)
unfoldable pub shape_name : ℕ → List ℕ
shape_name gap = pick (eqb gap 0) [] (45 ∷ decimal (block_width gap))

-- the name of a mode, and a space
unfoldable pub name_of : Row → List ℕ
name_of R = sync_name R.sync ++ (shape_name R.gap ++ (32 ∷ []))

-- mode name, E, received, released
unfoldable pub head_line : Row → ℕ → ℕ → ℕ → List ℕ
head_line R E received released = name_of R ++ (spaced E ++ (spaced received ++ ended released))

-- number, status, place, pattern
unfoldable pub release_line : ℕ → ℕ → ℕ → ℕ → List ℕ
release_line k status place pattern = spaced k ++ (spaced status ++ (spaced place ++ ended pattern))

-- the first n lines, from statuses, places and patterns
unfoldable pub lines_of : ℕ → List ℕ → List ℕ → List ℕ → List ℕ
lines_of zero s p q = []
lines_of (suc n) s p q = lines_of n s p q ++ release_line n (get_or s n 0) (get_or p n 0) (get_or q n 0)

-- the header line, and a line for each status, place and pattern
unfoldable pub text_of : Row → ℕ → ℕ → List ℕ → List ℕ → List ℕ → List ℕ
text_of R E received s p q = head_line R E received (length s) ++ lines_of (length s) s p q
