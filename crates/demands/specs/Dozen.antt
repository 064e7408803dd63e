-- The dozen cases of document 01, "The dozen to prove", in its order: what the definitions give beside what the document prints.
-- Assumes nothing.
use Rattle.std.specs.Prelude.{◌≡◌, List, [], ◌∷◌, ◌++◌, ℕ, take, drop, replicate}
use Rattle.scrambler.specs.Scrambling.{scrambled}
use Rattle.parity.specs.Codeword.{crc12, fec, parity_of}
use Rattle.frame.specs.declared.modes.Sync.TheVariants.{Crc12, Fec}
use Rattle.frame.specs.declared.sync.Parts.{Parts}
use Rattle.frame.specs.SyncWord.{sync_word}

-- octets or a number, as found and as wanted
pub data Case : Type 0 where
  octets : List ℕ → List ℕ → Case
  value : ℕ → ℕ → Case

abbrev pub Right : Case → Type 0
Right (octets found wanted) = found ≡ wanted
Right (value found wanted) = found ≡ wanted

-- two blocks of a user's octets of which bit 0 alone is set
abbrev pub user : List ℕ
user = 0x80 ∷ replicate 15 0x00

-- the 256 data octets of which the last alone isn't 0: its lowest bit is position 2047
abbrev pub last_octet : ℕ → List ℕ
last_octet octet = replicate 255 0x00 ++ octet ∷ []

-- a parity of the multiblock before, and no part of its own
abbrev pub before : ℕ → Parts
before p = record { before = p; own = 0 }

abbrev pub dozen : List Case
dozen =
    octets (take 8 (scrambled user 0 16)) (0x80 ∷ 0x00 ∷ 0x00 ∷ 0x00 ∷ 0x01 ∷ 0x00 ∷ 0x00 ∷ 0x20 ∷ [])
    ∷ octets (drop 8 (scrambled user 0 16)) (0x00 ∷ 0x02 ∷ 0x00 ∷ 0x00 ∷ 0x00 ∷ 0x00 ∷ 0x0C ∷ 0x00 ∷ [])
    ∷ value (parity_of crc12 (last_octet 0x01)) 0x30F
    ∷ value (parity_of crc12 (last_octet 0x02)) 0x61E
    ∷ value (parity_of crc12 (last_octet 0x08)) 0xB77
    ∷ value (parity_of fec (last_octet 0x01)) 0x220211
    ∷ value (parity_of fec (last_octet 0x10)) 0x2202110
    ∷ value (parity_of fec (last_octet 0x20)) 0x624031
    ∷ value (sync_word Crc12 (before 0) 0 1) 0x11111701
    ∷ value (sync_word Crc12 (before 0) 0 0) 0x11111501
    ∷ value (sync_word Crc12 (before 0x30F) 0x41 0) 0x393F9521
    ∷ value (sync_word Fec (before 0) 0 1) 0x00000201
    ∷ []
