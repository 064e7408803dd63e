-- What an undamaged lane's headers have for certain, whatever parities and commands they carry: the pilot signal of clause 7.3.3, as CRC-12, CRC-3
-- and the stand-alone command channel have it. Clauses 7.3.3 to 7.3.7, Tables 41, 43 and 47; document 01, "From octets to lane bits"; request 5.
-- FEC's (Table 45) is another: it has no fixed 1 before its last bit. Assumes nothing.
use Rattle.std.specs.Prelude.{◌≡◌, Bool, true, false, ◌||◌, ℕ, ◌+◌, ◌-◌, ◌*◌, ◌%◌, ◌≤◌, eqb}
use Rattle.frame.specs.Headers.{header_read, carries, invalid}
use Rattle.lock.specs.declared.Phase.TheVariants.{Locked}
use Rattle.lock.specs.declared.Lock.{Lock}

-- the positions of a sync word that are always 1
abbrev pub always_one : ℕ → Bool
always_one k = eqb k 3 || eqb k 7 || eqb k 11 || eqb k 15 || eqb k 19 || eqb k 21 || eqb k 23 || eqb k 31

-- the sync bits of such a lane from its block p on: sync bit n is at position (n + p) % 32 of its sync word
pub record PilotSync (E p : ℕ) (sync : ℕ → ℕ) : Type 0 where
  pub ones : (n : ℕ) → always_one ((n + p) % 32) ≡ true → sync n ≡ 1
  pub zeros : (n : ℕ) → 27 ≤ (n + p) % 32 → (n + p) % 32 ≤ 30 → sync n ≡ 0
  -- the end mark, at position 22: 1 in the last multiblock of an extended multiblock, and 0 in the others
  pub last_mark : (n : ℕ) → (n + p) % (32 * E) ≡ 32 * E - 10 → sync n ≡ 1
  pub other_marks : (n : ℕ) → (n + p) % 32 ≡ 22 → ((n + p) % (32 * E) ≡ 32 * E - 10 → ⊥) → sync n ≡ 0

-- header values that are all valid and carry such sync bits
pub record PilotHeaders (E p : ℕ) (headers : ℕ → ℕ) : Type 0 where
  pub valid : (n : ℕ) → invalid (header_read (headers n)) ≡ false
  pub sync : PilotSync E p (λ n. carries (header_read (headers n)))

-- both locks are held
pub record Held (lock : Lock) : Type 0 where
  pub header : lock.header.locked ≡ true
  pub extended : lock.extended.phase ≡ Locked
