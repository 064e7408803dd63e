-- Laws of sync words, once over every layout in which each bit stands once, which a computed test shows of every kind: what is written is read
-- back, and what is read depends on the field's own positions only. Clauses 7.3.3 to 7.3.7. Assumes nothing.
use mathlib.Core.Path.{◌≡◌, refl, sym, ap, ap₂, ◌∙◌, subst}
use mathlib.Core.Bool.{Bool, true, false}
use mathlib.Core.List.{List, [], ◌∷◌}
use Prim.Native.Nat.{ℕ, suc, ◌+◌, ◌-◌, ◌*◌, ◌/◌, ◌%◌, ◌^◌, ◌≤◌, ◌<◌}
use native.Mathlib.Nat.{mod-lt, zero-lt-suc, pow-suc, le_of_suc-le-suc, not-suc-le-zero, add-zero, zero-add}
use native.Mathlib.Numerals.{add-one}
use native.Mathlib.Omega.{arith}
use borrow.Author.Tests.{eqb-true, le-leb, lt-leb}
use lib.Dec.{T, ltb, leb, eqb, ltb→lt, eqb→eq}
use lib.ListN.{length, get_or}
use Rattle.bits.specs.Choice.{pick, bit_of}
use Rattle.bits.specs.Order.{number, digit}
use Rattle.bits.proofs.Numbers.{number-none, number_lt, number-ext, number-whole, digit-number}
use Rattle.bits.proofs.Tests.{every, every-at}
use Rattle.frame.specs.declared.modes.Sync.{Sync}
use Rattle.frame.specs.declared.modes.Sync.TheVariants.{Crc12, Fec, Crc3, Command}
use Rattle.frame.specs.declared.sync.Parts.{Parts}
use Rattle.frame.specs.declared.headers.Header.{Header}
use Rattle.frame.specs.Headers.{carries, invalid}
use Rattle.frame.specs.Modes.{Whose, before, own, Field, parity, command, mark, fixed, layout, parity_width, command_width, flagged_bound}
use Rattle.frame.specs.SyncWord.{part_of, held, word_by, sync_word, key, position, read_by, read_parity, read_command, flagged_command}
use Rattle.frame.proofs.Reading.{carries-lt}

-- ---- where a field stands

key-inj : (x y : Field) → key x ≡ key y → x ≡ y
unfolding key
key-inj (parity before k) (parity before j) e = ap (parity before) (omega arith)
key-inj (parity before k) (parity own j) e = absurd (omega arith)
key-inj (parity before k) (command j) e = absurd (omega arith)
key-inj (parity before k) mark e = absurd (omega arith)
key-inj (parity before k) (fixed b) e = absurd (omega arith)
key-inj (parity own k) (parity before j) e = absurd (omega arith)
key-inj (parity own k) (parity own j) e = ap (parity own) (omega arith)
key-inj (parity own k) (command j) e = absurd (omega arith)
key-inj (parity own k) mark e = absurd (omega arith)
key-inj (parity own k) (fixed b) e = absurd (omega arith)
key-inj (command k) (parity before j) e = absurd (omega arith)
key-inj (command k) (parity own j) e = absurd (omega arith)
key-inj (command k) (command j) e = ap command (omega arith)
key-inj (command k) mark e = absurd (omega arith)
key-inj (command k) (fixed b) e = absurd (omega arith)
key-inj mark (parity before j) e = absurd (omega arith)
key-inj mark (parity own j) e = absurd (omega arith)
key-inj mark (command j) e = absurd (omega arith)
key-inj mark mark e = refl
key-inj mark (fixed b) e = absurd (omega arith)
key-inj (fixed b) (parity before j) e = absurd (omega arith)
key-inj (fixed b) (parity own j) e = absurd (omega arith)
key-inj (fixed b) (command j) e = absurd (omega arith)
key-inj (fixed b) mark e = absurd (omega arith)
key-inj (fixed b) (fixed a) e = ap fixed (omega arith)

-- a field stands at its position
pub there : (l : List Field) (x d : Field) → position l x < length l → get_or l (position l x) d ≡ x
unfolding position
there [] x d h = absurd (not-suc-le-zero h)
there (y ∷ l) x d h = by (eqb (key x) (key y)) refl h (there l x d)
  where
    by : (b : Bool) → eqb (key x) (key y) ≡ b → pick b 0 (suc (position l x)) < suc (length l)
        → (position l x < length l → get_or l (position l x) d ≡ x) → get_or (y ∷ l) (pick b 0 (suc (position l x))) d ≡ x
    by true e h further = sym (key-inj x y (eqb-true (key x) (key y) e))
    by false e h further = further (le_of_suc-le-suc h)

-- ---- what is written, by any layout

pub held-mark : (p : Parts) (c e : ℕ) → held p c e mark ≡ e % 2
unfolding held
held-mark p c e = refl

pub held-fixed : (p : Parts) (c e b : ℕ) → held p c e (fixed b) ≡ b % 2
unfolding held
held-fixed p c e b = refl

pub held-lt : (p : Parts) (c e : ℕ) (x : Field) → held p c e x < 2
unfolding held
held-lt p c e (parity whose k) = mod-lt (part_of p whose / 2 ^ k) (zero-lt-suc 1)
held-lt p c e (command k) = mod-lt (c / 2 ^ k) (zero-lt-suc 1)
held-lt p c e mark = mod-lt e (zero-lt-suc 1)
held-lt p c e (fixed b) = mod-lt b (zero-lt-suc 1)

module _ (fields : List Field) (p : Parts) (c e : ℕ) where
  -- bit t of a sync word is what the field there holds
  pub held-digit : (t : ℕ) → t < 32 → digit 32 (word_by fields p c e) t ≡ held p c e (get_or fields t (fixed 0))
  unfolding word_by
  held-digit t h =
      digit-number (λ t. held p c e (get_or fields t (fixed 0))) (λ t. held-lt p c e (get_or fields t (fixed 0))) 0 32 t h
      ∙ ap (λ (x : ℕ). held p c e (get_or fields x (fixed 0))) (zero-add t)

  -- what is written is read back: of every field whose bits stand
  pub reads-back : length fields ≡ 32 → (f : ℕ → Field) (w : ℕ) → ((k : ℕ) → k < w → position fields (f k) < 32)
      → read_by fields f w (digit 32 (word_by fields p c e)) ≡ number (λ j. held p c e (f (w - 1 - j))) 0 w
  unfolding read_by
  reads-back long f w stands =
      number-ext (λ j. digit 32 (word_by fields p c e) (position fields (f (w - 1 - j)))) (λ j. held p c e (f (w - 1 - j))) 0 0 w
      (λ j h.
      let x = f (w - 1 - (0 + j)) in
      let l = stands (w - 1 - (0 + j)) (omega arith) in
      held-digit (position fields x) l ∙ ap (held p c e) (there fields x (fixed 0) (subst (λ (n : ℕ). position fields x < n) (sym long) l)))

-- ---- what is read, by any layout

module _ (fields : List Field) (f : ℕ → Field) (w : ℕ) where
  -- a field is read from its own positions only: a wrong end mark or wrong fixed bits change nothing
  pub only-there : (a b : ℕ → ℕ) → ((k : ℕ) → k < w → a (position fields (f k)) ≡ b (position fields (f k))) → read_by fields f w a ≡ read_by fields f w b
  unfolding read_by
  only-there a b e =
      number-ext (λ j. a (position fields (f (w - 1 - j)))) (λ j. b (position fields (f (w - 1 - j)))) 0 0 w (λ j h. e (w - 1 - (0 + j)) (omega arith))

  module _ (bits : ℕ → ℕ) (d : (t : ℕ) → bits t < 2) where
    pub read-lt : read_by fields f w bits < 2 ^ w
    unfolding read_by
    read-lt = number_lt (λ j. bits (position fields (f (w - 1 - j)))) (λ j. d (position fields (f (w - 1 - j)))) 0 w

    -- 32 sync bits are read alike as a stream and as the number they write
    pub read_number : ((k : ℕ) → k < w → position fields (f k) < 32) → read_by fields f w (digit 32 (number bits 0 32)) ≡ read_by fields f w bits
    read_number stands =
        only-there (digit 32 (number bits 0 32)) bits
        (λ k h. digit-number bits d 0 32 (position fields (f k)) (stands k h) ∙ ap bits (zero-add (position fields (f k))))

  -- a field without bits reads 0
  pub read_none : w ≡ 0 → (bits : ℕ → ℕ) → read_by fields f w bits ≡ 0
  unfolding read_by
  read_none none bits = ap (number (λ j. bits (position fields (f (w - 1 - j)))) 0) none ∙ sym (number-none (λ j. bits (position fields (f (w - 1 - j)))) 0)

-- ---- the test, of each kind of sync word

abbrev pub field_at : Sync → ℕ → Field
field_at S t = get_or (layout S) t (fixed 0)

abbrev pub place : Sync → Field → ℕ
place S x = position (layout S) x

-- a field other than a fixed bit does not stand before t
abbrev pub first_at : Sync → ℕ → Field → Bool
first_at S t (parity whose k) = eqb (place S (parity whose k)) t
first_at S t (command k) = eqb (place S (command k)) t
first_at S t mark = eqb (place S mark) t
first_at S t (fixed b) = true

-- 32 fields, each but the fixed bits at one position; each bit of the parities and of the command stands
pub record Stands (S : Sync) : Type 0 where
  pub count : length (layout S) ≡ 32
  pub once : (t : ℕ) → t < 32 → T (first_at S t (field_at S t))
  pub parities : (whose : Whose) (k : ℕ) → k < parity_width S whose → place S (parity whose k) < 32
  pub commands : (k : ℕ) → k < command_width S → place S (command k) < 32

abbrev stands_parities : Sync → Whose → Bool
stands_parities S whose = every (λ k. ltb (place S (parity whose k)) 32) (parity_width S whose)

abbrev stands_commands : Sync → Bool
stands_commands S = every (λ k. ltb (place S (command k)) 32) (command_width S)

abbrev stands_fields : Sync → Bool
stands_fields S = every (λ t. first_at S t (field_at S t)) 32

-- what is tested, before and own apart
record Tested (S : Sync) : Type 0 where
  count : T (eqb (length (layout S)) 32)
  fields : T (stands_fields S)
  parities : (whose : Whose) → T (stands_parities S whose)
  commands : T (stands_commands S)

passed : (S : Sync) → Tested S → Stands S
passed S t = record {
  count = eqb→eq (length (layout S)) 32 t.count;
  once = every-at (λ t. first_at S t (field_at S t)) 32 t.fields;
  parities = λ whose k h. ltb→lt (place S (parity whose k)) 32 (every-at (λ k. ltb (place S (parity whose k)) 32) (parity_width S whose) (t.parities whose) k h);
  commands = λ k h. ltb→lt (place S (command k)) 32 (every-at (λ k. ltb (place S (command k)) 32) (command_width S) t.commands k h);
}

-- of both parities
each-whose : (P : Whose → Type 0) → P before → P own → (whose : Whose) → P whose
each-whose P b o before = b
each-whose P b o own = o

-- every sync word passes
tested : (S : Sync) → Tested S
unfolding every position key
tested Crc12 = record { count = tt; fields = tt; parities = each-whose _ tt tt; commands = tt }
tested Fec = record { count = tt; fields = tt; parities = each-whose _ tt tt; commands = tt }
tested Crc3 = record { count = tt; fields = tt; parities = each-whose _ tt tt; commands = tt }
tested Command = record { count = tt; fields = tt; parities = each-whose _ tt tt; commands = tt }

pub all-stand : (S : Sync) → Stands S
all-stand S = passed S (tested S)

-- ---- the kinds of sync words

module _ (S : Sync) (p : Parts) (c e : ℕ) where
  abbrev s : Stands S
  s = all-stand S

  pub reads-parity : (whose : Whose) → read_parity S whose (digit 32 (sync_word S p c e)) ≡ part_of p whose % 2 ^ parity_width S whose
  unfolding held
  reads-parity whose =
      reads-back (layout S) p c e s.count (parity whose) (parity_width S whose) (s.parities whose) ∙ number-whole (parity_width S whose) (part_of p whose)

  pub reads-command : read_command S (digit 32 (sync_word S p c e)) ≡ c % 2 ^ command_width S
  unfolding held
  reads-command = reads-back (layout S) p c e s.count command (command_width S) s.commands ∙ number-whole (command_width S) c

pub only-flagged : (S : Sync) (a b : ℕ → Header) → ((k : ℕ) → k < command_width S → a (place S (command k)) ≡ b (place S (command k))) → flagged_command S a ≡ flagged_command S b
unfolding flagged_command
only-flagged S a b e =
    ap₂ (λ (x y : ℕ). x + pick (leb 1 y) (2 ^ command_width S) 0)
    (only-there (layout S) command (command_width S) (λ t. carries (a t)) (λ t. carries (b t)) (λ k h. ap carries (e k h)))
    (only-there (layout S) command (command_width S) (λ t. bit_of (invalid (a t))) (λ t. bit_of (invalid (b t))) (λ k h. ap (λ (x : Header). bit_of (invalid x)) (e k h)))

module _ (S : Sync) (headers : ℕ → Header) where
  command-lt : read_command S (λ t. carries (headers t)) < 2 ^ command_width S
  command-lt = read-lt (layout S) command (command_width S) (λ t. carries (headers t)) (λ t. carries-lt (headers t))

  pub flagged_command-lt : flagged_command S headers < 2 ^ (command_width S + 1)
  unfolding flagged_command
  flagged_command-lt =
      let flag = leb 1 (read_command S (λ t. bit_of (invalid (headers t)))) in
      subst (λ (x : ℕ). read_command S (λ t. carries (headers t)) + pick flag (2 ^ command_width S) 0 < x)
      (sym (ap (λ (x : ℕ). 2 ^ x) (add-one (command_width S)) ∙ pow-suc 2 (command_width S))) (by flag)
    where
      by : (b : Bool) → read_command S (λ t. carries (headers t)) + pick b (2 ^ command_width S) 0 < 2 ^ command_width S * 2
      by true = omega (arith, command-lt)
      by false = omega (arith, command-lt)

  -- the command is flagged exactly where a header of its own was invalid
  pub flagged : 1 ≤ read_command S (λ t. bit_of (invalid (headers t))) → read_command S (λ t. carries (headers t)) + 2 ^ command_width S ≡ flagged_command S headers
  unfolding flagged_command
  flagged h = ap (λ (b : Bool). read_command S (λ t. carries (headers t)) + pick b (2 ^ command_width S) 0) (sym (le-leb 1 _ h))

  pub unflagged : read_command S (λ t. bit_of (invalid (headers t))) < 1 → read_command S (λ t. carries (headers t)) ≡ flagged_command S headers
  unfolding flagged_command
  unflagged h =
      sym (ap (λ (b : Bool). read_command S (λ t. carries (headers t)) + pick b (2 ^ command_width S) 0) (lt-leb 1 _ h) ∙ add-zero _)

-- a mode without commands reads 0
pub no-flagged-command : (S : Sync) → command_width S ≡ 0 → (headers : ℕ → Header) → flagged_command S headers ≡ 0
unfolding flagged_command
no-flagged-command S none headers =
    ap₂ (λ (x y : ℕ). x + pick (leb 1 y) (2 ^ command_width S) 0)
    (read_none (layout S) command (command_width S) none (λ t. carries (headers t)))
    (read_none (layout S) command (command_width S) none (λ t. bit_of (invalid (headers t))))

-- a command that was read is in its range
pub flagged-fits : (S : Sync) (headers : ℕ → Header) → flagged_command S headers < flagged_bound S
flagged-fits Crc12 headers = flagged_command-lt Crc12 headers
flagged-fits Fec headers = omega (arith, no-flagged-command Fec refl headers)
flagged-fits Crc3 headers = flagged_command-lt Crc3 headers
flagged-fits Command headers = flagged_command-lt Command headers
