-- `frame::sync::command` meets its contract: the flag stands above the command.
use mathlib.Core.Path.{◌≡◌, ap, ap₂, ◌∙◌, subst}
use Prim.Native.Nat.{ℕ, ◌+◌, ◌^◌, ◌≤◌, ◌<◌}
use native.Mathlib.Omega.{arith}
use lib.Dec.{lit≤}
use Rattle.bits.specs.Choice.{bit_of}
use Rattle.bits.specs.Order.{digit, number}
use Rattle.bits.proofs.Numbers.{digit_lt}
use Rattle.frame.specs.declared.modes.Sync.{Sync}
use Rattle.frame.specs.declared.modes.Sync.TheVariants.{Crc12, Fec, Crc3, Command}
use Rattle.frame.specs.Headers.{carries, invalid, header_in}
use Rattle.frame.specs.Modes.{command, layout, command_width}
use Rattle.frame.specs.SyncWord.{read_command}
use Rattle.frame.proofs.Reading.{carries-lt, bit-lt}
use Rattle.frame.proofs.SyncWord.{all-stand, read-lt, read_number, flagged, unflagged}
use Rattle.frame.proofs.sync.command.Goals as goal

-- no command is wider than the widest
narrow : (S : Sync) → 2 ^ command_width S ≤ 2 ^ 19
narrow Crc12 = lit≤ tt
narrow Fec = lit≤ tt
narrow Crc3 = lit≤ tt
narrow Command = lit≤ tt

-- the command is read of a word of bits as of the bits
command-of : (S : Sync) (f : ℕ → ℕ) → ((t : ℕ) → f t < 2) → (word own : ℕ) → word ≡ number f 0 32 → own ≡ read_command S (digit 32 word) → own ≡ read_command S f
command-of S f d word own ew eo =
    eo ∙ ap (λ (x : ℕ). read_command S (digit 32 x)) ew ∙ read_number (layout S) command (command_width S) f d (all-stand S).commands

-- the command carried, and that of the invalid headers
module _ (S : Sync) (first second word own : ℕ) where
  carried-command : word ≡ number (λ t. carries (header_in first second t)) 0 32 → own ≡ read_command S (digit 32 word)
      → own ≡ read_command S (λ t. carries (header_in first second t))
  carried-command = command-of S (λ t. carries (header_in first second t)) (λ t. carries-lt (header_in first second t)) word own

  invalid-command : word ≡ number (λ t. bit_of (invalid (header_in first second t))) 0 32 → own ≡ read_command S (digit 32 word)
      → own ≡ read_command S (λ t. bit_of (invalid (header_in first second t)))
  invalid-command = command-of S (λ t. bit_of (invalid (header_in first second t))) (λ t. bit-lt (invalid (header_in first second t))) word own

pub overflow_add-result : goal.overflow_add-result
overflow_add-result c =
    let S = c.args.sync in
    let own = c.command_in-own in
    let bits = c.carried.result in
    omega (arith, own.ensures, read-lt (layout S) command (command_width S) (digit 32 bits) (digit_lt 32 bits), c.flag_of.ensures, narrow S)

pub returns-then-command_in-ge1 : goal.returns-then-command_in-ge1
returns-then-command_in-ge1 c =
    let a = c.args in
    let bits = c.carried in
    let marks = c.invalid in
    let own = carried-command a.sync a.headers.first a.headers.second bits.result _ bits.ensures c.command_in-own.ensures in
    let wrong = invalid-command a.sync a.headers.first a.headers.second marks.result _ marks.ensures c.command_in.ensures in
    ap₂ ◌+◌ own c.flag_of.ensures ∙ flagged a.sync (header_in a.headers.first a.headers.second) (subst (λ (x : ℕ). 1 ≤ x) wrong c.if-command_in-ge1.true)

pub returns : goal.returns
returns c =
    let a = c.args in
    let bits = c.carried in
    let marks = c.invalid in
    let own = carried-command a.sync a.headers.first a.headers.second bits.result _ bits.ensures c.command_in-own.ensures in
    let wrong = invalid-command a.sync a.headers.first a.headers.second marks.result _ marks.ensures c.command_in.ensures in
    own ∙ unflagged a.sync (header_in a.headers.first a.headers.second) (subst (λ (x : ℕ). x < 1) wrong c.if-command_in-ge1.false)
