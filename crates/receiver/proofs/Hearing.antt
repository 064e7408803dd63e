-- What the parts of a multiblock make when they are read: clauses 7.2.2 and 7.3; requests 1 and 2. Assumes nothing.
use mathlib.Core.Path.{◌≡◌, ap, ap₂, ◌∙◌}
use mathlib.Core.List.{List}
use Prim.Native.Nat.{ℕ, ◌≤◌}
use native.Mathlib.Omega.{arith}
use lib.ListN.{length}
use Rattle.bits.specs.Order.{bit_at, number, digit}
use Rattle.bits.proofs.Numbers.{bit_at_lt}
use Rattle.frame.specs.declared.sync.Parts.{Parts}
use Rattle.frame.specs.Headers.{carries, header_in, invalid_among}
use Rattle.frame.specs.Lane.{data_octets, first_bit, second_bit, header_at, sync_bit, invalid_headers, lane_read}
use Rattle.frame.proofs.Lane.{read_whole}
use Rattle.frame.specs.SyncWord.{read_parts, flagged_command}
use Rattle.frame.proofs.Seen.{parts_seen, command-seen, invalid-seen}
use Rattle.multiblock.specs.declared.Layout.{Layout}
use Rattle.multiblock.specs.Shape.{shape}
use Rattle.receiver.specs.inner.Turn.{heard_at}

-- by the row's gap, where multiblocks are read by it; headers are seen as two numbers of 32 bits
pub heard-is : (L : Layout) (lane : List ℕ) (first second bits : ℕ) (parts : Parts) (command count : ℕ) (octets : List ℕ) → L.size ≤ length lane
    → first ≡ number (first_bit (shape L.row.gap) (lane_read (shape L.row.gap) lane) 0) 0 32
    → second ≡ number (second_bit (shape L.row.gap) (lane_read (shape L.row.gap) lane) 0) 0 32
    → octets ≡ data_octets (shape L.row.gap) (lane_read (shape L.row.gap) lane) 0
    → bits ≡ number (λ t. carries (header_in first second t)) 0 32
    → parts ≡ read_parts L.row.sync (digit 32 bits)
    → command ≡ flagged_command L.row.sync (header_in first second)
    → count ≡ invalid_among (header_in first second)
    → record { octets = octets; parts = parts; command = command; invalid = count } ≡ heard_at L.row (bit_at lane) 0
unfolding heard_at
heard-is L lane first second bits parts command count octets long ef es eo eb ep ec ei =
    let g = L.row.gap in
    let b = bit_at lane in
    let read : lane_read g lane ≡ b = read_whole g lane (omega (arith, L.sized, long)) in
    let f : first ≡ number (first_bit g b 0) 0 32 = ef ∙ rw (L.shaped, read) in
    let s : second ≡ number (second_bit g b 0) 0 32 = es ∙ rw (L.shaped, read) in
    let o : octets ≡ data_octets g b 0 = eo ∙ rw (L.shaped, read) in
    let parts_are : parts ≡ read_parts L.row.sync (sync_bit g b 0) =
    ep ∙ ap (λ (x : ℕ). read_parts L.row.sync (digit 32 x)) (eb ∙ ap₂ (λ (x y : ℕ). number (λ t. carries (header_in x y t)) 0 32) f s)
    ∙ parts_seen g b (bit_at_lt lane) 0 L.row.sync in
    let command-is : command ≡ flagged_command L.row.sync (header_at g b 0) =
    ec ∙ ap₂ (λ (x y : ℕ). flagged_command L.row.sync (header_in x y)) f s ∙ command-seen g b (bit_at_lt lane) 0 L.row.sync in
    let count-is : count ≡ invalid_headers g b 0 =
    ei ∙ ap₂ (λ (x y : ℕ). invalid_among (header_in x y)) f s ∙ invalid-seen g b (bit_at_lt lane) 0 in
    rw (o, parts_are, command-is, count-is)
