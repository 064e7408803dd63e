use mathlib.Core.Path.{sym, ap, ◌∙◌}
use Prim.Native.Nat.{◌≤◌}
use native.Mathlib.Omega.{arith}
use lib.ListN.{length}
use Rattle.std.proofs.lemmas.List.{length-take-le}
use Rattle.bits.specs.Order.{list_from}
use Rattle.commands.specs.Writing.{command_of}
use Rattle.commands.proofs.Channel.{words-few}
use Rattle.commands.proofs.Entry.{channel, code-small, fits, count-few, count_fits, is-written}
use Rattle.commands.proofs.OneByOne.{laid-first}
use Rattle.commands.proofs.write.Goals as goal

pub of_message-requires : goal.of_message-requires
of_message-requires c = rw c.channel_words-each.ensures (words-few c.args.mode)

pub commands_for-count-requires : goal.commands_for-count-requires
commands_for-count-requires c =
    let a = c.args in
    (channel c.channel_words-each.result a.code a.payload.now (length a.commands.now) (sym c.in_ok-of_message.ensures), omega (arith, words-few a.mode))

pub invariant_of-message : goal.invariant_of-message
invariant_of-message c =
    let a = c.args in
    let n = c.channel_words-each.result in
    let ok = sym c.in_ok-of_message.ensures in
    record { few = rw c.channel_words-each.ensures (words-few a.mode); small = code-small n a.code a.payload.now (length a.commands.now) ok; fits = fits n a.code a.payload.now (length a.commands.now) ok }

pub slice_bounds-put-end : goal.slice_bounds-put-end
slice_bounds-put-end c =
    let a = c.args in
    rw c.commands_for-count.ensures (count_fits c.channel_words-each.result a.code a.payload.now (length a.commands.now) (sym c.in_ok-of_message.ensures))

pub slice_bounds-put-end-2 : goal.slice_bounds-put-end-2
slice_bounds-put-end-2 c =
    let a = c.args in
    let within = count_fits c.channel_words-each.result a.code a.payload.now (length a.commands.now) (sym c.in_ok-of_message.ensures) in
    rw c.commands_for-count.ensures (sym (length-take-le _ a.commands.now within))

pub put-requires : goal.put-requires
put-requires c =
    let a = c.args in
    let n = c.channel_words-each.result in
    let ok = sym c.in_ok-of_message.ensures in
    let long = length-take-le _ a.commands.now (count_fits n a.code a.payload.now (length a.commands.now) ok) in
    rw c.commands_for-count.ensures (omega (arith, long, count-few n a.code a.payload.now (length a.commands.now) ok))

pub returns : goal.returns
returns c =
    let a = c.args in
    let words = c.channel_words-each in
    let n = words.result in
    let count = c.commands_for-count.result in
    let ok = c.in_ok-of_message.ensures in
    let e = c.commands_for-count.ensures in
    let within : count ≤ length a.commands.now = rw e (count_fits n a.code a.payload.now (length a.commands.now) (sym ok)) in
    let command = command_of n a.code a.payload.now in
    is-written a.mode a.code a.payload.now a.commands.now n words.ensures ok count e _
    (laid-first command 0 count a.commands.now _ (c.put.ensures ∙ ap (list_from command 0) (length-take-le count a.commands.now within)))
