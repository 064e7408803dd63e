-- `text::messages::put_events` meets its contract. The loop's invariant: the lines before that of `read` are written.
use native.Mathlib.Omega.{arith}
use Rattle.text.proofs.Wrote.{wrote-is}
use Rattle.text.proofs.Events.{words-some, words-counted, lines_are, read-ok, read-is, begun-first, goes_further, begun_more, begun_all}
use Rattle.text.proofs.messages.Commands.put_events.Goals as goal

pub unwrap-read-requires : goal.unwrap-read-requires
unwrap-read-requires c =
    let a = c.args in
    let n = c.channel_words-n in
    read-ok a.self.now.mode a.self.now.commands.now a.self.now.readable n.result n.ensures 0 c.read.result c.read.ensures

pub loop-read-init : goal.loop-read-init
loop-read-init c =
    let a = c.args in
    let n = c.channel_words-n in
    let some = words-some a.self.now.mode a.self.now.commands.now a.self.now.readable n.result n.ensures in
    begun-first n.result a.self.now.commands.now some.0 (omega arith) (omega arith) _
    (read-is a.self.now.mode a.self.now.commands.now a.self.now.readable n.result n.ensures 0 c.read.result _ c.read.ensures c.unwrap-read.ensures)

pub multiblock_of-requires : goal.multiblock_of-requires
multiblock_of-requires c =
    let a = c.args in
    let n = c.channel_words-n in
    let some = words-some a.self.now.mode a.self.now.commands.now a.self.now.readable n.result n.ensures in
    (omega (arith, some.0), omega (arith, c.loop-read.invariant.trust.begins, words-counted a.self.now.mode a.self.now.commands.now a.self.now.readable n.result n.ensures a.self.now.few))

pub unwrap-read-requires-in-Some : goal.unwrap-read-requires-in-Some
unwrap-read-requires-in-Some c =
    let a = c.args in
    let n = c.channel_words-n in
    read-ok a.self.now.mode a.self.now.commands.now a.self.now.readable n.result n.ensures c.loop-read.read.next c.read-in-Some.result c.read-in-Some.ensures

pub loop-read-smaller : goal.loop-read-smaller
loop-read-smaller c =
    let a = c.args in
    let n = c.channel_words-n in
    let some = words-some a.self.now.mode a.self.now.commands.now a.self.now.readable n.result n.ensures in
    let is = read-is a.self.now.mode a.self.now.commands.now a.self.now.readable n.result n.ensures c.loop-read.read.next c.read-in-Some.result _ c.read-in-Some.ensures c.unwrap-read-in-Some.ensures in
    let further = goes_further n.result a.self.now.commands.now c.loop-read.read c.loop-read.invariant c.in-Some.event c.in-Some.is some.0 _ is in
    omega (arith, further.0, further.1)

pub loop-read-preserved : goal.loop-read-preserved
loop-read-preserved c =
    let a = c.args in
    let n = c.channel_words-n in
    let some = words-some a.self.now.mode a.self.now.commands.now a.self.now.readable n.result n.ensures in
    let is = read-is a.self.now.mode a.self.now.commands.now a.self.now.readable n.result n.ensures c.loop-read.read.next c.read-in-Some.result _ c.read-in-Some.ensures c.unwrap-read-in-Some.ensures in
    begun_more n.result a.self.now.commands.now c.loop-read.read c.loop-read.invariant c.in-Some.event c.in-Some.is some.0 c.multiblock_of.ensures c.put_event-at.ensures _ is

pub returns : goal.returns
returns c =
    let a = c.args in
    let n = c.channel_words-n in
    let some = words-some a.self.now.mode a.self.now.commands.now a.self.now.readable n.result n.ensures in
    wrote-is (lines_are a.self.now.mode a.self.now.commands.now a.self.now.readable n.result n.ensures) (begun_all n.result a.self.now.commands.now c.loop-read.read c.loop-read.invariant some.0 c.in_default.is)
