use mathlib.Core.Path.{sym, ◌∙◌}
use native.Mathlib.Omega.{arith}
use Rattle.frame.proofs.Rows.{most-is}
use Rattle.commands.proofs.Refusals.{list-fits}
use Rattle.text.proofs.Refusals.{no-channel, too-many-commands, command-wide, list-taken}
use Rattle.text.proofs.write_messages.Goals as goal

pub returns-then-channel_words-eq0 : goal.returns-then-channel_words-eq0
returns-then-channel_words-eq0 c =
    let a = c.args in
    let n = c.channel_words in
    no-channel a.mode a.e a.received a.commands.now a.text.now n.result n.ensures c.if-channel_words-eq0.true

pub returns-then-commands-gt-MOST : goal.returns-then-commands-gt-MOST
returns-then-commands-gt-MOST c =
    let a = c.args in
    let n = c.channel_words in
    too-many-commands a.mode a.e a.received a.commands.now a.text.now n.result n.ensures c.if-channel_words-eq0.false (omega (arith, most-is))

pub returns-then-not-all_below : goal.returns-then-not-all_below
returns-then-not-all_below c =
    let a = c.args in
    let n = c.channel_words in
    let own = c.row_of in
    let numbers = c.numbers_of-numbers in
    command-wide a.mode a.e a.received a.commands.now a.text.now n.result n.ensures c.if-channel_words-eq0.false (omega (arith, most-is)) own.result own.ensures numbers.result numbers.ensures (sym c.all_below.ensures ∙ c.if-not-all_below.true)

pub invariant_of-listed : goal.invariant_of-listed
invariant_of-listed c =
    let a = c.args in
    let n = c.channel_words in
    let own = c.row_of in
    let numbers = c.numbers_of-numbers in
    record { readable = sym (list-fits a.mode a.commands.now n.result n.ensures c.if-channel_words-eq0.false own.result own.ensures numbers.result numbers.ensures (sym c.all_below.ensures ∙ c.if-not-all_below.false)); few = omega (arith, most-is) }

pub returns : goal.returns
returns c =
    let a = c.args in
    let n = c.channel_words in
    let own = c.row_of in
    let numbers = c.numbers_of-numbers in
    c.put.ensures ∙ list-taken a.mode a.e a.received a.commands.now a.text.now n.result n.ensures c.if-channel_words-eq0.false (omega (arith, most-is)) own.result own.ensures numbers.result numbers.ensures (sym c.all_below.ensures ∙ c.if-not-all_below.false)
