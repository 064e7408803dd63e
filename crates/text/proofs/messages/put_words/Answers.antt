use mathlib.Core.Path.{sym}
use native.Mathlib.Omega.{arith}
use Rattle.text.proofs.Wrote.{wrote_none, wrote-is}
use Rattle.text.proofs.Told.{no_words, wrote-word}
use Rattle.text.proofs.messages.put_words.Goals as goal

pub loop-word-init : goal.loop-word-init
loop-word-init c = wrote-is (sym no_words) (wrote_none c.args.at c.args.text.now (omega arith) (omega arith))

pub loop-word-preserved : goal.loop-word-preserved
loop-word-preserved c =
    wrote-word c.args.words.now c.loop-word-test.true c.loop-word.invariant c.put-next.ensures (rw (← c.from.ensures) c.put_decimal-next.ensures)
