use lib.ListN.{take}
use Rattle.text.specs.Messages.{words_text}
use Rattle.text.specs.inner.Wrote.{Wrote}
use Rattle.text.proofs.messages.put_words.Given as goal

abbrev pub invariant-loop-word : goal.invariant-loop-word
invariant-loop-word l = Wrote (words_text (take l.word-index l.words)) l.at l.initial.text l.next l.text
