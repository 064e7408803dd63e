-- What the writers of an event's line ask of it. Assumes nothing.
use Rattle.std.specs.Prelude.{◌≡◌, ◌≤◌, length}
use Rattle.commands.specs.declared.events.Event.{Event}
use Rattle.commands.specs.declared.events.Event.TheVariants as event

-- a message has its words, and of one that was cut no more words were taken than a message has
abbrev pub Tellable : Event → Type 0
Tellable (event.Message m) = (m.count ≤ 7) × (length m.words ≡ 7)
Tellable (event.Cut taken) = taken ≤ 8
Tellable (event.Undefined code) = Unit {0}
