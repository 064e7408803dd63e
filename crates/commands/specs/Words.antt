-- Command words: clause 7.3.7.3, Tables 49 and 50; clause 7.6.3, Tables 56 and 57; request 6. A command has n words of six bits, the first highest, and
-- one bit of parity below them. A word is below 32 where it is a header, and 32 more than its five bits where it is payload: of these [0] is the
-- most significant. Assumes nothing.
use Rattle.std.specs.Prelude.{Bool, not, ◌&&◌, ◌||◌, List, ℕ, ◌+◌, ◌-◌, ◌*◌, ◌/◌, ◌%◌, ◌^◌, ltb, leb, eqb, length, get_or}
use Rattle.std.specs.Int.Count.{ones}
use Rattle.bits.specs.Choice.{pick}
use Rattle.parity.specs.Codeword.{joined}
use Rattle.commands.specs.declared.words.Word.{Word}
use Rattle.commands.specs.declared.words.Word.TheVariants.{Header, Payload, Padding, Spoilt, End}

-- n words of a stream from word k on, as a number
abbrev pub together : (ℕ → ℕ) → ℕ → ℕ → ℕ
together word k n = joined 6 (λ (j : ℕ). word (k + j)) n

-- the exclusive or of all bits of a number
unfoldable pub parity_bit : ℕ → ℕ
parity_bit v = ones v % 2

-- the command of some words
unfoldable pub with_parity : ℕ → ℕ
with_parity v = v * 2 + parity_bit v

-- word j of the n words of a command
unfoldable pub word_in : ℕ → ℕ → ℕ → ℕ
word_in n command j = command / 2 ^ (6 * (n - 1 - j) + 1) % 64

-- it carries the mark, or its parity bit is wrong
unfoldable pub spoilt : ℕ → ℕ → Bool
spoilt n command = leb (2 ^ (6 * n + 1)) command || not (eqb (command % 2) (parity_bit (command / 2)))

-- what word j of a command says. An idle header behind the first word only fills its command
unfoldable pub said : ℕ → ℕ → Word
said j word = pick (leb 32 word) (Payload (word - 32)) (pick (eqb word 0 && ltb 0 j) Padding (Header word))

-- what word i of a list of commands says
unfoldable pub word_at : ℕ → List ℕ → ℕ → Word
word_at n commands i =
    let command = get_or commands (i / n) 0 in
    pick (ltb (i / n) (length commands)) (pick (spoilt n command) Spoilt (said (i % n) (word_in n command (i % n)))) End
