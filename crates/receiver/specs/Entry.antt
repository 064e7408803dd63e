-- What a call of the receiver answers, and what the lent buffers hold after it: document 01, "What the receiver releases" and "Numbers of
-- refusal"; request 7. Assumes nothing.
use Rattle.std.specs.Prelude.{List, [], ◌∷◌, ◌++◌, ℕ, ◌/◌, eqb, length}
use Rattle.answers.specs.Numbers.{Answer}
use Rattle.bits.specs.Choice.{pick}
use Rattle.bits.specs.Order.{bit_at, laid}
use Rattle.frame.specs.Modes.{row}
use Rattle.frame.specs.Lane.{lane_octets}
use Rattle.receiver.specs.declared.Receiver.{Receiver}
use Rattle.receiver.specs.Release.{Release, Step, run}
use Rattle.receiver.specs.Totals.{totalled}
use Rattle.receiver.specs.Refusal.{refusal_of}

-- all octets released, and a number of each release
unfoldable pub octets_out : List Release → List ℕ
octets_out [] = []
octets_out (r ∷ out) = r.octets ++ octets_out out

unfoldable pub column : (Release → ℕ) → List Release → List ℕ
column f [] = []
column f (r ∷ out) = f r ∷ column f out

-- an answer, and the buffers at exit
pub record Done : Type 0 where
  pub answer : Answer Receiver
  pub octets : List ℕ
  pub statuses : List ℕ
  pub commands : List ℕ
  pub places : List ℕ
  pub patterns : List ℕ
  pub invalid : List ℕ

abbrev pub done : Answer Receiver → List ℕ → List ℕ → List ℕ → List ℕ → List ℕ → List ℕ → Done
done r o s c p q i = record { answer = r; octets = o; statuses = s; commands = c; places = p; patterns = q; invalid = i }

-- what a step released, laid over the start of each buffer
abbrev pub laid_out : Step → List ℕ → List ℕ → List ℕ → List ℕ → List ℕ → List ℕ → Done
laid_out t o s c p q i =
    done (record { refusal = 0; count = length t.out; state = t.state })
    (laid (octets_out t.out) o)
    (laid (column (λ (r : Release). r.status) t.out) s)
    (laid (column (λ (r : Release). r.command) t.out) c)
    (laid (column (λ (r : Release). r.place) t.out) p)
    (laid (column (λ (r : Release). r.pattern) t.out) q)
    (laid (column (λ (r : Release). r.invalid) t.out) i)

-- refused, with all as it was; or a run over all multiblocks of the lane, with what it released counted
unfoldable pub entry : ℕ → Receiver → List ℕ → List ℕ → List ℕ → List ℕ → List ℕ → List ℕ → List ℕ → Done
entry mode s lane o st c p q i =
    let refusal = refusal_of mode s (length lane) (length o) (length st) (length c) (length p) (length q) (length i) in
    pick (eqb refusal 0)
    (laid_out (totalled (run (row mode) (bit_at lane) s (length lane / lane_octets (row mode).gap))) o st c p q i)
    (done (record { refusal = refusal; count = 0; state = s }) o st c p q i)
