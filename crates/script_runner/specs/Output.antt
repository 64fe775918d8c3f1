-- The bytes that a writer gets.
use Rattle.std.specs.Prelude.{◌≡◌, ◌≢◌, ℕ, List, [], ◌++◌, Option, Result, Ok, Err}
use Rattle.std.specs.Io.KnownBytes.{Appends}
use Rattle.script_runner.specs.declared.fault.RunFault.{RunFault}
use Rattle.script_runner.specs.declared.fault.RunFault.TheVariants.{Write}

-- The writer got a prefix of the text.
pub record AppendsFront (old new : Option (List ℕ)) (text : List ℕ) : Type 0 where
  pub front : List ℕ
  pub behind : List ℕ
  pub parts : text ≡ front ++ behind
  pub appended : Appends old new front

-- The writer got a prefix of the text that is not all of it.
abbrev pub AppendsLess : Option (List ℕ) → Option (List ℕ) → List ℕ → Type 0
AppendsLess old new text = (part : AppendsFront old new text) × (part.behind ≢ [])

-- The bytes that the writer got stay, and more may follow.
abbrev pub Grows : Option (List ℕ) → Option (List ℕ) → Type 0
Grows old new = (text : List ℕ) × Appends old new text

-- The writer got the text, or only a prefix of it before a write failed.
abbrev pub Puts : Option (List ℕ) → Option (List ℕ) → List ℕ → Result (Unit {0}) RunFault → Type 0
Puts old new text (Ok done) = Appends old new text
Puts old new text (Err fault) = (fault ≡ Write) × AppendsLess old new text
