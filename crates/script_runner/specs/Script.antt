-- What a script prints: its lines in order, up to the first that orders a failure of the flash.
use Rattle.std.specs.Prelude.{◌+◌, ℕ, Bool, List, [], ◌∷◌, ◌++◌, if◌then◌else◌, Option, None}
use Rattle.std.specs.List.{list_any}
use Rattle.std.specs.Str.Lines.{lines}
use Rattle.plans.specs.declared.parts.Parts.{Parts}
use Rattle.script_lines.specs.Line.{meaning_of}
use Rattle.script_lines.specs.Text.{boot_line}
use Rattle.script_session.specs.Ends.{Network}
use Rattle.script_session.specs.Said.{Outcome, Answers, Refuses, HasNoPlan, alone, is_order, outcome_of}
use Rattle.script_session.specs.Session.{AreRightFor}

-- The text of a line, and then of the lines after it.
abbrev pub then_reported : Outcome → (Network → List ℕ) → List ℕ
then_reported (Answers answer) later = answer.text ++ later answer.network
then_reported Refuses later = []
then_reported (HasNoPlan catalogue) later = []

-- The text of lines, up to the first line that is refused.
abbrev pub reported : (List ℕ → Option Parts) → Network → List (List ℕ) → List ℕ
reported plans network [] = []
reported plans network (line ∷ lines) = then_reported (outcome_of plans network (meaning_of line)) (λ next. reported plans next lines)

-- How lines end: all of them were answered, this line is not valid there, or this catalogue has no plan.
pub data End : Type 0 where
  AllDone : End
  Refused : (number : ℕ) → End
  Unplanned : (catalogue : List ℕ) → End

-- How lines end, by the outcome of the first of them and the end of those after it.
abbrev pub then_ended : Outcome → ℕ → (Network → End) → End
then_ended (Answers answer) n later = later answer.network
then_ended Refuses n later = Refused n
then_ended (HasNoPlan catalogue) n later = Unplanned catalogue

-- How lines end if the first of them has the number `n`.
abbrev pub ended : (List ℕ → Option Parts) → ℕ → Network → List (List ℕ) → End
ended plans n network [] = AllDone
ended plans n network (line ∷ lines) = then_ended (outcome_of plans network (meaning_of line)) n (λ next. ended plans (n + 1) next lines)

-- Whether one of some lines orders a failure of the flash.
abbrev pub has_order : List (List ℕ) → Bool
has_order lines = list_any (λ line. is_order (meaning_of line)) lines

-- The lines before the first one that orders a failure of the flash.
abbrev pub before_order : List (List ℕ) → List (List ℕ)
before_order [] = []
before_order (line ∷ lines) = if is_order (meaning_of line) then [] else line ∷ before_order lines

-- The text of a script, up to the first line that orders a failure of the flash; the effect of that failure on later
-- lines is not covered.
unfoldable pub output_of : (List ℕ → Option Parts) → List ℕ → List ℕ
output_of plans input = boot_line None ++ reported plans alone (before_order (lines input))

-- How a script ends, if it ends before the first line that orders a failure of the flash.
unfoldable pub end_of : (List ℕ → Option Parts) → List ℕ → End
end_of plans input = ended plans 1 alone (before_order (lines input))

-- The table of plans is right for the catalogues of some lines.
abbrev pub AllRight : (List ℕ → Option Parts) → List (List ℕ) → Type 0
AllRight plans [] = Unit {0}
AllRight plans (line ∷ lines) = AreRightFor plans (meaning_of line) × AllRight plans lines

-- The table of plans is right for a script, up to its first line that orders a failure of the flash.
abbrev pub ArePlansOf : (List ℕ → Option Parts) → List ℕ → Type 0
ArePlansOf plans input = AllRight plans (before_order (lines input))
