-- What is asked of the application is of the controller, and of the relation that exists.
use Rattle.std.proofs.Common.{◌≡◌, List, [], ◌∷◌, ℕ, Option, Some, None, refl, sym, ap, ◌∙◌}
use Rattle.std.specs.List.{AllByRecursion}
use Rattle.settings_journal.specs.settings_store.Machine.{Outcome}
use Rattle.asked_records.specs.Asked.{AskedState, question_in}
use Rattle.asked_records.specs.declared.question.Question.{Question}
use Rattle.connects.specs.requests.Request.{Request}
use Rattle.plans.specs.declared.parts.PlanRecord.{PlanRecord}
use Rattle.records.specs.declared.writes.taken.TakenRecord.{TakenRecord}
use Rattle.relations.specs.RelationState.{RelationState, uuid_of}
use Rattle.device_frames.specs.Heard.{Heard}
use Rattle.device_core.specs.State.{Live, Station}
use Rattle.device_core.specs.Machine.{heard_step}
use Rattle.end_laws.specs.both.Small.{Rules}
use Rattle.end_laws.specs.device.Owed.{IsAskedOf}
use Rattle.end_laws.specs.device.Small.{IsAskedOwn, IsPlanned}
use Rattle.both_ends.specs.startup.Played.{AreUnnamed, IsUnnamed}

-- the law of a device's step for the activity of what is asked
abbrev pub OwnsSo : Type 0
OwnsSo = (rules : Rules TakenRecord Request) (activity : List ℕ) (outcomes : List Outcome) (station : Station) (live : Live) (heard : Heard)
    → IsPlanned rules activity station.named live.rest.real heard → IsAskedOwn activity live.rest.asked
    → IsAskedOwn activity (heard_step outcomes station live heard).live.rest.asked

pub none_question : (question : Question) → None ≡ Some question → ⊥
none_question question e = absurd cc

-- at the start nothing is asked
pub first_own : (activity : List ℕ) (asked : AskedState) → question_in asked ≡ None → IsAskedOwn activity asked
first_own activity asked none question is = absurd (none_question question (sym none ∙ is))

pub first_related : (link : Option RelationState) (asked : AskedState) → question_in asked ≡ None → IsAskedOf link asked
first_related link asked none question is = absurd (none_question question (sym none ∙ is))

-- without a relation nothing is asked
pub none_asked : (link : Option RelationState) (asked : AskedState) → link ≡ None → IsAskedOf link asked → question_in asked ≡ None
none_asked link asked none of = by_question (question_in asked) refl
  where
    none_uuid : (uuid : List ℕ) → uuid_of None ≡ Some uuid → ⊥
    none_uuid uuid e = absurd cc

    by_question : (found : Option Question) → question_in asked ≡ found → found ≡ None
    by_question None is = refl
    by_question (Some question) is =
        let own = of question is in
        absurd (none_uuid own.0 (ap (λ (l : Option RelationState). uuid_of l) (sym none) ∙ own.1))

-- a station whose application answers no records
pub none_named : (records : List PlanRecord) → AreUnnamed [] records
none_named records = record { indices = tt; records = each records }
  where
    each : (entries : List PlanRecord) → AllByRecursion (IsUnnamed []) entries
    each [] = tt
    each (entry ∷ entries) = (refl, each entries)
