-- What a diagnosis does, if it is accepted and if it is refused.
use Rattle.std.proofs.Common.{◌≡◌, Bool, cond, true, false, List, [], Option, Some, None, is_some, refl, sym, ap, ◌∙◌}
use Rattle.std.specs.Prelude.{unwrap_or}
use Rattle.diagnosis.specs.declared.diagnosis.Change.{Change}
use Rattle.diagnosis.specs.declared.diagnosis.Diagnosis.{Diagnosis}
use Rattle.diagnosis.specs.Existing.{changed}
use Rattle.relations.specs.Diagnosed.{diagnose_one, diagnosing}
use Rattle.relations.specs.RelationState.{RelationState, flow_of}
use Rattle.relations.specs.Phases.{updated}
use Rattle.device_frames.specs.declared.note.Note.TheVariants.{Done, Refused}
use Rattle.device_frames.specs.Relation.{low_alarms_of, where_due}
use Rattle.device_core.specs.State.{Station, Live}
use Rattle.device_core.specs.Handled.{Refuses, handled_change, handled_diagnosed, may_be_diagnosed}
use Rattle.device_core.specs.Machine.{end_of}

module _ (station : Station) (live : Live) (change : Change) where
  -- One that is refused changes nothing, and one that is accepted is reported.
  pub change_refused : (diagnoses : Option (List Diagnosis)) → is_some diagnoses ≡ false
      → end_of station live (handled_change station live change diagnoses) ≡ record { rest = live.rest; sent = []; note = Refused }
  change_refused (Some diagnoses) none = cc
  change_refused None none = refl

  -- The relation after it.
  abbrev pub link_with : List Diagnosis → Option RelationState
  link_with diagnoses = updated (diagnosing live.rest.real.modules.items change diagnoses live.rest.link) live.rest.link

  pub change_made : (diagnoses : Option (List Diagnosis)) (before : List Diagnosis) → is_some diagnoses ≡ true
      → end_of station live (handled_change station live change diagnoses)
      ≡ record {
        rest = record live.rest { link = link_with (unwrap_or diagnoses before); diagnoses = unwrap_or diagnoses before };
        sent = where_due (diagnose_one live.rest.real.modules.items change (unwrap_or diagnoses before) live.rest.link) (low_alarms_of (flow_of (link_with (unwrap_or diagnoses before))));
        note = Done;
      }
  change_made (Some diagnoses) before some = refl
  change_made None before some = cc

  pub change_refused_rest : (diagnoses : Option (List Diagnosis)) (before : List Diagnosis) → is_some diagnoses ≡ false → before ≡ live.rest.diagnoses
      → (end_of station live (handled_change station live change diagnoses)).rest ≡ record live.rest { diagnoses = unwrap_or diagnoses before }
  change_refused_rest (Some diagnoses) before none same = cc
  change_refused_rest None before none same = ap (λ (d : List Diagnosis). record live.rest { diagnoses = d }) (sym same)

  -- It may be refused before that.
  diagnosed_by : (b : Bool) → may_be_diagnosed station live change ≡ b
      → end_of station live (handled_diagnosed station live change)
      ≡ end_of station live (cond b (handled_change station live change (changed change live.rest.diagnoses)) (Refuses Refused))
  diagnosed_by b is = ap (λ (c : Bool). end_of station live (cond c (handled_change station live change (changed change live.rest.diagnoses)) (Refuses Refused))) is

  pub diagnosed_refused : may_be_diagnosed station live change ≡ false
      → end_of station live (handled_diagnosed station live change) ≡ record { rest = live.rest; sent = []; note = Refused }
  diagnosed_refused none = diagnosed_by false none

  pub diagnosed_none : may_be_diagnosed station live change ≡ true → is_some (changed change live.rest.diagnoses) ≡ false
      → end_of station live (handled_diagnosed station live change) ≡ record { rest = live.rest; sent = []; note = Refused }
  diagnosed_none is none = diagnosed_by true is ∙ change_refused (changed change live.rest.diagnoses) none

  pub diagnosed_none_rest : may_be_diagnosed station live change ≡ true → is_some (changed change live.rest.diagnoses) ≡ false
      → (end_of station live (handled_diagnosed station live change)).rest ≡ record live.rest { diagnoses = unwrap_or (changed change live.rest.diagnoses) live.rest.diagnoses }
  diagnosed_none_rest is none = ap (λ e. e.rest) (diagnosed_by true is) ∙ change_refused_rest (changed change live.rest.diagnoses) live.rest.diagnoses none refl

  pub diagnosed_made : may_be_diagnosed station live change ≡ true → is_some (changed change live.rest.diagnoses) ≡ true
      → end_of station live (handled_diagnosed station live change)
      ≡ record {
        rest = record live.rest {
          link = link_with (unwrap_or (changed change live.rest.diagnoses) live.rest.diagnoses);
          diagnoses = unwrap_or (changed change live.rest.diagnoses) live.rest.diagnoses;
        };
        sent = where_due (diagnose_one live.rest.real.modules.items change (unwrap_or (changed change live.rest.diagnoses) live.rest.diagnoses) live.rest.link)
            (low_alarms_of (flow_of (link_with (unwrap_or (changed change live.rest.diagnoses) live.rest.diagnoses))));
        note = Done;
      }
  diagnosed_made is some = diagnosed_by true is ∙ change_made (changed change live.rest.diagnoses) live.rest.diagnoses some
