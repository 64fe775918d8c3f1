-- What the parameters of a place after its plug leave of a controller: all but its waiting time, the refusals, the places and the
-- requests beside data exchange.
use Rattle.std.proofs.Common.{◌≡◌, ◌+◌, ℕ, Bool, true, false, cond, Option, Some, None, refl, sym, ap, subst, ◌∙◌, mod-lt, arith}
use Rattle.rpc_core.specs.declared.response.Status.{Status}
use Rattle.rpc_core.specs.Response.{is_done}
use Rattle.plan_places.specs.declared.report.Plug.{Plug}
use Rattle.plan_places.specs.Places.{Told, has_turn_at, next_waiting}
use Rattle.controller_messages.specs.declared.plug_request.PlugRequest.{PlugRequest}
use Rattle.controller_messages.specs.declared.plug_request.PlugStep.{PlugStep}
use Rattle.controller_messages.specs.declared.plug_request.PlugStep.TheVariants.{Record, PrmEnd}
use Rattle.controller_messages.specs.declared.refusal.Refusal.{Refusal}
use Rattle.controller_messages.specs.declared.setup.Setup.{Setup}
use Rattle.controller_messages.specs.Access.{Accessing, unplugged}
use Rattle.controller_messages.specs.PlugRequests.{is_plug_answer}
use Rattle.controller_messages.specs.Requests.{write_count}
use Rattle.controller_core.specs.declared.stored.state.RefusedRecord.{RefusedRecord}
use Rattle.controller_core.specs.Machine.{begun_by, begun_turn, can_begin, is_end_of, noted, plug_asked, plug_finished, plug_passed_by, plug_readied, plug_refused, plug_rejected, plug_replied, refused_place, step_from, turn_due}
use Rattle.controller_core.specs.stored.State.{Live}
use Rattle.end_laws.specs.sending.Sized.{IsPlugging}

-- The controller after it differs in these alone; the request of the application is the same, and a request after a plug has its size.
pub record IsAside (before after : Live) : Type 0 where
  pub waited : ℕ
  pub refusal : Option Status
  pub refused : Option RefusedRecord
  pub told : Told
  pub access : Accessing
  pub is : after ≡ record before { waited = waited; refusal = refusal; refused_record = refused; places = told; access = access }
  pub waits : access.waiting ≡ before.access.waiting
  pub carries : access.octets ≡ before.access.octets
  pub sized : IsPlugging before.access.plug → IsPlugging access.plug

pub aside_same : (live : Live) → IsAside live live
aside_same live = record {
  waited = live.waited;
  refusal = live.refusal;
  refused = live.refused_record;
  told = live.places;
  access = live.access;
  is = refl;
  waits = refl;
  carries = refl;
  sized = λ sized. sized;
}

pub aside_more : (before between after : Live) → IsAside before between → IsAside between after → IsAside before after
aside_more before between after one other = record {
  waited = other.waited;
  refusal = other.refusal;
  refused = other.refused;
  told = other.told;
  access = other.access;
  is = other.is
      ∙ ap (λ (live : Live). record live { waited = other.waited; refusal = other.refusal; refused_record = other.refused; places = other.told; access = other.access }) one.is;
  waits = other.waits ∙ (ap (λ (live : Live). live.access.waiting) one.is ∙ one.waits);
  carries = other.carries ∙ (ap (λ (live : Live). live.access.octets) one.is ∙ one.carries);
  sized = λ sized. other.sized (subst (λ (live : Live). IsPlugging live.access.plug) (sym one.is) (one.sized sized));
}

pub aside_if : (live : Live) (b : Bool) (x y : Live) → IsAside live x → IsAside live y → IsAside live (cond b x y)
aside_if live true x y one other = one
aside_if live false x y one other = other

-- the request after a plug is answered
without_plug : (b : Bool) (access : Accessing) → IsPlugging access.plug → IsPlugging (cond b (unplugged access) access).plug
without_plug true access sized = tt
without_plug false access sized = sized

waits_if : (b : Bool) (access : Accessing) → (cond b (unplugged access) access).waiting ≡ access.waiting
waits_if true access = refl
waits_if false access = refl

carries_if : (b : Bool) (access : Accessing) → (cond b (unplugged access) access).octets ≡ access.octets
carries_if true access = refl
carries_if false access = refl

module _ (setup : Setup) where
  asked_aside : (slot subslot number : ℕ) (step : PlugStep) (live : Live) → IsAside live (plug_asked setup slot subslot number step live)
  asked_aside slot subslot number step live =
      let after = plug_asked setup slot subslot number step live in
      record {
        waited = 0;
        refusal = live.refusal;
        refused = live.refused_record;
        told = after.places;
        access = after.access;
        is = refl;
        waits = refl;
        carries = refl;
        sized = λ sized. mod-lt (write_count setup.plan + 2 + live.access.calls) (omega arith);
      }

  noted_aside : (status : Status) (number : ℕ) (live : Live) → IsAside live (noted status number live)
  noted_aside status number live =
      let after = noted status number live in
      record {
        waited = live.waited;
        refusal = after.refusal;
        refused = after.refused_record;
        told = live.places;
        access = live.access;
        is = refl;
        waits = refl;
        carries = refl;
        sized = λ sized. sized;
      }

  denied_aside : (status : Status) (live : Live) → IsAside live (record live { refusal = Some status })
  denied_aside status live = record {
    waited = live.waited;
    refusal = Some status;
    refused = live.refused_record;
    told = live.places;
    access = live.access;
    is = refl;
    waits = refl;
    carries = refl;
    sized = λ sized. sized;
  }

  finished_aside : (live : Live) → IsAside live (plug_finished live)
  finished_aside live = record {
    waited = live.waited;
    refusal = live.refusal;
    refused = live.refused_record;
    told = live.places;
    access = unplugged live.access;
    is = refl;
    waits = refl;
    carries = refl;
    sized = λ sized. tt;
  }

  -- its place has this state
  stated_aside : (told : Told) (live : Live) → IsAside live (record live { places = told })
  stated_aside told live = record {
    waited = live.waited;
    refusal = live.refusal;
    refused = live.refused_record;
    told = told;
    access = live.access;
    is = refl;
    waits = refl;
    carries = refl;
    sized = λ sized. sized;
  }

  begun_aside : (plug : Option Plug) (live : Live) → IsAside live (begun_by setup plug live)
  begun_aside (Some plug) live = asked_aside plug.slot plug.subslot plug.number (step_from setup.plan plug.slot plug.subslot 0) live
  begun_aside None live = aside_same live

  -- a turn begins, if one can
  pub turn_aside : (live : Live) → IsAside live (begun_turn setup live)
  turn_aside live = aside_if live (can_begin live) (begun_by setup (next_waiting live.places) live) live (begun_aside (next_waiting live.places) live) (aside_same live)

  pub due_aside : (is_due : Bool) (live : Live) → IsAside live (turn_due setup is_due live)
  due_aside is_due live = aside_if live is_due (begun_turn setup live) live (turn_aside live) (aside_same live)

  passed_aside : (live : Live) (request : PlugRequest) (step : PlugStep) → IsAside live (plug_passed_by setup live request step)
  passed_aside live request (Record number) =
      aside_if live (has_turn_at request.slot request.subslot live.places) _ live
      (asked_aside request.slot request.subslot request.number (step_from setup.plan request.slot request.subslot (number + 1)) live) (aside_same live)
  passed_aside live request PrmEnd = aside_same live

  refused_aside : (request : PlugRequest) (live : Live) → IsAside live (refused_place request live)
  refused_aside request live =
      aside_if live (has_turn_at request.slot request.subslot live.places) _ live (stated_aside _ live) (aside_same live)

  denials_aside : (live : Live) (status : Status) (request : PlugRequest) (step : PlugStep) → IsAside live (plug_refused setup live status request step)
  denials_aside live status request (Record number) =
      let after = noted status number live in
      let noted_so = noted_aside status number live in
      aside_if live setup.plan.continue_on_refused_record _ _
      (aside_more live after _ noted_so (passed_aside after request request.step)) (aside_more live after _ noted_so (refused_aside request after))
  denials_aside live status request PrmEnd =
      let after : Live = record live { refusal = Some status } in
      aside_more live after _ (denied_aside status live) (refused_aside request after)

  -- a request after a plug is answered
  pub replied_aside : (live : Live) (status : Status) (request : PlugRequest) → IsAside live (plug_replied setup live status request)
  replied_aside live status request =
      let after = plug_finished live in
      aside_if live (is_done status) _ _
      (aside_more live after _ (finished_aside live) (passed_aside after request request.step))
      (aside_more live after _ (finished_aside live) (denials_aside after status request request.step))

  -- it is rejected, or not
  pub rejected_aside : (live : Live) (refusal : Refusal) (request : PlugRequest) → IsAside live (plug_rejected setup live refusal request)
  rejected_aside live refusal request =
      let finished = plug_finished live in
      let after : Live = record finished { refusal = Some refusal.status } in
      aside_if live (is_plug_answer setup request refusal.activity refusal.sequence) (refused_place request after) live
      (aside_more live finished _ (finished_aside live) (aside_more finished after _ (denied_aside refusal.status finished) (refused_aside request after))) (aside_same live)

  -- a place is there
  pub readied_aside : (live : Live) (number : ℕ) → IsAside live (plug_readied live number)
  readied_aside live number =
      let after = plug_readied live number in
      record {
        waited = live.waited;
        refusal = live.refusal;
        refused = live.refused_record;
        told = after.places;
        access = after.access;
        is = refl;
        waits = waits_if (is_end_of number live.access.plug) live.access;
        carries = carries_if (is_end_of number live.access.plug) live.access;
        sized = without_plug (is_end_of number live.access.plug) live.access;
      }
