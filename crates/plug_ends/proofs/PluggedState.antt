-- What both ends make of the records of one submodule after a plug, in one state: while the Write of a record is asked, while PrmEnd is
-- on its way, and when its parameters ended.
use Rattle.std.proofs.Common.{◌≡◌, ◌⊎◌, ◌<◌, ◌+◌, ℕ, suc, Bool, true, false, List, take, Option, Some, None, ap, ◌∙◌}
use Rattle.std.specs.Prelude.{if◌then◌else◌, nat_eq, slice_get}
use Rattle.std.specs.Cmp.Lexicographic.{pointwise}
use Rattle.frame_codec.specs.Sendable.{IsMac}
use Rattle.record_blocks.specs.declared.alarm_notification.AlarmNotification.{AlarmNotification}
use Rattle.rpc_core.specs.Response.{Answered as Response, is_done}
use Rattle.records.specs.declared.writes.taken.TakenRecord.{TakenRecord}
use Rattle.expected_places.specs.declared.place.Step.TheVariants.{Settled, Told, Ended}
use Rattle.relations.specs.RelationState.{RelationState}
use Rattle.device_core.specs.State.{Live, Station}
use Rattle.controller_messages.specs.declared.plug_request.PlugRequest.{PlugRequest}
use Rattle.controller_messages.specs.declared.plug_request.PlugStep.TheVariants.{Record, PrmEnd}
use Rattle.controller_messages.specs.declared.setup.Setup.{Setup}
use Rattle.controller_messages.specs.Access.{call_number}
use Rattle.controller_messages.specs.Heard.{Heard, Responds, heard_of as heard_by}
use Rattle.controller_messages.specs.Sent.{Sent, Requests, Accesses, Parametrizes, bytes_of}
use Rattle.controller_core.specs.stored.State.{Controlling, Live as ControllerLive}
use Rattle.controller_core.specs.Machine.{step_from}
use Rattle.network_world.specs.World.{is_ended}
use Rattle.end_laws.specs.hearing.Stations.{IsPlugCall, IsRecordCall}
use Rattle.end_laws.specs.both.Small as small
use Rattle.end_laws.specs.both.Small.{Ask, Rules, ToController, reply_of}
use Rattle.end_laws.specs.both.Steps.{IsNew}
use Rattle.end_laws.specs.controller.Small.{said_to}
use Rattle.both_ends.specs.startup.Played.{AreUnnamed}
use Rattle.both_ends.specs.startup.View.{rules_of}
use Rattle.plug_ends.proofs.AskedWords.{HearsEnd, WasPlug}
use Rattle.plug_ends.specs.Places.{step_in, taken_at}
use Rattle.plug_ends.specs.Plugged.{EndsWith, IsElsewhere, records_at}
use Rattle.plug_ends.specs.Told.{LastPlug, concerns_any}
use Rattle.plug_ends.proofs.CallsRuns.{kept_for}
use Rattle.plug_ends.proofs.PluggedLists.{IsStepAt, planned_before}
use Rattle.plug_ends.proofs.PluggedWorlds.{Numbered}

-- ---- frames

-- The device answered the last call there can be: none is new to it.
abbrev pub IsDead : Option small.Kept → Type 0
IsDead kept = (sequence : ℕ) → sequence < 4294967296 → IsNew sequence kept → ⊥

abbrev pub WasIn : List (List ℕ) → List ℕ → Type 0
WasIn sent frame = (number : ℕ) × (slice_get sent number ≡ Some frame)

-- The device hears a call that is new to it.
pub record IsNewIn (setup : Setup) (station : Station) (live : Live) (frame : List ℕ) : Type 0 where
  pub sequence : ℕ
  pub ask : Ask
  pub is : (rules_of setup station).to_device frame ≡ small.Call sequence ask
  pub new : IsNew sequence (kept_for setup live)

-- The controller hears a positive response to the call with a number.
pub record Grants (setup : Setup) (sequence : ℕ) (frame : List ℕ) : Type 0 where
  pub response : Response
  pub hears : heard_by setup.plan.controller frame ≡ Responds response
  pub own : pointwise nat_eq response.header.activity setup.activity ≡ true
  pub number : response.header.sequence ≡ sequence
  pub done : is_done response.status ≡ true

pub grants_answers : (setup : Setup) (sequence : ℕ) (frame : List ℕ) (grants : Grants setup sequence frame)
    → said_to setup (heard_by setup.plan.controller frame) ≡ small.Answers sequence (reply_of grants.response)
grants_answers setup sequence frame grants =
    ap (λ (heard : Heard). said_to setup heard) grants.hears
    ∙ (ap (λ (b : Bool). if b then small.Answers grants.response.header.sequence (reply_of grants.response) else small.Nothing) grants.own
    ∙ ap (λ (n : ℕ). small.Answers n (reply_of grants.response)) grants.number)

-- ---- Writes that are new to the device

module _ (slot subslot : ℕ) where
  -- The parameters of each plug that ended belong to this place, and then to an earlier plug than this number.
  abbrev pub AreEndedBefore : List AlarmNotification → Station → List (List ℕ) → ℕ → Type 0
  AreEndedBefore raised station sent number = (frame : List ℕ) (other : ℕ) → WasIn sent frame → HearsEnd station.identity frame other
      → (at : ℕ) × (below : ℕ) × WasPlug at below other raised × (at ≡ slot → below ≡ subslot → other < number)

  -- No parameters of a plug ended yet; or it is a Write of the application elsewhere; or a record of another place, or of a later plug.
  abbrev pub IsWriteBy : List AlarmNotification → Setup → Station → List (List ℕ) → Sent → Type 0
  IsWriteBy raised setup station sent (Requests to request) = (frame : List ℕ) (number : ℕ) → WasIn sent frame → HearsEnd station.identity frame number → ⊥
  IsWriteBy raised setup station sent (Accesses to request octets) = IsMac to × IsRecordCall request octets × IsElsewhere slot subslot request
  IsWriteBy raised setup station sent (Parametrizes to request) =
      IsMac to × IsPlugCall request × IsStepAt setup.plan request.slot request.subslot request.step × WasPlug request.slot request.subslot request.number raised
      × (request.slot ≡ slot → request.subslot ≡ subslot → (number : ℕ) → request.step ≡ Record number → AreEndedBefore raised station sent request.number)
  IsWriteBy raised setup station sent message = ⊥

  pub record IsKnownWrite (raised : List AlarmNotification) (setup : Setup) (station : Station) (sent : List (List ℕ)) (frame : List ℕ) : Type 0 where
    pub message : Sent
    pub is : frame ≡ bytes_of setup message
    pub by : IsWriteBy raised setup station sent message

  -- ---- the state

  -- It is asked, and the place is reported with its number: while its call is new, the records before it were accepted last; once it is granted,
  -- its own too.
  pub record AskedSo (setup : Setup) (live : Live) (sent : List (List ℕ)) (since : List TakenRecord) (request : PlugRequest) : Type 0 where
    pub new : IsNew request.sequence (kept_for setup live) → EndsWith since (planned_before setup.plan slot subslot request.step)
    pub granted : (number : ℕ) → request.step ≡ Record number → (frame : List ℕ) → WasIn sent frame → Grants setup request.sequence frame
        → EndsWith since (records_at slot subslot (take (suc number) setup.plan.records.items))
    pub again : (number : ℕ) → request.step ≡ Record number → (answer : small.Kept) → kept_for setup live ≡ Some answer
        → Grants setup request.sequence answer.frame → EndsWith since (records_at slot subslot (take (suc number) setup.plan.records.items))

  -- The parameters of a plug with this number ended.
  abbrev pub HasEnd : Station → List (List ℕ) → ℕ → Type 0
  HasEnd station sent number = (frame : List ℕ) × WasIn sent frame × HearsEnd station.identity frame number

  abbrev pub all_of : Setup → List TakenRecord
  all_of setup = records_at slot subslot setup.plan.records.items

  pub record Joined (c : Controlling) (station : Station) (live : Live) (sent : List (List ℕ)) (raised : List AlarmNotification) : Type 0 where
    pub asked : (link : RelationState) → live.rest.link ≡ Some link → (request : PlugRequest) → c.live.access.plug ≡ Some request
        → request.slot ≡ slot → request.subslot ≡ subslot → step_in slot subslot link ≡ Some (Told request.number)
        → (IsDead (kept_for c.setup live) → ⊥) → AskedSo c.setup live sent (taken_at slot subslot link.taken) request
    pub told : (link : RelationState) → live.rest.link ≡ Some link → (number : ℕ) → step_in slot subslot link ≡ Some (Told number)
        → (frame : List ℕ) → WasIn sent frame → HearsEnd station.identity frame number → IsNewIn c.setup station live frame
        → EndsWith (taken_at slot subslot link.taken) (all_of c.setup)
    pub ended : (link : RelationState) → live.rest.link ≡ Some link → (number : ℕ) → step_in slot subslot link ≡ Some (Ended number)
        → EndsWith (taken_at slot subslot link.taken) (all_of c.setup) × HasEnd station sent number
    pub settled : (link : RelationState) → live.rest.link ≡ Some link → step_in slot subslot link ≡ Some Settled → concerns_any slot subslot raised ≡ true
        → EndsWith (taken_at slot subslot link.taken) (all_of c.setup) × (number : ℕ) × LastPlug slot subslot number raised × HasEnd station sent number
    pub late : is_ended c.live.phase ≡ true → (frame : List ℕ) → WasIn sent frame → (new : IsNewIn c.setup station live frame) → (new.ask ≡ small.Parameterized → ⊥)
        → (new.ask ≡ small.Releases → ⊥) → IsKnownWrite raised c.setup station sent frame
    pub own : (request : PlugRequest) → c.live.access.plug ≡ Some request → IsStepAt c.setup.plan request.slot request.subslot request.step
    pub unnamed : AreUnnamed station.named c.setup.plan.records.items
    pub idle : (answer : small.Kept) → kept_for c.setup live ≡ Some answer → (rules_of c.setup station).to_device answer.frame ≡ small.Idle
    pub numbered : is_ended c.live.phase ≡ false → (IsDead (kept_for c.setup live) → ⊥) → Numbered c station live sent

-- ---- what becomes of the request after a plug

-- PrmEnd after a plug was sent before, or is this one.
abbrev pub EndsNow : Station → List (List ℕ) → List (List ℕ) → (ℕ → Type 0) → Type 0
EndsNow station sent now Own = (frame : List ℕ) (number : ℕ) → WasIn now frame → HearsEnd station.identity frame number → WasIn sent frame ⊎ Own number

pub record IsBegunNow (c : Controlling) (next : ControllerLive) (station : Station) (sent now : List (List ℕ)) : Type 0 where
  pub request : PlugRequest
  pub is : next.access.plug ≡ Some request
  pub step : request.step ≡ step_from c.setup.plan request.slot request.subslot 0
  pub sequence : request.sequence ≡ call_number c.setup.plan c.live.access.calls
  pub ended : EndsNow station sent now (λ number. (request.step ≡ PrmEnd) × (request.number ≡ number))

pub record IsNextNow (c : Controlling) (next : ControllerLive) (station : Station) (sent now : List (List ℕ)) : Type 0 where
  pub last : PlugRequest
  pub was : c.live.access.plug ≡ Some last
  pub number : ℕ
  pub record_is : last.step ≡ Record number
  pub frame : List ℕ
  pub there : WasIn sent frame
  pub grants : Grants c.setup last.sequence frame
  pub request : PlugRequest
  pub is : next.access.plug ≡ Some request
  pub slot_is : request.slot ≡ last.slot
  pub subslot_is : request.subslot ≡ last.subslot
  pub number_is : request.number ≡ last.number
  pub step : request.step ≡ step_from c.setup.plan request.slot request.subslot (number + 1)
  pub sequence : request.sequence ≡ call_number c.setup.plan c.live.access.calls
  pub ended : EndsNow station sent now (λ n. (request.step ≡ PrmEnd) × (request.number ≡ n))

abbrev pub PlugTurns : Controlling → ControllerLive → Station → List (List ℕ) → List (List ℕ) → Type 0
PlugTurns c next station sent now =
    ((next.access.plug ≡ c.live.access.plug) × EndsNow station sent now (λ number. ⊥))
    ⊎ (((next.access.plug ≡ None) × EndsNow station sent now (λ number. ⊥))
    ⊎ (IsBegunNow c next station sent now ⊎ IsNextNow c next station sent now))
