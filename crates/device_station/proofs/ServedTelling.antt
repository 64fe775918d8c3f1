-- The neighbour is reported to the device before an event.
use Rattle.std.proofs.Common.{◌≡◌, ℕ, zero, suc, Bool, true, false, List, [], Option, Some, None, refl, sym, ap, subst, ◌∙◌}
use Rattle.std.specs.Prelude.{if◌then◌else◌}
use Rattle.std.specs.Option.{option_map}
use Rattle.lldp.specs.declared.neighbour.Neighbour.{Neighbour as Peer}
use Rattle.settings_journal.specs.settings_store.Machine.{Accepted}
use Rattle.device_frames.specs.declared.event.Event.{Event}
use Rattle.device_frames.specs.declared.event.Event.TheVariants.{Neighbour, Tick}
use Rattle.device_frames.specs.declared.note.Note.{Note}
use Rattle.device_frames.specs.declared.note.Note.TheVariants.{Done}
use Rattle.device_core.specs.Machine.{step_of}
use Rattle.device_station.specs.Serving.{Serving, as_neighbour, news_in, told}
use Rattle.device_station.specs.recorded.Record.{image_of}
use Rattle.device_station.specs.recording.Calls.{CallsOf}
use Rattle.device_station.specs.port.State.{State, barred, has_some}
use Rattle.device_station.specs.port.Steps.{Takes}
use Rattle.device_station.specs.port.Pace.{HasNoNews}
use Rattle.device_station.specs.port.Served.{Served, barred_both}
use Rattle.device_station.specs.port.ServedSteps.{StepsBoth, TakesBoth, TellsBoth, TellsIf, TellsOf, TellsPort, TellsPortAny, TicksBoth}
use Rattle.device_station.proofs.PortStages.{free_at}
use Rattle.device_station.proofs.ServedSilent.{met_accepted, met_frames, met_note}

-- ---- the step of the port

-- A step that accepts no command and sends nothing leaves no work.
pub quiet_free : (old new : State) (event : Event) (note : Note) → Takes old event note new → (step_of [] old.device.station old.device.live event).accepted ≡ []
    → (step_of [] old.device.station old.device.live event).frames ≡ [] → barred new ≡ None
quiet_free old new event note takes quiet silent =
    let none : CallsOf (image_of old.device.flash) old.device.live.values.stored old.device.live.values.room [] takes.records.calls =
    subst (λ (a : List Accepted). CallsOf (image_of old.device.flash) old.device.live.values.stored old.device.live.values.room a takes.records.calls) quiet takes.records.of_commands in
    free_at new.stage new.calls new.frames takes.stage (takes.calls ∙ none.0) (ap has_some (takes.exact.frames ∙ silent))

pub met_done : (old new : State) (peer : Option Peer) (note : Note) → Takes old (Neighbour peer) note new → Takes old (Neighbour peer) Done new
met_done old new peer note takes = subst (λ n. Takes old (Neighbour peer) n new) (takes.exact.note ∙ met_note old.device.station old.device.live peer) takes

-- ---- nothing to tell

same_if : (b : Bool) (served : Served) (state : Serving) → b ≡ false → TellsIf b served state served
same_if true served state none = cc none
same_if false served state none = refl

same_of : (services : Option Serving) (served : Served) → HasNoNews services → TellsOf services served served
same_of None served none = refl
same_of (Some state) served none = same_if state.has_news served state none

pub tells_none : (served : Served) → HasNoNews served.services → TellsBoth served served
tells_none served none = same_of served.services served none

stays_if : (b : Bool) (old new : Served) (state : Serving) → b ≡ false → TellsIf b old state new → new ≡ old
stays_if true old new state none tells = cc none
stays_if false old new state none tells = tells

stays_of : (services : Option Serving) (old new : Served) → HasNoNews services → TellsOf services old new → new ≡ old
stays_of None old new none tells = tells
stays_of (Some state) old new none tells = stays_if state.has_news old new state none tells

pub tells_nothing : (old new : Served) → HasNoNews old.services → TellsBoth old new → new ≡ old
tells_nothing old new none tells = stays_of old.services old new none tells

-- ---- the parts, and the whole

abbrev pub with_both : Served → State → Option Serving → Served
with_both served port services = record served { port = port; services = services }

whole_if : (b : Bool) (old : Served) (state now : Serving) (new : State) → old.services ≡ Some state → TellsPort b old.port state new now → TellsIf b old state (with_both old new (Some now))
whole_if true old state now new is tells =
    record { takes = tells.0; serves = refl; services = ap (λ (s : Serving). let o : Option Serving = Some s in o) tells.1; frames = refl }
whole_if false old state now new is tells =
    ap (λ (p : State). with_both old p (Some now)) tells.0
    ∙ (ap (λ (s : Serving). with_both old old.port (Some s)) tells.1 ∙ ap (λ (o : Option Serving). with_both old old.port o) (sym is))

whole_of : (services : Option Serving) (old : Served) (new : State) (after : Option Serving) → old.services ≡ services → TellsPortAny services old.port new after
    → TellsOf services old (with_both old new after)
whole_of None old new after is tells =
    ap (λ (p : State). with_both old p after) tells.0
    ∙ (ap (λ (o : Option Serving). with_both old old.port o) tells.1 ∙ ap (λ (o : Option Serving). with_both old old.port o) (sym is))
whole_of (Some state) old new after is tells =
    subst (λ (o : Option Serving). TellsIf state.has_news old state (with_both old new o)) (sym tells.2) (whole_if state.has_news old state tells.0 new is tells.1)

pub tells_whole : (old : Served) (new : State) (after : Option Serving) → TellsPortAny old.services old.port new after → TellsBoth old (with_both old new after)
tells_whole old new after tells = whole_of old.services old new after refl tells

-- ---- before units of time

-- It is reported before the first of them.
pub tells_first : (units : ℕ) (old now new : Served) → TellsBoth old now → barred_both old ≡ None → HasNoNews now.services → TicksBoth (suc units) now new → TicksBoth (suc units) old new
tells_first zero old now new tells free none ticks =
    let takes : TakesBoth now Tick ticks.1 new = subst (λ (s : Served). TakesBoth s Tick ticks.1 new) ticks.2 ticks.4 in
    let stays : takes.between ≡ now = tells_nothing now takes.between none takes.tells in (
      old,
      ticks.1,
      refl,
      free,
      record {
        between = now;
        tells = tells;
        free = subst (λ (s : Served). barred_both s ≡ None) stays takes.free;
        steps = subst (λ (s : Served). StepsBoth s Tick ticks.1 new) stays takes.steps;
      },
    )
tells_first (suc units) old now new tells free none ticks = (ticks.0, ticks.1, tells_first units old now ticks.0 tells free none ticks.2, ticks.3, ticks.4)

-- ---- what is reported

unwrapped : Event → Option Event → Event
unwrapped other (Some event) = event
unwrapped other None = other

news_is : (b : Bool) (event news : Event) → Some event ≡ (if b then Some news else None) → (b ≡ true) × (event ≡ news)
unfolding unwrapped
news_is true event news e = (refl, ap (unwrapped event) e)
news_is false event news e = absurd cc

pub tells_from : (old new : State) (state now : Serving) (event : Event) (note : Note) → Some event ≡ (if state.has_news then Some (news_in state) else None)
    → Takes old event note new → now ≡ told state → TellsPort state.has_news old state new now × (barred new ≡ None)
tells_from old new state now event note news takes after =
    let is = news_is state.has_news event (news_in state) news in
    let peer = option_map as_neighbour state.near.known in
    let meets : Takes old (news_in state) note new = subst (λ (e : Event). Takes old e note new) is.1 takes in (
      subst (λ (b : Bool). TellsPort b old state new now) (sym is.0) (met_done old new peer note meets, after),
      quiet_free old new (news_in state) note meets (met_accepted old.device.station old.device.live peer) (met_frames old.device.station old.device.live peer),
    )
