-- Which steps of a device keep its settings.
use Rattle.std.proofs.Common.{◌≡◌, ◌++◌, ℕ, true, false, List, [], ◌∷◌, Option, Some, None, map, refl, sym, ap, ◌∙◌}
use Rattle.arrayvec.specs.ArrayVec.{ArrayVec}
use Rattle.settings_journal.specs.settings_store.Machine.{carried}
use Rattle.lldp.specs.declared.neighbour.Neighbour.{Neighbour as Peer}
use Rattle.relations.specs.Exchanged.{given_to}
use Rattle.relations.specs.exchange.Flow.{Flow}
use Rattle.device_frames.specs.Heard.{heard_of}
use Rattle.device_frames.specs.Sent.{Sent, bytes_of}
use Rattle.device_frames.specs.declared.event.Event.{Event}
use Rattle.device_frames.specs.declared.event.Event.TheVariants.{Application, Neighbour}
use Rattle.device_frames.specs.declared.local.Local.TheVariants.{Input}
use Rattle.device_frames.specs.declared.note.Note.TheVariants.{Done}
use Rattle.device_core.specs.Handled.{Handled, Refuses, Sets, Writes, WritesEach, Moves, handled, handled_input}
use Rattle.device_core.specs.Machine.{handled_step, heard_step, items_in, step_of}
use Rattle.device_core.specs.State.{Live, Station}
use Rattle.device_station.specs.Beside.{has_any, is_dropped}

-- ---- a step that sends nothing

some_last : (f : Sent → List ℕ) (front : List Sent) (last : Sent) → has_any (map f (front ++ last ∷ [])) ≡ true
some_last f [] last = refl
some_last f (one ∷ front) last = refl

silent_handled : (station : Station) (live : Live) (what : Handled) → has_any (handled_step [] station live what).frames ≡ false → (handled_step [] station live what).live.values ≡ live.values
unfolding handled_step
silent_handled station live (Refuses note) silent = refl
silent_handled station live (Sets asker request in_operation) silent = cc (sym (some_last (bytes_of station.identity) _ _) ∙ silent)
silent_handled station live (Writes caller address call header value) silent = cc silent
silent_handled station live (WritesEach caller address call header judged) silent = cc silent
silent_handled station live (Moves later sent) silent = refl

pub silent_step : (station : Station) (live : Live) (event : Event) → has_any (step_of [] station live event).frames ≡ false → (step_of [] station live event).live.values ≡ live.values
unfolding heard_step
silent_step station live event silent = silent_handled station live (handled station live (heard_of station.identity event)) silent

-- ---- a step that drops its event

nothing_dropped : (station : Station) (live : Live) (what : Handled) → is_dropped (handled_step [] station live what).note ≡ true
    → ((handled_step [] station live what).frames ≡ []) × ((handled_step [] station live what).accepted ≡ [])
unfolding handled_step
nothing_dropped station live (Refuses note) dropped = (refl, refl)
nothing_dropped station live (Sets asker request in_operation) dropped = cc dropped
nothing_dropped station live (Writes caller address call header value) dropped = cc dropped
nothing_dropped station live (WritesEach caller address call header judged) dropped = cc dropped
nothing_dropped station live (Moves later sent) dropped = cc dropped

pub dropped_step : (station : Station) (live : Live) (event : Event) → is_dropped (step_of [] station live event).note ≡ true
    → ((step_of [] station live event).frames ≡ []) × ((step_of [] station live event).accepted ≡ [])
unfolding heard_step
dropped_step station live event dropped = nothing_dropped station live (handled station live (heard_of station.identity event)) dropped

-- ---- an input

no_items : (station : Station) (live : Live) (what : Handled) → items_in what ≡ [] → (handled_step [] station live what).live.values ≡ live.values
unfolding handled_step
no_items station live what none = ap (λ items. (carried [] live.values items).values) none

input_items : (live : Live) (flow : Option Flow) → items_in (handled_input live flow) ≡ []
input_items live (Some flow) = refl
input_items live None = refl

pub input_step : (station : Station) (live : Live) (slot subslot : ℕ) (value : ArrayVec ℕ) → (step_of [] station live (Application (Input slot subslot value))).live.values ≡ live.values
unfolding heard_step heard_of
input_step station live slot subslot value =
    no_items station live (handled station live (heard_of station.identity (Application (Input slot subslot value)))) (input_items live (given_to slot subslot value.items live.rest.link))

-- ---- the event that reports its neighbour to a device

pub met_frames : (station : Station) (live : Live) (peer : Option Peer) → (step_of [] station live (Neighbour peer)).frames ≡ []
unfolding heard_of heard_step handled_step
met_frames station live peer = refl

pub met_accepted : (station : Station) (live : Live) (peer : Option Peer) → (step_of [] station live (Neighbour peer)).accepted ≡ []
unfolding heard_of heard_step handled_step
met_accepted station live peer = refl

pub met_note : (station : Station) (live : Live) (peer : Option Peer) → (step_of [] station live (Neighbour peer)).note ≡ Done
unfolding heard_of heard_step handled_step
met_note station live peer = refl
