-- All that a station sends at an event, with the answers of its DCP station.
use Rattle.std.proofs.Common.{◌≡◌, ◌≤◌, ℕ, List, [], ◌∷◌, length, Option, Some, None, refl, sym, ap, ◌∙◌, inl, inr, ◌⊎◌}
use Rattle.std.specs.List.{cons_option}
use Rattle.services.specs.State.{frames_in}
use Rattle.plans.specs.declared.parts.Parts.{Parts}
use Rattle.plans.specs.Identity.{OwnIdentity}
use Rattle.controller_dcp.specs.Station.{answer_by, answer_to}
use Rattle.controller_core.specs.declared.stored.event.Event.{Event}
use Rattle.controller_core.specs.declared.stored.event.Event.TheVariants.{Frame, Tick, Give, Status, Read, Write, Stop}
use Rattle.controller_core.specs.Machine.{step_of}
use Rattle.controller_core.specs.Quiet.{silently}
use Rattle.controller_core.specs.stored.State.{Controlling}
use Rattle.controller_messages.specs.Heard.{Nothing, heard_of}
use Rattle.controller_station.specs.Runs.{SendsOrTells, all_at, sent_at}
use Rattle.controller_station.specs.Served.{Frames, Served, answered, beside_frame, by_services, no_frames, told_at}
use Rattle.controller_station.proofs.Besides.{silent}
use Rattle.controller_station.proofs.Telling.{few_told, told_unanswered, told_unheard, untold_same}

-- These octets as an event.
abbrev pub framed : List ℕ → Event
framed octets = Frame (record { items = octets })

abbrev both : List (List ℕ) → List (List ℕ) → Frames
both controller services = record { controller = controller; services = services }

pub untold_all : (plan : Parts) (octets : List ℕ) (sent : Frames) → answer_to plan octets ≡ None → answered plan (framed octets) sent ≡ sent
untold_all plan octets sent none = ap (both sent.controller) (untold_same plan octets sent.controller sent.services none)

-- To a request that is answered neither the controller nor its services send anything.
none_sent : (served : Served) (octets frame : List ℕ) → answer_to served.controller.setup.plan octets ≡ Some frame → sent_at served (framed octets) ≡ no_frames
none_sent served octets frame told =
    let plan = served.controller.setup.plan in
    ap (λ (frames : List (List ℕ)). both frames (beside_frame served.services octets frames)) (silent served.controller octets (told_unheard plan octets frame told))
    ∙ ap (λ (found : Option (List ℕ)). both [] (frames_in found)) (told_unanswered plan served.services.ip octets frame told)

pub told_all : (served : Served) (octets frame : List ℕ) → answer_to served.controller.setup.plan octets ≡ Some frame → all_at served (framed octets) ≡ by_services frame
told_all served octets frame told =
    ap (answered served.controller.setup.plan (framed octets)) (none_sent served octets frame told)
    ∙ ap (λ (found : Option (List ℕ)). both [] (cons_option found [])) told

pub few_all : (plan : Parts) (event : Event) (controller services : List (List ℕ)) → length services ≤ 2 → length (told_at plan event controller services) ≤ 2
few_all plan (Frame octets) controller services few = few_told plan octets.items controller services few
few_all plan Tick controller services few = few
few_all plan (Give slot subslot value) controller services few = few
few_all plan (Status slot subslot is_good) controller services few = few
few_all plan (Read slot subslot index) controller services few = few
few_all plan (Write slot subslot index octets) controller services few = few
few_all plan Stop controller services few = few

-- ---- the laws

by_found : (served : Served) (octets : List ℕ) (found : Option (List ℕ)) → answer_to served.controller.setup.plan octets ≡ found → SendsOrTells served (framed octets)
by_found served octets None none = inl (untold_all served.controller.setup.plan octets (sent_at served (framed octets)) none)
by_found served octets (Some frame) told = inr (octets, frame, refl, told, none_sent served octets frame told, told_all served octets frame told)

pub sends_or_tells : (served : Served) (event : Event) → SendsOrTells served event
sends_or_tells served (Frame octets) = by_found served octets.items (answer_to served.controller.setup.plan octets.items) refl
sends_or_tells served Tick = inl refl
sends_or_tells served (Give slot subslot value) = inl refl
sends_or_tells served (Status slot subslot is_good) = inl refl
sends_or_tells served (Read slot subslot index) = inl refl
sends_or_tells served (Write slot subslot index octets) = inl refl
sends_or_tells served Stop = inl refl

unheard_step : (old : Controlling) (octets : List ℕ) → heard_of old.setup.plan.controller octets ≡ Nothing → step_of old (framed octets) ≡ silently old
unfolding step_of
unheard_step old octets e = rw e refl

pub untouched : (served : Served) (octets frame : List ℕ) → answer_to served.controller.setup.plan octets ≡ Some frame → step_of served.controller (framed octets) ≡ silently served.controller
untouched served octets frame told = unheard_step served.controller octets (told_unheard served.controller.setup.plan octets frame told)

unidentified : (plan : Parts) (octets : List ℕ) → plan.identity ≡ None → answer_to plan octets ≡ None
unfolding answer_to
unidentified plan octets none = ap (λ (identity : Option OwnIdentity). answer_by plan identity octets) none

pub without_identity : (served : Served) (event : Event) → served.controller.setup.plan.identity ≡ None → all_at served event ≡ sent_at served event
without_identity served (Frame octets) none = untold_all served.controller.setup.plan octets.items (sent_at served (framed octets.items)) (unidentified served.controller.setup.plan octets.items none)
without_identity served Tick none = refl
without_identity served (Give slot subslot value) none = refl
without_identity served (Status slot subslot is_good) none = refl
without_identity served (Read slot subslot index) none = refl
without_identity served (Write slot subslot index octets) none = refl
without_identity served Stop none = refl
