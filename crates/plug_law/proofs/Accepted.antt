-- Over any events of a controller: each place that is plugged, and each request after a plug, belongs to an alarm that it accepted.
use Rattle.std.proofs.Common.{◌≡◌, ◌++◌, ℕ, List, [], ◌∷◌, Option, Some, None, refl, sym, ap, subst, ◌∙◌, append_assoc}
use Rattle.std.specs.List.{AllByRecursion}
use Rattle.std.proofs.lemmas.List.{append-nil}
use Rattle.diagnosis.specs.declared.reports.report.Report.{Report}
use Rattle.plan_places.specs.declared.report.PlaceReport.{PlaceReport}
use Rattle.plan_places.specs.declared.report.PlaceReport.TheVariants as reports
use Rattle.plan_places.specs.declared.place.Place.{Place}
use Rattle.plan_places.specs.declared.place.PlaceState.{PlaceState}
use Rattle.plan_places.specs.declared.place.PlaceState.TheVariants as known
use Rattle.plan_places.specs.Reports.{place_report}
use Rattle.controller_messages.specs.declared.plug_request.PlugRequest.{PlugRequest}
use Rattle.controller_messages.specs.declared.setup.Setup.{Setup}
use Rattle.controller_core.specs.declared.stored.event.Event.{Event}
use Rattle.controller_core.specs.stored.State.{Live}
use Rattle.controller_core.specs.Machine.{turn_of}
use Rattle.plug_law.specs.Written.{after_events}
use Rattle.plug_law.specs.Plugged.{WasPlugged, accepted_with}
use Rattle.plug_law.proofs.Places.{Fine, FinePlaces, FineRequest, FineState, IsPlugIf, IsPlugOf, Known, event_known}

-- ---- what follows from what

module _ (Was Other : ℕ → ℕ → ℕ → Type 0) (so : (slot subslot number : ℕ) → Was slot subslot number → Other slot subslot number) where
  state_more : (slot subslot : ℕ) (state : PlaceState) → FineState Was slot subslot state → FineState Other slot subslot state
  state_more slot subslot (known.Plugged number) fine = so slot subslot number fine
  state_more slot subslot (known.Writing number) fine = so slot subslot number fine
  state_more slot subslot (known.Ending number) fine = so slot subslot number fine
  state_more slot subslot (known.Ready number) fine = so slot subslot number fine
  state_more slot subslot known.There fine = tt
  state_more slot subslot known.Differs fine = tt
  state_more slot subslot known.Gone fine = tt
  state_more slot subslot known.Wrong fine = tt
  state_more slot subslot known.Refused fine = tt

  places_more : (places : List Place) → FinePlaces Was places → FinePlaces Other places
  places_more [] all = tt
  places_more (place ∷ places) all = (state_more place.slot place.subslot place.state all.0, places_more places all.1)

  request_more : (plug : Option PlugRequest) → FineRequest Was plug → FineRequest Other plug
  request_more (Some request) fine = so request.slot request.subslot request.number fine
  request_more None fine = tt

  known_more : (live : Live) → Known Was live → Known Other live
  known_more live k = (places_more live.places.places k.0, request_more live.access.plug k.1)

-- ---- one event more

module _ (setup : Setup) where
  after_one : (live : Live) (front : List Event) (one : Event) → after_events setup live (front ++ one ∷ []) ≡ (turn_of setup (after_events setup live front) one).live
  after_one live [] one = refl
  after_one live (event ∷ front) one = after_one (turn_of setup live event).live front one

  module _ (start : Live) where
    abbrev Was : List Event → ℕ → ℕ → ℕ → Type 0
    Was events slot subslot number = WasPlugged setup start events slot subslot number

    was_before : (front : List Event) (one : Event) (slot subslot number : ℕ) → Was front slot subslot number → Was (front ++ one ∷ []) slot subslot number
    was_before front one slot subslot number was = record {
      before = was.before;
      one = was.one;
      later = was.later ++ one ∷ [];
      all = ap (λ (l : List Event). l ++ one ∷ []) was.all ∙ append_assoc was.before (was.one ∷ was.later) (one ∷ []);
      report = was.report;
      accepted = was.accepted;
      plugs = was.plugs;
    }

    was_now : (front : List Event) (one : Event) (found : Option Report) → accepted_with setup (after_events setup start front) one ≡ found
        → IsPlugIf (Was (front ++ one ∷ [])) found
    was_now front one None e = tt
    was_now front one (Some report) e = by_place (place_report report) refl
      where
        by_place : (found : Option PlaceReport) → place_report report ≡ found → IsPlugOf (Was (front ++ one ∷ [])) found
        by_place None is = tt
        by_place (Some (reports.Pulled affected)) is = tt
        by_place (Some (reports.PluggedWrong plug)) is = tt
        by_place (Some (reports.Plugged plug)) is = record { before = front; one = one; later = []; all = refl; report = report; accepted = e; plugs = is }

    events_known : (front rest : List Event) → Known (Was front) (after_events setup start front) → Known (Was (front ++ rest)) (after_events setup start (front ++ rest))
    events_known front [] k = subst (λ (l : List Event). Known (Was l) (after_events setup start l)) (sym (append-nil front)) k
    events_known front (one ∷ rest) k =
        let more : List Event = front ++ one ∷ [] in
        let behind = after_events setup start front in
        let before = known_more (Was front) (Was more) (was_before front one) behind k in
        let next : Known (Was more) (turn_of setup behind one).live =
        event_known (Was more) setup behind before one (was_now front one (accepted_with setup behind one) refl) in
        subst (λ (l : List Event). Known (Was l) (after_events setup start l)) (append_assoc front (one ∷ []) rest)
        (events_known more rest (subst (λ (live : Live). Known (Was more) live) (sym (after_one start front one)) next))

    -- from a controller without places, which waits for no answer after a plug
    pub plugged_so : (events : List Event) (request : PlugRequest) → Known (Was []) start → (after_events setup start events).access.plug ≡ Some request
        → WasPlugged setup start events request.slot request.subslot request.number
    plugged_so events request k is = subst (λ (plug : Option PlugRequest). FineRequest (Was events) plug) is (events_known [] events k).1
