-- That a device says only of places that they are good which do not differ and are not touched.
use Rattle.std.proofs.Common.{◌≡◌, ap, false, ℕ, List, [], ◌∷◌, Option, Some, refl, sym, subst, ◌∙◌}
use Rattle.pn_values.specs.declared.real.RealModule.{RealModule}
use Rattle.wire.specs.blocks.modules.Lists.{Listed}
use Rattle.connect_blocks.specs.declared.module_diff.DiffModule.{DiffModule}
use Rattle.connect_blocks.specs.declared.module_diff.DiffSubmodule.{DiffSubmodule}
use Rattle.cyclic_data.specs.declared.place.PlaceKind.TheVariants.{Data, Iocs}
use Rattle.cyclic_data.specs.Image.{good}
use Rattle.expected_places.specs.declared.place.ExpectedPlace.{ExpectedPlace}
use Rattle.expected_places.specs.Machine.{PlugState, is_differing, touches}
use Rattle.expected_places.specs.Places.{place_at}
use Rattle.relations.specs.exchange.Flow.{Flow}
use Rattle.relations.specs.exchange.Modules.{is_shut}
use Rattle.relations.specs.exchange.Shut as shut
use Rattle.relations.specs.Phases.{made_of}
use Rattle.relations.specs.Plugging.{rows_now}
use Rattle.relations.specs.RelationState.{RelationState}
use Rattle.device_frames.specs.Heard.{heard_of}
use Rattle.device_core.specs.State.{Live, Station}
use Rattle.end_laws.specs.device.Exchange.{AreGoodWhereOpen, Happening, IsOpen, SendsGoodWhereOpen, StaysRelated, after_all, stepped}
use Rattle.end_laws.proofs.DeviceExchange.{both_none}
use Rattle.end_laws.proofs.DeviceExchangeLaws.{any_has, some_of, two}
use Rattle.end_laws.proofs.DeviceGoes.{step_goes}
use Rattle.end_laws.proofs.DeviceMoments.{AreStated, Goes, goes_both, onward_goes, onward_same, opened_stated, stated_at}

-- ---- a relation over several events

abbrev modules_of : Live → List RealModule
modules_of live = live.rest.real.modules.items

record RunGoes (station : Station) (live : Live) (link : RelationState) (happened : List Happening) : Type 0 where
  next : RelationState
  has : (after_all station happened live).rest.link ≡ Some next
  goes : Goes (modules_of live) (modules_of (after_all station happened live)) link next

run_goes : (station : Station) (happened : List Happening) (live : Live) (link : RelationState) → live.rest.link ≡ Some link → StaysRelated station happened live
    → RunGoes station live link happened
run_goes station [] live link is related = record { next = link; has = is; goes = onward_goes (modules_of live) link link (onward_same link link refl refl refl) }
run_goes station (one ∷ more) live link is related =
    let next = some_of (stepped station live one).live.rest.link related.0 in
    let first = step_goes one.outcomes station live link (heard_of station.identity one.event) next.0 is next.1 in
    let rest = run_goes station more (stepped station live one).live next.0 next.1 related.1 in
    record {
      next = rest.next;
      has = rest.has;
      goes = goes_both (modules_of live) (modules_of (stepped station live one).live) (modules_of (after_all station (one ∷ more) live)) link next.0 rest.next first rest.goes;
    }

-- ---- a place that is not shut

some_place : (x y : ExpectedPlace) → Some x ≡ Some y → x ≡ y
some_place x y e = cc

open_there : (real : List RealModule) (link : RelationState) (slot subslot : ℕ) → AreStated (rows_now real link) link.plugs.places
    → is_shut link.plugs slot subslot ≡ false → IsOpen real link slot subslot
open_there real link slot subslot stated unshut place there =
    let parts = both_none (is_differing (place_at slot subslot link.plugs.places)) (touches (place_at slot subslot link.plugs.places)) unshut in (
      sym (stated_at (rows_now real link) slot subslot link.plugs.places place stated there)
          ∙ (sym (ap (λ (found : Option ExpectedPlace). is_differing found) there) ∙ parts.0),
      sym (ap (λ (found : Option ExpectedPlace). touches found) there) ∙ parts.1,
    )

-- ---- what is good after any moments

module _ (before real : List RealModule) (made link : RelationState) (goes : Goes before real made link)
    (stated : AreStated (rows_now real link) link.plugs.places) where
  abbrev Law : (ℕ → ℕ → Flow → Option ℕ) → Type 0
  Law status = (slot subslot : ℕ) → status slot subslot (shut.all_past goes.moments made.plugs made.flow) ≡ Some good
      → is_shut (shut.all_places goes.moments made.plugs) slot subslot ≡ false

  of_law : (status : ℕ → ℕ → Flow → Option ℕ) → Law status → (slot subslot : ℕ) → status slot subslot link.flow ≡ Some good → IsOpen real link slot subslot
  of_law status law slot subslot is =
      open_there real link slot subslot stated
      (ap (λ (plugs : PlugState). is_shut plugs slot subslot) goes.places ∙ law slot subslot (sym (ap (λ (flow : Flow). status slot subslot flow) goes.flow) ∙ is))

  by_kind : Law shut.iops_at → Law shut.iocs_at → AreGoodWhereOpen real link link.flow.cyclic.shown
  by_kind provided consumed Data slot subslot is = of_law shut.iops_at provided slot subslot is
  by_kind provided consumed Iocs slot subslot is = of_law shut.iocs_at consumed slot subslot is

pub sends_good_where_open : shut.AreGoodWhereOpen → shut.AreConsumedWhereOpen → SendsGoodWhereOpen
sends_good_where_open provided consumed station live happened last link answered rows once related has =
    let made = made_of answered.request answered.partner answered.rows answered.options answered.starting in
    let run = run_goes station happened live made answered.link related in
    let real = modules_of (after_all station happened live) in
    let same : run.next ≡ link = two run.next link (sym run.has ∙ has) in
    let goes : Goes (modules_of live) real made link = subst (λ (l : RelationState). Goes (modules_of live) real made l) same run.goes in
    let stated : AreStated (rows_now real link) link.plugs.places = goes.stated
    (subst (λ (r : Listed DiffModule DiffSubmodule). AreStated r made.plugs.places) rows (opened_stated answered.request.expected answered.rows)) in
    any_has station (AreGoodWhereOpen real link) last.outcomes (after_all station happened live) link (heard_of station.identity last.event) has
    (by_kind (modules_of live) real made link goes stated
    (λ slot subslot is. provided answered.request answered.rows answered.starting goes.moments slot subslot once is)
    (λ slot subslot is. consumed answered.request answered.rows answered.starting goes.moments slot subslot once is))
