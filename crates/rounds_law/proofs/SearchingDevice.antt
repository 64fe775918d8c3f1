-- A device that its controller searches for: it answers the Identify, and accepts the IP suite.
use Rattle.std.proofs.Common.{◌≡◌, ◌≤◌, ◌<◌, ◌==◌, ℕ, Bool, true, false}
use Rattle.std.proofs.Common.{List, [], ◌∷◌, ◌++◌, length, map, Option, is_some, None, refl, sym, ap, subst, ◌∙◌, arith, nat_eq}
use Rattle.std.specs.Prelude.{if◌then◌else◌}
use Rattle.std.specs.Cmp.Lexicographic.{pointwise}
use Rattle.std.proofs.lemmas.List.Elements.{recursion_from_All}
use Rattle.std.proofs.lemmas.Bool.Decides.{nat_tests}
use Rattle.std.proofs.lemmas.Cmp.{nat_list_eq_equiv}
use Rattle.pn_values.specs.IpSuite.{Suite, is_suite}
use Rattle.pn_values.specs.StationName.{IsStationName, IsLabel}
use Rattle.pn_values.specs.declared.command.Command.{Command}
use Rattle.pn_values.specs.declared.command.Command.TheVariants.{SetIp}
use Rattle.pn_values.specs.declared.identity.Identity.{Identity}
use Rattle.pn_values.specs.declared.mac.Mac.{Mac}
use Rattle.pn_values.specs.declared.set_item.BlockError.{BlockError}
use Rattle.pn_values.specs.declared.set_item.BlockError.TheVariants as error
use Rattle.pn_values.specs.declared.set_item.SetItem.{SetItem}
use Rattle.pn_values.specs.declared.set_item.SetItem.TheVariants.{Ask}
use Rattle.asked_records.specs.Asked.{AskedState}
use Rattle.rpc_core.specs.Cache.{kept_of}
use Rattle.settings_journal.specs.settings_store.Machine.{Carried, Outcome, Pass, accepted, answered, carried, committed}
use Rattle.settings_journal.specs.settings_store.State.{Values}
use Rattle.dcp_core.specs.Identify.{matches}
use Rattle.dcp_core.specs.Request.{Asked}
use Rattle.dcp_core.specs.Set.{plan_of}
use Rattle.controller_messages.specs.declared.setup.Setup.{Setup}
use Rattle.controller_messages.specs.Requests.{address_asked, identify_asked}
use Rattle.device_frames.specs.declared.note.Note.TheVariants as note
use Rattle.device_frames.specs.Heard.{Asks, Elsewhere, Heard}
use Rattle.device_frames.specs.Sent.{IdentifyAnswer, SetAnswer, bytes_of}
use Rattle.device_core.specs.State.{Live, Rest, Station, alias_in}
use Rattle.device_core.specs.Handled.{Moves, Refuses, Sets}
use Rattle.device_core.specs.Asking.{ended_by, left_asked}
use Rattle.device_core.specs.Machine.{Stepped, farewell_at, farewells_at, finished, handled_step, heard_step, link_after, resets}
use Rattle.relations.specs.RelationState.{RelationState}
use Rattle.end_laws.specs.hearing.Hearing.{own_hears}
use Rattle.rounds_law.specs.Path.{IsAddressed, IsFree, IsNamed, IsSized, found_frame, set_frame}
use Rattle.rounds_law.specs.Start.{CanBeAddressed}
use Rattle.rounds_law.proofs.SearchingSizes.{asks_suite, name_matches}

-- ---- the Identify

-- nothing changes, and this is sent
abbrev Sends : Live → List (List ℕ) → Stepped → Type 0
Sends live frames step = (step.live ≡ live) × (step.frames ≡ frames)

matched_so : (outcomes : List Outcome) (station : Station) (live : Live) (asker : Mac) (request : Asked) (matched : Bool) → matched ≡ true
    → Sends live (bytes_of station.identity (IdentifyAnswer asker live.values.running request.xid) ∷ [])
    (handled_step outcomes station live (if matched then Moves live.rest (IdentifyAnswer asker live.values.running request.xid ∷ []) else Refuses note.Filter))
unfolding handled_step
matched_so outcomes station live asker request true is = (refl, refl)
matched_so outcomes station live asker request false is = absurd cc

found_asked : (setup : Setup) (outcomes : List Outcome) (station : Station) (live : Live) → IsNamed setup live → 0 < length setup.plan.station.name
    → Sends live (found_frame setup station.identity live.values.running ∷ [])
    (heard_step outcomes station live (Asks setup.plan.controller.mac (identify_asked setup.plan)))
unfolding heard_step
found_asked setup outcomes station live named some =
    matched_so outcomes station live setup.plan.controller.mac (identify_asked setup.plan)
    (matches station.identity live.values.running (alias_in live.rest.peer) (identify_asked setup.plan))
    (name_matches station.identity live.values.running (alias_in live.rest.peer) setup.plan.station.name some named.name)

-- a device with the plan's name that hears the Identify answers it
pub found_so : (setup : Setup) (identity : Identity) (outcomes : List Outcome) (station : Station) (live : Live) (heard : Heard)
    → heard ≡ Asks setup.plan.controller.mac (identify_asked setup.plan) → station.identity ≡ identity → IsNamed setup live
    → 0 < length setup.plan.station.name
    → ((heard_step outcomes station live heard).live ≡ live)
    × ((heard_step outcomes station live heard).frames ≡ found_frame setup identity live.values.running ∷ [])
found_so setup identity outcomes station live heard is same named some =
    subst (λ (i : Identity). Sends live (found_frame setup i live.values.running ∷ []) (heard_step outcomes station live heard)) same
    (subst (λ (h : Heard). Sends live (found_frame setup station.identity live.values.running ∷ []) (heard_step outcomes station live h)) (sym is)
    (found_asked setup outcomes station live named some))

-- ---- the IP suite

-- a command is carried out if no commit failed and there is room
room_left : (n : ℕ) → 1 ≤ n → (n == 0) ≡ false
room_left n some = grind (arith, nat_tests)

neither_so : {A : Type 0} (a b : Bool) (x y z : A) → a ≡ false → b ≡ false → (if a then x else (if b then y else z)) ≡ z
neither_so false false x y z e h = refl
neither_so true b x y z e h = absurd cc
neither_so false true x y z e h = absurd cc

committed_so : (values : Values) (command : Command) → values.has_failed ≡ false → 1 ≤ values.room
    → committed Pass values command ≡ accepted Pass values command
committed_so values command unfailed room =
    neither_so values.has_failed (values.room == 0) (answered error.Local values) (answered error.Exhausted values) (accepted Pass values command)
    unfailed (room_left values.room room)

-- the one item of the Set
record IsCarried (suite : Suite) (values : Values) (settled : Carried) : Type 0 where
  name : settled.values.running.name ≡ values.running.name
  addressed : settled.values.running.suite ≡ suite
  answers : settled.answers ≡ error.Done ∷ []

item_carried : (suite : Suite) (live : Live) → CanBeAddressed live → IsCarried suite live.values (carried [] live.values (Ask (SetIp false suite) ∷ []))
item_carried suite live can =
    let is = committed_so live.values (SetIp false suite) can.unfailed can.room in
    record {
      name = ap (λ (c : Carried). c.values.running.name) is;
      addressed = ap (λ (c : Carried). c.values.running.suite) is;
      answers = ap (λ (c : Carried). c.answers ++ []) is;
    }

-- how the step of a Set without resets ends
pub record IsFinished (identity : Identity) (rest : Rest) (asker : Mac) (request : Asked) (answers : List BlockError) : Type 0 where
  pub link : (finished identity rest (Sets asker request false) answers).rest.link ≡ rest.link
  pub calls : (finished identity rest (Sets asker request false) answers).rest.calls ≡ rest.calls
  pub asked : (finished identity rest (Sets asker request false) answers).rest.asked ≡ rest.asked
  pub sent : (finished identity rest (Sets asker request false) answers).sent ≡ SetAnswer asker request answers ∷ []

pub set_finished : (identity : Identity) (rest : Rest) (asker : Mac) (request : Asked) (answers : List BlockError)
    → resets (plan_of false request) answers ≡ false → IsFinished identity rest asker request answers
set_finished identity rest asker request answers quiet = record {
  link = ap (λ (ends : Bool). link_after ends rest.link) quiet;
  calls = refl;
  asked = ap (λ (ends : Bool). left_asked (ended_by (farewell_at ends rest.link)) rest.asked) quiet;
  sent = ap (λ (ends : Bool). farewells_at ends rest.link ++ SetAnswer asker request answers ∷ []) quiet;
}

-- what the device is after the Set, and what it sends
record Takes (setup : Setup) (identity : Identity) (step : Stepped) : Type 0 where
  frames : step.frames ≡ set_frame setup identity ∷ []
  named : IsNamed setup step.live
  addressed : IsAddressed setup step.live
  free : IsFree setup step.live

set_taken : (setup : Setup) (station : Station) (live : Live)
    → plan_of false (address_asked setup.plan) ≡ Ask (SetIp false setup.plan.station.suite) ∷ []
    → IsNamed setup live → IsFree setup live → CanBeAddressed live
    → Takes setup station.identity (handled_step [] station live (Sets setup.plan.controller.mac (address_asked setup.plan) false))
unfolding handled_step
set_taken setup station live asks named free can =
    record {
      frames = ap (map (bytes_of station.identity)) end.sent ∙ ap (λ (a : List BlockError). bytes_of station.identity (SetAnswer asker request a) ∷ []) answers;
      named = record { name = carries.name ∙ named.name };
      addressed = record { suite = carries.addressed };
      free = record {
        unrelated = end.link ∙ free.unrelated;
        unasked = ap (λ (asked : AskedState). asked.standing) end.asked ∙ free.unasked;
        uncalled = ap (kept_of setup.activity) end.calls ∙ free.uncalled;
      };
    }
  where
    asker : Mac
    asker = setup.plan.controller.mac

    request : Asked
    request = address_asked setup.plan

    settled : Carried
    settled = carried [] live.values (plan_of false request)

    carries : IsCarried setup.plan.station.suite live.values settled
    carries = subst (λ (items : List SetItem). IsCarried setup.plan.station.suite live.values (carried [] live.values items)) (sym asks)
        (item_carried setup.plan.station.suite live can)

    answers : settled.answers ≡ error.Done ∷ []
    answers = carries.answers

    no_reset : resets (plan_of false request) settled.answers ≡ false
    no_reset = ap (λ (items : List SetItem). resets items settled.answers) asks
        ∙ ap (λ (a : List BlockError). resets (Ask (SetIp false setup.plan.station.suite) ∷ []) a) answers

    end : IsFinished station.identity live.rest asker request settled.answers
    end = set_finished station.identity live.rest asker request settled.answers no_reset

pub none_there : (link : Option RelationState) → link ≡ None → is_some link ≡ false
none_there link is = ap is_some is

set_asked : (setup : Setup) (station : Station) (live : Live)
    → plan_of false (address_asked setup.plan) ≡ Ask (SetIp false setup.plan.station.suite) ∷ []
    → IsNamed setup live → IsFree setup live → CanBeAddressed live
    → Takes setup station.identity (heard_step [] station live (Asks setup.plan.controller.mac (address_asked setup.plan)))
unfolding heard_step
set_asked setup station live asks named free can =
    subst (λ (operates : Bool). Takes setup station.identity
    (handled_step [] station live (Sets setup.plan.controller.mac (address_asked setup.plan) operates)))
    (sym (none_there live.rest.link free.unrelated)) (set_taken setup station live asks named free can)

-- a frame to this device
pub own_so : (identity : Identity) (to : Mac) (heard : Heard) → identity.mac ≡ to → own_hears identity to heard ≡ heard
own_so identity to heard same =
    ap (λ (is : Bool). if is then heard else Elsewhere) (ap (λ (m : Mac). pointwise nat_eq to.octets m.octets) same ∙ nat_list_eq_equiv.refl to.octets)

-- a device without a relation that hears the Set of the plan's IP suite accepts it
pub set_so : (setup : Setup) (identity : Identity) (station : Station) (live : Live) (heard : Heard)
    → heard ≡ own_hears station.identity identity.mac (Asks setup.plan.controller.mac (address_asked setup.plan)) → station.identity ≡ identity
    → IsSized setup.plan.station.suite → is_suite setup.plan.station.suite ≡ true → IsNamed setup live → IsFree setup live → CanBeAddressed live
    → ((heard_step [] station live heard).frames ≡ set_frame setup identity ∷ [])
    × IsNamed setup (heard_step [] station live heard).live
    × IsAddressed setup (heard_step [] station live heard).live
    × IsFree setup (heard_step [] station live heard).live
set_so setup identity station live heard is same sized valid named free can = (takes.frames, takes.named, takes.addressed, takes.free)
  where
    asks : Heard
    asks = Asks setup.plan.controller.mac (address_asked setup.plan)

    mine : heard ≡ asks
    mine = is ∙ own_so station.identity identity.mac asks (ap (λ (i : Identity). i.mac) same)

    takes : Takes setup identity (heard_step [] station live heard)
    takes =
        subst (λ (i : Identity). Takes setup i (heard_step [] station live heard)) same
        (subst (λ (h : Heard). Takes setup station.identity (heard_step [] station live h)) (sym mine)
        (set_asked setup station live (asks_suite setup.plan.station.suite sized valid) named free can))

-- ---- the name of the plan

-- a station name is not empty
pub some_name : (name : List ℕ) → IsStationName name → 0 < length name
some_name [] is = let first : IsLabel [] = (recursion_from_All IsLabel ([] ∷ []) is.labels).0 in absurd (omega (arith, first.some))
some_name (octet ∷ name) is = omega arith
