-- A controller and the device that it searches for: what it does with the answers to the Identify and to the Set of the IP suite.
use Rattle.std.proofs.Common.{◌≡◌, ◌⊎◌, ◌≤◌, ◌<◌, ◌+◌, ◌/◌, ◌&&◌, ℕ, Bool, true, false}
use Rattle.std.proofs.Common.{List, [], ◌∷◌, ◌++◌, inl, inr, length, None, refl, sym, ap, subst, ◌∙◌, arith, nat_eq}
use Rattle.std.specs.Prelude.{if◌then◌else◌}
use Rattle.std.specs.Cmp.Lexicographic.{pointwise, same_text}
use Rattle.std.specs.Int.{w16, to_be_bytes}
use Rattle.std.proofs.lemmas.Cmp.{nat_list_eq_equiv}
use Rattle.pn_values.specs.IpSuite.{Suite}
use Rattle.pn_values.specs.declared.identity.Identity.{Identity}
use Rattle.pn_values.specs.declared.mac.Mac.{Mac}
use Rattle.pn_values.specs.declared.settings.Settings.{Settings}
use Rattle.pn_values.specs.declared.set_item.BlockError.TheVariants as error
use Rattle.dcp_core.specs.Identify.{suite_bytes}
use Rattle.dcp_core.specs.Reported.{identify_said, set_said}
use Rattle.dcp_core.specs.Response.{Answered}
use Rattle.plans.specs.declared.parts.Controller.{Controller}
use Rattle.plans.specs.declared.parts.Parts.{Parts}
use Rattle.controller_messages.specs.declared.request.Request.{Request}
use Rattle.controller_messages.specs.declared.request.Request.TheVariants as asks
use Rattle.controller_messages.specs.declared.setup.ControllerOptions.{ControllerOptions}
use Rattle.controller_messages.specs.declared.setup.Setup.{Setup}
use Rattle.controller_messages.specs.Heard.{Answers, Heard, Nothing, heard_of}
use Rattle.controller_messages.specs.Requests.{address_asked, write_count}
use Rattle.controller_messages.specs.Sent.{Requests, bytes_of}
use Rattle.controller_core.specs.declared.stored.state.State.{State as Phases}
use Rattle.controller_core.specs.declared.stored.state.State.TheVariants.{Addressing, Connecting}
use Rattle.controller_core.specs.stored.State.{Controlling, Live, is_writing, left_in, patience_in}
use Rattle.controller_core.specs.start_up.Answers.{ident_bytes, is_addressed, is_found, is_right}
use Rattle.controller_core.specs.Machine.{answered, asking, over, stays, step_of, stepped, turned}
use Rattle.controller_core.specs.declared.stored.state.Cause.TheVariants as cause
use Rattle.end_laws.specs.hearing.Hearing.{mine_hears}
use Rattle.rounds_law.specs.Path.{AllAnswered, Asks, AsksNext, FindsIt, IsSearching, IsSized, controller_step, hold_of}
use Rattle.rounds_law.specs.Start.{IsPatient}
use Rattle.rounds_law.proofs.SearchingSizes.{suites_same}

-- ---- it asks next

-- before its relation is established: it waits for nothing but the device, and was set up for the plan
record IsQuiet (setup : Setup) (device : Mac) (live : Live) : Type 0 where
  of_device : live.device ≡ device
  unrelated : live.stands ≡ false
  high : live.alarms.sending.waiting ≡ None
  low : live.low_alarms.sending.waiting ≡ None
  low_limit : 3200 ≤ live.low_alarms.sending.limit
  alone : AllAnswered live.access
  unbegun : live.cyclic.begun ≡ false
  limit : live.cyclic.hearing.limit ≡ hold_of setup.plan
  unwritten : is_writing live.phase ≡ false

few_writes_by : (multiple : Bool) (n : ℕ) → n ≤ 32 → (if multiple then (n + 9) / 10 else n) ≤ 32
few_writes_by true n few = omega arith
few_writes_by false n few = few

patient_by : (left patience count : ℕ) → left ≡ patience → (patience ≡ 0) ⊎ (count + 3 ≤ patience) → (left ≡ 0) ⊎ (count + 2 < left)
patient_by left patience count is (inl off) = inl (is ∙ off)
patient_by left patience count is (inr long) = inr (omega arith)

patience_left : (options : ControllerOptions) (left : ℕ) (before next : Phases) → is_writing before ≡ false → patience_in options next ≡ options.patience
    → left_in options left before next ≡ options.patience
patience_left options left before next unwritten is =
    ap (λ (writes : Bool). if writes && is_writing next then left else patience_in options next) unwritten ∙ is

asks_next : (setup : Setup) (identity : Identity) (controller : Controlling) (live : Live) (phase : Phases) (request : Request)
    → length setup.plan.records.items ≤ 32 → IsPatient setup.plan setup.options → controller.setup ≡ setup → IsQuiet setup identity.mac live
    → patience_in setup.options phase ≡ setup.options.patience
    → AsksNext setup identity phase request None (write_count setup.plan + 2) (stepped controller (asking setup phase request live))
asks_next setup identity controller live phase request few patient of_setup quiet limited = record {
  asks = record {
    of_setup = of_setup;
    in_phase = refl;
    asked = refl;
    of_device = quiet.of_device;
    unrepeated = let small : write_count setup.plan ≤ 32 = few_writes_by setup.plan.multiple_write (length setup.plan.records.items) few in omega arith;
    patient = patient_by _ setup.options.patience (write_count setup.plan)
        (patience_left setup.options live.left live.phase phase quiet.unwritten limited) patient;
    established = quiet.unrelated;
    route = tt;
    high = quiet.high;
    low = quiet.low;
    low_limit = quiet.low_limit;
    alone = quiet.alone;
    unbegun = quiet.unbegun;
    limit = quiet.limit;
  };
  frames = ap (λ (s : Setup). bytes_of s (Requests live.device request) ∷ []) of_setup
      ∙ ap (λ (m : Mac). bytes_of setup (Requests m request) ∷ []) quiet.of_device;
}

-- ---- the answer to the Identify

quiet_found : (setup : Setup) (device : Mac) (controller : Controlling) → IsSearching setup controller
    → IsQuiet setup device (record controller.live { device = device })
quiet_found setup device controller searches = record {
  of_device = refl;
  unrelated = searches.unestablished;
  high = searches.high;
  low = searches.low;
  low_limit = searches.low_limit;
  alone = searches.alone;
  unbegun = searches.unbegun;
  limit = searches.limit;
  unwritten = ap is_writing searches.in_phase;
}

pub found_by_name : (plan : Parts) (identity : Identity) (settings : Settings) → settings.name ≡ plan.station.name
    → is_found plan (identify_said identity settings 1) ≡ true
found_by_name plan identity settings same = ap (λ (name : List ℕ). pointwise nat_eq name plan.station.name) same ∙ nat_list_eq_equiv.refl plan.station.name

right_by_idents : (plan : Parts) (identity : Identity) (settings : Settings) → identity.vendor_id ≡ plan.station.vendor_id
    → identity.device_id ≡ plan.station.device_id → is_right plan (identify_said identity settings 1) ≡ true
right_by_idents plan identity settings vendor device =
    ap (λ (n : ℕ). pointwise nat_eq (to_be_bytes w16 n ++ to_be_bytes w16 identity.device_id) (ident_bytes plan.station)) vendor
    ∙ (ap (λ (n : ℕ). pointwise nat_eq (to_be_bytes w16 plan.station.vendor_id ++ to_be_bytes w16 n) (ident_bytes plan.station)) device
    ∙ nat_list_eq_equiv.refl (ident_bytes plan.station))

-- what is known of the set-up, the device's settings and the controller
record Meets (setup : Setup) (settings : Settings) (controller : Controlling) : Type 0 where
  few : length setup.plan.records.items ≤ 32
  patient : IsPatient setup.plan setup.options
  searches : IsSearching setup controller
  sized : IsSized settings.suite
  planned : IsSized setup.plan.station.suite

abbrev met : Controlling → Identity → Live
met controller identity = record controller.live { device = identity.mac }

-- it has the plan's IP suite, or another one
by_address : (setup : Setup) (identity : Identity) (settings : Settings) (controller : Controlling) → Meets setup settings controller → (there : Bool)
    → pointwise nat_eq (suite_bytes settings.suite) (suite_bytes setup.plan.station.suite) ≡ there
    → FindsIt setup identity settings (write_count setup.plan + 2)
    (stepped controller (if there then asking setup Connecting asks.Connect (met controller identity)
    else asking setup Addressing asks.Address (met controller identity)))
by_address setup identity settings controller meets true is = inl (
  suites_same settings.suite setup.plan.station.suite meets.sized meets.planned
      (same_text (suite_bytes settings.suite) (suite_bytes setup.plan.station.suite) (sym is)),
  asks_next setup identity controller (met controller identity) Connecting asks.Connect meets.few meets.patient meets.searches.of_setup
      (quiet_found setup identity.mac controller meets.searches) refl,
)
by_address setup identity settings controller meets false is = inr (
  (λ same.
      let alike : pointwise nat_eq (suite_bytes settings.suite) (suite_bytes setup.plan.station.suite) ≡ true =
      ap (λ (s : Suite). pointwise nat_eq (suite_bytes s) (suite_bytes setup.plan.station.suite)) same
      ∙ nat_list_eq_equiv.refl (suite_bytes setup.plan.station.suite) in
      absurd cc),
  asks_next setup identity controller (met controller identity) Addressing asks.Address meets.few meets.patient meets.searches.of_setup
      (quiet_found setup identity.mac controller meets.searches) refl,
)

by_answer : (setup : Setup) (identity : Identity) (settings : Settings) (controller : Controlling) → Meets setup settings controller → (is_it right : Bool)
    → is_it ≡ true → right ≡ true → FindsIt setup identity settings (write_count setup.plan + 2)
    (stepped controller (if is_it then (if right
    then (if is_addressed setup.plan (identify_said identity settings 1)
    then asking setup Connecting asks.Connect (met controller identity) else asking setup Addressing asks.Address (met controller identity))
    else stays (over cause.WrongDevice controller.live)) else stays controller.live))
by_answer setup identity settings controller meets true true it ok =
    by_address setup identity settings controller meets (pointwise nat_eq (suite_bytes settings.suite) (suite_bytes setup.plan.station.suite)) refl
by_answer setup identity settings controller meets true false it ok = absurd cc
by_answer setup identity settings controller meets false right it ok = absurd cc

-- a frame to this controller
pub mine_so : (mine : Controller) (heard : Heard) → mine_hears mine mine.mac heard ≡ heard
mine_so mine heard = ap (λ (is : Bool). if is then heard else Nothing) (nat_list_eq_equiv.refl mine.mac.octets)

-- the step of a controller that hears this
pub step_is : (setup : Setup) (controller : Controlling) (live : Live) (heard : Heard) (octets : List ℕ) → controller.setup ≡ setup → controller.live ≡ live
    → heard_of setup.plan.controller octets ≡ heard → controller_step controller octets ≡ stepped controller (turned setup live heard)
unfolding step_of
step_is setup controller live heard octets of_setup made is =
    ap (λ (s : Setup). stepped controller (turned s controller.live (heard_of s.plan.controller octets))) of_setup
    ∙ (ap (λ (l : Live). stepped controller (turned setup l (heard_of setup.plan.controller octets))) made
    ∙ ap (λ (h : Heard). stepped controller (turned setup live h)) is)

-- it finds its device
pub found_so : (setup : Setup) (identity : Identity) (settings : Settings) (controller : Controlling) (octets : List ℕ)
    → heard_of setup.plan.controller octets
    ≡ mine_hears setup.plan.controller setup.plan.controller.mac (Answers identity.mac (identify_said identity settings 1))
    → length setup.plan.records.items ≤ 32 → IsPatient setup.plan setup.options → IsSized setup.plan.station.suite
    → identity.vendor_id ≡ setup.plan.station.vendor_id → identity.device_id ≡ setup.plan.station.device_id
    → settings.name ≡ setup.plan.station.name → IsSized settings.suite → IsSearching setup controller
    → FindsIt setup identity settings (write_count setup.plan + 2) (controller_step controller octets)
found_so setup identity settings controller octets is few patient planned vendor device named sized searches =
    subst (FindsIt setup identity settings (write_count setup.plan + 2))
    (sym (step_is setup controller controller.live (Answers identity.mac (identify_said identity settings 1)) octets searches.of_setup refl
    (is ∙ mine_so setup.plan.controller (Answers identity.mac (identify_said identity settings 1)))
    ∙ ap (λ (p : Phases). stepped controller (answered setup controller.live identity.mac (identify_said identity settings 1) p)) searches.in_phase))
    (by_answer setup identity settings controller (record { few = few; patient = patient; searches = searches; sized = sized; planned = planned })
    (is_found setup.plan (identify_said identity settings 1)) (is_right setup.plan (identify_said identity settings 1))
    (found_by_name setup.plan identity settings named) (right_by_idents setup.plan identity settings vendor device))

-- ---- the answer to the Set of the IP suite

abbrev accepted_said : Setup → Answered
accepted_said setup = set_said (address_asked setup.plan) (error.Done ∷ [])

-- it asks for its relation
pub set_so : (setup : Setup) (identity : Identity) (controller : Controlling) (octets : List ℕ) (spare : ℕ)
    → heard_of setup.plan.controller octets ≡ mine_hears setup.plan.controller setup.plan.controller.mac (Answers identity.mac (accepted_said setup))
    → length setup.plan.records.items ≤ 32 → IsPatient setup.plan setup.options → Asks setup identity.mac Addressing asks.Address None spare controller
    → AsksNext setup identity Connecting asks.Connect None (write_count setup.plan + 2) (controller_step controller octets)
set_so setup identity controller octets spare is few patient waits =
    subst (AsksNext setup identity Connecting asks.Connect None (write_count setup.plan + 2))
    (sym (step_is setup controller controller.live (Answers identity.mac (accepted_said setup)) octets waits.of_setup refl
    (is ∙ mine_so setup.plan.controller (Answers identity.mac (accepted_said setup)))
    ∙ ap (λ (p : Phases). stepped controller (answered setup controller.live identity.mac (accepted_said setup) p)) waits.in_phase))
    (asks_next setup identity controller controller.live Connecting asks.Connect few patient waits.of_setup quiet refl)
  where
    quiet : IsQuiet setup identity.mac controller.live
    quiet = record {
      of_device = waits.of_device;
      unrelated = waits.established;
      high = waits.high;
      low = waits.low;
      low_limit = waits.low_limit;
      alone = waits.alone;
      unbegun = waits.unbegun;
      limit = waits.limit;
      unwritten = ap is_writing waits.in_phase;
    }
