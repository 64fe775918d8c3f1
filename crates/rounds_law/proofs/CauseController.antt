-- A controller that ends.
use Rattle.std.proofs.Common.{◌≡◌, inl, inr, ◌<◌, ◌≤◌, ◌==◌, ◌&&◌, ◌++◌, ℕ, Bool, true, false, List, [], ◌∷◌, length, refl, sym, ap, subst, ◌∙◌, None}
use Rattle.std.proofs.Common.{arith, nat_eq}
use Rattle.std.specs.Prelude.{if◌then◌else◌}
use Rattle.std.specs.Cmp.Lexicographic.{pointwise, same_text}
use Rattle.std.specs.Int.{w16, from_be_bytes, to_be_bytes}
use Rattle.std.proofs.lemmas.Nat.{from_be_bytes-to_be_bytes_2}
use Rattle.pn_values.specs.declared.identity.Identity.{Identity}
use Rattle.pn_values.specs.declared.settings.Settings.{Settings}
use Rattle.pn_values.specs.declared.set_item.BlockError.{BlockError}
use Rattle.dcp_core.specs.Reported.{identify_said, set_said}
use Rattle.dcp_core.specs.Set.{set_bytes}
use Rattle.controller_messages.specs.declared.request.Request.TheVariants as asks
use Rattle.controller_messages.specs.declared.setup.Setup.{Setup}
use Rattle.controller_messages.specs.Requests.{address_asked}
use Rattle.controller_messages.specs.Heard.{Answers, heard_of}
use Rattle.controller_core.specs.declared.stored.event.Event.TheVariants.{Tick}
use Rattle.controller_core.specs.declared.stored.state.Cause.{Cause}
use Rattle.controller_core.specs.declared.stored.state.Cause.TheVariants as cause
use Rattle.controller_core.specs.declared.stored.state.State.{State}
use Rattle.controller_core.specs.declared.stored.state.State.TheVariants.{Addressing, Connecting, Ended}
use Rattle.controller_core.specs.stored.State.{Controlling, Live, is_limited}
use Rattle.controller_core.specs.start_up.Answers.{ident_bytes, is_addressed, is_found, is_right}
use Rattle.controller_core.specs.Machine.{Stepped, Turn, answered, asking, brought, exchange_later, first as first_live, flowed, gone_on}
use Rattle.controller_core.specs.Machine.{is_again, later, over, quit, requests_of, stays, step_of, stepped, turn_due, where_due}
use Rattle.end_laws.specs.hearing.Hearing.{mine_hears}
use Rattle.pn_alarms.specs.Sending.{due}
use Rattle.rounds_law.specs.Causes.{EndedWith, IsOther, IsUnstored}
use Rattle.rounds_law.specs.Path.{Asks, controller_step}
use Rattle.rounds_law.proofs.PlaceTurns.{undue, without_relation}
use Rattle.rounds_law.proofs.SearchingController.{found_by_name, mine_so, step_is}

-- ---- it stays ended

-- a unit of a controller whose relation is not established
unrelated_unit : (controller : Controlling) (why : Cause) → controller.live.phase ≡ Ended why → controller.live.stands ≡ false
    → (step_of controller Tick).controller.live ≡ later controller.live
unfolding step_of
unrelated_unit controller why ended unrelated =
    let live = controller.live in
    let setup = controller.setup in
    ap (λ (p : State). (if is_limited p && live.left == 1
    then quit setup cause.NoProgress (later live) live.phase
    else gone_on (turn_due setup (is_again live) (later live)) (is_again live)).live) ended
    ∙ ap (λ (l : Live). (gone_on l (is_again live)).live) (undue setup (is_again live) (later live) (without_relation (later live) unrelated))
    ∙ ap (λ (b : Bool). (if b
    then flowed (exchange_later (later live)) (due live.alarms.sending) (due live.low_alarms.sending) (is_again live)
    (brought (later live)) (brought (later live)).ending
    else record { live = later live; sent = where_due (is_again live) (requests_of live.device live.asked) }).live) unrelated

pub ended_unit : (why : Cause) (controller : Controlling) → EndedWith why controller → EndedWith why (step_of controller Tick).controller
ended_unit why controller ended =
    let is = unrelated_unit controller why ended.in_phase ended.unestablished in
    record {
      in_phase = ap (λ (live : Live). live.phase) is ∙ ended.in_phase;
      unestablished = ap (λ (live : Live). live.stands) is ∙ ended.unestablished;
    }

-- ---- another device

-- two numbers of two octets each are known by their octets
abbrev ids : ℕ → ℕ → List ℕ
ids vendor device = to_be_bytes w16 vendor ++ to_be_bytes w16 device

abbrev first_two : List ℕ → List ℕ
first_two (a ∷ b ∷ others) = a ∷ b ∷ []
first_two octets = []

abbrev next_two : List ℕ → List ℕ
next_two (a ∷ b ∷ others) = others
next_two octets = []

number_read : (n m : ℕ) → n < 65536 → m < 65536 → to_be_bytes w16 n ≡ to_be_bytes w16 m → n ≡ m
number_read n m small other same =
    sym (from_be_bytes-to_be_bytes_2 n small) ∙ (ap (from_be_bytes w16) same ∙ from_be_bytes-to_be_bytes_2 m other)

vendor_read : (a b c d : ℕ) → a < 65536 → c < 65536 → ids a b ≡ ids c d → a ≡ c
vendor_read a b c d small other same = number_read a c small other (ap first_two same)

device_read : (a b c d : ℕ) → b < 65536 → d < 65536 → ids a b ≡ ids c d → b ≡ d
device_read a b c d small other same = number_read b d small other (ap next_two same)

-- VendorID and DeviceID have two octets each
pub record AreShort (setup : Setup) (identity : Identity) : Type 0 where
  pub vendor : identity.vendor_id < 65536
  pub device : identity.device_id < 65536
  pub plan_vendor : setup.plan.station.vendor_id < 65536
  pub plan_device : setup.plan.station.device_id < 65536

not_same : (setup : Setup) (identity : Identity) → AreShort setup identity → IsOther setup identity
    → ids identity.vendor_id identity.device_id ≡ ident_bytes setup.plan.station → ⊥
not_same setup identity short (inl vendor) same =
    vendor (vendor_read identity.vendor_id identity.device_id setup.plan.station.vendor_id setup.plan.station.device_id short.vendor short.plan_vendor same)
not_same setup identity short (inr device) same =
    device (device_read identity.vendor_id identity.device_id setup.plan.station.vendor_id setup.plan.station.device_id short.device short.plan_device same)

not_right : (setup : Setup) (identity : Identity) (settings : Settings) → AreShort setup identity → IsOther setup identity
    → is_right setup.plan (identify_said identity settings 1) ≡ false
not_right setup identity settings short other =
    by_test (pointwise nat_eq (ids identity.vendor_id identity.device_id) (ident_bytes setup.plan.station)) refl
  where
    by_test : (same : Bool) → pointwise nat_eq (ids identity.vendor_id identity.device_id) (ident_bytes setup.plan.station) ≡ same
        → is_right setup.plan (identify_said identity settings 1) ≡ false
    by_test true is =
        absurd (not_same setup identity short other
        (same_text (ids identity.vendor_id identity.device_id) (ident_bytes setup.plan.station) (sym is)))
    by_test false is = is

abbrev found_right : Setup → Identity → Settings → Turn
found_right setup identity settings =
    if is_addressed setup.plan (identify_said identity settings 1)
    then asking setup Connecting asks.Connect (record (first_live setup.plan) { device = identity.mac })
    else asking setup Addressing asks.Address (record (first_live setup.plan) { device = identity.mac })

wrong_by : (setup : Setup) (identity : Identity) (settings : Settings) (controller : Controlling) (is_it right : Bool) → is_it ≡ true → right ≡ false
    → EndedWith cause.WrongDevice (stepped controller (if is_it then (if right
    then found_right setup identity settings
    else stays (over cause.WrongDevice (first_live setup.plan))) else stays (first_live setup.plan))).controller
wrong_by setup identity settings controller true false it not = record { in_phase = refl; unestablished = refl }
wrong_by setup identity settings controller true true it not = absurd cc
wrong_by setup identity settings controller false right it not = absurd cc

pub other_so : (setup : Setup) (identity : Identity) (settings : Settings) (controller : Controlling) (octets : List ℕ)
    → heard_of setup.plan.controller octets
    ≡ mine_hears setup.plan.controller setup.plan.controller.mac (Answers identity.mac (identify_said identity settings 1))
    → AreShort setup identity → IsOther setup identity → settings.name ≡ setup.plan.station.name
    → controller.setup ≡ setup → controller.live ≡ first_live setup.plan
    → EndedWith cause.WrongDevice (controller_step controller octets).controller
other_so setup identity settings controller octets is short other named of_setup made =
    subst (λ (s : Stepped). EndedWith cause.WrongDevice s.controller)
    (sym (step_is setup controller (first_live setup.plan) (Answers identity.mac (identify_said identity settings 1)) octets of_setup made
    (is ∙ mine_so setup.plan.controller (Answers identity.mac (identify_said identity settings 1)))))
    (wrong_by setup identity settings controller (is_found setup.plan (identify_said identity settings 1))
    (is_right setup.plan (identify_said identity settings 1))
    (found_by_name setup.plan identity settings named) (not_right setup identity settings short other))

-- ---- an IP suite that is not stored

-- such an answer ends it
unset_by : (setup : Setup) (identity : Identity) (live : Live) (error : BlockError) → IsUnstored error
    → answered setup live identity.mac (set_said (address_asked setup.plan) (error ∷ [])) Addressing ≡ stays (over cause.Refused live)
unset_by setup identity live error (inl local) =
    ap (λ (e : BlockError). answered setup live identity.mac (set_said (address_asked setup.plan) (e ∷ [])) Addressing) local
unset_by setup identity live error (inr exhausted) =
    ap (λ (e : BlockError). answered setup live identity.mac (set_said (address_asked setup.plan) (e ∷ [])) Addressing) exhausted

pub unset_short : (setup : Setup) (error : BlockError) → IsUnstored error → length (set_bytes (address_asked setup.plan) (error ∷ [])) ≤ 1498
unfolding set_bytes
unset_short setup error unstored = omega arith

pub unstored_so : (setup : Setup) (identity : Identity) (controller : Controlling) (octets : List ℕ) (spare : ℕ) (error : BlockError)
    → heard_of setup.plan.controller octets
    ≡ mine_hears setup.plan.controller setup.plan.controller.mac (Answers identity.mac (set_said (address_asked setup.plan) (error ∷ [])))
    → IsUnstored error → Asks setup identity.mac Addressing asks.Address None spare controller
    → EndedWith cause.Refused (controller_step controller octets).controller
unstored_so setup identity controller octets spare error is unstored waits =
    let said = set_said (address_asked setup.plan) (error ∷ []) in
    let steps = step_is setup controller controller.live (Answers identity.mac said) octets waits.of_setup refl
    (is ∙ mine_so setup.plan.controller (Answers identity.mac said))
    ∙ (ap (λ (p : State). stepped controller (answered setup controller.live identity.mac said p)) waits.in_phase
    ∙ ap (stepped controller) (unset_by setup identity controller.live error unstored)) in
    record {
      in_phase = ap (λ (s : Stepped). s.controller.live.phase) steps;
      unestablished = ap (λ (s : Stepped). s.controller.live.stands) steps;
    }
