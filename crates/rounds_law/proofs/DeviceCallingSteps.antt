-- What a device does with a datagram, and what it hears of the datagrams of the plan's controller.
use Rattle.std.proofs.Common.{◌≡◌, ◌==◌, ◌&&◌, ◌||◌, ◌<◌, ℕ, nat_eq, Bool, true, false, List, [], map, Option, Some, None, refl, ap, ◌∙◌, arith}
use Rattle.std.specs.Prelude.{nat_lt, not, take, if◌then◌else◌}
use Rattle.std.specs.Cmp.Lexicographic.{pointwise}
use Rattle.std.proofs.lemmas.Bool.Decides.{nat_tests}
use Rattle.std.proofs.lemmas.Cmp.{nat_list_eq_equiv}
use Rattle.pn_values.specs.declared.identity.Identity.{Identity}
use Rattle.pn_values.specs.declared.mac.Mac.{Mac}
use Rattle.pn_values.specs.IpSuite.{is_zero}
use Rattle.frame_codec.specs.declared.udp.Caller.{Caller}
use Rattle.frame_codec.specs.declared.udp.Endpoint.{Endpoint}
use Rattle.frame_codec.specs.Calls.{calls_at}
use Rattle.rpc_core.specs.Cache.{Kept, is_of, kept_more, kept_of, looked, new, reported_by, without}
use Rattle.rpc_core.specs.Cache as cache
use Rattle.settings_journal.specs.settings_store.Machine.{Outcome}
use Rattle.relations.specs.declared.phase.Partner.{Partner}
use Rattle.relations.specs.RelationState.{RelationState, is_alive, is_from}
use Rattle.device_frames.specs.declared.note.Note.TheVariants as note
use Rattle.device_frames.specs.Heard.{Heard, Reported, Said, heard_of, is_own}
use Rattle.device_frames.specs.Heard as heard
use Rattle.device_frames.specs.Sent.{Sent, bytes_of}
use Rattle.device_core.specs.State.{Live, Rest, Station}
use Rattle.device_core.specs.Handled.{Handled, Moves, Refuses, handled_said, is_running}
use Rattle.device_core.specs.Machine.{Stepped, handled_step, heard_step}
use Rattle.controller_messages.specs.declared.setup.Setup.{Setup}
use Rattle.end_laws.specs.hearing.Hearing.{comes, own_reported}
use Rattle.rounds_law.specs.Path.{IsAddressed, device_step}
use Rattle.rounds_law.proofs.Choices.{where_so}

-- ---- a step

-- the step that ends in this rest and sends this
abbrev pub moved : Station → Live → Rest → List Sent → Stepped
moved station live rest sent = record {
  live = record { values = live.values; rest = rest };
  sent = sent;
  frames = map (bytes_of station.identity) sent;
  note = note.Done;
  accepted = [];
}

pub step_is : (outcomes : List Outcome) (station : Station) (live : Live) (octets : List ℕ) (caller : Caller) (address : List ℕ) (said : Said)
    (rest : Rest) (sent : List Sent) → heard_of station.identity (comes octets) ≡ Reported caller address said → is_running live.values.running address ≡ true
    → handled_said station live caller said ≡ Moves rest sent → device_step outcomes station live octets ≡ moved station live rest sent
unfolding heard_step handled_step
step_is outcomes station live octets caller address said rest sent hears running handles =
    ap (λ (h : Heard). heard_step outcomes station live h) hears
    ∙ ap (λ (what : Handled). handled_step outcomes station live what)
    (where_so (is_running live.values.running address) (handled_said station live caller said) (Refuses note.NotMine) running ∙ handles)

-- ---- what is heard

-- a datagram to the device and the port of calls is heard
pub own_heard : (identity : Identity) (source : Mac) (from : Endpoint) (address : List ℕ) (said : Said)
    → own_reported identity source identity.mac from (calls_at address) said ≡ Reported (record { mac = source; endpoint = from }) address said
own_heard identity source from address said =
    where_so (is_own identity identity.mac && 34964 == 34964) (Reported (record { mac = source; endpoint = from }) address said) heard.Elsewhere
    (ap (λ (b : Bool). b && 34964 == 34964) (nat_list_eq_equiv.refl identity.mac.octets))

-- the plan's address is the running one
pub address_runs : (setup : Setup) (live : Live) → IsAddressed setup live → is_zero setup.plan.station.suite.address ≡ false
    → is_running live.values.running setup.plan.station.suite.address ≡ true
address_runs setup live addressed some =
    let address = setup.plan.station.suite.address in
    ap (λ s. pointwise nat_eq address s.address && not (is_zero address)) addressed.suite
    ∙ (ap (λ (b : Bool). b && not (is_zero address)) (nat_list_eq_equiv.refl address) ∙ ap (λ (b : Bool). not b) some)

-- ---- the answers that are stored

-- the newest is found
pub kept_first : (kept : Kept) (others : List Kept) → kept_of kept.activity (kept_more 4 kept others) ≡ Some kept
kept_first kept others =
    where_so (is_of kept.activity kept) (Some kept) (kept_of kept.activity (take 3 (without kept.activity others))) (nat_list_eq_equiv.refl kept.activity)

differs : (a b : ℕ) → a < b → (b == a) ≡ false
differs a b less = grind (arith, nat_tests)

not_less : (a b : ℕ) → a < b → nat_lt b a ≡ false
not_less a b less = grind (arith, nat_tests)

-- a call without a stored answer is new, and so is a later one
pub first_new : (activity : List ℕ) (sequence : ℕ) (calls : List Kept) → kept_of activity calls ≡ None → looked activity sequence calls ≡ new
first_new activity sequence calls none = ap (λ (o : Option Kept). reported_by sequence o) none

pub later_new : (activity : List ℕ) (sequence : ℕ) (calls : List Kept) (kept : Kept) → kept_of activity calls ≡ Some kept → kept.sequence < sequence
    → looked activity sequence calls ≡ new
later_new activity sequence calls kept answered later =
    ap (λ (o : Option Kept). reported_by sequence o) answered
    ∙ (ap (λ (b : Bool). if b then cache.again kept.frame else (if nat_lt sequence kept.sequence then cache.old else new))
    (differs kept.sequence sequence later)
    ∙ ap (λ (b : Bool). if b then cache.old else new) (not_less kept.sequence sequence later))

-- ---- the partner of a relation is alive by its calls

or_true : (b : Bool) → (b || true) ≡ true
or_true true = refl
or_true false = refl

from_itself : (partner : Partner) → is_from partner partner ≡ true
from_itself partner =
    ap (λ (b : Bool). b && pointwise nat_eq partner.address partner.address) (nat_list_eq_equiv.refl partner.mac.octets)
    ∙ nat_list_eq_equiv.refl partner.address

pub partner_alive : (link : RelationState) → is_alive link.partner link ≡ true
partner_alive link = ap (λ (b : Bool). not link.options.only_own_controller || b) (from_itself link.partner) ∙ or_true (not link.options.only_own_controller)
