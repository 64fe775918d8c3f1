-- DCP and ARP, from one end to the other.
use Rattle.std.proofs.Common.{◌≡◌, ◌≤◌, ◌<◌, ◌+◌, ◌%◌, ◌||◌, ◌&&◌, nat_eq, ℕ, true, false, if◌then◌else◌, List, ◌++◌, length, None, Result, Ok, refl, ap, ◌∙◌, arith}
use Rattle.std.specs.Cmp.Lexicographic.{pointwise}
use Rattle.std.specs.Int.{to_be_bytes, w16}
use Rattle.std.proofs.lemmas.List.{length-append}
use Rattle.std.proofs.Math.Nat.{mod-lt}
use Rattle.pn_values.specs.declared.identity.Identity.{Identity}
use Rattle.pn_values.specs.declared.mac.Mac.{Mac}
use Rattle.pn_values.specs.IpSuite.{Suite}
use Rattle.frame_codec.specs.Meaning.{RealTime}
use Rattle.frame_codec.specs.Frame.{padding_of}
use Rattle.dcp_core.specs.declared.request.DcpFault.{DcpFault}
use Rattle.dcp_core.specs.declared.kind.Kind.TheVariants.{NameOfStation}
use Rattle.dcp_core.specs.declared.request.Service.TheVariants.{Identify}
use Rattle.dcp_core.specs.Identify.{suite_bytes}
use Rattle.dcp_core.specs.Format.{block, block_of, frame_id_of, kind}
use Rattle.dcp_core.specs.Reading.{request_of}
use Rattle.dcp_core.specs.Request.{Asked}
use Rattle.dcp_core.specs.Writing.{request_bytes}
use Rattle.plans.specs.declared.parts.Parts.{Parts}
use Rattle.plans.specs.Plan.{IsPlan}
use Rattle.device_frames.specs.Heard.{Asks, Elsewhere, Heard, heard_request, heard_of as device_hears, identify_multicast as cast, is_own}
use Rattle.controller_messages.specs.declared.request.Request.TheVariants as asks
use Rattle.controller_messages.specs.declared.setup.Setup.{Setup}
use Rattle.controller_messages.specs.Requests.{address_asked, identify_asked}
use Rattle.controller_messages.specs.Sent.{Requests, bytes_of as controller_bytes, identify_multicast}
use Rattle.frame_codec.specs.Sendable.{CanBeSent, IsMac, carrying}
use Rattle.dcp_core.specs.Sendable.{CanBeAsked}
use Rattle.end_laws.specs.hearing.Hearing.{comes, own_hears}
use Rattle.end_laws.specs.hearing.Stations.{IsSetup}
use Rattle.end_laws.proofs.HearingGiven.{DataIsRead}
use Rattle.end_laws.proofs.HearingChoices.{cast_chosen, own_chosen}
use Rattle.end_laws.proofs.HearingDevice.{data_heard}

-- a written request is read back, and fits a frame
abbrev pub RequestsAreRead : Type 0
RequestsAreRead = (asked : Asked) (more : List ℕ) → CanBeAsked asked → request_of (frame_id_of asked.service) (request_bytes asked ++ more) ≡ Ok asked

abbrev pub RequestsAreShort : Type 0
RequestsAreShort = (asked : Asked) → CanBeAsked asked → length (request_bytes asked) ≤ 1498

-- ---- the requests of a plan

identify_size : (plan : Parts) → (block_of Identify).size (record { kind = NameOfStation; contents = plan.station.name }) ≡ 4 + length plan.station.name + length plan.station.name % 2
unfolding block_of block kind
identify_size plan = omega arith

identify_can : (plan : Parts) → IsPlan plan → CanBeAsked (identify_asked plan)
identify_can plan is =
    let short = is.good.named.short in
    let odd : length plan.station.name % 2 < 2 = mod-lt (length plan.station.name) (omega arith) in
    record {
      named = (((refl, omega arith, omega arith), tt), omega (arith, identify_size plan, short, odd));
      few = omega arith;
      xid = omega arith;
    }

suite_long : (suite : Suite) → length suite.address ≡ 4 → length suite.mask ≡ 4 → length suite.gateway ≡ 4 → length (to_be_bytes w16 0 ++ suite_bytes suite) ≡ 14
suite_long suite one two three =
    let whole = length-append (to_be_bytes w16 0) ((suite.address ++ suite.mask) ++ suite.gateway) in
    let both = length-append (suite.address ++ suite.mask) suite.gateway in
    let first = length-append suite.address suite.mask in
    let qualifier : length (to_be_bytes w16 0) ≡ 2 = refl in
    whole ∙ omega (arith, both, first, qualifier, one, two, three)

address_can : (setup : Setup) → IsSetup setup → CanBeAsked (address_asked setup.plan)
unfolding block_of block kind
address_can setup is =
    let suite = setup.plan.station.suite in
    let long : length (to_be_bytes w16 0 ++ suite_bytes suite) ≡ 14 = suite_long suite is.station is.mask is.gateway in
    record {
      named = ((((refl, omega arith, omega arith), omega (arith, long)), tt), omega (arith, long));
      few = omega arith;
      xid = omega arith;
    }

-- ---- the Identify, to all stations

all_is : IsMac identify_multicast
unfolding identify_multicast
all_is = refl

cast_is : (identity : Identity) (a b : Heard)
    → (if (false && is_own identity identify_multicast) || (true && (is_own identity identify_multicast || pointwise nat_eq identify_multicast.octets cast)) then a else b) ≡ a
unfolding identify_multicast
cast_is identity a b = cast_chosen _ a b

pub identify_heard : DataIsRead → RequestsAreRead → RequestsAreShort → (identity : Identity) (setup : Setup) (to : Mac) → IsSetup setup
    → device_hears identity (comes (controller_bytes setup (Requests to asks.Identify))) ≡ Asks setup.plan.controller.mac (identify_asked setup.plan)
identify_heard reads asked short identity setup to is =
    let source = setup.plan.controller.mac in
    let can = identify_can setup.plan is.plan in
    let body = request_bytes (identify_asked setup.plan) in
    let sent : CanBeSent (carrying identify_multicast source None (RealTime 0xFEFE body)) =
    record { destination = all_is; source = is.mac; tag = tt; content = (omega arith, short (identify_asked setup.plan) can) } in
    data_heard reads identity identify_multicast source None 0xFEFE body sent ∙ cast_is identity _ _
    ∙ ap (λ (r : Result Asked DcpFault). heard_request source r) (asked (identify_asked setup.plan) (padding_of (carrying identify_multicast source None (RealTime 0xFEFE body))) can)

-- ---- the Set, to one

pub address_heard : DataIsRead → RequestsAreRead → RequestsAreShort → (identity : Identity) (setup : Setup) (to : Mac) → IsSetup setup → IsMac to
    → device_hears identity (comes (controller_bytes setup (Requests to asks.Address)))
    ≡ own_hears identity to (Asks setup.plan.controller.mac (address_asked setup.plan))
address_heard reads asked short identity setup to is mac =
    let source = setup.plan.controller.mac in
    let can = address_can setup is in
    let body = request_bytes (address_asked setup.plan) in
    let sent : CanBeSent (carrying to source None (RealTime 0xFEFD body)) =
    record { destination = mac; source = is.mac; tag = tt; content = (omega arith, short (address_asked setup.plan) can) } in
    data_heard reads identity to source None 0xFEFD body sent ∙ own_chosen (is_own identity to) (pointwise nat_eq to.octets cast) _ _ _ Elsewhere
    ∙ ap (λ (r : Result Asked DcpFault). own_hears identity to (heard_request source r)) (asked (address_asked setup.plan) (padding_of (carrying to source None (RealTime 0xFEFD body))) can)
