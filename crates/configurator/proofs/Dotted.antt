-- A text in dotted decimal gives one address only.
use Rattle.std.proofs.Common.{◌≡◌, ◌↔◌, ℕ, true, ap, sym, subst, List, slice_index, Option, Some, None, IsSome, IfNone}
use Rattle.std.proofs.lemmas.Bool.{false≢true}
use Rattle.std.specs.declared.net.ipv4_addr.Ipv4Addr.{Ipv4Addr}
use Rattle.std.specs.Net.Addr.{ipv4_octets}
use Rattle.std.specs.Net.Grammar.{IsDotted}
use Rattle.std.proofs.NetLemmas.Theorems.{IsIpv4Text_unique}
use Rattle.pn_values.specs.IpSuite.{IsSuite, Suite, is_host}
use Rattle.catalogue.specs.Projects.{Controller, Project, Station}
use Rattle.configurator.specs.declared.addresses.Addresses.{Addresses}
use Rattle.configurator.specs.Addresses.{AreAddresses, IsHostOf, IsMacOf, IsSuiteOf}

-- the address of these octets
abbrev pub address_of : List ℕ → Ipv4Addr
address_of octets = record { octets = octets }

dotted_unique : (text a b : List ℕ) → IsDotted text a → IsDotted text b → a ≡ b
dotted_unique text a b one other = ap ipv4_octets (IsIpv4Text_unique text (address_of a) (address_of b) one other)

-- the texts of a station give one suite only
suite_valid : (station : Station) (address mask gateway : List ℕ) → IsDotted station.address address → IsDotted station.mask mask → IsDotted station.gateway gateway
    → (suite : Suite) → IsSuiteOf station suite → IsSuite (record { address = address; mask = mask; gateway = gateway })
suite_valid station address mask gateway one two three suite given =
    let a = dotted_unique station.address suite.address address given.address one in
    let b = dotted_unique station.mask suite.mask mask given.mask two in
    let c = dotted_unique station.gateway suite.gateway gateway given.gateway three in
    let same : suite ≡ record { address = address; mask = mask; gateway = gateway } = λ i. record { address = a i; mask = b i; gateway = c i } in
    subst IsSuite same given.valid

-- if one of the texts is not an address, the station has no suite
pub no_address : (station : Station) (text : List ℕ) → text ≡ station.address → ((octets : List ℕ) → ¬ IsDotted text octets) → (suite : Suite) → ¬ IsSuiteOf station suite
no_address station text is none suite given = none suite.address (subst (λ (t : List ℕ). IsDotted t suite.address) (sym is) given.address)

pub no_mask : (station : Station) (text : List ℕ) → text ≡ station.mask → ((octets : List ℕ) → ¬ IsDotted text octets) → (suite : Suite) → ¬ IsSuiteOf station suite
no_mask station text is none suite given = none suite.mask (subst (λ (t : List ℕ). IsDotted t suite.mask) (sym is) given.mask)

pub no_gateway : (station : Station) (text : List ℕ) → text ≡ station.gateway → ((octets : List ℕ) → ¬ IsDotted text octets) → (suite : Suite) → ¬ IsSuiteOf station suite
no_gateway station text is none suite given = none suite.gateway (subst (λ (t : List ℕ). IsDotted t suite.gateway) (sym is) given.gateway)

-- three addresses that are not a valid suite
pub no_suite : (station : Station) (ta tm tg address mask gateway : List ℕ) → ta ≡ station.address → tm ≡ station.mask → tg ≡ station.gateway
    → IsDotted ta address → IsDotted tm mask → IsDotted tg gateway
    → (o : Option Suite) → IsSome o ↔ IsSuite (record { address = address; mask = mask; gateway = gateway })
    → IfNone o ((suite : Suite) → ¬ IsSuiteOf station suite)
no_suite station ta tm tg address mask gateway one two three da dm dg (Some suite) valid = tt
no_suite station ta tm tg address mask gateway one two three da dm dg None valid = λ suite given.
    false≢true (valid.1 (suite_valid station address mask gateway (subst (λ (t : List ℕ). IsDotted t address) one da) (subst (λ (t : List ℕ). IsDotted t mask) two dm)
    (subst (λ (t : List ℕ). IsDotted t gateway) three dg) suite given))

-- an address that is not that of a host
pub host_is : (controller : Controller) (text address : List ℕ) → text ≡ controller.address → IsDotted text address → (other : List ℕ) → IsHostOf controller other
    → is_host (slice_index address 0) ≡ true
host_is controller text address is one other given =
    subst (λ (octets : List ℕ). is_host (slice_index octets 0) ≡ true)
    (dotted_unique controller.address other address given.spelled (subst (λ (t : List ℕ). IsDotted t address) is one)) given.host

pub no_host : (controller : Controller) (text : List ℕ) → text ≡ controller.address → ((octets : List ℕ) → ¬ IsDotted text octets) → (other : List ℕ) → ¬ IsHostOf controller other
no_host controller text is none other given = none other (subst (λ (t : List ℕ). IsDotted t other) (sym is) given.spelled)

-- a controller without an Ethernet address
pub no_mac : (project : Project) (controller : Controller) → controller ≡ project.controller → ((octets : List ℕ) → ¬ IsMacOf controller octets) → (found : Addresses)
    → ¬ AreAddresses project found
no_mac project controller is none found given = none found.mac.octets (subst (λ (entry : Controller). IsMacOf entry found.mac.octets) (sym is) given.mac)

gone : {A : Type 0} (o : Option A) (P : Type 0) → o ≡ None → IfNone o P → P
gone None P e is = is
gone (Some value) P e is = absurd cc

-- a project whose addresses are not found has no valid ones
pub none_of : (project other : Project) (o : Option Addresses) → other ≡ project → o ≡ None → IfNone o ((found : Addresses) → ¬ AreAddresses other found) → (found : Addresses)
    → ¬ AreAddresses project found
none_of project other o is e none = subst (λ (entry : Project). (found : Addresses) → ¬ AreAddresses entry found) is (gone o _ e none)

-- a fact that holds, holds if there is no value
pub if_none : {A : Type 0} (o : Option A) (P : Type 0) → P → IfNone o P
if_none None P is = is
if_none (Some value) P is = tt
