-- The names and addresses of a project.
use Rattle.std.specs.Prelude.{◌≡◌, ◌%◌, ◌==◌, ◌&&◌, ℕ, Bool, true, List, [], ◌∷◌, length, slice_index, Option, Some, None, if◌then◌else◌}
use Rattle.std.specs.Result.{result_ok}
use Rattle.std.specs.Net.Grammar.{IsDotted}
use Rattle.hex.specs.Hex.{decode_sized}
use Rattle.pn_values.specs.StationName.{IsStationName}
use Rattle.pn_values.specs.IpSuite.{IsSuite, Suite, is_host}
use Rattle.catalogue.specs.Projects.{Controller, Project, Station}
use Rattle.configurator.specs.declared.addresses.Addresses.{Addresses}

-- both names are valid station names
pub record AreNamed (project : Project) : Type 0 where
  pub station : IsStationName project.station.name
  pub controller : IsStationName project.controller.name

-- six pairs of hex digits with hyphens between them: the length, the places of the hyphens, and the digits
abbrev pub is_parted : List ℕ → Bool
is_parted text =
    length text == 17
    && slice_index text 2 == 45
    && slice_index text 5 == 45
    && slice_index text 8 == 45
    && slice_index text 11 == 45
    && slice_index text 14 == 45

-- The twelve hex digits of a MAC address that is written in six pairs.
abbrev pub digits_of : List ℕ → List ℕ
digits_of text =
    slice_index text 0 ∷ slice_index text 1 ∷ slice_index text 3 ∷ slice_index text 4 ∷ slice_index text 6 ∷ slice_index text 7
    ∷ slice_index text 9 ∷ slice_index text 10 ∷ slice_index text 12 ∷ slice_index text 13 ∷ slice_index text 15 ∷ slice_index text 16 ∷ []

-- the octets of such a text
abbrev pub mac_of : List ℕ → Option (List ℕ)
mac_of text = if is_parted text then result_ok (decode_sized (digits_of text) 6) else None

-- an IP suite that a station may have, in dotted decimal
pub record IsSuiteOf (station : Station) (suite : Suite) : Type 0 where
  pub address : IsDotted station.address suite.address
  pub mask : IsDotted station.mask suite.mask
  pub gateway : IsDotted station.gateway suite.gateway
  pub valid : IsSuite suite

-- the Ethernet address of one station: its first octet is even
pub record IsMacOf (controller : Controller) (octets : List ℕ) : Type 0 where
  pub spelled : mac_of controller.mac ≡ Some octets
  pub alone : slice_index octets 0 % 2 ≡ 0

-- the IP address of a host
pub record IsHostOf (controller : Controller) (address : List ℕ) : Type 0 where
  pub spelled : IsDotted controller.address address
  pub host : is_host (slice_index address 0) ≡ true

-- the addresses of a project
pub record AreAddresses (project : Project) (found : Addresses) : Type 0 where
  pub suite : IsSuiteOf project.station found.suite
  pub mac : IsMacOf project.controller found.mac.octets
  pub host : IsHostOf project.controller found.address
