-- The contents of the responses that this crate writes.
use Rattle.std.specs.Prelude.{◌≡◌, ◌==◌, ◌<◌, ◌≤◌, ◌^◌, ℕ, true, List, [], ◌∷◌, ◌++◌, length, map, if◌then◌else◌, Option, Some, None}
use Rattle.std.specs.List.{list_all, zip}
use Rattle.pn_values.specs.declared.set_item.BlockError.{BlockError}
use Rattle.pn_values.specs.declared.identity.Identity.{Identity}
use Rattle.pn_values.specs.declared.settings.Settings.{Settings}
use Rattle.dcp_core.specs.declared.kind.Kind.{Kind}
use Rattle.dcp_core.specs.declared.kind.Kind.TheVariants.{IpSuite, StationType, NameOfStation, DeviceId, DeviceRole, DeviceOptions, DeviceInstance}
use Rattle.dcp_core.specs.declared.request.Service.{Service}
use Rattle.dcp_core.specs.declared.request.Service.TheVariants.{Get, Set, Identify}
use Rattle.dcp_core.specs.declared.response.Outcome.TheVariants.{Known}
use Rattle.dcp_core.specs.Kinds.{kind_of, option_of, suboption_of, blame}
use Rattle.dcp_core.specs.Request.{Asked, AskedBlock}
use Rattle.dcp_core.specs.Response.{Answered, AnsweredBlock, reported, came_out}
use Rattle.dcp_core.specs.Identify.{value_of, suite_bytes}
use Rattle.dcp_core.specs.Get.{firsts_of}

-- the kind that the Option and Suboption of a kind name; a kind of a request that was read is itself
abbrev pub named : Kind → Kind
named kind = kind_of (option_of kind) (suboption_of kind)

-- BlockInfo: 1 if an address is set, else 0
abbrev pub info_number : Settings → Kind → ℕ
info_number settings IpSuite = if list_all (λ octet. octet == 0) (suite_bytes settings.suite) then 0 else 1
info_number settings kind = 0

-- what a station reports of a kind: its value, or the error that says why it has none
abbrev pub reported_of : Identity → Settings → Option (List ℕ) → Kind → AnsweredBlock
reported_of identity settings alias kind = elim (value_of identity settings alias kind) [
  | Some value ↦ reported kind (info_number settings kind) value
  | None ↦ came_out (named kind) (Known (blame kind))
]

-- the outcome of a block of a Set
abbrev pub outcome_reported : AskedBlock × BlockError → AnsweredBlock
outcome_reported pair = came_out (named pair.0.kind) (Known pair.1)

-- a response of a supported service
abbrev pub supported : Service → ℕ → List AnsweredBlock → Answered
supported service xid blocks = record { service = service; is_supported = true; xid = xid; blocks = blocks }

-- the kinds of the blocks with which a station identifies itself
abbrev pub identify_kinds : List Kind
identify_kinds = StationType ∷ NameOfStation ∷ DeviceId ∷ DeviceRole ∷ DeviceOptions ∷ DeviceInstance ∷ IpSuite ∷ []

-- the contents of the response to an Identify
abbrev pub identify_said : Identity → Settings → ℕ → Answered
identify_said identity settings xid = supported Identify xid (map (reported_of identity settings None) identify_kinds)

-- the contents of the response to a Get
abbrev pub get_said : Identity → Settings → Option (List ℕ) → Asked → Answered
get_said identity settings alias request =
    supported Get request.xid (map (reported_of identity settings alias) (firsts_of [] (map (λ block. block.kind) request.blocks)))

-- the contents of the response to a Set
abbrev pub set_said : Asked → List BlockError → Answered
set_said request answers = supported Set request.xid (map outcome_reported (zip request.blocks answers))

-- these bytes begin with this response, which fits a frame, as all written ones do
pub record IsSent (xid : ℕ) (answer bytes : List ℕ) : Type 0 where
  pub behind : List ℕ
  pub whole : bytes ≡ answer ++ behind
  pub short : length answer ≤ 1498
  pub number : xid < 2 ^ 32
