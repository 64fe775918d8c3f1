-- The response to a Get (IEC 61158-6-10, 4.3.2.4).
use Rattle.std.specs.Prelude.{ℕ, List, [], ◌∷◌, ◌++◌, if◌then◌else◌, flat_map, map, Option, Some, None}
use Rattle.std.specs.List.{list_any}
use Rattle.pn_values.specs.declared.identity.Identity.{Identity}
use Rattle.pn_values.specs.declared.settings.Settings.{Settings}
use Rattle.dcp_core.specs.declared.kind.Kind.{Kind}
use Rattle.dcp_core.specs.Request.{Asked}
use Rattle.dcp_core.specs.Kinds.{blame, is_same}
use Rattle.dcp_core.specs.Bytes.{response_bytes, answer_bytes}
use Rattle.dcp_core.specs.Identify.{value_of, valued}

-- each kind at its first position, given the kinds before these
abbrev pub firsts_of : List Kind → List Kind → List Kind
firsts_of before [] = []
firsts_of before (kind ∷ kinds) =
    if list_any (is_same kind) before then firsts_of (before ++ kind ∷ []) kinds else kind ∷ firsts_of (before ++ kind ∷ []) kinds

-- the value asked for, or the error that says why it has no value: the option or the suboption is unknown
abbrev pub got : Identity → Settings → Option (List ℕ) → Kind → List ℕ
got identity settings alias kind = elim (value_of identity settings alias kind) [
  | Some value ↦ valued identity settings alias kind
  | None ↦ response_bytes kind (blame kind)
]

-- the response to a Get of a station with this name by its place, if it has one: what follows the FrameID
unfoldable pub get_bytes : Identity → Settings → Option (List ℕ) → Asked → List ℕ
get_bytes identity settings alias request =
    answer_bytes 3 request.xid (flat_map (got identity settings alias) (firsts_of [] (map (λ block. block.kind) request.blocks)))
