-- What an engineering tool asks by DCP before a station exchanges data.
use Rattle.std.specs.Prelude.{◌≡◌, ℕ, List, [], ◌∷◌, ◌++◌, None, Ok}
use Rattle.pn_values.specs.declared.mac.Mac.{Mac}
use Rattle.dcp_core.specs.declared.kind.Kind.TheVariants.{AliasName, NameOfStation}
use Rattle.dcp_core.specs.declared.request.Service.TheVariants.{Identify, Set}
use Rattle.dcp_core.specs.Format.{frame_id_of}
use Rattle.dcp_core.specs.Reading.{request_of}
use Rattle.dcp_core.specs.Writing.{request_bytes}
use Rattle.dcp_core.specs.Request.{Asked}
use Rattle.frame_codec.specs.Frame.{frame_of, padding_of}
use Rattle.frame_codec.specs.Meaning.{RealTime}

-- The multicast address of Identify requests (IEC 61158-6-10, 4.3.1.3.1).
unfoldable pub identify_multicast : Mac
identify_multicast = record { octets = 0x01 ∷ 0x0E ∷ 0xCF ∷ 0x00 ∷ 0x00 ∷ 0x00 ∷ [] }

-- An Identify with this transaction (Xid), whose only filter is this name by the place.
abbrev pub alias_asked : ℕ → List ℕ → Asked
alias_asked xid alias = record { service = Identify; xid = xid; blocks = record { kind = AliasName; contents = alias } ∷ [] }

-- A Set with this transaction (Xid) of this name, which the station keeps: BlockQualifier 1.
abbrev pub name_asked : ℕ → List ℕ → Asked
name_asked xid name = record { service = Set; xid = xid; blocks = record { kind = NameOfStation; contents = 0 ∷ 1 ∷ name } ∷ [] }

-- The zeros after these octets under a FrameID, up to the shortest frame.
abbrev pub padding_for : Mac → Mac → ℕ → List ℕ → List ℕ
padding_for source destination frame_id octets = padding_of (record { destination = destination; source = source; tag = None; content = RealTime frame_id octets })

-- A station reads this frame as octets under a FrameID, with the zeros after them that pad the frame.
pub record IsCarried (source destination : Mac) (frame_id : ℕ) (octets frame : List ℕ) : Type 0 where
  pub behind : List ℕ
  pub padded : behind ≡ padding_for source destination frame_id octets
  pub read : frame_of frame ≡ Ok (record { destination = destination; source = source; tag = None; content = RealTime frame_id (octets ++ behind) })

-- A station reads this frame as this request of that station to this one. Its octets are those of the request, among them
-- ResponseDelay: 1 in an Identify, and 0 in a Set. After them are only the zeros that pad the frame.
pub record IsHeardAs (frame : List ℕ) (source destination : Mac) (asked : Asked) : Type 0 where
  pub body : List ℕ
  pub behind : List ℕ
  pub padded : behind ≡ padding_for source destination (frame_id_of asked.service) (request_bytes asked)
  pub octets : body ≡ request_bytes asked ++ behind
  pub read : frame_of frame ≡ Ok (record { destination = destination; source = source; tag = None; content = RealTime (frame_id_of asked.service) body })
  pub asks : request_of (frame_id_of asked.service) body ≡ Ok asked
