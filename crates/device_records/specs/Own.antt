-- The records that are made here, by what they list.
use Rattle.std.specs.Prelude.{ℕ, Bool, List, take, Option, Some, None, option_map, if◌then◌else◌}
use Rattle.std.specs.Option.{option_or}
use Rattle.pn_values.specs.declared.real.Real.{Real}
use Rattle.record_blocks.specs.declared.read_record.IodReadReq.{IodReadReq}
use Rattle.records.specs.declared.reads.listing.Level.{Level}
use Rattle.records.specs.declared.reads.listing.Listing.{Listing}
use Rattle.records.specs.declared.reads.listing.Listing.TheVariants as listing
use Rattle.records.specs.reads.Listing.{listing_of}
use Rattle.connects.specs.requests.Request.{Request}
use Rattle.cyclic_data.specs.declared.status.StationState.{StationState}
use Rattle.cyclic_data.specs.exchange.Cyclic.{Cyclic}
use Rattle.device_records.specs.log_data.Log.{log_bytes}
use Rattle.relations.specs.RelationState.{parts_of}
use Rattle.device_records.specs.ArData.{ar_data}
use Rattle.device_records.specs.Elements.{input_of, output_of}
use Rattle.device_records.specs.Expected.{expected_bytes}
use Rattle.device_records.specs.Found.{found_bytes}
use Rattle.device_records.specs.Place.{place_with}
use Rattle.device_records.specs.Sources.{Known}
use Rattle.device_records.specs.Standing.{standing_with}

-- The record of this kind that a device has without a relation too, and that anybody may read.
abbrev pub public_with : Known → Listing → Option (List ℕ)
public_with known listing.Relations = Some (ar_data known.units (parts_of known.link))
public_with known listing.Log = Some (log_bytes known.units known.log)
public_with known other = None

-- The record of this kind of a relation with this Connect and this cyclic data, at a level, slot and subslot. The other kinds
-- are no records of a relation.
abbrev pub own_with : Request → Cyclic → Real → Level → ℕ → ℕ → Listing → Option (List ℕ)
own_with request cyclic real level slot subslot listing.Expected = Some (expected_bytes request.expected level slot subslot)
own_with request cyclic real level slot subslot listing.Found = Some (found_bytes request.expected real)
own_with request cyclic real level slot subslot listing.Input = input_of cyclic slot subslot
own_with request cyclic real level slot subslot listing.Output = output_of cyclic slot subslot
own_with request cyclic real level slot subslot other = None

-- The record, if there is a relation.
abbrev pub own_in : Option (Request × Cyclic × ℕ × StationState × ℕ) → Real → Level → ℕ → ℕ → Listing → Option (List ℕ)
own_in None real level slot subslot kind = None
own_in (Some parts) real level slot subslot kind = own_with parts.0 parts.1 real level slot subslot kind

-- The record of this kind, at a level, slot and subslot. `is_within` says whether it is read within the relation: only then
-- there are those of the relation. Those of the place and of diagnosis anybody may read.
abbrev pub own_at : Bool → Known → Real → Level → ℕ → ℕ → Listing → Option (List ℕ)
own_at is_within known real level slot subslot kind =
    option_or (public_with known kind) (option_or (place_with known real slot subslot kind) (option_or (standing_with known real level slot subslot kind)
    (if is_within then own_in (parts_of known.link) real level slot subslot kind else None)))

-- The record that a request asks for, if it lists something, as far as a frame has room: 1,308 octets.
abbrev pub own_asked : Bool → Known → Real → IodReadReq → Option (Level × Listing) → Option (List ℕ)
own_asked is_within known real read None = None
own_asked is_within known real read (Some x) =
    option_map (take 1308) (own_at is_within known real x.0 read.header.slot_number read.header.subslot_number x.1)

-- The record of this page that a request asks for, if there is one.
abbrev pub own_of : Bool → Known → Real → IodReadReq → Option (List ℕ)
own_of is_within known real read = own_asked is_within known real read (listing_of real read)
