-- The diagnoses that exist.
use Rattle.std.specs.Prelude.{◌==◌, ◌&&◌, ℕ, Bool, true, List, Option, Some, None}
use Rattle.pn_values.specs.declared.real.Real.{Real}
use Rattle.diagnosis.specs.Record.{record_bytes}
use Rattle.records.specs.declared.reads.listing.Level.{Level}
use Rattle.records.specs.declared.reads.listing.Level.TheVariants.{Subslot, Slot, Relation, Device}
use Rattle.records.specs.declared.reads.listing.Listing.{Listing}
use Rattle.records.specs.declared.reads.listing.Listing.TheVariants as listing
use Rattle.relations.specs.Diagnosed.{owns_in}
use Rattle.relations.specs.RelationState.{RelationState}
use Rattle.device_records.specs.Sources.{Known}

-- Whether a record at a level, which is asked for at a slot and subslot, is about a submodule: of what is asked for, of the
-- relation, or of the device.
abbrev pub is_about : Option RelationState → Level → ℕ → ℕ → ℕ → ℕ → Bool
is_about link Subslot asked_slot asked_subslot slot subslot = slot == asked_slot && subslot == asked_subslot
is_about link Slot asked_slot asked_subslot slot subslot = slot == asked_slot
is_about link Relation asked_slot asked_subslot slot subslot = owns_in link slot subslot
is_about link Device asked_slot asked_subslot slot subslot = true

-- DiagnosisData of these submodules. The other kinds tell no diagnosis.
abbrev pub standing_with : Known → Real → Level → ℕ → ℕ → Listing → Option (List ℕ)
standing_with known real level slot subslot listing.Diagnosis =
    Some (record_bytes (is_about known.link level slot subslot) known.diagnoses real.modules.items)
standing_with known real level slot subslot other = None
