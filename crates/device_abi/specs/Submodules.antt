-- A submodule as a host describes it where it plugs it: ModuleIdentNumber, SubmoduleIdentNumber, the octets of its input and of its output, and
-- the index and the length of each of at most two parameter records, all with the highest octet first.
use Rattle.std.specs.Prelude.{◌==◌, ℕ, List, [], ◌∷◌, drop, length, Option, Some, None, option_map, if◌then◌else◌}
use Rattle.byteorder.specs.Endian.{big_number}
use Rattle.pn_values.specs.declared.real.ParameterRecord.{ParameterRecord}
use Rattle.pn_values.specs.declared.real.RealSubmodule.{RealSubmodule}

-- A parameter record.
abbrev pub record_at : List ℕ → ParameterRecord
record_at octets = record { index = big_number 2 octets; length = big_number 2 (drop 2 octets) }

-- Its parameter records: none, one or two of them.
abbrev pub records_in : List ℕ → Option (List ParameterRecord)
records_in octets =
    if length octets == 12 then Some [] else
    (if length octets == 16 then Some (record_at (drop 12 octets) ∷ []) else
    (if length octets == 20 then Some (record_at (drop 12 octets) ∷ record_at (drop 16 octets) ∷ []) else None))

-- The submodule in a subslot, with these parameter records.
abbrev pub part_with : ℕ → List ℕ → List ParameterRecord → RealSubmodule
part_with subslot octets records = record {
  subslot = subslot;
  ident = big_number 4 (drop 4 octets);
  input = big_number 2 (drop 8 octets);
  output = big_number 2 (drop 10 octets);
  parameters = record { items = records };
}

-- The ident number of its module, and the submodule.
abbrev pub plug_in : ℕ → List ℕ → Option (ℕ × RealSubmodule)
plug_in subslot octets = option_map (λ records. (big_number 4 octets, part_with subslot octets records)) (records_in octets)
