-- What one pass over the labels of a text finds.
use Rattle.std.specs.Prelude.{◌≡◌, ◌<◌, ◌≤◌, ◌↔◌, ℕ, List, [], length, take, All, Any, IsTrue, false}
use Rattle.pn_values.specs.StationName.{is_label_byte, labels_of, IsAddressPart, IsPort}
use Rattle.station_names.specs.declared.scan.Labels.{Labels}
use Rattle.station_names.specs.declared.scan.Found.{Found}
use Rattle.station_names.specs.NameFault.{HasHyphenEnd}

-- some byte of the label may not be in a label
abbrev pub HasBadByte : List ℕ → Type 0
HasBadByte label = Any (λ byte. is_label_byte byte ≡ false) label

-- What is found about some labels: how many there are, whether one is empty, is too long, or begins or ends with '-',
-- whether each has the form of a part of an address, and whether the first is the name of a port.
pub record Seen (labels : List (List ℕ)) (seen : Labels) : Type 0 where
  pub count : seen.count ≡ length labels
  pub empty : IsTrue seen.has_empty ↔ Any (λ label. label ≡ []) labels
  pub long : IsTrue seen.has_long ↔ Any (λ label. 63 < length label) labels
  pub hyphen_end : IsTrue seen.has_hyphen_end ↔ Any HasHyphenEnd labels
  pub parts : IsTrue seen.are_address_parts ↔ All IsAddressPart labels
  pub port : 0 < length labels → IsTrue seen.begins_with_port ↔ All IsPort (take 1 labels)

-- the facts about all labels of a text that is not too long, and whether it has a byte that may not be in a label
pub record IsFound (bytes : List ℕ) (found : Found) : Type 0 where
  pub short : length bytes ≤ 240
  pub seen : Seen (labels_of bytes) found.labels
  pub bad : IsTrue found.has_bad_byte ↔ Any HasBadByte (labels_of bytes)
