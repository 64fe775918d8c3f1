-- The digits so far, and those of the rest.
use Rattle.std.proofs.Common.{◌≡◌, ◌++◌, drop}
use Rattle.hex.specs.Hex.{encode_lower}
use Rattle.script_lines.proofs.reports.all_digits.Given as goal

abbrev pub invariant-loop-octet : goal.invariant-loop-octet
invariant-loop-octet l =
    l.initial.text.items ++ encode_lower l.octets ≡ l.text.items ++ encode_lower (drop l.octet-index l.octets)
