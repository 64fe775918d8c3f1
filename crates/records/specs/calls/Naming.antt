-- ARUUID, which names a relation in a call (IEC 61158-6-10, 5.2.4).
use Rattle.std.specs.Prelude.{ℕ, Bool, false, not, List, [], ◌∷◌, nat_eq, Option, Some, None, Result, Ok}
use Rattle.std.specs.Cmp.Lexicographic.{pointwise}
use Rattle.records.specs.declared.status.call_fault.CallFault.{CallFault}
use Rattle.records.specs.declared.status.call_fault.CallFault.TheVariants as fault
use Rattle.records.specs.calls.Handled.{handled}

-- Whether this is the ARUUID of the active relation, if there is one.
abbrev pub is_relation : Option (List ℕ) → List ℕ → Bool
is_relation (Some standing) uuid = pointwise nat_eq standing uuid
is_relation None uuid = false

-- The call must name the active relation.
unfoldable pub in_relation : Option (List ℕ) → List ℕ → Result (Unit {0}) CallFault
in_relation standing uuid = handled ((not (is_relation standing uuid), fault.UnknownRelation) ∷ []) (Ok tt)
