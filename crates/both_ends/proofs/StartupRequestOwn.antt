-- A Connect of the controller that it asks a relation for, at a device with options.
use Rattle.std.proofs.Common.{◌≡◌, ◌&&◌, ℕ, Bool, true, false, not, List, Option, Some, None, Ok, Err, refl, ap, ◌∙◌}
use Rattle.std.specs.Prelude.{if◌then◌else◌}
use Rattle.std.proofs.lemmas.Cmp.{nat_list_eq_equiv}
use Rattle.pn_values.specs.declared.mac.Mac.{Mac}
use Rattle.records.specs.declared.status.call_fault.CallFault.TheVariants as fault
use Rattle.connects.specs.requests.Request.{Request}
use Rattle.connects.specs.requests.Handled.{asked_initiator, request_within}
use Rattle.relations.specs.declared.options.DeviceOptions.{DeviceOptions}
use Rattle.relations.specs.Connect.{connect_within, is_foreign, is_other}

and_false : (b : Bool) → (b && false) ≡ false
and_false true = refl
and_false false = refl

not_foreign : (options : DeviceOptions) (source : Mac) (blocks : List ℕ) → asked_initiator blocks ≡ Some source → is_foreign options source None blocks ≡ false
not_foreign options source blocks e =
    ap (λ (asked : Option Mac). options.only_own_controller && is_other source asked) e
    ∙ (ap (λ (b : Bool). options.only_own_controller && not b) (nat_list_eq_equiv.refl source.octets) ∙ and_false options.only_own_controller)

pub taken_of_own : (options : DeviceOptions) (source : Mac) (blocks : List ℕ) (request : Request) → asked_initiator blocks ≡ Some source
    → request_within options.smallest_interval None blocks ≡ Ok request → connect_within options source None blocks ≡ Ok request
taken_of_own options source blocks request e read =
    ap (λ (b : Bool). if b then Err (fault.ArField 7) else request_within options.smallest_interval None blocks) (not_foreign options source blocks e) ∙ read
