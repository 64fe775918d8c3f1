-- A lookup ends.
use Rattle.std.proofs.Common.{◌≡◌, ◌&&◌, ◌==◌, ℕ, Bool, true, false, List, refl, ap, ◌∙◌}
use Rattle.std.specs.Prelude.{not, nat_eq}
use Rattle.std.specs.Cmp.Lexicographic.{pointwise}
use Rattle.pn_values.specs.declared.identity.Identity.{Identity}
use Rattle.rpc_core.specs.call_headers.Call.{in_order}
use Rattle.rpc_services.specs.declared.endpoint_mapper.lookup.Lookup.{Lookup}
use Rattle.rpc_services.specs.endpoint_mapper.Entry.{object_of, told_handle}
use Rattle.rpc_services.specs.endpoint_mapper.Lookup.{gets_entry, no_handle}

-- the handle of an answer is not zeros
told_differs : (little : Bool) (identity : Identity) → pointwise nat_eq (told_handle little identity) no_handle ≡ false
unfolding in_order object_of
told_differs true identity = refl
told_differs false identity = refl

second_fails : (all begins room : Bool) → begins ≡ false → (all && begins && room) ≡ false
second_fails true begins room e = ap (λ (b : Bool). b && room) e
second_fails false begins room e = refl

pub ends : (identity : Identity) (little : Bool) (asked : Lookup) → asked.handle ≡ told_handle little identity → gets_entry asked ≡ false
ends identity little asked e =
    second_fails (asked.inquiry == 0) (pointwise nat_eq asked.handle no_handle) (not (asked.most == 0))
    (ap (λ (handle : List ℕ). pointwise nat_eq handle no_handle) e ∙ told_differs little identity)
