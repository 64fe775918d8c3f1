-- A call is not a refusal: the second octet says which of the two a packet is.
use Rattle.std.proofs.Common.{◌≡◌, ℕ, List, ◌∷◌, Err, refl, ap, ◌∙◌}
use Rattle.rpc_core.specs.declared.fault.RpcFault.{RpcFault}
use Rattle.rpc_core.specs.declared.fault.RpcFault.TheVariants.{Version}
use Rattle.rpc_core.specs.declared.interface.Interface.{Interface}
use Rattle.rpc_core.specs.Call.{Asked, call, call_bytes}
use Rattle.rpc_core.specs.Header.{head, opening}
use Rattle.rpc_core.specs.Pdu.{cut_off, pdu}
use Rattle.controller_messages.specs.Refusal.{refusal_of}

call_begins : (interface : Interface) (one : Asked) → (tail : List ℕ) × (call_bytes interface one ≡ 4 ∷ 0 ∷ tail)
unfolding call_bytes call pdu cut_off head opening
call_begins interface one = (_, refl)

no_kind : (tail : List ℕ) → refusal_of (4 ∷ 0 ∷ tail) ≡ Err Version
unfolding refusal_of
no_kind tail = refl

pub no_refusal : (interface : Interface) (one : Asked) → (fault : RpcFault) × (refusal_of (call_bytes interface one) ≡ Err fault)
no_refusal interface one =
    let there = call_begins interface one in
    (Version, ap refusal_of there.1 ∙ no_kind there.0)
