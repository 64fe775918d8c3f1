-- What a lookup asks (C706, appendix O: ept_lookup).
use Rattle.std.specs.Prelude.{◌==◌, ◌&&◌, not, ℕ, Bool, List, [], ◌∷◌, None, replicate, nat_eq}
use Rattle.std.specs.Cmp.Lexicographic.{pointwise}
use Rattle.wire.specs.Codec.{Codec}
use Rattle.wire.specs.Formats.{raw, then_by, ◌⨾◌, seen, when}
use Rattle.rpc_core.specs.declared.fault.RpcFault.{RpcFault}
use Rattle.rpc_core.specs.declared.fault.RpcFault.TheVariants.{Short}
use Rattle.rpc_core.specs.Fields.{any}
use Rattle.rpc_core.specs.call_headers.Call.{in_order}
use Rattle.rpc_services.specs.declared.endpoint_mapper.lookup.Lookup.{Lookup}

-- a reference, followed by this many octets unless it is 0; they are ignored, and written as the reference 0
unfoldable pub reference : Bool → ℕ → Codec RpcFault (Unit {0})
reference little size = seen (λ _. tt) (λ _. (0, None)) (then_by (in_order little 4) (λ number. when (not (number == 0)) (raw Short size)))

-- InquiryType, references to an object and to an interface with its version, the version option, the handle, MaxEntries
unfoldable pub lookup : Bool → Codec RpcFault Lookup
lookup little = seen
    (λ x. record { inquiry = x.0; handle = x.1.1.1.1.0; most = x.1.1.1.1.1 })
    (λ l. (l.inquiry, (tt, (tt, (tt, (l.handle, l.most))))))
    (in_order little 4 ⨾ reference little 16 ⨾ reference little 20 ⨾ any 4 (0 ∷ 0 ∷ 0 ∷ 0 ∷ []) ⨾ raw Short 20 ⨾ in_order little 4)

-- The handle of a lookup that begins, and of one that ended.
abbrev pub no_handle : List ℕ
no_handle = replicate 20 0

-- Whether a lookup gets the entry: it asks for all entries, begins, and has room for one.
abbrev pub gets_entry : Lookup → Bool
gets_entry l = l.inquiry == 0 && pointwise nat_eq l.handle no_handle && not (l.most == 0)
