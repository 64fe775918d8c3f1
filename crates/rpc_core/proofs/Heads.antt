-- Octets have at most one header, and it says whether they are a call or a response, and for which interface.
use Rattle.std.proofs.Common.{◌≡◌, ◌==◌, ◌&&◌, nat_eq, nat_le, ℕ, Bool, true, false, List, [], ◌∷◌, ◌++◌, Option, Some, None, Result, Ok, Err, refl, sym, ap, subst, ◌∙◌, append_assoc, arith}
use Rattle.std.specs.Prelude.{IsErr}
use Rattle.std.specs.Cmp.Lexicographic.{pointwise, same_text}
use Rattle.std.proofs.lemmas.Bool.{eqb-true}
use Rattle.wire.specs.Codec.{Codec, IsSound}
use Rattle.wire.specs.Formats.{raw}
use Rattle.wire.proofs.Fields.{ok_is, raw_sound}
use Rattle.wire.proofs.Joined.{then_by_sound}
use Rattle.wire.proofs.Handled.{checked_sound}
use Rattle.rpc_core.specs.declared.fault.RpcFault.{RpcFault}
use Rattle.rpc_core.specs.declared.fault.RpcFault.TheVariants as fault
use Rattle.rpc_core.specs.declared.interface.Interface.{Interface}
use Rattle.rpc_core.specs.declared.interface.Interface.TheVariants.{Controller, Device}
use Rattle.rpc_core.specs.Body.{body_size, octets_of}
use Rattle.rpc_core.specs.Call.{Asked, IsCall, call, call_body, call_bytes, call_of}
use Rattle.rpc_core.specs.Header.{extent, head, head_for, header_of, names, opening, order_of, turn}
use Rattle.rpc_core.specs.Interface.{interface_uuid}
use Rattle.rpc_core.specs.Pdu.{cut_off, is_known, is_served, is_version, is_whole, pdu}
use Rattle.rpc_core.specs.Response.{Answered, IsResponse, response, response_body, response_bytes, response_of}
use Rattle.rpc_core.proofs.Sound.{call_takes, head_sound, opening_sound, response_takes}
use Rattle.rpc_core.proofs.Fits.{request_opening_fits, response_opening_fits}

-- the type of the values of a format
abbrev ValueOf : {F A : Type 0} → Codec F A → Type 0
ValueOf {A = A} codec = A

abbrev pub Head : Type 0
Head = ValueOf head

abbrev Opening : Type 0
Opening = ValueOf opening

-- a result that is not a value is an error
pub no_value : {A F : Type 0} (result : Result A F) → ((value : A) → result ≡ Ok value → ⊥) → IsErr result
no_value (Ok value) none = absurd (none value refl)
no_value (Err reason) none = refl

-- the second of three tests
middle : (a b c : Bool) → (a && b && c) ≡ true → b ≡ true
middle a true c e = refl
middle true false c e = absurd cc
middle false false c e = absurd cc

-- ---- the header of octets

-- These octets have a header with this packet type, and with this interface if one is given.
pub record IsHeaded (bytes : List ℕ) (packet_type : ℕ) (interface : Option Interface) : Type 0 where
  pub header : Head
  pub inside : List ℕ
  pub rest : List ℕ
  pub spells : cut_off.Spells bytes (header, inside) rest
  pub version : is_version packet_type header ≡ true
  pub served : is_served interface header ≡ true

cut_off_sound : IsSound cut_off
unfolding cut_off
cut_off_sound = then_by_sound _ _ (checked_sound _ fault.Short head head_sound) (λ (h : Head). raw_sound fault.Short h.extent.length)

-- the header of a call, and of a response
pub call_headed : (interface : Interface) (bytes : List ℕ) (asked : Asked) → IsCall interface bytes asked → (h : IsHeaded bytes 0 (Some interface)) × (asked.header ≡ header_of h.header)
unfolding IsCall call pdu
call_headed interface bytes asked s = (
  record {
    header = s.1.0.0;
    inside = s.1.2.0;
    rest = s.0;
    spells = s.1.2.1.1.1.1.1;
    version = s.1.2.1.1.1.1.0;
    served = s.1.2.1.0;
  },
  ap (λ (x : Asked). x.header) (sym s.1.1),
)

pub response_headed : (bytes : List ℕ) (answer : Answered) → IsResponse bytes answer → IsHeaded bytes 2 None
unfolding IsResponse response pdu
response_headed bytes answer s = record {
  header = s.1.0.0;
  inside = s.1.2.0;
  rest = s.0;
  spells = s.1.2.1.1.1.1.1;
  version = s.1.2.1.1.1.1.0;
  served = s.1.2.1.0;
}

-- octets have at most one header
one_header : (bytes : List ℕ) (first second : ℕ) (one other : Option Interface) (a : IsHeaded bytes first one) (b : IsHeaded bytes second other) → a.header ≡ b.header
one_header bytes first second one other a b =
    ap (λ (x : (Head × List ℕ) × List ℕ). x.0.0)
    (ok_is {F = RpcFault} ((a.header, a.inside), a.rest) ((b.header, b.inside), b.rest)
    (sym (cut_off_sound.again bytes (a.header, a.inside) a.rest a.spells) ∙ cut_off_sound.again bytes (b.header, b.inside) b.rest b.spells))

-- the version test pins the packet type
typed : (packet_type : ℕ) (header : Head) → is_version packet_type header ≡ true → header.opening.packet_type ≡ packet_type
typed packet_type header e =
    eqb-true _ _ (middle (header.opening.version == 4) (header.opening.packet_type == packet_type) (header.extent.authentication == 0) e)

-- octets are not both a call and a response
never_both : (bytes : List ℕ) (interface : Option Interface) → IsHeaded bytes 0 interface → IsHeaded bytes 2 None → ⊥
never_both bytes interface a b =
    let same = ap (λ (h : Head). h.opening.packet_type) (one_header bytes 0 2 interface None a b) in
    let zero = typed 0 a.header a.version in
    let two = typed 2 b.header b.version in
    omega (arith, same, zero, two)

pub no_response : (interface : Interface) (bytes : List ℕ) (asked : Asked) → call_of interface bytes ≡ Ok asked → IsErr (response_of bytes)
no_response interface bytes asked e =
    no_value (response_of bytes) (λ answer f. never_both bytes (Some interface) (call_headed interface bytes asked (call_takes interface bytes asked e)).0
    (response_headed bytes answer (response_takes bytes answer f)))

pub no_call : (interface : Interface) (bytes : List ℕ) (answer : Answered) → response_of bytes ≡ Ok answer → IsErr (call_of interface bytes)
no_call interface bytes answer e =
    no_value (call_of interface bytes) (λ asked f. never_both bytes (Some interface) (call_headed interface bytes asked (call_takes interface bytes asked f)).0
    (response_headed bytes answer (response_takes bytes answer e)))

-- ---- the interface

-- a call names the interface that is served
naming : (interface : Interface) (header : Head) → is_served (Some interface) header ≡ true → header.names.interface ≡ interface_uuid interface
naming interface header e = same_text header.names.interface (interface_uuid interface) (sym e)

pub call_names : (interface : Interface) (bytes : List ℕ) (asked : Asked) → call_of interface bytes ≡ Ok asked → asked.header.interface ≡ interface_uuid interface
call_names interface bytes asked e =
    let h = call_headed interface bytes asked (call_takes interface bytes asked e) in
    ap (λ x. x.interface) h.1 ∙ naming interface h.0.header h.0.served

-- the two interfaces have different identifiers
two_names : interface_uuid Device ≡ interface_uuid Controller → ⊥
two_names e = absurd cc

never_two : (bytes : List ℕ) → IsHeaded bytes 0 (Some Device) → IsHeaded bytes 0 (Some Controller) → ⊥
never_two bytes a b =
    two_names (sym (naming Device a.header a.served) ∙ ap (λ (h : Head). h.names.interface) (one_header bytes 0 0 (Some Device) (Some Controller) a b) ∙ naming Controller b.header b.served)

pub device_alone : (bytes : List ℕ) (asked : Asked) → call_of Device bytes ≡ Ok asked → IsErr (call_of Controller bytes)
device_alone bytes asked e =
    no_value (call_of Controller bytes) (λ other f. never_two bytes (call_headed Device bytes asked (call_takes Device bytes asked e)).0
    (call_headed Controller bytes other (call_takes Controller bytes other f)).0)

pub controller_alone : (bytes : List ℕ) (asked : Asked) → call_of Controller bytes ≡ Ok asked → IsErr (call_of Device bytes)
controller_alone bytes asked e =
    no_value (call_of Device bytes) (λ other f. never_two bytes (call_headed Device bytes other (call_takes Device bytes other f)).0
    (call_headed Controller bytes asked (call_takes Controller bytes asked e)).0)

-- ---- what is written

-- these octets begin with this opening of a header
Opens : List ℕ → Opening → Type 0
Opens bytes value = (rest : List ℕ) × (bytes ≡ opening.write value rest)

behind_opening : (value : Opening) (rest more : List ℕ) → opening.write value rest ++ more ≡ opening.write value (rest ++ more)
behind_opening value rest more =
    ap (λ (xs : List ℕ). xs ++ more) (opening_sound.local value rest) ∙ append_assoc (opening.write value []) rest more ∙ sym (opening_sound.local value (rest ++ more))

call_opens : (interface : Interface) (asked : Asked) (more : List ℕ) → Opens (call_bytes interface asked ++ more) (record { version = 4; packet_type = 0; flags = 0x20; representation = 0 })
unfolding Opens call_bytes call pdu cut_off head
call_opens interface asked more = (_, behind_opening (record { version = 4; packet_type = 0; flags = 0x20; representation = 0 }) _ more)

response_opens : (answer : Answered) (more : List ℕ) → Opens (response_bytes answer ++ more) (record { version = 4; packet_type = 2; flags = 0x0A; representation = 0 })
unfolding Opens response_bytes response pdu cut_off head
response_opens answer more = (_, behind_opening (record { version = 4; packet_type = 2; flags = 0x0A; representation = 0 }) _ more)

-- the header of octets begins as they do
opened : (bytes : List ℕ) (packet_type : ℕ) (interface : Option Interface) (value : Opening) (h : IsHeaded bytes packet_type interface) → Opens bytes value → opening.Fits value → h.header.opening ≡ value
unfolding Opens cut_off head
opened bytes packet_type interface value h opens fits =
    let written = subst (λ (xs : List ℕ). opening.Spells xs value opens.0) (sym opens.1) (opening_sound.written value opens.0 fits) in
    let s = h.spells.1.1 in
    sym (ap (λ (x : Head). x.opening) s.1)
    ∙ ap (λ (x : Opening × List ℕ). x.0)
    (ok_is {F = RpcFault} (s.0.0, s.2.0) (value, opens.0) (sym (opening_sound.again bytes s.0.0 s.2.0 s.2.1) ∙ opening_sound.again bytes value opens.0 written))

pub called_is_none : (interface : Interface) (asked : Asked) (more : List ℕ) → IsErr (response_of (call_bytes interface asked ++ more))
called_is_none interface asked more =
    no_value _ (λ answer e.
    let h = response_headed _ answer (response_takes _ answer e) in
    let same = ap (λ (o : Opening). o.packet_type) (opened _ 2 None _ h (call_opens interface asked more) request_opening_fits) in
    let two = typed 2 h.header h.version in
    omega (arith, same, two))

pub answered_is_none : (interface : Interface) (answer : Answered) (more : List ℕ) → IsErr (call_of interface (response_bytes answer ++ more))
answered_is_none interface answer more =
    no_value _ (λ asked e.
    let h = (call_headed interface _ asked (call_takes interface _ asked e)).0 in
    let same = ap (λ (o : Opening). o.packet_type) (opened _ 0 (Some interface) _ h (response_opens answer more) response_opening_fits) in
    let zero = typed 0 h.header h.version in
    omega (arith, same, zero))
