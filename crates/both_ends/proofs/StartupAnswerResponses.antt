-- A response is not a call: their headers say which of the two they are.
use Rattle.std.proofs.Common.{◌≡◌, ◌==◌, ◌&&◌, ℕ, Bool, true, false, List, Option, Some, None, Result, Ok, Err, refl, ap, ◌∙◌}
use Rattle.std.specs.Prelude.{if◌then◌else◌}
use Rattle.std.proofs.lemmas.Bool.{eqb-true}
use Rattle.wire.specs.Codec.{Codec, Whole, ◌>>=◌}
use Rattle.wire.specs.Formats.{seen}
use Rattle.wire.specs.Checks.{checked, named, or_fault}
use Rattle.wire.specs.Kept.{within}
use Rattle.wire.specs.Whole.{loose}
use Rattle.rpc_core.specs.declared.fault.RpcFault.{RpcFault}
use Rattle.rpc_core.specs.declared.fault.RpcFault.TheVariants as fault
use Rattle.rpc_core.specs.declared.interface.Interface.{Interface}
use Rattle.rpc_core.specs.Pdu.{cut_off, is_known, is_served, is_version, is_whole, pdu}
use Rattle.rpc_core.specs.Call.{asked_by, call, call_body, call_of, parts_of_call}
use Rattle.rpc_core.specs.Response.{Answered, answered_by, parts_of_response, response, response_body, response_of}

-- ---- if the whole was read, each part was read and each test passed

was_first : {F A B : Type 0} (read : Result A F) (next : A → Result B F) (y : B) → (read >>= next) ≡ Ok y → (x : A) × (read ≡ Ok x)
was_first (Ok x) next y e = (x, refl)
was_first (Err f) next y e = absurd cc

module _ {F A : Type 0} where
  was_loose : (codec : Codec F A) (bytes : List ℕ) (y : A) → (loose codec).read bytes ≡ Ok y → (x : A × List ℕ) × (codec.read bytes ≡ Ok x)
  was_loose codec bytes y e = was_first (codec.read bytes) (λ x. Ok x.0) y e

  was_named : {B : Type 0} (to : A → Option B) (from : B → A) (f : F) (codec : Codec F A) (bytes : List ℕ) (y : B × List ℕ)
      → (named to from f codec).read bytes ≡ Ok y → (x : A × List ℕ) × (codec.read bytes ≡ Ok x)
  was_named to from f codec bytes y e = was_first (codec.read bytes) (λ x. or_fault f (to x.0) >>= λ value. Ok (value, x.1)) y e

  was_within : {B : Type 0} (codec : Codec F (A × List ℕ)) (whole : A → Whole F B) (bytes : List ℕ) (y : (A × B) × List ℕ)
      → (within codec whole).read bytes ≡ Ok y → (x : (A × List ℕ) × List ℕ) × (codec.read bytes ≡ Ok x)
  was_within codec whole bytes y e = was_first (codec.read bytes) (λ x. (whole x.0.0).read x.0.1 >>= λ value. Ok ((x.0.0, value), x.1)) y e

  passed : (test : A → Bool) (f : F) (x y : A × List ℕ) (is : Bool) → test x.0 ≡ is → (if is then Ok x else Err f) ≡ Ok y → test x.0 ≡ true
  passed test f x y true t e = t
  passed test f x y false t e = absurd cc

  was_passed : (test : A → Bool) (f : F) (read : Result (A × List ℕ) F) (y : A × List ℕ)
      → (read >>= λ x. if test x.0 then Ok x else Err f) ≡ Ok y → (x : A × List ℕ) × (read ≡ Ok x) × (test x.0 ≡ true)
  was_passed test f (Ok x) y e = (x, refl, passed test f x y (test x.0) refl e)
  was_passed test f (Err g) y e = absurd cc

  was_checked : (test : A → Bool) (f : F) (codec : Codec F A) (bytes : List ℕ) (y : A × List ℕ)
      → (checked test f codec).read bytes ≡ Ok y → (x : A × List ℕ) × (codec.read bytes ≡ Ok x) × (test x.0 ≡ true)
  was_checked test f codec bytes y e = was_passed test f (codec.read bytes) y e

  -- ---- a fault stays a fault

  not_loose : (codec : Codec F A) (bytes : List ℕ) (g : F) → codec.read bytes ≡ Err g → (loose codec).read bytes ≡ Err g
  not_loose codec bytes g e = ap (λ (r : Result (A × List ℕ) F). r >>= λ x. Ok x.0) e

  not_seen : {B : Type 0} (to : A → B) (from : B → A) (codec : Codec F A) (bytes : List ℕ) (g : F)
      → codec.read bytes ≡ Err g → (seen to from codec).read bytes ≡ Err g
  not_seen to from codec bytes g e = ap (λ (r : Result (A × List ℕ) F). r >>= λ x. Ok (to x.0, x.1)) e

  not_within : {B : Type 0} (codec : Codec F (A × List ℕ)) (whole : A → Whole F B) (bytes : List ℕ) (g : F)
      → codec.read bytes ≡ Err g → (within codec whole).read bytes ≡ Err g
  not_within codec whole bytes g e =
      ap (λ (r : Result ((A × List ℕ) × List ℕ) F). r >>= λ x. (whole x.0.0).read x.0.1 >>= λ value. Ok ((x.0.0, value), x.1)) e

  not_checked : (test : A → Bool) (f : F) (codec : Codec F A) (bytes : List ℕ) (g : F) → codec.read bytes ≡ Err g → (checked test f codec).read bytes ≡ Err g
  not_checked test f codec bytes g e = ap (λ (r : Result (A × List ℕ) F). r >>= λ x. if test x.0 then Ok x else Err f) e

  -- a value that fails a test is refused
  refused_by : (test : A → Bool) (f : F) (codec : Codec F A) (bytes : List ℕ) (x : A × List ℕ) → codec.read bytes ≡ Ok x → test x.0 ≡ false
      → (checked test f codec).read bytes ≡ Err f
  refused_by test f codec bytes x e t =
      ap (λ (r : Result (A × List ℕ) F). r >>= λ y. if test y.0 then Ok y else Err f) e ∙ ap (λ (is : Bool). if is then Ok x else Err f) t

-- ---- four tests, one after the other

module _ {F A : Type 0} (cut : Codec F A) (version known whole served : A → Bool) (f g h k : F) where
  abbrev tested : Codec F A
  tested = checked served k (checked whole h (checked known g (checked version f cut)))

  was_tested : (bytes : List ℕ) (y : A × List ℕ) → tested.read bytes ≡ Ok y → (x : A × List ℕ) × (cut.read bytes ≡ Ok x) × (version x.0 ≡ true)
  was_tested bytes y e =
      let third = was_checked served k (checked whole h (checked known g (checked version f cut))) bytes y e in
      let second = was_checked whole h (checked known g (checked version f cut)) bytes third.0 third.1 in
      let first = was_checked known g (checked version f cut) bytes second.0 second.1 in
      was_checked version f cut bytes first.0 first.1

  not_tested : (bytes : List ℕ) (x : A × List ℕ) → cut.read bytes ≡ Ok x → version x.0 ≡ false → tested.read bytes ≡ Err f
  not_tested bytes x e t =
      not_checked served k (checked whole h (checked known g (checked version f cut))) bytes f
      (not_checked whole h (checked known g (checked version f cut)) bytes f
      (not_checked known g (checked version f cut) bytes f (refused_by version f cut bytes x e t)))

-- ---- the packet type

second_is : (a b c : Bool) → (a && b && c) ≡ true → b ≡ true
second_is true true c e = refl
second_is true false c e = absurd cc
second_is false b c e = absurd cc

second_not : (a b c : Bool) → b ≡ false → (a && b && c) ≡ false
second_not true true c e = absurd cc
second_not true false c e = refl
second_not false b c e = refl

-- the packet type of a response is not that of a call
no_version : (version packet_type authentication : ℕ) → ((version == 4) && (packet_type == 2) && (authentication == 0)) ≡ true
    → ((version == 4) && (packet_type == 0) && (authentication == 0)) ≡ false
no_version version packet_type authentication e =
    let two : (packet_type == 2) ≡ true = second_is (version == 4) (packet_type == 2) (authentication == 0) e in
    second_not (version == 4) (packet_type == 0) (authentication == 0) (ap (λ (n : ℕ). n == 0) (eqb-true packet_type 2 two))

pub no_call : (interface : Interface) (bytes : List ℕ) (answer : Answered) → response_of bytes ≡ Ok answer → (f : RpcFault) × (call_of interface bytes ≡ Err f)
unfolding response_of response call_of call pdu
no_call interface bytes answer e =
    let all = was_loose response bytes answer e in
    let parts = was_named answered_by parts_of_response fault.Args (within (pdu 2 None) response_body) bytes all.0 all.1 in
    let inside = was_within (pdu 2 None) response_body bytes parts.0 parts.1 in
    let cut = was_tested cut_off (λ x. is_version 2 x.0) (λ x. is_known x.0) (λ x. is_whole x.0) (λ x. is_served None x.0) fault.Version fault.Representation fault.Fragment fault.Interface bytes inside.0 inside.1 in
    let no = not_tested cut_off (λ x. is_version 0 x.0) (λ x. is_known x.0) (λ x. is_whole x.0) (λ x. is_served (Some interface) x.0) fault.Version fault.Representation fault.Fragment fault.Interface bytes cut.0 cut.1
    (no_version cut.0.0.0.opening.version cut.0.0.0.opening.packet_type cut.0.0.0.extent.authentication cut.2) in
    let call_parts = not_within (pdu 0 (Some interface)) call_body bytes fault.Version no in
    (fault.Version, not_loose (call interface) bytes fault.Version (not_seen asked_by parts_of_call (within (pdu 0 (Some interface)) call_body) bytes fault.Version call_parts))
