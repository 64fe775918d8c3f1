-- The sender of an echo request that was read.
use Rattle.std.proofs.Common.{◌≡◌, ◌==◌, ℕ, Bool, true, false, List, length, Result, Ok, Err, ap, subst, ◌∙◌, if◌then◌else◌}
use Rattle.std.specs.Prelude.{nat_lt}
use Rattle.wire.specs.Codec.{Codec, ◌>>=◌}
use Rattle.wire.proofs.Fields.{bind_ok, ok_is}
use Rattle.pn_values.specs.declared.mac.Mac.{Mac}
use Rattle.frame_codec.specs.declared.fault.FrameFault.{FrameFault}
use Rattle.frame_codec.specs.declared.fault.FrameFault.TheVariants.{EtherType, TooLong}
use Rattle.frame_codec.specs.Frame.{internet, longest, mac}
use Rattle.services.specs.Echo.{Request, link, request_in, request_of}
use Rattle.services.specs.Message.{echo}
use Rattle.services.proofs.Requests.{link_sound}

-- The type of the values of a format.
abbrev ValueOf : {F A : Type 0} → Codec F A → Type 0
ValueOf {A = A} codec = A

abbrev LinkHeader : Type 0
LinkHeader = ValueOf link

-- The MAC address of the sender has six octets.
sender_wide : (bytes : List ℕ) (header : LinkHeader) (content : List ℕ) → link.Spells bytes header content → length header.source.octets ≡ 6
unfolding link mac
sender_wide bytes header content spells =
    let from = spells.2.2.1 in
    subst (λ (l : List ℕ). length l ≡ 6) (ap (λ (m : Mac). m.octets) from.1 ∙ ap (λ (h : LinkHeader). h.source.octets) spells.1) from.2.0

judged : (long type : Bool) (request : Request) (inner : Result Request FrameFault) → (if long then Err TooLong else if type then inner else Err EtherType) ≡ Ok request → inner ≡ Ok request
judged true type request inner e = absurd cc
judged false true request inner e = e
judged false false request inner e = absurd cc

pub request_wide : (bytes : List ℕ) (request : Request) → request_of bytes ≡ Ok request → length request.source.octets ≡ 6
unfolding request_of
request_wide bytes request e =
    let a = bind_ok (link.read bytes) (request_in bytes) request e in
    let inner = (echo 8).read a.0.1 >>= λ message. Ok (record { destination = a.0.0.destination; source = a.0.0.source; echo = message }) in
    let j = judged (nat_lt (longest a.0.0.tag) (length bytes)) (a.0.0.ether_type == internet) request inner a.2 in
    let b = bind_ok ((echo 8).read a.0.1) (λ message. Ok (record { destination = a.0.0.destination; source = a.0.0.source; echo = message })) request j in
    let same = ok_is {F = FrameFault} (record { destination = a.0.0.destination; source = a.0.0.source; echo = b.0 }) request b.2 in
    subst (λ (l : List ℕ). length l ≡ 6) (ap (λ (r : Request). r.source.octets) same) (sender_wide bytes a.0.0 a.0.1 (link_sound.takes bytes a.0.0 a.0.1 a.1))
