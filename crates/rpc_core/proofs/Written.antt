-- What is written is spelled by the octets.
use Rattle.std.proofs.Common.{◌≡◌, ℕ, ◌≤◌, true, List, [], ◌++◌, length, Option, Some, None, refl, sym, ap, subst, ◌∙◌, append_assoc, arith, ◌<◌, ◌^◌, Bor}
use Rattle.std.specs.Prelude.{nat_eq, IsSome, unwrap_or}
use Rattle.std.specs.Option.{option_map}
use Rattle.byteorder.specs.Endian.{big_bytes}
use Rattle.std.specs.Cmp.Lexicographic.{pointwise}
use Rattle.std.proofs.lemmas.Bool.{false≢true, le-leb}
use Rattle.std.proofs.lemmas.List.{append-nil}
use Rattle.wire.specs.Codec.{Codec, IsSound}
use Rattle.wire.specs.Whole.{loose}
use Rattle.wire.proofs.Wholes.{loose_sound}
use Rattle.rpc_core.specs.declared.fault.RpcFault.{RpcFault}
use Rattle.rpc_core.specs.declared.fields.Order.TheVariants.{Big}
use Rattle.rpc_core.specs.declared.header.CallHeader.{CallHeader}
use Rattle.rpc_core.specs.declared.header.Head.{Head}
use Rattle.rpc_core.specs.declared.header.Names.{Names}
use Rattle.rpc_core.specs.declared.interface.Interface.{Interface}
use Rattle.rpc_core.specs.declared.interface.Interface.TheVariants.{Device, Controller}
use Rattle.rpc_core.specs.declared.response.Status.{Status}
use Rattle.rpc_core.specs.Interface.{interface_uuid}
use Rattle.rpc_core.specs.Fields.{ordered}
use Rattle.rpc_core.specs.Header.{opening, names, turn, extent, head, head_for}
use Rattle.rpc_core.specs.Pdu.{cut_off, is_version, is_whole, is_served, pdu}
use Rattle.rpc_core.specs.Body.{Args, counts, counts_of, status, body, body_size}
use Rattle.rpc_core.specs.Call.{Asked, call, IsCall, call_bytes}
use Rattle.rpc_core.specs.Response.{Answered, response, IsResponse, response_bytes}
use Rattle.rpc_core.proofs.Sound.{opening_sound, names_sound, turn_sound, head_sound, ordered_sound, status_sound, counts_sound, call_sound, response_sound}

-- ---- the header

-- identifiers whose octets are equal are equal
pub names_same : (n : Names) (header : CallHeader) → n.object ≡ header.object → n.interface ≡ header.interface → n.activity ≡ header.activity
    → n ≡ record { object = header.object; interface = header.interface; activity = header.activity }
names_same n header e1 e2 e3 = ap (λ (object : List ℕ). record { object = object; interface = n.interface; activity = n.activity }) e1
    ∙ ap (λ (interface : List ℕ). record { object = header.object; interface = interface; activity = n.activity }) e2
    ∙ ap (λ (activity : List ℕ). record { object = header.object; interface = header.interface; activity = activity }) e3

-- four parts, one after the other, are a header
pub head_joined : (packet_type flags size : ℕ) (header : CallHeader) (names_are : Names) (a b d out : List ℕ) → let h = head_for packet_type flags header size in
    names_are ≡ h.names → a ≡ opening.write h.opening [] → b ≡ a ++ (names Big).write names_are [] → d ≡ b ++ (turn Big).write h.turn []
    → out ≡ d ++ (extent Big).write h.extent [] → out ≡ head.write h []
unfolding head
head_joined packet_type flags size header names_are a b d out same e1 e2 e3 e4 =
    let h = head_for packet_type flags header size in
    let o = opening.write h.opening [] in
    let n = (names Big).write h.names [] in
    let t = (turn Big).write h.turn [] in
    let x = (extent Big).write h.extent [] in
    let named : b ≡ a ++ n = e2 ∙ ap (λ (v : Names). a ++ (names Big).write v []) same in
    let whole : out ≡ ((o ++ n) ++ t) ++ x = e4 ∙ ap (λ (xs : List ℕ). xs ++ x) (e3 ∙ ap (λ (xs : List ℕ). xs ++ t) (named ∙ ap (λ (xs : List ℕ). xs ++ n) e1)) in
    let parts : opening.write h.opening ((names Big).write h.names ((turn Big).write h.turn x)) ≡ o ++ (n ++ (t ++ x)) =
    opening_sound.local h.opening ((names Big).write h.names ((turn Big).write h.turn x))
    ∙ ap (λ (xs : List ℕ). o ++ xs) ((names_sound Big).local h.names ((turn Big).write h.turn x) ∙ ap (λ (xs : List ℕ). n ++ xs) ((turn_sound Big).local h.turn x)) in
    whole ∙ append_assoc (o ++ n) t x ∙ append_assoc o n (t ++ x) ∙ sym parts

pub head_fits : (packet_type flags size : ℕ) (header : CallHeader) (names_are : Names) → let h = head_for packet_type flags header size in
    names_are ≡ h.names → opening.Fits h.opening → (names Big).Fits names_are → (turn Big).Fits h.turn → (extent Big).Fits h.extent → head.Fits h
unfolding head
head_fits packet_type flags size header names_are same a b d e = (a, (subst (λ (n : Names). (names Big).Fits n) same b, (d, e)))

-- ---- the tests

-- a header that is written passes the tests, before a body of its length
pub pdu_fits : (packet_type flags size : ℕ) (interface : Option Interface) (header : CallHeader) (inside : List ℕ)
    → is_version packet_type (head_for packet_type flags header size) ≡ true → is_whole (head_for packet_type flags header size) ≡ true
    → is_served interface (head_for packet_type flags header size) ≡ true → length inside ≡ size → 20 ≤ size
    → head.Fits (head_for packet_type flags header size) → (pdu packet_type interface).Fits (head_for packet_type flags header size, inside)
unfolding pdu cut_off
pdu_fits packet_type flags size interface header inside version whole served long least fits =
    (served, (whole, (refl, (version, ((le-leb 20 size least, fits), long)))))

-- ---- the body

-- a word, the counts and the blocks, one after the other, are a body
pub body_joined : {A : Type 0} (word : Codec RpcFault A) (value : A) (maximum : ℕ) (blocks front a out : List ℕ) → IsSound word
    → let args : Args = record { maximum = maximum; blocks = Some blocks } in
    a ≡ front ++ word.write value [] → out ≡ (a ++ (counts Big).write (counts_of args) []) ++ blocks
    → out ≡ front ++ (body word Big).write (value, args)
unfolding body
body_joined word value maximum blocks front a out sound e1 e2 =
    let c = counts_of (record { maximum = maximum; blocks = Some blocks }) in
    let w = word.write value [] in
    let n = (counts Big).write c [] in
    let whole : out ≡ ((front ++ w) ++ n) ++ blocks = e2 ∙ ap (λ (xs : List ℕ). (xs ++ n) ++ blocks) e1 in
    let parts : word.write value ((counts Big).write c blocks) ≡ w ++ (n ++ blocks) =
    sound.local value ((counts Big).write c blocks) ∙ ap (λ (xs : List ℕ). w ++ xs) ((counts_sound Big).local c blocks) in
    whole ∙ append_assoc (front ++ w) n blocks ∙ append_assoc front w (n ++ blocks) ∙ sym (ap (λ (xs : List ℕ). front ++ xs) parts)

-- the length of a body whose word has four octets
pub body_long : {A : Type 0} (word : Codec RpcFault A) (value : A) (maximum : ℕ) (blocks : List ℕ) → IsSound word → word.size value ≡ 4
    → length ((body word Big).write (value, record { maximum = maximum; blocks = Some blocks })) ≡ body_size (length blocks)
unfolding body counts ordered
body_long word value maximum blocks sound four =
    let c = counts_of (record { maximum = maximum; blocks = Some blocks }) in
    omega (arith, sound.sized value ((counts Big).write c blocks), (counts_sound Big).sized c blocks, four)

-- ---- calls and responses

-- a header and the octets that it counts
cut_off_joined : (packet_type : ℕ) (interface : Option Interface) (h : Head) (inside : List ℕ) → (pdu packet_type interface).write (h, inside) [] ≡ head.write h [] ++ inside
unfolding pdu cut_off
cut_off_joined packet_type interface h inside = head_sound.local h (inside ++ []) ∙ ap (λ (xs : List ℕ). head.write h [] ++ xs) (append-nil inside)

abbrev args_for : ℕ → List ℕ → Args
args_for maximum blocks = record { maximum = maximum; blocks = Some blocks }

status_size : (s : Status) → (status Big).size s ≡ 4
unfolding status
status_size s = refl

word_size : (value : ℕ) → (ordered Big 4).size value ≡ 4
unfolding ordered
word_size value = refl

-- the parts of a response make the response
pub response_exact : (r : Answered) (a out : List ℕ) → a ≡ head.write (head_for 2 0x0A r.header (body_size (length r.blocks))) []
    → out ≡ a ++ (body (status Big) Big).write (r.status, args_for r.maximum_count r.blocks) → out ≡ response_bytes r
unfolding response_bytes response
response_exact r a out e1 e2 =
    let inside = (body (status Big) Big).write (r.status, args_for r.maximum_count r.blocks) in
    e2 ∙ ap (λ (xs : List ℕ). xs ++ inside) e1 ∙ sym (cut_off_joined 2 None (head_for 2 0x0A r.header (body_size (length r.blocks))) inside)

pub response_fits : (r : Answered) → head.Fits (head_for 2 0x0A r.header (body_size (length r.blocks))) → (status Big).Fits r.status
    → (counts Big).Fits (counts_of (args_for r.maximum_count r.blocks)) → response.Fits r
unfolding response body
response_fits r fits first second = (
  pdu_fits 2 0x0A (body_size (length r.blocks)) None r.header _ refl refl refl
      (body_long (status Big) r.status r.maximum_count r.blocks (status_sound Big) (status_size r.status)) (omega arith) fits,
  ((first, second), tt),
)

pub response_spelled : (r : Answered) (out : List ℕ) → response.Fits r → out ≡ response_bytes r → IsResponse out r
unfolding IsResponse response_bytes
response_spelled r out fits e = subst (λ (bytes : List ℕ). (loose response).Spells bytes r) (sym e) ((loose_sound response response_sound).written r fits)

-- the parts of a call make the call
pub call_exact : (interface : Interface) (call_is : Asked) (blocks a out : List ℕ) → call_is.blocks ≡ Some blocks
    → a ≡ head.write (head_for 0 0x20 call_is.header (body_size (length blocks))) []
    → out ≡ a ++ (body (ordered Big 4) Big).write (call_is.args_maximum, args_for call_is.args_maximum blocks) → out ≡ call_bytes interface call_is
unfolding call_bytes call
call_exact interface call_is blocks a out same e1 e2 =
    let inside = (body (ordered Big 4) Big).write (call_is.args_maximum, args_for call_is.args_maximum blocks) in
    rw same (e2 ∙ ap (λ (xs : List ℕ). xs ++ inside) e1 ∙ sym (cut_off_joined 0 (Some interface) (head_for 0 0x20 call_is.header (body_size (length blocks))) inside))

pub call_fits : (interface : Interface) (call_is : Asked) (blocks : List ℕ) → call_is.blocks ≡ Some blocks → call_is.header.interface ≡ interface_uuid interface
    → head.Fits (head_for 0 0x20 call_is.header (body_size (length blocks))) → (ordered Big 4).Fits call_is.args_maximum
    → (counts Big).Fits (counts_of (args_for call_is.args_maximum blocks)) → (call interface).Fits call_is
unfolding call body
call_fits interface call_is blocks same named fits first second =
    rw same (
      pdu_fits 0 0x20 (body_size (length blocks)) (Some interface) call_is.header _ refl refl (rw named (itself interface))
          (body_long (ordered Big 4) call_is.args_maximum call_is.args_maximum blocks (ordered_sound Big 4) (word_size call_is.args_maximum)) (omega arith) fits,
      ((first, second), tt),
    )
  where
    itself : (interface : Interface) → pointwise nat_eq (interface_uuid interface) (interface_uuid interface) ≡ true
    itself Device = refl
    itself Controller = refl

pub call_spelled : (interface : Interface) (call_is : Asked) (out : List ℕ) → (call interface).Fits call_is → out ≡ call_bytes interface call_is → IsCall interface out call_is
unfolding IsCall call_bytes
call_spelled interface call_is out fits e =
    subst (λ (bytes : List ℕ). (loose (call interface)).Spells bytes call_is) (sym e) ((loose_sound (call interface) (call_sound interface)).written call_is fits)

-- a number is written as its octets
pub word_written : (value : ℕ) → big_bytes 4 value ≡ (ordered Big 4).write value []
unfolding ordered
word_written value = sym (append-nil (big_bytes 4 value))

pub word_fits : (value : ℕ) → value < 256 ^ 4 → (ordered Big 4).Fits value
unfolding ordered
word_fits value fits = fits

-- a call that has blocks
pub blocks_there : (blocks : Option (Bor (List ℕ))) (default one : Bor (List ℕ)) → IsSome blocks → one ≡ unwrap_or blocks default → option_map (λ (b : Bor (List ℕ)). b.now) blocks ≡ Some one.now
blocks_there (Some b) default one there e = ap (λ (x : Bor (List ℕ)). Some x.now) (sym e)
blocks_there None default one there e = absurd (false≢true there)
