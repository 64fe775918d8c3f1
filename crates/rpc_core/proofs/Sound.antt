-- The formats of calls and responses are sound.
use Rattle.std.proofs.Common.{◌≡◌, ℕ, List, [], ◌∷◌, ◌++◌, length, Option, Some, None, Ok, refl, sym, ap, subst, ◌∙◌, append_assoc, arith}
use Rattle.std.proofs.lemmas.List.{append-nil, length-append, take_all}
use Rattle.std.proofs.lemmas.Bool.{eq-eqb, le-leb}
use Rattle.byteorder.specs.Endian.{little_number, little_bytes}
use Rattle.byteorder.specs.Numbers.{little_from-append, little_number-reads_back, length-bytes_low_first}
use Rattle.wire.specs.Codec.{Codec, Whole, IsSound, IsSoundWhole, IsOnward, ◌>>=◌}
use Rattle.wire.specs.Formats.{raw, ◌⨾◌}
use Rattle.wire.proofs.Fields.{bind_ok, ok_is, raw_sound, raw_onward, number_sound, number_onward}
use Rattle.wire.proofs.Joined.{then_by_sound, then_by_onward, seen_sound, seen_onward}
use Rattle.wire.proofs.Handled.{checked_sound, checked_onward, named_sound, named_onward}
use Rattle.wire.proofs.Kept.{within_sound, within_onward}
use Rattle.wire.proofs.Wholes.{everything_sound, ends_by_sound, seen_whole_sound, loose_sound, loose_behind}
use Rattle.rpc_core.specs.declared.fault.RpcFault.{RpcFault}
use Rattle.rpc_core.specs.declared.fault.RpcFault.TheVariants as fault
use Rattle.rpc_core.specs.declared.fields.Order.{Order}
use Rattle.rpc_core.specs.declared.fields.Order.TheVariants.{Big, Little}
use Rattle.rpc_core.specs.declared.header.Opening.{Opening}
use Rattle.rpc_core.specs.declared.header.Names.{Names}
use Rattle.rpc_core.specs.declared.header.Turn.{Turn}
use Rattle.rpc_core.specs.declared.header.Extent.{Extent}
use Rattle.rpc_core.specs.declared.header.Head.{Head}
use Rattle.rpc_core.specs.declared.interface.Interface.{Interface}
use Rattle.rpc_core.specs.Fields.{one, little, ordered, turned, uuid, any}
use Rattle.rpc_core.specs.Header.{order_of, opening, names, turn, extent, head}
use Rattle.rpc_core.specs.Pdu.{cut_off, is_version, is_known, is_whole, is_served, pdu}
use Rattle.rpc_core.specs.Body.{Args, counts, status, blocks_in, counts_of, octets_of, body}
use Rattle.rpc_core.specs.Call.{Asked, call_body, asked_by, parts_of_call, call, IsCall, call_of}
use Rattle.rpc_core.specs.Response.{Answered, response_body, answered_by, parts_of_response, response, IsResponse, response_of}

-- ---- fields

little_sound : (size : ℕ) → IsSound (little size)
little_sound size = let sound = raw_sound fault.Short size in record {
  takes = λ bytes value rest e.
      let a = bind_ok ((raw fault.Short size).read bytes) (λ x. Ok (little_number size x.0, x.1)) (value, rest) e in
      let cut = sound.takes bytes a.0.0 a.0.1 a.1 in
      subst (λ (y : ℕ × List ℕ). (little size).Spells bytes y.0 y.1) (ok_is {F = RpcFault} (little_number size a.0.0, a.0.1) (value, rest) a.2)
      (a.0.0, cut.0, cut.1, refl);
  again = λ bytes value rest s. rw (sound.again bytes s.0 rest (s.1, s.2), s.3) refl;
  written = λ value rest fits.
      let long = length-bytes_low_first 0 size value in
      (little_bytes size value, long, refl, sym (little_number-reads_back size value [] fits) ∙ little_from-append size (little_bytes size value) [] (omega (arith, long)));
  local = λ value rest. ap (λ (xs : List ℕ). xs ++ rest) (sym (append-nil (little_bytes size value)));
  sized = λ value rest. omega (arith, length-bytes_low_first 0 size value, length-append (little_bytes size value) rest);
}

little_onward : (size : ℕ) → IsOnward (little size)
little_onward size = record {
  onward = λ bytes value rest more s. (s.0, s.1, ap (λ (xs : List ℕ). xs ++ more) s.2 ∙ append_assoc s.0 rest more, s.3);
}

pub ordered_sound : (order : Order) (size : ℕ) → IsSound (ordered order size)
unfolding ordered
ordered_sound Big size = number_sound fault.Short size
ordered_sound Little size = little_sound size

ordered_onward : (order : Order) (size : ℕ) → IsOnward (ordered order size)
unfolding ordered
ordered_onward Big size = number_onward fault.Short size
ordered_onward Little size = little_onward size

turned_twice : (octets : List ℕ) → turned (turned octets) ≡ octets
turned_twice (a ∷ b ∷ c ∷ d ∷ e ∷ f ∷ g ∷ h ∷ others) = refl
turned_twice octets = refl

uuid_sound : (order : Order) → IsSound (uuid order)
unfolding uuid
uuid_sound Big = raw_sound fault.Short 16
uuid_sound Little = seen_sound turned turned (raw fault.Short 16) turned_twice (raw_sound fault.Short 16)

uuid_onward : (order : Order) → IsOnward (uuid order)
unfolding uuid
uuid_onward Big = raw_onward fault.Short 16
uuid_onward Little = seen_onward turned turned (raw fault.Short 16) (raw_onward fault.Short 16)

any_sound : (size : ℕ) (written : List ℕ) → IsSound (any size written)
any_sound size written = seen_sound _ _ _ (λ _. refl) (raw_sound fault.Short size)

any_onward : (size : ℕ) (written : List ℕ) → IsOnward (any size written)
any_onward size written = seen_onward _ (λ _. written) _ (raw_onward fault.Short size)

-- ---- the header

-- two formats, one after the other
both : {A B : Type 0} (first : Codec RpcFault A) (second : Codec RpcFault B) → IsSound first → IsSound second → IsSound (first ⨾ second)
both first second one other = then_by_sound first (λ _. second) one (λ _. other)

both_onward : {A B : Type 0} (first : Codec RpcFault A) (second : Codec RpcFault B) → IsOnward first → IsOnward second → IsOnward (first ⨾ second)
both_onward first second one other = then_by_onward first (λ _. second) one (λ _. other)

one_sound : IsSound one
one_sound = number_sound fault.Short 1

one_onward : IsOnward one
one_onward = number_onward fault.Short 1

pub opening_sound : IsSound opening
unfolding opening
opening_sound = seen_sound _ _ _ (λ _. refl)
    (both _ _ one_sound (both _ _ one_sound (both _ _ one_sound (both _ _ (any_sound 1 (0 ∷ [])) (both _ _ one_sound (any_sound 3 (0 ∷ 0 ∷ 0 ∷ [])))))))

opening_onward : IsOnward opening
unfolding opening
opening_onward = seen_onward _ (λ (o : Opening). (o.version, (o.packet_type, (o.flags, (tt, (o.representation, tt)))))) _
    (both_onward _ _ one_onward (both_onward _ _ one_onward (both_onward _ _ one_onward (both_onward _ _ (any_onward 1 (0 ∷ [])) (both_onward _ _ one_onward (any_onward 3 (0 ∷ 0 ∷ 0 ∷ [])))))))

pub names_sound : (order : Order) → IsSound (names order)
unfolding names
names_sound order = seen_sound _ _ _ (λ _. refl) (both _ _ (uuid_sound order) (both _ _ (uuid_sound order) (uuid_sound order)))

names_onward : (order : Order) → IsOnward (names order)
unfolding names
names_onward order = seen_onward _ (λ (n : Names). (n.object, (n.interface, n.activity))) _
    (both_onward _ _ (uuid_onward order) (both_onward _ _ (uuid_onward order) (uuid_onward order)))

pub turn_sound : (order : Order) → IsSound (turn order)
unfolding turn
turn_sound order = seen_sound _ _ _ (λ _. refl) (both _ _ (any_sound 8 (0 ∷ 0 ∷ 0 ∷ 0 ∷ 0 ∷ 0 ∷ 0 ∷ 1 ∷ [])) (both _ _ (ordered_sound order 4) (ordered_sound order 2)))

turn_onward : (order : Order) → IsOnward (turn order)
unfolding turn
turn_onward order = seen_onward _ (λ (t : Turn). (tt, (t.sequence, t.operation))) _
    (both_onward _ _ (any_onward 8 (0 ∷ 0 ∷ 0 ∷ 0 ∷ 0 ∷ 0 ∷ 0 ∷ 1 ∷ [])) (both_onward _ _ (ordered_onward order 4) (ordered_onward order 2)))

pub extent_sound : (order : Order) → IsSound (extent order)
unfolding extent
extent_sound order = seen_sound _ _ _ (λ _. refl)
    (both _ _ (any_sound 4 (255 ∷ 255 ∷ 255 ∷ 255 ∷ [])) (both _ _ (ordered_sound order 2) (both _ _ (ordered_sound order 2) (both _ _ one_sound (any_sound 1 (0 ∷ []))))))

extent_onward : (order : Order) → IsOnward (extent order)
unfolding extent
extent_onward order = seen_onward _ (λ (e : Extent). (tt, (e.length, (e.fragment, (e.authentication, tt))))) _
    (both_onward _ _ (any_onward 4 (255 ∷ 255 ∷ 255 ∷ 255 ∷ [])) (both_onward _ _ (ordered_onward order 2) (both_onward _ _ (ordered_onward order 2) (both_onward _ _ one_onward (any_onward 1 (0 ∷ []))))))

pub head_sound : IsSound head
unfolding head
head_sound = seen_sound _ _ _ (λ _. refl) (then_by_sound _ _ opening_sound
    (λ (o : Opening). both _ _ (names_sound (order_of o.representation)) (both _ _ (turn_sound (order_of o.representation)) (extent_sound (order_of o.representation)))))

head_onward : IsOnward head
unfolding head
head_onward = seen_onward _ (λ (h : Head). (h.opening, (h.names, (h.turn, h.extent)))) _ (then_by_onward _ _ opening_onward
    (λ (o : Opening). both_onward _ _ (names_onward (order_of o.representation)) (both_onward _ _ (turn_onward (order_of o.representation)) (extent_onward (order_of o.representation)))))

-- ---- what is judged

cut_off_sound : IsSound cut_off
unfolding cut_off
cut_off_sound = then_by_sound _ _ (checked_sound _ fault.Short head head_sound) (λ (h : Head). raw_sound fault.Short h.extent.length)

cut_off_onward : IsOnward cut_off
unfolding cut_off
cut_off_onward = then_by_onward _ _ (checked_onward _ fault.Short head head_onward) (λ (h : Head). raw_onward fault.Short h.extent.length)

pub pdu_sound : (packet_type : ℕ) (interface : Option Interface) → IsSound (pdu packet_type interface)
unfolding pdu
pdu_sound packet_type interface =
    checked_sound (λ x. is_served interface x.0) fault.Interface _ (checked_sound (λ x. is_whole x.0) fault.Fragment _
    (checked_sound (λ x. is_known x.0) fault.Representation _ (checked_sound (λ x. is_version packet_type x.0) fault.Version cut_off cut_off_sound)))

pdu_onward : (packet_type : ℕ) (interface : Option Interface) → IsOnward (pdu packet_type interface)
unfolding pdu
pdu_onward packet_type interface =
    checked_onward (λ x. is_served interface x.0) fault.Interface _ (checked_onward (λ x. is_whole x.0) fault.Fragment _
    (checked_onward (λ x. is_known x.0) fault.Representation _ (checked_onward (λ x. is_version packet_type x.0) fault.Version cut_off cut_off_onward)))

-- ---- the body

pub counts_sound : (order : Order) → IsSound (counts order)
unfolding counts
counts_sound order = seen_sound _ _ _ (λ _. refl)
    (both _ _ (ordered_sound order 4) (both _ _ (ordered_sound order 4) (both _ _ (ordered_sound order 4) (ordered_sound order 4))))

pub status_sound : (order : Order) → IsSound (status order)
unfolding status
status_sound Big = seen_sound _ _ _ (λ _. refl) (both _ _ one_sound (both _ _ one_sound (both _ _ one_sound one_sound)))
status_sound Little = seen_sound _ _ _ (λ _. refl) (both _ _ one_sound (both _ _ one_sound (both _ _ one_sound one_sound)))

-- blocks with the counts that are written are read back
counted : (maximum : ℕ) (blocks : Option (List ℕ)) → blocks_in (counts_of (record { maximum = maximum; blocks = blocks })) (octets_of blocks) ≡ blocks
counted maximum (Some blocks) = rw (eq-eqb (length blocks) (length blocks) refl, le-leb (length blocks) (length blocks) (omega arith), take_all (length blocks) blocks (omega arith)) refl
counted maximum None = refl

pub body_sound : {A : Type 0} (word : Codec RpcFault A) (order : Order) → IsSound word → IsSoundWhole (body word order)
unfolding body
body_sound {A = A} word order sound = seen_whole_sound _ _ _ back (ends_by_sound _ _ (both word (counts order) sound (counts_sound order)) (λ _. everything_sound))
  where
    back : (value : A × Args) → (value.0, record { maximum = value.1.maximum; blocks = blocks_in (counts_of value.1) (octets_of value.1.blocks) }) ≡ value
    back (word_is, args) = ap (λ (blocks : Option (List ℕ)). (word_is, record { maximum = args.maximum; blocks = blocks })) (counted args.maximum args.blocks)

-- ---- calls and responses

pub call_sound : (interface : Interface) → IsSound (call interface)
unfolding call
call_sound interface = seen_sound asked_by parts_of_call _ (λ _. refl) (within_sound _ _ (pdu_sound 0 (Some interface))
    (λ (h : Head). body_sound _ (order_of h.opening.representation) (ordered_sound (order_of h.opening.representation) 4)))

pub call_onward : (interface : Interface) → IsOnward (call interface)
unfolding call
call_onward interface = seen_onward asked_by parts_of_call _ (within_onward (pdu 0 (Some interface)) call_body (pdu_onward 0 (Some interface)))

pub response_sound : IsSound response
unfolding response
response_sound = named_sound answered_by parts_of_response fault.Args _ (λ _. refl) (within_sound _ _ (pdu_sound 2 None)
    (λ (h : Head). body_sound _ (order_of h.opening.representation) (status_sound (order_of h.opening.representation))))

pub response_onward : IsOnward response
unfolding response
response_onward = named_onward answered_by parts_of_response fault.Args _ (within_onward (pdu 2 None) response_body (pdu_onward 2 None))

-- ---- reading

pub call_takes : (interface : Interface) (bytes : List ℕ) (meaning : Asked) → call_of interface bytes ≡ Ok meaning → IsCall interface bytes meaning
unfolding call_of IsCall
call_takes interface bytes meaning e = (loose_sound _ (call_sound interface)).takes bytes meaning e

pub call_again : (interface : Interface) (bytes : List ℕ) (meaning : Asked) → IsCall interface bytes meaning → call_of interface bytes ≡ Ok meaning
unfolding call_of IsCall
call_again interface bytes meaning s = (loose_sound _ (call_sound interface)).again bytes meaning s

pub call_behind : (interface : Interface) (bytes more : List ℕ) (meaning : Asked) → IsCall interface bytes meaning → IsCall interface (bytes ++ more) meaning
unfolding IsCall
call_behind interface bytes more meaning s = loose_behind (call interface) bytes meaning more (call_onward interface) s

pub response_takes : (bytes : List ℕ) (meaning : Answered) → response_of bytes ≡ Ok meaning → IsResponse bytes meaning
unfolding response_of IsResponse
response_takes bytes meaning e = (loose_sound response response_sound).takes bytes meaning e

pub response_again : (bytes : List ℕ) (meaning : Answered) → IsResponse bytes meaning → response_of bytes ≡ Ok meaning
unfolding response_of IsResponse
response_again bytes meaning s = (loose_sound response response_sound).again bytes meaning s

pub response_behind : (bytes more : List ℕ) (meaning : Answered) → IsResponse bytes meaning → IsResponse (bytes ++ more) meaning
unfolding IsResponse
response_behind bytes more meaning s = loose_behind response bytes meaning more response_onward s
