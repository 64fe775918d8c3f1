-- The activity of a packet that refuses a call, read at its place.
use Rattle.std.proofs.Common.{◌≡◌, ◌==◌, ◌/◌, ℕ, Bool, true, false, List, [], ◌∷◌, ◌++◌, replicate, Result, Ok, refl, sym, ap, ◌∙◌, append_assoc}
use Rattle.std.proofs.lemmas.Bool.{cond_both, cond-true, cond-false}
use Rattle.std.specs.List.{slice_get}
use Rattle.byteorder.specs.Endian.{big_number}
use Rattle.wire.specs.Codec.{Codec, IsSound}
use Rattle.wire.specs.Checks.{checked}
use Rattle.wire.specs.Formats.{raw, ◌⨾◌}
use Rattle.wire.proofs.Fields.{bind_ok, number_sound, raw_sound}
use Rattle.wire.proofs.Handled.{checked_sound, fixed_sound}
use Rattle.wire.proofs.Joined.{seen_sound, then_by_sound}
use Rattle.rpc_core.specs.declared.fault.RpcFault.{RpcFault}
use Rattle.rpc_core.specs.declared.fault.RpcFault.TheVariants as fault
use Rattle.rpc_core.specs.Header.{order_of}
use Rattle.rpc_core.specs.Fields.{any, one, ordered, turned}
use Rattle.rpc_core.proofs.Sound.{ordered_sound}
use Rattle.controller_messages.specs.declared.refusal.Refusal.{Refusal}
use Rattle.controller_messages.specs.Refusal.{extent, in_order, is_little, is_refusal, is_whole, opening, packet, refusal_in, refusal_of, uuid_in, word}
use Rattle.octets_law.specs.Octets.{activity_of}
use Rattle.octets_law.proofs.CallReads.{IsName, name_in}
use Rattle.strangers_law.proofs.Responses.{placed}

-- ---- the format is sound

both : {A B : Type 0} (first : Codec RpcFault A) (second : Codec RpcFault B) → IsSound first → IsSound second → IsSound (first ⨾ second)
both first second one other = then_by_sound first (λ _. second) one (λ _. other)

any_sound : (size : ℕ) (written : List ℕ) → IsSound (any size written)
any_sound size written = seen_sound _ _ _ (λ _. refl) (raw_sound fault.Short size)

one_sound : IsSound one
one_sound = number_sound fault.Short 1

turned_twice : (octets : List ℕ) → turned (turned octets) ≡ octets
turned_twice (a ∷ b ∷ c ∷ d ∷ e ∷ f ∷ g ∷ h ∷ others) = refl
turned_twice octets = refl

uuid_sound : (low : Bool) → IsSound (uuid_in low)
unfolding uuid_in
uuid_sound true = seen_sound turned turned (raw fault.Short 16) turned_twice (raw_sound fault.Short 16)
uuid_sound false = raw_sound fault.Short 16

order_sound : (low : Bool) (size : ℕ) → IsSound (in_order low size)
unfolding in_order ordered
order_sound true size = ordered_sound (order_of 16) size
order_sound false size = number_sound fault.Short size

opening_sound : IsSound opening
unfolding opening
opening_sound = seen_sound _ _ _ (λ _. refl)
    (both _ _ (fixed_sound fault.Version 1 4) (both _ _ (any_sound 1 (0 ∷ [])) (both _ _ one_sound (both _ _ (any_sound 1 (0 ∷ [])) (both _ _ one_sound (any_sound 3 (replicate 3 0)))))))

extent_sound : (low : Bool) → IsSound (extent low)
unfolding extent
extent_sound low = seen_sound _ _ _ (λ _. refl) (both _ _ (order_sound low 2) (both _ _ (order_sound low 2) (both _ _ one_sound (any_sound 1 (0 ∷ [])))))

packet_sound : IsSound packet
unfolding packet
packet_sound = seen_sound _ _ _ (λ _. refl) (then_by_sound opening _ opening_sound (λ o.
    both _ _ (any_sound 32 (replicate 32 0)) (both _ _ (uuid_sound (is_little o.representation)) (both _ _ (any_sound 8 (replicate 8 0))
    (both _ _ (order_sound (is_little o.representation) 4) (both _ _ (any_sound 6 (replicate 6 0)) (extent_sound (is_little o.representation))))))))

-- ---- the activity

uuid_parts : (representation : ℕ) (bytes value rest : List ℕ) → (uuid_in (is_little representation)).Spells bytes value rest → IsName representation bytes value rest
unfolding uuid_in
uuid_parts representation bytes value rest = by_order (representation / 16 == 1) refl
  where
    by_order : (low : Bool) → (representation / 16 == 1) ≡ low → (uuid_in low).Spells bytes value rest → IsName representation bytes value rest
    by_order true is spells = record { octets = spells.0; wide = spells.2.0; is = spells.2.1; value_is = sym spells.1 ∙ sym (cond-true _ _ _ is) }
    by_order false is spells = record { octets = value; wide = spells.0; is = spells.1; value_is = sym (cond-false _ _ _ is) }

pub after_eight : (a b c d e f g h rest more : List ℕ) → (a ++ (b ++ (c ++ (d ++ (e ++ (f ++ (g ++ (h ++ rest)))))))) ++ more ≡ a ++ (b ++ (c ++ (d ++ (e ++ (f ++ (g ++ (h ++ (rest ++ more))))))))
after_eight a b c d e f g h rest more =
    append_assoc a _ more ∙ ap (λ l. a ++ l) (append_assoc b _ more ∙ ap (λ l. b ++ l) (append_assoc c _ more ∙ ap (λ l. c ++ l) (append_assoc d _ more ∙ ap (λ l. d ++ l)
    (append_assoc e _ more ∙ ap (λ l. e ++ l) (append_assoc f _ more ∙ ap (λ l. f ++ l) (append_assoc g _ more ∙ ap (λ l. g ++ l) (append_assoc h rest more)))))))

same_activity : (one other : Refusal) → (let r : Result Refusal RpcFault = Ok one in r) ≡ Ok other → one.activity ≡ other.activity
same_activity one other e = cc

pub refusal_activity : (bytes more : List ℕ) (refusal : Refusal) → refusal_of bytes ≡ Ok refusal → activity_of (bytes ++ more) ≡ refusal.activity
unfolding refusal_of refusal_in packet opening
refusal_activity bytes more refusal =
    cond_both (is_refusal (slice_get bytes 1)) _ _ (λ (r : Result Refusal RpcFault). r ≡ Ok refusal → activity_of (bytes ++ more) ≡ refusal.activity)
    (λ _ e.
    let one = bind_ok ((checked is_whole fault.Version packet).read bytes) _ refusal e in
    let two = bind_ok ((raw fault.Short one.0.0.extent.length).read one.0.1) _ refusal one.2 in
    let three = bind_ok ((word (is_little one.0.0.opening.representation)).read two.0.0) _ refusal two.2 in
    let spells = ((checked_sound is_whole fault.Version packet packet_sound).takes bytes one.0.0 one.0.1 one.1).1 in
    let opens = spells.2.1 in
    let parts = opens.2 in
    let version = parts.1.2.1 in
    let type = parts.2.1 in
    let flags = parts.2.2.1 in
    let serial = parts.2.2.2.1 in
    let representation = parts.2.2.2.2.1 in
    let third = parts.2.2.2.2.2 in
    let read : spells.0.0.representation ≡ big_number 1 representation.0 = ap (λ o. o.representation) (sym opens.1) ∙ representation.3 in
    let rest_read = spells.2.2 in
    let names = rest_read.1 in
    let activity = uuid_parts spells.0.0.representation _ _ _ rest_read.2.1 in
    ap (λ l. activity_of (l ++ more)) (version.2 ∙ ap (λ l. version.0 ++ l) (type.2.1 ∙ ap (λ l. type.0 ++ l) (flags.2 ∙ ap (λ l. flags.0 ++ l) (serial.2.1 ∙ ap (λ l. serial.0 ++ l)
    (representation.2 ∙ ap (λ l. representation.0 ++ l) (third.2.1 ∙ ap (λ l. third.0 ++ l) (names.2.1 ∙ ap (λ l. names.0 ++ l) activity.is)))))))
    ∙ ap activity_of (after_eight version.0 type.0 flags.0 serial.0 representation.0 third.0 names.0 activity.octets _ more)
    ∙ placed version.0 type.0 flags.0 serial.0 representation.0 third.0 names.0 activity.octets _ version.1 type.2.0 flags.1 serial.2.0 representation.1 third.2.0 names.2.0 activity.wide
    ∙ ap (λ r. name_in r activity.octets) (sym read) ∙ sym activity.value_is ∙ ap (λ p. p.activity) spells.1 ∙ same_activity _ refusal three.2)
    (λ _ e. absurd cc)
