-- The format of the header is sound.
use Rattle.std.proofs.Common.{ℕ, Bool, true, false, List, [], ◌∷◌, ◌++◌, Ok, refl, sym, ap, subst, ◌∙◌, arith}
use Rattle.std.proofs.lemmas.List.{append-nil, length-append}
use Rattle.byteorder.specs.Endian.{little_number, little_bytes}
use Rattle.byteorder.specs.Numbers.{little_from-append, little_number-reads_back, length-bytes_low_first}
use Rattle.wire.specs.Codec.{Codec, IsSound}
use Rattle.wire.specs.Formats.{raw, ◌⨾◌}
use Rattle.wire.proofs.Fields.{bind_ok, ok_is, raw_sound, number_sound}
use Rattle.wire.proofs.Joined.{then_by_sound, seen_sound}
use Rattle.wire.proofs.Handled.{fixed_sound}
use Rattle.rpc_core.specs.declared.fault.RpcFault.{RpcFault}
use Rattle.rpc_core.specs.declared.fault.RpcFault.TheVariants.{Short, Version}
use Rattle.rpc_core.specs.Fields.{one, little, any}
use Rattle.rpc_core.specs.declared.call_headers.call.Opening.{Opening}
use Rattle.rpc_core.specs.call_headers.Call.{is_little, in_order, opening, names, turn, extent, head}

little_sound : (size : ℕ) → IsSound (little size)
little_sound size = let sound = raw_sound Short size in record {
  takes = λ bytes value rest e.
      let a = bind_ok ((raw Short size).read bytes) (λ x. Ok (little_number size x.0, x.1)) (value, rest) e in
      let cut = sound.takes bytes a.0.0 a.0.1 a.1 in
      subst (λ (y : ℕ × List ℕ). (little size).Spells bytes y.0 y.1) (ok_is {F = RpcFault} (little_number size a.0.0, a.0.1) (value, rest) a.2)
      (a.0.0, cut.0, cut.1, refl);
  again = λ bytes value rest s. rw (sound.again bytes s.0 rest (s.1, s.2), s.3) refl;
  written = λ value rest fits.
      let long = length-bytes_low_first 0 size value in
      (little_bytes size value, long, refl, sym (little_number-reads_back size value [] fits) ∙ little_from-append size (little_bytes size value) [] (omega (arith, long)));
  local = λ value rest. ap (λ (xs : List ℕ). xs ++ rest) (sym (append-nil (little_bytes size value)));
  sized = λ value rest. omega (arith, length-bytes_low_first 0 size value, length-append (little_bytes size value) rest);
}

order_sound : (is_low : Bool) (size : ℕ) → IsSound (in_order is_low size)
unfolding in_order
order_sound true size = little_sound size
order_sound false size = number_sound Short size

any_sound : (size : ℕ) (written : List ℕ) → IsSound (any size written)
any_sound size written = seen_sound _ _ _ (λ _. refl) (raw_sound Short size)

-- two formats, one after the other
both : {A B : Type 0} (first : Codec RpcFault A) (second : Codec RpcFault B) → IsSound first → IsSound second → IsSound (first ⨾ second)
both first second one_is other = then_by_sound first (λ _. second) one_is (λ _. other)

one_sound : IsSound one
one_sound = number_sound Short 1

opening_sound : IsSound opening
unfolding opening
opening_sound = seen_sound _ _ _ (λ _. refl)
    (both _ _ (fixed_sound Version 1 4) (both _ _ one_sound (both _ _ one_sound (both _ _ (any_sound 1 (0 ∷ [])) (both _ _ one_sound (any_sound 3 (0 ∷ 0 ∷ 0 ∷ [])))))))

names_sound : IsSound names
unfolding names
names_sound = seen_sound _ _ _ (λ _. refl) (both _ _ (raw_sound Short 16) (both _ _ (raw_sound Short 16) (raw_sound Short 16)))

turn_sound : (is_low : Bool) → IsSound (turn is_low)
unfolding turn
turn_sound is_low = seen_sound _ _ _ (λ _. refl) (both _ _ (any_sound 4 (0 ∷ 0 ∷ 0 ∷ 0 ∷ [])) (both _ _ (raw_sound Short 4) (both _ _ (raw_sound Short 4) (order_sound is_low 2))))

extent_sound : (is_low : Bool) → IsSound (extent is_low)
unfolding extent
extent_sound is_low = seen_sound _ _ _ (λ _. refl)
    (both _ _ (any_sound 4 (255 ∷ 255 ∷ 255 ∷ 255 ∷ [])) (both _ _ (order_sound is_low 2) (both _ _ (order_sound is_low 2) (both _ _ one_sound (any_sound 1 (0 ∷ []))))))

pub head_sound : IsSound head
unfolding head
head_sound = seen_sound _ _ _ (λ _. refl) (then_by_sound _ _ opening_sound
    (λ (o : Opening). both _ _ names_sound (both _ _ (turn_sound (is_little o.representation)) (extent_sound (is_little o.representation)))))
