-- A call, read at fixed places.
use Rattle.std.proofs.Common.{◌≡◌, ◌≤◌, ◌==◌, ◌&&◌, ◌+◌, ◌/◌, ℕ, Bool, true, false, List, ◌++◌, length, take, Option, Some, None, is_some, nat_le, if◌then◌else◌, refl, sym, ap, subst, ◌∙◌, arith, append_assoc, length-append}
use Rattle.std.proofs.lemmas.Bool.{and_parts, cond_both, cond-true, cond-false}
use Rattle.std.proofs.lemmas.Bool.Decides.{nat_tests}
use Rattle.byteorder.specs.Endian.{big_number, little_number}
use Rattle.rpc_core.specs.declared.interface.Interface.{Interface}
use Rattle.rpc_core.specs.Body.{Args, body, counts}
use Rattle.rpc_core.specs.Call.{Asked as Call, call, IsCall}
use Rattle.rpc_core.specs.Fields.{ordered, turned, uuid}
use Rattle.rpc_core.specs.Header.{extent, head, names, opening, order_of, turn}
use Rattle.rpc_core.specs.Pdu.{cut_off, pdu}

-- ---- fields in either byte order

-- A number in the byte order that a representation says, and an identifier.
abbrev pub value_in : ℕ → ℕ → List ℕ → ℕ
value_in representation size octets = if representation / 16 == 1 then little_number size octets else big_number size octets

abbrev pub name_in : ℕ → List ℕ → List ℕ
name_in representation octets = if representation / 16 == 1 then turned octets else octets

-- A field of this many octets.
pub record IsField (representation size : ℕ) (bytes : List ℕ) (value : ℕ) (rest : List ℕ) : Type 0 where
  pub octets : List ℕ
  pub wide : length octets ≡ size
  pub is : bytes ≡ octets ++ rest
  pub value_is : value ≡ value_in representation size octets

pub field_parts : (representation size : ℕ) (bytes : List ℕ) (value : ℕ) (rest : List ℕ) → (ordered (order_of representation) size).Spells bytes value rest
    → IsField representation size bytes value rest
unfolding ordered
field_parts representation size bytes value rest =
    cond_both (representation / 16 == 1) _ _ (λ order. (ordered order size).Spells bytes value rest → IsField representation size bytes value rest)
    (λ is spells. record { octets = spells.0; wide = spells.1; is = spells.2; value_is = spells.3 ∙ sym (cond-true _ _ _ is) })
    (λ not spells. record { octets = spells.0; wide = spells.1; is = spells.2; value_is = spells.3 ∙ sym (cond-false _ _ _ not) })

pub record IsName (representation : ℕ) (bytes value rest : List ℕ) : Type 0 where
  pub octets : List ℕ
  pub wide : length octets ≡ 16
  pub is : bytes ≡ octets ++ rest
  pub value_is : value ≡ name_in representation octets

pub name_parts : (representation : ℕ) (bytes value rest : List ℕ) → (uuid (order_of representation)).Spells bytes value rest → IsName representation bytes value rest
unfolding uuid
name_parts representation bytes value rest =
    cond_both (representation / 16 == 1) _ _ (λ order. (uuid order).Spells bytes value rest → IsName representation bytes value rest)
    (λ is spells. record { octets = spells.0; wide = spells.2.0; is = spells.2.1; value_is = sym spells.1 ∙ sym (cond-true _ _ _ is) })
    (λ not spells. record { octets = value; wide = spells.0; is = spells.1; value_is = sym (cond-false _ _ _ not) })

pub tested : (n m : ℕ) → (n == m) ≡ true → n ≡ m
tested n m is = grind (arith, nat_tests)

five : (a b c d e : List ℕ) → length a ≡ 4 → length b ≡ 2 → length c ≡ 2 → length d ≡ 1 → length e ≡ 1 → length (a ++ (b ++ (c ++ (d ++ e)))) ≡ 10
five a b c d e l m n o p = length-append a (b ++ (c ++ (d ++ e))) ∙ ap (λ x. length a + x) (length-append b (c ++ (d ++ e)) ∙ ap (λ x. length b + x) (length-append c (d ++ e) ∙ ap (λ x. length c + x) (length-append d e))) ∙ omega arith

joined_five : (a b c d e rest : List ℕ) → a ++ (b ++ (c ++ (d ++ (e ++ rest)))) ≡ (a ++ (b ++ (c ++ (d ++ e)))) ++ rest
joined_five a b c d e rest = ap (λ l. a ++ l) (ap (λ l. b ++ l) (ap (λ l. c ++ l) (sym (append_assoc d e rest)) ∙ sym (append_assoc c (d ++ e) rest)) ∙ sym (append_assoc b (c ++ (d ++ e)) rest))
    ∙ sym (append_assoc a (b ++ (c ++ (d ++ e))) rest)

-- The octets of a body, field by field, and its blocks, if their counts are right.
pub record IsBody (representation : ℕ) (inside : List ℕ) (blocks : Option (List ℕ)) : Type 0 where
  pub word : List ℕ
  pub size : List ℕ
  pub maximum : List ℕ
  pub offset : List ℕ
  pub actual : List ℕ
  pub behind : List ℕ
  pub word_wide : length word ≡ 4
  pub size_wide : length size ≡ 4
  pub maximum_wide : length maximum ≡ 4
  pub offset_wide : length offset ≡ 4
  pub actual_wide : length actual ≡ 4
  pub is : inside ≡ word ++ (size ++ (maximum ++ (offset ++ (actual ++ behind))))
  pub counted : is_some blocks ≡ (value_in representation 4 offset == 0 && value_in representation 4 size == value_in representation 4 actual
      && nat_le (value_in representation 4 size) (length behind))
  pub given : (some : List ℕ) → blocks ≡ Some some → (some ≡ take (value_in representation 4 size) behind) × (value_in representation 4 size ≤ length behind)

same_some : (one other : List ℕ) → Some one ≡ Some other → one ≡ other
same_some one other e = cc

pub below : (n m : ℕ) → nat_le n m ≡ true → n ≤ m
below n m is = grind (arith, nat_tests)

blocks_given : (test : Bool) (n : ℕ) (bytes some : List ℕ) → (if test && nat_le n (length bytes) then Some (take n bytes) else None) ≡ Some some
    → (some ≡ take n bytes) × (n ≤ length bytes)
blocks_given test n bytes some =
    cond_both (test && nat_le n (length bytes)) _ _ (λ (found : Option (List ℕ)). found ≡ Some some → (some ≡ take n bytes) × (n ≤ length bytes))
    (λ is given. (sym (same_some _ _ given), below n (length bytes) (and_parts test _ is).1)) (λ _ given. absurd cc)

counted_some : (test : Bool) (bytes : List ℕ) → is_some (if test then Some bytes else None) ≡ test
counted_some true bytes = refl
counted_some false bytes = refl

pub body_parts : (representation : ℕ) (inside : List ℕ) (value : ℕ × Args) → (body (ordered (order_of representation) 4) (order_of representation)).Spells inside value
    → IsBody representation inside value.1.blocks
unfolding body counts
body_parts representation inside value spells =
    let fields = spells.2.1 in
    let counted = fields.2 in
    let word = field_parts representation 4 _ _ _ fields.1 in
    let size = field_parts representation 4 _ _ _ counted.2.1 in
    let maximum = field_parts representation 4 _ _ _ counted.2.2.1 in
    let offset = field_parts representation 4 _ _ _ counted.2.2.2.1 in
    let actual = field_parts representation 4 _ _ _ counted.2.2.2.2 in
    let counts = spells.0.0.1 in
    record {
      word = word.octets;
      size = size.octets;
      maximum = maximum.octets;
      offset = offset.octets;
      actual = actual.octets;
      behind = spells.2.0;
      word_wide = word.wide;
      size_wide = size.wide;
      maximum_wide = maximum.wide;
      offset_wide = offset.wide;
      actual_wide = actual.wide;
      is = word.is ∙ ap (λ l. word.octets ++ l) (size.is ∙ ap (λ l. size.octets ++ l) (maximum.is ∙ ap (λ l. maximum.octets ++ l)
          (offset.is ∙ ap (λ l. offset.octets ++ l) actual.is)));
      counted =
          ap is_some (sym (ap (λ (v : ℕ × Args). v.1.blocks) spells.1))
          ∙ counted_some (counts.offset == 0 && counts.length == counts.actual && nat_le counts.length (length spells.0.1)) (take counts.length spells.0.1)
          ∙ ap (λ l. counts.offset == 0 && counts.length == counts.actual && nat_le counts.length (length l)) (sym spells.2.2)
          ∙ ap (λ n. n == 0 && counts.length == counts.actual && nat_le counts.length (length spells.2.0)) (ap (λ c. c.offset) (sym counted.1) ∙ offset.value_is)
          ∙ ap (λ n. value_in representation 4 offset.octets == 0 && n == counts.actual && nat_le n (length spells.2.0)) (ap (λ c. c.length) (sym counted.1) ∙ size.value_is)
          ∙ ap (λ n. value_in representation 4 offset.octets == 0 && value_in representation 4 size.octets == n && nat_le (value_in representation 4 size.octets) (length spells.2.0))
          (ap (λ c. c.actual) (sym counted.1) ∙ actual.value_is);
      given = λ some is.
          let sized : counts.length ≡ value_in representation 4 size.octets = ap (λ c. c.length) (sym counted.1) ∙ size.value_is in
          subst (λ n. (some ≡ take n spells.2.0) × (n ≤ length spells.2.0)) sized
          (subst (λ l. (some ≡ take counts.length l) × (counts.length ≤ length l)) (sym spells.2.2)
          (blocks_given (counts.offset == 0 && counts.length == counts.actual) counts.length spells.0.1 some (ap (λ (v : ℕ × Args). v.1.blocks) spells.1 ∙ is)));
    }

-- The octets of a call, field by field: the header's, and those of the body.
pub record IsCallAt (bytes : List ℕ) (meaning : Call) : Type 0 where
  pub version : List ℕ
  pub packet_type : List ℕ
  pub flags : List ℕ
  pub serial : List ℕ
  pub representation : List ℕ
  pub third : List ℕ
  pub object : List ℕ
  pub interface : List ℕ
  pub activity : List ℕ
  pub boot : List ℕ
  pub sequence : List ℕ
  pub operation : List ℕ
  pub behind : List ℕ
  pub inside : List ℕ
  pub rest : List ℕ
  pub version_one : length version ≡ 1
  pub type_one : length packet_type ≡ 1
  pub flags_one : length flags ≡ 1
  pub serial_one : length serial ≡ 1
  pub representation_one : length representation ≡ 1
  pub third_three : length third ≡ 3
  pub object_wide : length object ≡ 16
  pub interface_wide : length interface ≡ 16
  pub activity_wide : length activity ≡ 16
  pub boot_wide : length boot ≡ 8
  pub sequence_wide : length sequence ≡ 4
  pub operation_wide : length operation ≡ 2
  pub behind_wide : length behind ≡ 10
  pub hints : List ℕ
  pub extent : List ℕ
  pub ending : List ℕ
  pub ends : behind ≡ hints ++ (extent ++ ending)
  pub hints_wide : length hints ≡ 4
  pub extent_wide : length extent ≡ 2
  pub extent_is : length inside ≡ value_in (big_number 1 representation) 2 extent
  pub is : bytes ≡ version ++ (packet_type ++ (flags ++ (serial ++ (representation ++ (third ++ (object ++ (interface ++ (activity ++ (boot ++ (sequence
      ++ (operation ++ (behind ++ (inside ++ rest)))))))))))))
  pub carried : IsBody (big_number 1 representation) inside meaning.blocks
  pub version_is : big_number 1 version ≡ 4
  pub type_is : big_number 1 packet_type ≡ 0
  pub activity_is : meaning.header.activity ≡ name_in (big_number 1 representation) activity
  pub sequence_is : meaning.header.sequence ≡ value_in (big_number 1 representation) 4 sequence
  pub operation_is : meaning.header.operation ≡ value_in (big_number 1 representation) 2 operation

-- A call that is spelled is one at these places.
pub call_parts : (interface : Interface) (bytes : List ℕ) (meaning : Call) → IsCall interface bytes meaning → IsCallAt bytes meaning
unfolding IsCall call pdu cut_off head opening names turn extent
call_parts interface bytes meaning whole =
    let spells = whole.1.2 in
    let parts = whole.1.0 in
    let tests = spells.1 in
    let versions = tests.1.1.1.0 in
    let cut = tests.1.1.1.1 in
    let headed = cut.1.1 in
    let opens = headed.2.1 in
    let version = opens.2.1 in
    let packet_type = opens.2.2.1 in
    let flags = opens.2.2.2.1 in
    let serial = opens.2.2.2.2.1 in
    let representation = opens.2.2.2.2.2.1 in
    let third = opens.2.2.2.2.2.2 in
    let read : headed.0.0.representation ≡ big_number 1 representation.0 = ap (λ o. o.representation) (sym opens.1) ∙ representation.3 in
    let named = headed.2.2.1 in
    let object = name_parts headed.0.0.representation _ _ _ named.2.1 in
    let server = name_parts headed.0.0.representation _ _ _ named.2.2.1 in
    let activity = name_parts headed.0.0.representation _ _ _ named.2.2.2 in
    let turns = headed.2.2.2.1 in
    let boot = turns.2.1 in
    let sequence = field_parts headed.0.0.representation 4 _ _ _ turns.2.2.1 in
    let operation = field_parts headed.0.0.representation 2 _ _ _ turns.2.2.2 in
    let ends = headed.2.2.2.2 in
    let hints = ends.2.1 in
    let size = field_parts headed.0.0.representation 2 _ _ _ ends.2.2.1 in
    let fragment = field_parts headed.0.0.representation 2 _ _ _ ends.2.2.2.1 in
    let authentication = ends.2.2.2.2.1 in
    let last = ends.2.2.2.2.2 in
    record {
      version = version.0;
      packet_type = packet_type.0;
      flags = flags.0;
      serial = serial.0;
      representation = representation.0;
      third = third.0;
      object = object.octets;
      interface = server.octets;
      activity = activity.octets;
      boot = boot.0;
      sequence = sequence.octets;
      operation = operation.octets;
      behind = hints.0 ++ (size.octets ++ (fragment.octets ++ (authentication.0 ++ last.0)));
      hints = hints.0;
      extent = size.octets;
      ending = fragment.octets ++ (authentication.0 ++ last.0);
      ends = refl;
      hints_wide = hints.2.0;
      extent_wide = size.wide;
      extent_is = cut.2.0 ∙ ap (λ h. h.extent.length) (sym headed.1) ∙ ap (λ e. e.length) (sym ends.1) ∙ size.value_is ∙ ap (λ r. value_in r 2 size.octets) read;
      inside = spells.0;
      rest = whole.0;
      version_one = version.1;
      type_one = packet_type.1;
      flags_one = flags.1;
      serial_one = serial.2.0;
      representation_one = representation.1;
      third_three = third.2.0;
      object_wide = object.wide;
      interface_wide = server.wide;
      activity_wide = activity.wide;
      boot_wide = boot.2.0;
      sequence_wide = sequence.wide;
      operation_wide = operation.wide;
      behind_wide = five hints.0 size.octets fragment.octets authentication.0 last.0 hints.2.0 size.wide fragment.wide authentication.1 last.2.0;
      is = version.2 ∙ ap (λ l. version.0 ++ l) (packet_type.2 ∙ ap (λ l. packet_type.0 ++ l) (flags.2 ∙ ap (λ l. flags.0 ++ l)
          (serial.2.1 ∙ ap (λ l. serial.0 ++ l) (representation.2 ∙ ap (λ l. representation.0 ++ l) (third.2.1 ∙ ap (λ l. third.0 ++ l)
          (object.is ∙ ap (λ l. object.octets ++ l) (server.is ∙ ap (λ l. server.octets ++ l) (activity.is ∙ ap (λ l. activity.octets ++ l)
          (boot.2.1 ∙ ap (λ l. boot.0 ++ l) (sequence.is ∙ ap (λ l. sequence.octets ++ l) (operation.is ∙ ap (λ l. operation.octets ++ l)
          (hints.2.1 ∙ ap (λ l. hints.0 ++ l) (size.is ∙ ap (λ l. size.octets ++ l) (fragment.is ∙ ap (λ l. fragment.octets ++ l)
          (authentication.2 ∙ ap (λ l. authentication.0 ++ l) (last.2.1 ∙ ap (λ l. last.0 ++ l) cut.2.1))))
          ∙ joined_five hints.0 size.octets fragment.octets authentication.0 last.0 (spells.0 ++ whole.0)))))))))))));
      carried = subst (λ b. IsBody (big_number 1 representation.0) spells.0 b) (ap (λ (c : Call). c.blocks) whole.1.1)
          (subst (λ r. IsBody r spells.0 parts.1.1.blocks) (ap (λ h. h.opening.representation) (sym headed.1) ∙ read)
          (body_parts parts.0.opening.representation spells.0 parts.1 spells.2));
      version_is = sym (ap (λ h. h.opening.version) (sym headed.1) ∙ ap (λ o. o.version) (sym opens.1) ∙ version.3) ∙ tested _ 4 (and_parts _ _ (and_parts _ _ versions).0).0;
      type_is = sym (ap (λ h. h.opening.packet_type) (sym headed.1) ∙ ap (λ o. o.packet_type) (sym opens.1) ∙ packet_type.3)
          ∙ tested _ 0 (and_parts _ _ (and_parts _ _ versions).0).1;
      activity_is = ap (λ (c : Call). c.header.activity) (sym whole.1.1) ∙ ap (λ h. h.names.activity) (sym headed.1) ∙ ap (λ n. n.activity) (sym named.1)
          ∙ activity.value_is ∙ ap (λ r. name_in r activity.octets) read;
      sequence_is = ap (λ (c : Call). c.header.sequence) (sym whole.1.1) ∙ ap (λ h. h.turn.sequence) (sym headed.1) ∙ ap (λ n. n.sequence) (sym turns.1)
          ∙ sequence.value_is ∙ ap (λ r. value_in r 4 sequence.octets) read;
      operation_is = ap (λ (c : Call). c.header.operation) (sym whole.1.1) ∙ ap (λ h. h.turn.operation) (sym headed.1) ∙ ap (λ n. n.operation) (sym turns.1)
          ∙ operation.value_is ∙ ap (λ r. value_in r 2 operation.octets) read;
    }
