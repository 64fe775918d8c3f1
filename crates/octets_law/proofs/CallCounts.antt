-- The activity of a call, its sequence number and whether its blocks are counted right, read at fixed places.
use Rattle.std.proofs.Common.{◌≡◌, ◌==◌, ◌&&◌, ◌+◌, ◌/◌, ℕ, nat_le, List, ◌++◌, length, take, drop, is_some, if◌then◌else◌, refl, sym, ap, subst, ◌∙◌, arith, append_assoc, length-append}
use Rattle.std.proofs.lemmas.Bool.Decides.{nat_tests}
use Rattle.byteorder.specs.Endian.{big_number, little_number}
use Rattle.rpc_core.specs.declared.interface.Interface.{Interface}
use Rattle.rpc_core.specs.Call.{Asked as Call, IsCall}
use Rattle.rpc_core.specs.Fields.{turned}
use Rattle.octets_law.specs.Octets.{activity_of, in_order, is_counted, number, part}
use Rattle.octets_law.proofs.CallPlaces.{four_front, opened, sixteen, skip, two_front}
use Rattle.octets_law.proofs.CallReads.{call_parts, name_in, value_in}
use Rattle.octets_law.proofs.SetReads.{one_octet}

-- What names a call, and whether its counts are right.
pub record IsCallCounted (bytes : List ℕ) (meaning : Call) : Type 0 where
  pub activity : activity_of bytes ≡ meaning.header.activity
  pub sequence : in_order 64 4 bytes ≡ meaning.header.sequence
  pub counted : is_counted bytes ≡ is_some meaning.blocks

-- A number of n octets at the front, in the byte order of a representation.
abbrev at_front : ℕ → ℕ → List ℕ → ℕ
at_front representation size octets = if representation / 16 == 1 then little_number size octets else big_number size octets

first_octet : (octets rest : List ℕ) → length octets ≡ 1 → big_number 1 (octets ++ rest) ≡ big_number 1 octets
first_octet octets rest is = one_octet (λ l. big_number 1 (l ++ rest) ≡ big_number 1 l) octets is (λ a. refl)

inside_size : (word size maximum offset actual behind : List ℕ) → length word ≡ 4 → length size ≡ 4 → length maximum ≡ 4 → length offset ≡ 4 → length actual ≡ 4
    → length (word ++ (size ++ (maximum ++ (offset ++ (actual ++ behind))))) ≡ 20 + length behind
inside_size word size maximum offset actual behind a b c d e =
    length-append word _ ∙ ap (λ n. length word + n) (length-append size _ ∙ ap (λ n. length size + n) (length-append maximum _
    ∙ ap (λ n. length maximum + n) (length-append offset _ ∙ ap (λ n. length offset + n) (length-append actual behind)))) ∙ omega arith

counts_more : (size behind : ℕ) → nat_le (20 + size) (20 + behind) ≡ nat_le size behind
counts_more size behind = grind (arith, nat_tests)

-- A call is read so at fixed places.
pub call_counted : (interface : Interface) (bytes : List ℕ) (meaning : Call) → IsCall interface bytes meaning → IsCallCounted bytes meaning
call_counted interface bytes meaning spells =
    let it = call_parts interface bytes meaning spells in
    let body = it.carried in
    let order : ℕ = big_number 1 it.representation in
    let tail : List ℕ = it.sequence ++ (it.operation ++ (it.behind ++ (it.inside ++ it.rest))) in
    let fields : List ℕ = it.object ++ (it.interface ++ (it.activity ++ (it.boot ++ tail))) in
    let at_order : drop 4 bytes ≡ it.representation ++ (it.third ++ fields) =
    ap (drop 4) it.is ∙ skip 3 1 it.version _ it.version_one ∙ skip 2 1 it.packet_type _ it.type_one ∙ skip 1 1 it.flags _ it.flags_one ∙ skip 0 1 it.serial _ it.serial_one in
    let ordered : number 4 1 bytes ≡ order = ap (big_number 1) at_order ∙ first_octet it.representation (it.third ++ fields) it.representation_one in
    let at_fields : (k : ℕ) → drop (1 + (1 + (1 + (1 + (1 + (3 + k)))))) bytes ≡ drop k fields =
    λ k. ap (drop (1 + (1 + (1 + (1 + (1 + (3 + k))))))) it.is ∙ skip (1 + (1 + (1 + (1 + (3 + k))))) 1 it.version _ it.version_one
    ∙ skip (1 + (1 + (1 + (3 + k)))) 1 it.packet_type _ it.type_one ∙ skip (1 + (1 + (3 + k))) 1 it.flags _ it.flags_one
    ∙ skip (1 + (3 + k)) 1 it.serial _ it.serial_one ∙ skip (3 + k) 1 it.representation _ it.representation_one ∙ skip k 3 it.third _ it.third_three in
    let at_activity : drop 40 bytes ≡ it.activity ++ (it.boot ++ tail) = at_fields 32 ∙ skip 16 16 it.object _ it.object_wide ∙ skip 0 16 it.interface _ it.interface_wide in
    let at_tail : (k : ℕ) → drop (1 + (1 + (1 + (1 + (1 + (3 + (16 + (16 + (16 + (8 + k)))))))))) bytes ≡ drop k tail =
    λ k. at_fields (16 + (16 + (16 + (8 + k)))) ∙ skip (16 + (16 + (8 + k))) 16 it.object _ it.object_wide ∙ skip (16 + (8 + k)) 16 it.interface _ it.interface_wide
    ∙ skip (8 + k) 16 it.activity _ it.activity_wide ∙ skip k 8 it.boot _ it.boot_wide in
    let at_extent : drop 74 bytes ≡ it.extent ++ (it.ending ++ (it.inside ++ it.rest)) =
    at_tail 10 ∙ skip 6 4 it.sequence _ it.sequence_wide ∙ skip 4 2 it.operation _ it.operation_wide
    ∙ ap (λ l. drop 4 (l ++ (it.inside ++ it.rest))) it.ends ∙ ap (drop 4) (append_assoc it.hints _ _) ∙ skip 0 4 it.hints _ it.hints_wide ∙ append_assoc it.extent it.ending _ in
    let at_body : (k : ℕ) → drop (1 + (1 + (1 + (1 + (1 + (3 + (16 + (16 + (16 + (8 + (4 + (2 + (10 + k))))))))))))) bytes
    ≡ drop k (body.word ++ (body.size ++ (body.maximum ++ (body.offset ++ (body.actual ++ (body.behind ++ it.rest)))))) =
    λ k. at_tail (4 + (2 + (10 + k))) ∙ skip (2 + (10 + k)) 4 it.sequence _ it.sequence_wide ∙ skip (10 + k) 2 it.operation _ it.operation_wide ∙ skip k 10 it.behind _ it.behind_wide
    ∙ ap (λ l. drop k (l ++ it.rest)) body.is ∙ ap (drop k) (opened body.word body.size body.maximum body.offset body.actual body.behind it.rest) in
    let sized : in_order 84 4 bytes ≡ value_in order 4 body.size =
    ap (λ r. at_front r 4 (drop 84 bytes)) ordered ∙ ap (at_front order 4) (at_body 4 ∙ skip 0 4 body.word _ body.word_wide) ∙ four_front order body.size _ body.size_wide in
    let moved : in_order 92 4 bytes ≡ value_in order 4 body.offset =
    ap (λ r. at_front r 4 (drop 92 bytes)) ordered ∙ ap (at_front order 4) (at_body 12 ∙ skip 8 4 body.word _ body.word_wide ∙ skip 4 4 body.size _ body.size_wide
    ∙ skip 0 4 body.maximum _ body.maximum_wide) ∙ four_front order body.offset _ body.offset_wide in
    let told : in_order 96 4 bytes ≡ value_in order 4 body.actual =
    ap (λ r. at_front r 4 (drop 96 bytes)) ordered ∙ ap (at_front order 4) (at_body 16 ∙ skip 12 4 body.word _ body.word_wide ∙ skip 8 4 body.size _ body.size_wide
    ∙ skip 4 4 body.maximum _ body.maximum_wide ∙ skip 0 4 body.offset _ body.offset_wide) ∙ four_front order body.actual _ body.actual_wide in
    let long : in_order 74 2 bytes ≡ 20 + length body.behind =
    ap (λ r. at_front r 2 (drop 74 bytes)) ordered ∙ ap (at_front order 2) at_extent ∙ two_front order it.extent _ it.extent_wide ∙ sym it.extent_is ∙ ap length body.is
    ∙ inside_size body.word body.size body.maximum body.offset body.actual body.behind body.word_wide body.size_wide body.maximum_wide body.offset_wide body.actual_wide in
    record {
      activity =
          ap (λ r. if r / 16 == 1 then turned (part 40 16 bytes) else part 40 16 bytes) ordered ∙ ap (λ l. name_in order (take 16 l)) at_activity
          ∙ ap (name_in order) (sixteen it.activity _ it.activity_wide) ∙ sym it.activity_is;
      sequence =
          ap (λ r. at_front r 4 (drop 64 bytes)) ordered ∙ ap (at_front order 4) (at_tail 0) ∙ four_front order it.sequence _ it.sequence_wide ∙ sym it.sequence_is;
      counted =
          ap (λ n. n == 0 && in_order 84 4 bytes == in_order 96 4 bytes && nat_le (20 + in_order 84 4 bytes) (in_order 74 2 bytes)) moved
          ∙ ap (λ n. value_in order 4 body.offset == 0 && n == in_order 96 4 bytes && nat_le (20 + n) (in_order 74 2 bytes)) sized
          ∙ ap (λ n. value_in order 4 body.offset == 0 && value_in order 4 body.size == n && nat_le (20 + value_in order 4 body.size) (in_order 74 2 bytes)) told
          ∙ ap (λ n. value_in order 4 body.offset == 0 && value_in order 4 body.size == value_in order 4 body.actual && nat_le (20 + value_in order 4 body.size) n) long
          ∙ ap (λ b. value_in order 4 body.offset == 0 && value_in order 4 body.size == value_in order 4 body.actual && b) (counts_more (value_in order 4 body.size) (length body.behind))
          ∙ sym body.counted;
    }
