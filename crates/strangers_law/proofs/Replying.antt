-- The activity of a call that was read, and of the answers to it that the services write.
use Rattle.std.proofs.Common.{◌≡◌, ◌==◌, ◌&&◌, ◌*◌, ◌/◌, ◌<◌, ℕ, Bool, true, false, List, [], ◌∷◌, ◌++◌, length, length-append, append_assoc, Option, Some, None, Result, Ok, Err, refl, sym, ap, subst, ◌∙◌, arith}
use Rattle.std.specs.Prelude.{nat_lt, if◌then◌else◌}
use Rattle.std.specs.Option.{option_map}
use Rattle.std.proofs.lemmas.Bool.{and_parts, cond_both, ltb-true}
use Rattle.std.proofs.lemmas.List.{append-nil}
use Rattle.byteorder.specs.Endian.{big_bytes, big_number}
use Rattle.pn_values.specs.declared.identity.Identity.{Identity}
use Rattle.rpc_core.specs.declared.fault.RpcFault.{RpcFault}
use Rattle.rpc_core.specs.declared.call_headers.call.Opening.{Opening}
use Rattle.rpc_core.specs.declared.call_headers.call.Head.{Head}
use Rattle.rpc_core.specs.declared.call_headers.call.Names.{Names}
use Rattle.rpc_core.specs.declared.call_headers.unserved.Refusal.{Refusal}
use Rattle.rpc_core.specs.declared.call_headers.unserved.Refusal.TheVariants.{NoCall, Reject}
use Rattle.rpc_core.specs.declared.call_headers.unserved.Rejection.TheVariants.{Operation}
use Rattle.rpc_core.specs.Fields.{turned}
use Rattle.rpc_core.specs.call_headers.Call.{extent, head, is_little, names, opening, turn}
use Rattle.rpc_core.specs.call_headers.Unserved.{answer_by, answer_bytes, answer_head, is_read, refusal_of, unserved_answer}
use Rattle.rpc_services.specs.declared.endpoint_mapper.lookup.Lookup.{Lookup}
use Rattle.rpc_services.specs.endpoint_mapper.Lookup.{gets_entry, lookup}
use Rattle.rpc_services.specs.endpoint_mapper.Mapper.{is_mapped, lookup_answer, low_first, mapped, mapped_by, operation_answer, response, response_head}
use Rattle.rpc_services.proofs.PiecesSound.{head_sound}
use Rattle.octets_law.specs.Octets.{activity_of, number}
use Rattle.octets_law.proofs.CallReads.{name_in}
use Rattle.octets_law.proofs.SetFrames.{number_front}
use Rattle.strangers_law.proofs.Refusals.{after_eight}
use Rattle.strangers_law.proofs.Responses.{placed}

two_names : (object interface : List ℕ) → length object ≡ 16 → length interface ≡ 16 → length (object ++ interface) ≡ 32
two_names object interface o i = length-append object interface ∙ omega (arith, o, i)

-- ---- a header that was read

-- The identifiers of a header have 16 octets.
pub record AreNames (h : Head) : Type 0 where
  pub object : length h.names.object ≡ 16
  pub interface : length h.names.interface ≡ 16
  pub activity : length h.names.activity ≡ 16

pub record IsHead (bytes : List ℕ) (h : Head) : Type 0 where
  pub names : AreNames h
  pub activity : (more : List ℕ) → activity_of (bytes ++ more) ≡ name_in h.opening.representation h.names.activity

spelled : (bytes : List ℕ) (h : Head) (rest : List ℕ) → head.Spells bytes h rest → IsHead bytes h
unfolding head opening names
spelled bytes h rest spells =
    let opens = spells.2.1 in
    let parts = opens.2 in
    let version = parts.1.2.1 in
    let type = parts.2.1 in
    let flags = parts.2.2.1 in
    let serial = parts.2.2.2.1 in
    let representation = parts.2.2.2.2.1 in
    let third = parts.2.2.2.2.2 in
    let named = spells.2.2.1 in
    let object = named.2.1 in
    let interface = named.2.2.1 in
    let activity = named.2.2.2 in
    let names_is = ap (λ (n : Names). n) named.1 ∙ ap (λ (h : Head). h.names) spells.1 in
    let read : big_number 1 representation.0 ≡ h.opening.representation = sym representation.3 ∙ ap (λ (o : Opening). o.representation) opens.1 ∙ ap (λ (h : Head). h.opening.representation) spells.1 in
    let octets = version.2 ∙ ap (λ l. version.0 ++ l) (type.2 ∙ ap (λ l. type.0 ++ l) (flags.2 ∙ ap (λ l. flags.0 ++ l) (serial.2.1 ∙ ap (λ l. serial.0 ++ l)
    (representation.2 ∙ ap (λ l. representation.0 ++ l) (third.2.1 ∙ ap (λ l. third.0 ++ l) (object.1 ∙ ap (λ l. named.0.0 ++ l) (interface.1 ∙ ap (λ l. named.0.1.0 ++ l) activity.1)
    ∙ sym (append_assoc named.0.0 named.0.1.0 _))))))) in
    record {
      names = record {
        object = subst (λ (n : Names). length n.object ≡ 16) names_is object.0;
        interface = subst (λ (n : Names). length n.interface ≡ 16) names_is interface.0;
        activity = subst (λ (n : Names). length n.activity ≡ 16) names_is activity.0;
      };
      activity = λ more. ap (λ l. activity_of (l ++ more)) octets
          ∙ ap activity_of (after_eight version.0 type.0 flags.0 serial.0 representation.0 third.0 (named.0.0 ++ named.0.1.0) named.0.1.1 _ more)
          ∙ placed version.0 type.0 flags.0 serial.0 representation.0 third.0 (named.0.0 ++ named.0.1.0) named.0.1.1 _ version.1 type.1 flags.1 serial.2.0 representation.1 third.2.0
          (two_names named.0.0 named.0.1.0 object.0 interface.0) activity.0
          ∙ ap (λ r. name_in r named.0.1.1) read ∙ ap (λ (n : Names). name_in h.opening.representation n.activity) names_is;
    }

pub head_is : (bytes : List ℕ) (h : Head) (rest : List ℕ) → head.read bytes ≡ Ok (h, rest) → IsHead bytes h
head_is bytes h rest e = spelled bytes h rest (head_sound.takes bytes h rest e)

-- ---- a header that is written

pub written : (h : Head) (more : List ℕ) → AreNames h → h.opening.representation < 256 → activity_of (head.write h [] ++ more) ≡ name_in h.opening.representation h.names.activity
unfolding head opening names
written h more are small =
    let rest_written = (turn (is_little h.opening.representation)).write h.turn ((extent (is_little h.opening.representation)).write h.extent []) in
    let octets : head.write h [] ≡ big_bytes 1 4 ++ (big_bytes 1 h.opening.packet_type ++ (big_bytes 1 h.opening.flags ++ ((0 ∷ []) ++ (big_bytes 1 h.opening.representation ++ ((0 ∷ 0 ∷ 0 ∷ [])
    ++ ((h.names.object ++ h.names.interface) ++ (h.names.activity ++ rest_written))))))) =
    ap (λ l. big_bytes 1 4 ++ (big_bytes 1 h.opening.packet_type ++ (big_bytes 1 h.opening.flags ++ ((0 ∷ []) ++ (big_bytes 1 h.opening.representation ++ ((0 ∷ 0 ∷ 0 ∷ []) ++ l))))))
    (sym (append_assoc h.names.object h.names.interface (h.names.activity ++ rest_written))) in
    ap (λ l. activity_of (l ++ more)) octets
    ∙ ap activity_of (after_eight (big_bytes 1 4) (big_bytes 1 h.opening.packet_type) (big_bytes 1 h.opening.flags) (0 ∷ []) (big_bytes 1 h.opening.representation) (0 ∷ 0 ∷ 0 ∷ [])
    (h.names.object ++ h.names.interface) h.names.activity rest_written more)
    ∙ placed (big_bytes 1 4) (big_bytes 1 h.opening.packet_type) (big_bytes 1 h.opening.flags) (0 ∷ []) (big_bytes 1 h.opening.representation) (0 ∷ 0 ∷ 0 ∷ [])
    (h.names.object ++ h.names.interface) h.names.activity (rest_written ++ more) refl refl refl refl refl refl (two_names h.names.object h.names.interface are.object are.interface) are.activity
    ∙ ap (λ r. name_in r h.names.activity) (number_front 1 h.opening.representation [] small)

sixteen : (n : ℕ) → n / 16 * 16 / 16 ≡ n / 16
sixteen n = omega arith

small_order : (n : ℕ) → nat_lt (n / 16) 2 ≡ true → n / 16 * 16 < 256
small_order n e = let few : n / 16 < 2 = ltb-true _ _ e in omega (arith, few)

-- ---- answers

-- An answer to a call with this body: its packet type, and its activity, which is that of the call.
pub record Replies (responds : Bool) (body answer : List ℕ) : Type 0 where
  pub kind : ℕ
  pub kind_is : (more : List ℕ) → number 0 2 (answer ++ more) ≡ kind
  pub called : (kind == 0x0400) ≡ false
  pub responded : (kind == 0x0402) ≡ responds
  pub activity : (more other : List ℕ) → activity_of (answer ++ more) ≡ activity_of (body ++ other)

kind_written : (h : Head) (type : ℕ) (more : List ℕ) → h.opening.packet_type ≡ type → number 0 2 (head.write h [] ++ more) ≡ number 0 2 (big_bytes 1 4 ++ big_bytes 1 type)
unfolding head opening names
kind_written h type more is = ap (λ n. number 0 2 (big_bytes 1 4 ++ big_bytes 1 n)) is

-- An answer with a header of this kind.
pub headed : (responds : Bool) (body tail : List ℕ) (h answer : Head) (type : ℕ) → IsHead body h → nat_lt (h.opening.representation / 16) 2 ≡ true
    → answer.names ≡ h.names → answer.opening.representation ≡ h.opening.representation / 16 * 16 → answer.opening.packet_type ≡ type
    → (number 0 2 (big_bytes 1 4 ++ big_bytes 1 type) == 0x0400) ≡ false → (number 0 2 (big_bytes 1 4 ++ big_bytes 1 type) == 0x0402) ≡ responds
    → Replies responds body (head.write answer [] ++ tail)
headed responds body tail h answer type is order names_is representation kind called responded = record {
  kind = number 0 2 (big_bytes 1 4 ++ big_bytes 1 type);
  kind_is = λ more. ap (number 0 2) (append_assoc (head.write answer []) tail more) ∙ kind_written answer type (tail ++ more) kind;
  called = called;
  responded = responded;
  activity = λ more other. ap activity_of (append_assoc (head.write answer []) tail more)
      ∙ written answer (tail ++ more) (record {
        object = ap (λ (n : Names). length n.object) names_is ∙ is.names.object;
        interface = ap (λ (n : Names). length n.interface) names_is ∙ is.names.interface;
        activity = ap (λ (n : Names). length n.activity) names_is ∙ is.names.activity;
      }) (subst (λ n. n < 256) (sym representation) (small_order h.opening.representation order))
      ∙ ap (λ (n : Names). name_in answer.opening.representation n.activity) names_is
      ∙ ap (λ n. name_in n h.names.activity) representation
      ∙ ap (λ n. if n == 1 then turned h.names.activity else h.names.activity) (sixteen h.opening.representation)
      ∙ sym (is.activity other);
}

-- The refusal of a call to an unknown interface or operation, and the answer to a ping.
refused : (body tail : List ℕ) (h : Head) (refusal : Refusal) → IsHead body h → nat_lt (h.opening.representation / 16) 2 ≡ true → Replies false body (answer_bytes h refusal)
unfolding answer_bytes
refused body tail h NoCall is order =
    subst (Replies false body) (append-nil (head.write (answer_head h 5 0) [])) (headed false body [] h (answer_head h 5 0) 5 is order refl refl refl refl refl)
refused body tail h (Reject rejection) is order = headed false body _ h (answer_head h 6 4) 6 is order refl refl refl refl refl

first_of : (a b c d e : Bool) → (a && b && c && d && e) ≡ true → a ≡ true
first_of true b c d e is = refl
first_of false b c d e is = absurd cc

some_is : {A : Type 0} (one other : A) → Some one ≡ Some other → one ≡ other
some_is one other e = cc

abbrev Result_ : Type 0
Result_ = Result (Head × List ℕ) RpcFault

pub unserved : (body answer : List ℕ) → unserved_answer body ≡ Some answer → Replies false body answer
unfolding unserved_answer
unserved body answer e = by_read (head.read body) refl e
  where
    by_refusal : (h : Head) → IsHead body h → nat_lt (h.opening.representation / 16) 2 ≡ true → (refusal : Option Refusal) → option_map (answer_bytes h) refusal ≡ Some answer
        → Replies false body answer
    by_refusal h is order None e = absurd cc
    by_refusal h is order (Some refusal) e = subst (Replies false body) (some_is _ _ e) (refused body [] h refusal is order)

    by_read : (read : Result_) → head.read body ≡ read → answer_by read ≡ Some answer → Replies false body answer
    by_read (Ok (h, rest)) is e =
        cond_both (is_read h rest) _ _ (λ (o : Option (List ℕ)). o ≡ Some answer → Replies false body answer)
        (λ read e. by_refusal h (head_is body h rest is) (first_of _ _ _ _ _ read) (refusal_of h) e) (λ _ e. absurd cc) e
    by_read (Err fault) is e = absurd cc

-- The answer of the endpoint mapper.
pub mapping : (identity : Identity) (address body answer : List ℕ) → mapped identity address body ≡ Some answer → (responds : Bool) × Replies responds body answer
unfolding mapped
mapping identity address body answer e = by_read (head.read body) refl e
  where
    Goal : Type 0
    Goal = (responds : Bool) × Replies responds body answer

    responds : (h : Head) (size : ℕ) (inner : List ℕ) → IsHead body h → nat_lt (h.opening.representation / 16) 2 ≡ true → response h size inner ≡ answer → Goal
    responds h size inner is order e = (true, subst (Replies true body) e (headed true body inner h (response_head h size) 2 is order refl refl refl refl refl))

    by_lookup : (h : Head) → IsHead body h → nat_lt (h.opening.representation / 16) 2 ≡ true → (read : Result (Lookup × List ℕ) RpcFault) → lookup_answer identity address h read ≡ Some answer → Goal
    by_lookup h is order (Ok x) e =
        cond_both (gets_entry x.0) _ _ (λ (l : List ℕ). l ≡ answer → Goal)
        (λ _ e. responds h 216 _ is order e) (λ _ e. responds h 40 _ is order e) (some_is _ _ e)
    by_lookup h is order (Err fault) e = absurd cc

    by_operation : (h : Head) (inner : List ℕ) → IsHead body h → nat_lt (h.opening.representation / 16) 2 ≡ true → operation_answer identity address h inner ≡ Some answer → Goal
    by_operation h inner is order e =
        cond_both (h.turn.operation == 2) _ _ (λ (o : Option (List ℕ)). o ≡ Some answer → Goal)
        (λ _ e. by_lookup h is order ((lookup (low_first h)).read inner) e)
        (λ _. cond_both (h.turn.operation == 4) _ _ (λ (o : Option (List ℕ)). o ≡ Some answer → Goal)
        (λ _ e. responds h 24 _ is order (some_is _ _ e))
        (λ _ e. (false, subst (Replies false body) (some_is _ _ e) (refused body [] h (Reject Operation) is order)))) e

    by_read : (read : Result_) → head.read body ≡ read → mapped_by identity address read ≡ Some answer → Goal
    by_read (Ok (h, rest)) is e =
        cond_both (is_mapped h rest) _ _ (λ (o : Option (List ℕ)). o ≡ Some answer → Goal)
        (λ mapped e. by_operation h _ (head_is body h rest is) (first_of _ _ _ _ _ (and_parts _ _ (and_parts _ _ mapped).0).0) e) (λ _ e. absurd cc) e
    by_read (Err fault) is e = absurd cc
