-- A frame that the device dropped is handled by what of it concerns the services.
use Rattle.std.proofs.Common.{◌≡◌, ◌==◌, ◌&&◌, ◌||◌, ℕ, Bool, true, false, List, length, Option, Some, None, Result, Ok, Err, refl, sym, ◌∙◌, arith}
use Rattle.std.specs.Prelude.{not, nat_eq, nat_le, nat_lt}
use Rattle.std.specs.Cmp.Lexicographic.{pointwise}
use Rattle.std.proofs.lemmas.Bool.{eqb-true}
use Rattle.std.proofs.lemmas.Bool.Decides.{nat_tests}
use Rattle.wire.specs.Formats.{◌⨾◌}
use Rattle.pn_values.specs.declared.mac.Mac.{Mac}
use Rattle.pn_values.specs.declared.identity.Identity.{Identity}
use Rattle.frame_codec.specs.declared.fault.FrameFault.{FrameFault}
use Rattle.frame_codec.specs.Frame.{longest, mac, tag_and_type}
use Rattle.device_frames.specs.declared.note.Note.{Note}
use Rattle.lldp.specs.Frame.{link as near_link, lldp_type, nearest, told_in}
use Rattle.lldp.specs.State as near
use Rattle.lldp.specs.State.{heard as near_heard}
use Rattle.services.specs.Echo.{link as ip_link}
use Rattle.services.specs.Answer.{answer_to, call_in, disputes, heard}
use Rattle.services.specs.Concern.{Concern, Nothing, OtherType, Packet, Calls, Asks, concern_after, concern_answer, concern_call, concern_disputes, has_other_type, is_other, is_other_type, opened}
use Rattle.device_station.specs.Serving.{Serving, meets, or_else}
use Rattle.device_station.specs.Beside.{by_concern, heard_beside, is_dropped}

-- ---- a frame of PROFINET, ARP or IPv4 has no message of a neighbour

no_longer : (most size : ℕ) → nat_lt most size ≡ true → nat_le size most ≡ false
no_longer most size e = grind (arith, nat_tests)

unlike : (fits to type own : Bool) → type ≡ false → (fits && to && type && own) ≡ false
unlike true true type own e = rw e refl
unlike true false type own e = refl
unlike false to type own e = refl

too_long : (fits to type own : Bool) → fits ≡ false → (fits && to && type && own) ≡ false
too_long fits to type own e = rw e refl

-- the type of LLDP is another one
other_lldp : (kind : ℕ) (is : Bool) → (kind == lldp_type) ≡ is → is_other kind ≡ false → is ≡ false
other_lldp kind true e other = let is : is_other kind ≡ true = rw (eqb-true kind lldp_type e) refl in sym is ∙ other
other_lldp kind false e other = refl

module _ (own : Mac) (bytes : List ℕ) (to from : Mac) (tag : Option ℕ) (kind : ℕ) (content : List ℕ) (e : (mac ⨾ mac ⨾ tag_and_type).read bytes ≡ Ok ((to, (from, (tag, kind))), content)) where
  untold_by : (long : Bool) → nat_lt (longest tag) (length bytes) ≡ long → has_other_type bytes ≡ false → told_in own bytes ≡ None
  unfolding has_other_type opened ip_link near_link told_in
  untold_by true long other =
      rw (
        e,
        too_long (nat_le (length bytes) (longest tag)) (pointwise nat_eq to.octets nearest) (kind == lldp_type) (not (pointwise nat_eq from.octets own.octets))
            (no_longer (longest tag) (length bytes) long),
      ) refl
  untold_by false short other =
      let is : has_other_type bytes ≡ is_other kind = rw (e, short) refl in
      rw (
        e,
        unlike (nat_le (length bytes) (longest tag)) (pointwise nat_eq to.octets nearest) (kind == lldp_type) (not (pointwise nat_eq from.octets own.octets))
            (other_lldp kind (kind == lldp_type) refl (sym is ∙ other)),
      ) refl

untold_from : (own : Mac) (bytes : List ℕ) (read : Result ((Mac × (Mac × (Option ℕ × ℕ))) × List ℕ) FrameFault) → (mac ⨾ mac ⨾ tag_and_type).read bytes ≡ read
    → has_other_type bytes ≡ false → told_in own bytes ≡ None
unfolding near_link told_in
untold_from own bytes (Ok ((to, (from, (tag, kind))), content)) e other = untold_by own bytes to from tag kind content e (nat_lt (longest tag) (length bytes)) refl other
untold_from own bytes (Err fault) e other = rw e refl

untold : (own : Mac) (bytes : List ℕ) → has_other_type bytes ≡ false → told_in own bytes ≡ None
untold own bytes other = untold_from own bytes ((mac ⨾ mac ⨾ tag_and_type).read bytes) refl other

unmet : (state : near.State) (bytes : List ℕ) → told_in state.mac bytes ≡ None → near_heard state bytes ≡ state
unfolding near_heard
unmet state bytes e = rw e refl

-- ---- what concerns the services says all

-- what is known of a frame with this concern
pub record IsKnown (state : Serving) (bytes : List ℕ) (of : Concern) : Type 0 where
  pub answer : answer_to state.ip bytes ≡ concern_answer state.ip of
  pub after : heard state.ip bytes ≡ concern_after state.ip of
  pub call : call_in state.ip bytes ≡ concern_call of
  pub dispute : disputes state.ip bytes ≡ concern_disputes state.ip of
  pub other : has_other_type bytes ≡ is_other_type of

or_false : (b : Bool) → (b || false) ≡ b
or_false true = refl
or_false false = refl

or_none : {A : Type 0} (one : Option A) → or_else one None ≡ one
or_none None = refl
or_none (Some value) = refl

module _ (identity : Identity) (state : Serving) (note : Note) (bytes : List ℕ) (dropped : is_dropped note ≡ true) where
  pub beside_is : (of : Concern) → IsKnown state bytes of → heard_beside identity state note bytes ≡ by_concern identity state note bytes of
  beside_is Nothing k =
      let none = untold state.near.mac bytes k.other in
      rw (dropped, k.call, k.answer, k.after, k.dispute, unmet state.near bytes none, none) refl
  beside_is OtherType k = rw (dropped, k.call, k.answer, k.after, k.dispute, or_false (meets state bytes)) refl
  beside_is (Packet to from asked) k =
      let none = untold state.near.mac bytes k.other in
      rw (dropped, k.call, k.answer, k.after, k.dispute, unmet state.near bytes none, none, or_false (concern_disputes state.ip (Packet to from asked)), or_none (concern_answer state.ip (Packet to from asked))) refl
  beside_is (Calls call) k =
      let none = untold state.near.mac bytes k.other in
      rw (dropped, k.call, k.answer, k.after, k.dispute, unmet state.near bytes none, none) refl
  beside_is (Asks request) k =
      let none = untold state.near.mac bytes k.other in
      rw (dropped, k.call, k.answer, k.after, unmet state.near bytes none, none) refl
