-- A frame that belongs to a relation only because it is a reset: what the device hears of it.
use Rattle.std.proofs.Common.{◌≡◌, ◌==◌, ◌&&◌, ◌||◌, ℕ, Bool, true, false, List, drop, take, Result, Ok, Err, refl, sym, subst, ◌∙◌, arith}
use Rattle.std.proofs.lemmas.Bool.{and_parts, cond_both}
use Rattle.std.proofs.lemmas.Bool.Decides.{nat_tests}
use Rattle.std.specs.Cmp.Lexicographic.{pointwise}
use Rattle.std.specs.Prelude.{nat_eq}
use Rattle.byteorder.specs.Endian.{big_number}
use Rattle.pn_values.specs.declared.identity.Identity.{Identity}
use Rattle.pn_values.specs.declared.mac.Mac.{Mac}
use Rattle.frame_codec.specs.declared.fault.FrameFault.{FrameFault}
use Rattle.frame_codec.specs.FrameId.{is_alarm, is_cyclic}
use Rattle.frame_codec.specs.Frame.{frame_of}
use Rattle.frame_codec.specs.Meaning.{Content, Meaning, ArpPacket, RealTime, UdpDatagram}
use Rattle.frame_codec.proofs.Frames.{frame_takes}
use Rattle.dcp_core.specs.declared.request.DcpFault.{DcpFault}
use Rattle.dcp_core.specs.Request.{Asked}
use Rattle.dcp_core.specs.Reading.{request_of}
use Rattle.device_frames.specs.Heard.{broadcast, heard_content, heard_frame, heard_request, is_own, is_taken}
use Rattle.octets_law.specs.Octets.{is_dcp, number, untagged}
use Rattle.octets_law.proofs.Bare.{IsBare, bare_of}
use Rattle.octets_law.proofs.Datagrams.{kind_under}
use Rattle.octets_law.proofs.EventSteps.{datagram_type, frame_type}
use Rattle.octets_law.proofs.FrameSteps.{frame_timely}
use Rattle.strangers_law.specs.Strange.{Marks, belongs, is_alarm_of, is_cyclic_of, is_datagram, is_reset, is_said_of, same}
use Rattle.strangers_law.specs.Silence.{is_frame_of}
use Rattle.strangers_law.proofs.Clocks.{IsBeside}

only_reset : (to cyclic alarm reset said : Bool) → (to && (cyclic || alarm || said)) ≡ false → (to && (cyclic || alarm || reset || said)) ≡ true → reset ≡ true
only_reset true false false true said other belongs = refl
only_reset true false false false false other belongs = absurd cc
only_reset true false false false true other belongs = absurd cc
only_reset true false true reset said other belongs = absurd cc
only_reset true true alarm reset said other belongs = absurd cc
only_reset false cyclic alarm reset said other belongs = absurd cc

equal : (n m : ℕ) → (n == m) ≡ true → n ≡ m
equal n m is = grind (arith, nat_tests)

not_both : (n : ℕ) → n ≡ 0x8892 → n ≡ 0x0800 → ⊥
not_both n one other = omega arith

no_alarm : is_alarm 0xFEFD ≡ true → ⊥
no_alarm is = cc

no_cyclic : is_cyclic 0xFEFD ≡ true → ⊥
no_cyclic is = cc

module _ (identity : Identity) where
  request_beside : (source : Mac) (read : Result Asked DcpFault) → IsBeside (heard_request source read)
  request_beside source (Ok request) = tt
  request_beside source (Err why) = tt

  set_beside : (destination source : Mac) (body : List ℕ) → IsBeside (heard_content identity destination source (RealTime 0xFEFD body))
  set_beside destination source body =
      cond_both (is_taken identity destination 0xFEFD) _ _ IsBeside (λ _. request_beside source (request_of 0xFEFD body))
      (λ _. cond_both (is_own identity destination && is_alarm 0xFEFD) _ _ IsBeside (λ both. absurd (no_alarm (and_parts _ _ both).1))
      (λ _. cond_both (is_own identity destination && is_cyclic 0xFEFD) _ _ IsBeside (λ both. absurd (no_cyclic (and_parts _ _ both).1)) (λ _. tt)))

  module _ (bytes : List ℕ) (type : number 12 2 (untagged bytes) ≡ 0x8892) (id : number 14 2 (untagged bytes) ≡ 0xFEFD) where
    content_beside : (meaning : Meaning) → IsBare bytes meaning → (content : Content) → meaning.content ≡ content
        → IsBeside (heard_content identity meaning.destination meaning.source content)
    content_beside meaning bare (RealTime number_read body) is =
        subst (λ n. IsBeside (heard_content identity meaning.destination meaning.source (RealTime n body)))
        (sym id ∙ (frame_timely bytes meaning number_read body bare is).id)
        (set_beside meaning.destination meaning.source body)
    content_beside meaning bare (ArpPacket packet) is =
        cond_both (is_own identity meaning.destination || pointwise nat_eq meaning.destination.octets broadcast) _ _ IsBeside (λ _. tt) (λ _. tt)
    content_beside meaning bare (UdpDatagram from to body) is =
        let typed = datagram_type (big_number 2 bare.type) bare.rest meaning.content from to body is
        (kind_under (big_number 2 bare.type) bare.rest meaning.content bare.content) in
        absurd (not_both _ type (frame_type bytes meaning bare ∙ typed.0))

    read_beside : (read : Result Meaning FrameFault) → frame_of bytes ≡ read → IsBeside (heard_frame identity read)
    read_beside (Err why) is = tt
    read_beside (Ok meaning) is = content_beside meaning (bare_of bytes meaning (frame_takes bytes meaning is).spelled) meaning.content refl

pub reset_beside : (identity : Identity) (station : List ℕ) (marks : Marks) (bytes : List ℕ) → is_frame_of station marks (untagged bytes) ≡ false
    → belongs station marks (untagged bytes) ≡ true → IsBeside (heard_frame identity (frame_of bytes))
reset_beside identity station marks bytes other is =
    let reset : is_reset (untagged bytes) ≡ true =
    only_reset (same (take 6 (untagged bytes)) station) (is_cyclic_of marks (untagged bytes)) (is_alarm_of marks (untagged bytes)) (is_reset (untagged bytes))
    (is_datagram (untagged bytes) && is_said_of marks (drop 42 (untagged bytes))) other is in
    let set = (and_parts (is_dcp 0xFEFD 4 0 (untagged bytes)) _ reset).0 in
    let three = (and_parts (number 12 2 (untagged bytes) == 0x8892 && number 14 2 (untagged bytes) == 0xFEFD && number 16 1 (untagged bytes) == 4) _ set).0 in
    let two = (and_parts (number 12 2 (untagged bytes) == 0x8892 && number 14 2 (untagged bytes) == 0xFEFD) _ three).0 in
    let both = and_parts (number 12 2 (untagged bytes) == 0x8892) (number 14 2 (untagged bytes) == 0xFEFD) two in
    read_beside identity bytes (equal _ 0x8892 both.0) (equal _ 0xFEFD both.1) (frame_of bytes) refl
