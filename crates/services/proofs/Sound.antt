-- The formats of echo messages are sound.
use Rattle.std.proofs.Common.{ℕ, ◌==◌, refl, arith}
use Rattle.wire.specs.Codec.{Whole, IsSound, IsSoundWhole}
use Rattle.wire.proofs.Fields.{raw_sound, number_sound}
use Rattle.wire.proofs.Joined.{then_by_sound, seen_sound, unchecked_sound}
use Rattle.wire.proofs.Handled.{checked_sound, fixed_sound, allowed_sound}
use Rattle.wire.proofs.Kept.{kept_sound, cut_sound}
use Rattle.wire.proofs.Wholes.{everything_sound, ends_by_sound, seen_whole_sound, loose_sound}
use Rattle.frame_codec.specs.declared.fault.FrameFault.{FrameFault}
use Rattle.frame_codec.specs.declared.fault.FrameFault.TheVariants.{IpHeader, IpChecksum}
use Rattle.frame_codec.specs.Sum.{ones_sum_of}
use Rattle.frame_codec.specs.Internet.{size_behind, internet_size, no_fragment}
use Rattle.services.specs.Message.{icmp_way, icmp_packet, echo_header, echo_message, summed, echo_inside, echo_packet, echo_in, packet_of, echo}

-- ---- the header of IPv4

size_behind_sound : (header least : ℕ) → IsSound (size_behind IpHeader header least)
unfolding size_behind
size_behind_sound header least = seen_sound _ _ _ (λ size. omega arith) (checked_sound _ IpHeader _ (number_sound IpHeader 2))

pub size_sound : IsSound internet_size
unfolding internet_size
size_sound = seen_sound _ _ _ (λ _. refl) (then_by_sound _ _ (fixed_sound IpHeader 1 0x45)
    (λ _. then_by_sound _ _ (unchecked_sound IpHeader 1 0) (λ _. then_by_sound _ _ (size_behind_sound 20 28) (λ _. unchecked_sound IpHeader 2 0))))

pub no_fragment_sound : IsSound no_fragment
no_fragment_sound = seen_sound _ _ _ (λ _. refl) (checked_sound _ IpHeader _ (number_sound IpHeader 2))

pub way_sound : IsSound icmp_way
unfolding icmp_way
way_sound = seen_sound _ _ _ (λ _. refl)
    (then_by_sound _ _ no_fragment_sound (λ _. then_by_sound _ _ (unchecked_sound IpHeader 1 64) (λ _. fixed_sound IpHeader 1 1)))

pub icmp_packet_sound : IsSound icmp_packet
unfolding icmp_packet
icmp_packet_sound = seen_sound _ _ _ (λ header. refl) (then_by_sound _ _ size_sound (λ _. then_by_sound _ _ way_sound
    (λ _. then_by_sound _ _ (number_sound IpHeader 2) (λ _. then_by_sound _ _ (raw_sound IpHeader 4) (λ _. raw_sound IpHeader 4)))))

-- ---- an echo message

pub echo_header_sound : (kind : ℕ) → IsSound (echo_header kind)
unfolding echo_header
echo_header_sound kind = seen_sound _ _ _ (λ header. refl)
    (then_by_sound _ _ (fixed_sound IpHeader 1 kind) (λ _. then_by_sound _ _ (fixed_sound IpHeader 1 0)
    (λ _. then_by_sound _ _ (number_sound IpHeader 2) (λ _. then_by_sound _ _ (number_sound IpHeader 2) (λ _. number_sound IpHeader 2)))))

echo_message_sound : (kind : ℕ) → IsSoundWhole (echo_message kind)
unfolding echo_message
echo_message_sound kind = ends_by_sound _ _ (echo_header_sound kind) (λ _. everything_sound)

summed_sound : {A : Type 0} (whole : Whole FrameFault A) → IsSoundWhole whole → IsSoundWhole (summed whole)
summed_sound whole sound = record {
  takes = λ bytes value e. (allowed_sound (ones_sum_of bytes == 65535) IpChecksum whole sound).takes bytes value e;
  again = λ bytes value s. (allowed_sound (ones_sum_of bytes == 65535) IpChecksum whole sound).again bytes value s;
  written = λ value fits. (fits.0, sound.written value fits.1);
  sized = λ value. sound.sized value;
}

-- ---- a packet

echo_packet_sound : (kind : ℕ) → IsSound (echo_packet kind)
unfolding echo_packet
echo_packet_sound kind = then_by_sound _ _ (kept_sound _ icmp_packet_sound)
    (λ header. cut_sound IpHeader header.0.size (echo_inside kind header) (allowed_sound (ones_sum_of header.1 == 65535) IpChecksum _ (summed_sound _ (echo_message_sound kind))))

pub echo_sound : (kind : ℕ) → IsSoundWhole (echo kind)
unfolding echo
echo_sound kind = seen_whole_sound echo_in (packet_of kind) _ (λ message. refl) (loose_sound _ (echo_packet_sound kind))
