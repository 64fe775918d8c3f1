-- The Ethernet header is a sound format.
use Rattle.std.proofs.Common.{◌≡◌, ℕ, ◌==◌, Option, Some, None, refl}
use Rattle.wire.specs.Codec.{IsSound}
use Rattle.wire.specs.Formats.{number, ◌⨾◌}
use Rattle.wire.proofs.Fields.{raw_sound, number_sound}
use Rattle.wire.proofs.Joined.{then_by_sound, seen_sound, when_sound}
use Rattle.frame_codec.specs.declared.fault.FrameFault.TheVariants.{TooShort}
use Rattle.frame_codec.specs.Frame.{mac, tag_and_type, tag_and_type_of, parts_of_tag, vlan}
use Rattle.lldp.specs.Frame.{link}

mac_sound : IsSound mac
unfolding mac
mac_sound = seen_sound _ _ _ (λ address. refl) (raw_sound TooShort 6)

type_sound : IsSound tag_and_type
unfolding tag_and_type
type_sound = seen_sound tag_and_type_of parts_of_tag _ back (then_by_sound _ _ (number_sound TooShort 2)
    (λ first. when_sound (number TooShort 2 ⨾ number TooShort 2) (first == vlan) (then_by_sound _ _ (number_sound TooShort 2) (λ _. number_sound TooShort 2))))
  where
    back : (value : Option ℕ × ℕ) → tag_and_type_of (parts_of_tag value) ≡ value
    back (None, ether_type) = refl
    back (Some tag, ether_type) = refl

pub link_sound : IsSound link
unfolding link
link_sound = seen_sound _ _ _ (λ header. refl) (then_by_sound _ _ mac_sound (λ _. then_by_sound _ _ mac_sound (λ _. type_sound)))
