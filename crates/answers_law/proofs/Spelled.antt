-- The frames of answers, octet by octet.
use Rattle.std.proofs.Common.{◌≡◌, ◌+◌, ◌*◌, ◌/◌, ◌%◌, ◌<◌, ◌≤◌, ℕ, List, [], ◌∷◌, ◌++◌, length, take, get_or, Option, append-nil, refl, ap, ◌∙◌, arith}
use Rattle.std.specs.Int.{w32, to_be_bytes}
use Rattle.byteorder.specs.Endian.{big_number}
use Rattle.pn_values.specs.declared.mac.Mac.{Mac}
use Rattle.pn_values.specs.declared.identity.Identity.{Identity}
use Rattle.pn_values.specs.declared.settings.Settings.{Settings}
use Rattle.frame_codec.specs.declared.arp.Holder.{Holder}
use Rattle.frame_codec.specs.Arp.{arp_head, arp_packet, holder, operation}
use Rattle.frame_codec.specs.Frame.{arp, ethernet, frame_bytes, layers, mac, real_time, tag_and_type}
use Rattle.dcp_core.specs.Bytes.{answer_bytes}
use Rattle.dcp_core.specs.Identify.{identify_bytes}
use Rattle.device_frames.specs.Sent.{answer_frame, reply_frame}
use Rattle.answers_law.specs.Answers.{answer_octets, identity_blocks, padded}
use Rattle.answers_law.specs.Device.{station_of}

-- An answer to an Identify, and one to a Get or a Set.
pub identify_frame : (identity : Identity) (asker : Mac) (service xid : ℕ) (blocks : List ℕ)
    → answer_frame identity asker 65279 (answer_bytes service xid blocks) ≡ answer_octets asker.octets identity.mac.octets 0xFF service (to_be_bytes w32 xid) blocks
unfolding frame_bytes layers ethernet mac tag_and_type real_time
identify_frame identity asker service xid blocks = refl

pub get_set_frame : (identity : Identity) (asker : Mac) (service xid : ℕ) (blocks : List ℕ)
    → answer_frame identity asker 65277 (answer_bytes service xid blocks) ≡ answer_octets asker.octets identity.mac.octets 0xFD service (to_be_bytes w32 xid) blocks
unfolding frame_bytes layers ethernet mac tag_and_type real_time
get_set_frame identity asker service xid blocks = refl

pub identity_given : (identity : Identity) (running : Settings) (alias : Option (List ℕ)) (xid : ℕ)
    → identify_bytes identity running xid ≡ answer_bytes 5 xid (identity_blocks (station_of identity running alias))
unfolding identify_bytes
identity_given identity running alias xid = refl

-- The reply to a request of ARP.
arp_octets : (identity : Identity) (asker : Mac) (address : List ℕ) (target : Holder)
    → reply_frame identity asker address target
    ≡ padded (asker.octets ++ (identity.mac.octets ++ (0x08 ∷ 0x06 ∷ 0 ∷ 1 ∷ 0x08 ∷ 0 ∷ 6 ∷ 4 ∷ 0 ∷ 2 ∷ (identity.mac.octets ++ (address ++ (target.mac.octets ++ (target.address ++ [])))))))
unfolding frame_bytes layers ethernet mac tag_and_type arp arp_packet arp_head operation holder
arp_octets identity asker address target = refl

pub arp_frame : (identity : Identity) (asker : Mac) (address : List ℕ) (target : Holder)
    → reply_frame identity asker address target
    ≡ padded (asker.octets ++ (identity.mac.octets ++ (0x08 ∷ 0x06 ∷ 0 ∷ 1 ∷ 0x08 ∷ 0 ∷ 6 ∷ 4 ∷ 0 ∷ 2 ∷ (identity.mac.octets ++ (address ++ (target.mac.octets ++ target.address))))))
arp_frame identity asker address target =
    arp_octets identity asker address target
    ∙ ap (λ (l : List ℕ). padded (asker.octets ++ (identity.mac.octets ++ (0x08 ∷ 0x06 ∷ 0 ∷ 1 ∷ 0x08 ∷ 0 ∷ 6 ∷ 4 ∷ 0 ∷ 2 ∷ (identity.mac.octets ++ (address ++ (target.mac.octets ++ l)))))))
    (append-nil target.address)

-- ---- Xid: four octets that are read as a number and written again

first_of : (a b c d : ℕ) → a < 256 → b < 256 → c < 256 → d < 256 → (a * 16777216 + (b * 65536 + (c * 256 + (d * 1 + 0)))) / 16777216 % 256 ≡ a
first_of a b c d p q r s = omega (arith, p, q, r, s)

second_of : (a b c d : ℕ) → a < 256 → b < 256 → c < 256 → d < 256 → (a * 16777216 + (b * 65536 + (c * 256 + (d * 1 + 0)))) / 65536 % 256 ≡ b
second_of a b c d p q r s = omega (arith, p, q, r, s)

third_of : (a b c d : ℕ) → a < 256 → b < 256 → c < 256 → d < 256 → (a * 16777216 + (b * 65536 + (c * 256 + (d * 1 + 0)))) / 256 % 256 ≡ c
third_of a b c d p q r s = omega (arith, p, q, r, s)

fourth_of : (a b c d : ℕ) → a < 256 → b < 256 → c < 256 → d < 256 → (a * 16777216 + (b * 65536 + (c * 256 + (d * 1 + 0)))) % 256 ≡ d
fourth_of a b c d p q r s = omega (arith, p, q, r, s)

four_same : (a b c d e f g h : ℕ) → a ≡ e → b ≡ f → c ≡ g → d ≡ h → (let l : List ℕ = a ∷ b ∷ c ∷ d ∷ [] in l) ≡ e ∷ f ∷ g ∷ h ∷ []
four_same a b c d e f g h p q r s = cc

pub xid_back : (octets : List ℕ) → 4 ≤ length octets → ((k : ℕ) → get_or octets k 0 < 256) → to_be_bytes w32 (big_number 4 octets) ≡ take 4 octets
xid_back (a ∷ b ∷ c ∷ d ∷ more) long small =
    let p : a < 256 = small 0 in
    let q : b < 256 = small 1 in
    let r : c < 256 = small 2 in
    let s : d < 256 = small 3 in
    four_same _ _ _ _ a b c d (first_of a b c d p q r s) (second_of a b c d p q r s) (third_of a b c d p q r s) (fourth_of a b c d p q r s)
xid_back (a ∷ b ∷ c ∷ []) long small = absurd (omega (arith, long))
xid_back (a ∷ b ∷ []) long small = absurd (omega (arith, long))
xid_back (a ∷ []) long small = absurd (omega (arith, long))
xid_back [] long small = absurd (omega (arith, long))
