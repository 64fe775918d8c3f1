-- A frame of EtherType 0x8892 that carries no real-time data cannot be read: its FrameID is incomplete.
use Rattle.std.proofs.Common.{◌≡◌, ◌∙◌, ap, refl, subst, ℕ, List, Result, Ok, Err}
use Rattle.wire.specs.Codec.{◌>>=◌}
use Rattle.wire.specs.Formats.{number}
use Rattle.wire.specs.Whole.{ends_by, everything}
use Rattle.pn_values.specs.declared.identity.Identity.{Identity}
use Rattle.frame_codec.specs.declared.fault.FrameFault.{FrameFault}
use Rattle.frame_codec.specs.declared.fault.FrameFault.TheVariants.{TooShort}
use Rattle.frame_codec.specs.declared.ethernet.ContentKind.{ContentKind}
use Rattle.frame_codec.specs.declared.ethernet.ContentKind.TheVariants as kind
use Rattle.frame_codec.specs.declared.layered.OpenFrame.{OpenFrame}
use Rattle.frame_codec.specs.Frame.{content_as, frame_of, opened_as, real_time}
use Rattle.frame_codec.specs.Meaning.{Content, IsNoRealTime, Meaning, RealTime}
use Rattle.device_frames.specs.declared.event.Event.TheVariants.{Frame}
use Rattle.device_frames.specs.Heard.{Unreadable, heard_frame, heard_of}

-- The meaning of an opened frame with this content.
abbrev with_content : OpenFrame → Content → Meaning
with_content frame content = record { destination = frame.destination; source = frame.source; tag = frame.tag; content = content }

unread : (identity : Identity) (frame : OpenFrame) (read : Result (ℕ × List ℕ) FrameFault)
    → IsNoRealTime ((read >>= λ x. Ok (RealTime x.0 x.1)) >>= λ (content : Content). Ok (with_content frame content))
    → heard_frame identity ((read >>= λ x. Ok (RealTime x.0 x.1)) >>= λ (content : Content). Ok (with_content frame content)) ≡ Unreadable
unread identity frame (Err fault) other = refl
unread identity frame (Ok x) other = absurd other

pub other_is_unread : (identity : Identity) (frame : OpenFrame) (octets : List ℕ) → frame_of octets ≡ opened_as frame → IsNoRealTime (frame_of octets)
    → frame.kind ≡ kind.RealTime → heard_of identity (Frame (record { items = octets })) ≡ Unreadable
unfolding heard_of real_time
other_is_unread identity frame octets found other is =
    let e : frame_of octets ≡ ((real_time.read frame.content.now) >>= λ (content : Content). Ok (with_content frame content)) =
    found ∙ ap (λ (k : ContentKind). (content_as k).read frame.content.now >>= λ (content : Content). Ok (with_content frame content)) is in
    ap (heard_frame identity) e ∙ unread identity frame ((ends_by (number TooShort 2) (λ _. everything)).read frame.content.now) (subst IsNoRealTime e other)
