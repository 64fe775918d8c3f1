-- Only real-time data is answered.
use Rattle.std.proofs.Common.{◌≡◌, ℕ, None, Result, Ok, Err, refl}
use Rattle.frame_codec.specs.declared.fault.FrameFault.{FrameFault}
use Rattle.frame_codec.specs.Meaning.{Meaning, Content, IsNoRealTime, IsOther, RealTime, ArpPacket, UdpDatagram}
use Rattle.plans.specs.declared.parts.Parts.{Parts}
use Rattle.plans.specs.Identity.{OwnIdentity}
use Rattle.controller_dcp.specs.Station.{to_content, to_frame}

other_content : (plan : Parts) (own : OwnIdentity) (meaning : Meaning) (content : Content) → IsOther content → to_content plan own meaning content ≡ None
other_content plan own meaning (RealTime frame_id body) other = absurd other
other_content plan own meaning (ArpPacket packet) other = refl
other_content plan own meaning (UdpDatagram from to body) other = refl

-- Octets that are not a frame, or a frame with other content, are not answered.
pub other_untold : (plan : Parts) (own : OwnIdentity) (read : Result Meaning FrameFault) → IsNoRealTime read → to_frame plan own read ≡ None
other_untold plan own (Ok meaning) other = other_content plan own meaning meaning.content other
other_untold plan own (Err fault) other = refl
