-- Real-time data concerns nothing that is beside a controller.
use Rattle.std.proofs.Common.{◌≡◌, ℕ, false, List, None, Result, Ok, Err, refl}
use Rattle.std.specs.Prelude.{is_some}
use Rattle.frame_codec.specs.declared.fault.FrameFault.{FrameFault}
use Rattle.frame_codec.specs.Meaning.{Meaning, Content, IsNoRealTime, IsOther, RealTime, ArpPacket, UdpDatagram}
use Rattle.frame_codec.specs.Frame.{frame_of, real_time_in}
use Rattle.services.specs.State.{State}
use Rattle.services.specs.Answer.{answer_to}
use Rattle.controller_station.specs.Beside.{is_real_time}

pub real_time_unanswered : (state : State) (octets : List ℕ) (meaning : Meaning) (frame_id : ℕ) (body : List ℕ) → frame_of octets ≡ Ok meaning → meaning.content ≡ RealTime frame_id body
    → answer_to state octets ≡ None
unfolding answer_to
real_time_unanswered state octets meaning frame_id body e f = rw (e, f) refl

other_content : (content : Content) → IsOther content → is_some (real_time_in content) ≡ false
other_content (RealTime frame_id body) other = absurd other
other_content (ArpPacket packet) other = refl
other_content (UdpDatagram from to body) other = refl

-- Octets that are not a frame, or a frame with other content, are not real-time data.
pub not_real_time : (read : Result Meaning FrameFault) → IsNoRealTime read → is_real_time read ≡ false
not_real_time (Ok meaning) other = other_content meaning.content other
not_real_time (Err fault) other = refl
