-- What a frame says, from its layers and its kind.
use Rattle.std.specs.Prelude.{ℕ, List, Option, Some, None}
use Rattle.pn_values.specs.declared.identity.Identity.{Identity}
use Rattle.frame_codec.specs.Frame.{content_as}
use Rattle.frame_codec.specs.declared.layered.OpenFrame.{OpenFrame}
use Rattle.pn_values.specs.declared.mac.Mac.{Mac}
use Rattle.dcp_core.specs.Reading.{request_of}
use Rattle.pn_alarms.specs.Message.{message_of}
use Rattle.device_frames.specs.declared.hearing.RealTimeKind.{RealTimeKind}
use Rattle.device_frames.specs.declared.hearing.RealTimeKind.TheVariants as kind
use Rattle.device_frames.specs.Heard.{Heard, Unreadable, Elsewhere, Cyclic, heard_alarm, heard_by, heard_request}

-- A DCP request, an alarm frame and a cyclic frame are read as such.
abbrev pub heard_as : RealTimeKind → Mac → ℕ → List ℕ → Heard
heard_as kind.Request source frame_id body = heard_request source (request_of frame_id body)
heard_as kind.Alarm source frame_id body = heard_alarm source frame_id body (message_of body)
heard_as kind.Cyclic source frame_id body = Cyclic source frame_id body
heard_as kind.Elsewhere source frame_id body = Elsewhere

-- A frame whose Ethernet header can be read says what its content says. Any other frame cannot be read.
abbrev pub heard_in : Identity → Option OpenFrame → Heard
heard_in identity (Some frame) = heard_by identity frame.destination frame.source ((content_as frame.kind).read frame.content.now)
heard_in identity None = Unreadable
