-- The destinations of the messages of a controller.
use Rattle.std.specs.Prelude.{◌≡◌, ◌<◌, ⊤}
use Rattle.pn_values.specs.declared.mac.Mac.{Mac}
use Rattle.cyclic_data.specs.declared.exchange.route.Route.{Route}
use Rattle.controller_messages.specs.declared.setup.Setup.{Setup}
use Rattle.controller_messages.specs.Heard.{Heard, Nothing, Answers, Responds, Refuses, Calls, Cyclic, Alarms, heard_of}
use Rattle.controller_messages.specs.Sent.{Sent, Requests, Accesses, Parametrizes, Agrees, Cycles, Confirms, Replies, Ends}
use Rattle.controller_core.specs.declared.stored.event.Event.{Event}
use Rattle.controller_core.specs.declared.stored.event.Event.TheVariants.{Frame, Tick, Give, Status, Read, Write, Stop}
use Rattle.controller_core.specs.stored.State.{Live}
use Rattle.frame_codec.specs.Sendable.{IsMac}
use Rattle.rpc_core.specs.Sendable.{CanBeAnswered, IsHeader}
use Rattle.end_laws.specs.hearing.Stations.{IsCaller, IsNumbered, IsPlugCall, IsRecordCall}
use Rattle.end_laws.specs.sending.Sized.{AreFew, IsAccess}

-- a route whose partner address and tags have their sizes, whatever its FrameID
pub record IsDirection (route : Route) : Type 0 where
  pub partner : IsMac route.partner
  pub sent_tag : route.sent_tag < 65536
  pub alarm_tag : route.alarm_tag < 65536

-- a controller that has a valid address of the station it sends to
pub record IsAimed (live : Live) : Type 0 where
  pub device : IsMac live.device
  pub asked : AreFew live.asked
  pub way : IsDirection live.cyclic.route
  pub access : IsAccess live.access

-- A response comes from a station with a MAC address, and calls come from this station, each field with its size.
abbrev pub IsHeardFrom : Mac → Heard → Type 0
IsHeardFrom mac (Answers source answer) = IsMac source
IsHeardFrom mac (Calls caller call) = (caller.mac ≡ mac) × IsCaller caller × IsHeader call.header × (call.args_maximum < 4294967296)
IsHeardFrom mac Nothing = ⊤
IsHeardFrom mac (Responds response) = ⊤
IsHeardFrom mac (Refuses refusal) = ⊤
IsHeardFrom mac (Cyclic source frame_id body) = ⊤
IsHeardFrom mac (Alarms source under header reported) = ⊤

-- what the event brings comes from this station, each field with its size
abbrev pub IsEventFrom : Mac → Setup → Event → Type 0
IsEventFrom mac setup (Frame bytes) = IsHeardFrom mac (heard_of setup.plan.controller bytes.items)
IsEventFrom mac setup Tick = ⊤
IsEventFrom mac setup (Give slot subslot value) = ⊤
IsEventFrom mac setup (Status slot subslot is_good) = ⊤
IsEventFrom mac setup (Read slot subslot index) = ⊤
IsEventFrom mac setup (Write slot subslot index octets) = ⊤
IsEventFrom mac setup Stop = ⊤

-- a message that goes to a station; a response to a call goes to this one
abbrev pub IsAimedAt : Mac → Sent → Type 0
IsAimedAt mac (Requests device request) = IsMac device × IsNumbered request
IsAimedAt mac (Accesses device request octets) = IsMac device × IsRecordCall request octets
IsAimedAt mac (Parametrizes device request) = IsMac device × IsPlugCall request
IsAimedAt mac (Agrees caller answer) = (caller.mac ≡ mac) × IsCaller caller × CanBeAnswered answer
IsAimedAt mac (Cycles route shown counter) = IsDirection route
IsAimedAt mac (Confirms route priority header ack) = IsDirection route
IsAimedAt mac (Replies route priority header) = IsDirection route
IsAimedAt mac (Ends route header reason) = IsDirection route
