-- What the two ends hear.
use Rattle.std.specs.Prelude.{◌&&◌, ◌||◌, ◌==◌, ◌++◌, nat_eq, ℕ, List, if◌then◌else◌, Option, ⊤}
use Rattle.std.specs.Cmp.Lexicographic.{pointwise}
use Rattle.pn_values.specs.declared.identity.Identity.{Identity}
use Rattle.pn_values.specs.declared.mac.Mac.{Mac}
use Rattle.frame_codec.specs.declared.udp.Endpoint.{Endpoint}
use Rattle.frame_codec.specs.Meaning.{RealTime}
use Rattle.frame_codec.specs.Frame.{padding_of}
use Rattle.device_frames.specs.declared.event.Event.{Event}
use Rattle.device_frames.specs.declared.event.Event.TheVariants.{Frame}
use Rattle.device_frames.specs.Heard.{Heard, Said, is_own}
use Rattle.device_frames.specs.Heard as device
use Rattle.controller_messages.specs.Heard as controller
use Rattle.plans.specs.declared.parts.Controller.{Controller}
use Rattle.frame_codec.specs.Sendable.{carrying}

-- the event that octets arrive from the network
abbrev pub comes : List ℕ → Event
comes octets = Frame (record { items = octets })

-- ---- a device

-- a frame to this device is heard, and one to another station is not for it
abbrev pub own_hears : Identity → Mac → Heard → Heard
own_hears identity destination heard = if is_own identity destination then heard else device.Elsewhere

-- a frame to this device or to all stations is heard, and one to another station is not for it
abbrev pub all_hears : Identity → Mac → Heard → Heard
all_hears identity destination heard =
    if is_own identity destination || pointwise nat_eq destination.octets device.broadcast then heard else device.Elsewhere

-- a datagram to this device and the port of calls is heard, and any other is not for it
abbrev pub own_reported : Identity → Mac → Mac → Endpoint → Endpoint → Said → Heard
own_reported identity source destination from to said =
    if is_own identity destination && to.port == 34964 then device.Reported (record { mac = source; endpoint = from }) to.address said else device.Elsewhere

-- no call and no response was heard
abbrev pub IsUnreported : Heard → Type 0
IsUnreported (device.Reported caller address said) = ⊥
IsUnreported heard = ⊤

-- ---- a controller

-- a frame to this controller is heard, and one to another station is ignored
abbrev pub mine_hears : Controller → Mac → controller.Heard → controller.Heard
mine_hears mine destination heard = if pointwise nat_eq destination.octets mine.mac.octets then heard else controller.Nothing

-- a datagram to this controller, its IP address and the port of calls is heard, and any other is ignored
abbrev pub mine_reported : Controller → Mac → Endpoint → controller.Heard → controller.Heard
mine_reported mine destination to heard = mine_hears mine destination (if controller.is_to mine.address to then heard else controller.Nothing)

-- no call and no response was heard
abbrev pub IsUncalled : controller.Heard → Type 0
IsUncalled (controller.Responds response) = ⊥
IsUncalled (controller.Refuses refusal) = ⊥
IsUncalled (controller.Calls caller call) = ⊥
IsUncalled heard = ⊤

-- ---- both

-- the octets of real-time data as they are heard: with the padding after them
abbrev pub padded : Mac → Mac → Option ℕ → ℕ → List ℕ → List ℕ
padded source destination tag frame_id body = body ++ padding_of (carrying destination source tag (RealTime frame_id body))
