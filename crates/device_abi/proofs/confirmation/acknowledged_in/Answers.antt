-- The frame is heard by the identity of the device, up to its 1,519th octet.
use Rattle.std.proofs.Common.{◌∙◌, ap}
use Rattle.device_frames.specs.declared.event.Event.TheVariants.{Frame}
use Rattle.device_frames.specs.Heard.{heard_of}
use Rattle.device_abi.specs.Confirmed.{status_by}
use Rattle.device_abi.proofs.confirmation.acknowledged_in.Goals as goal

pub returns : goal.returns
returns c =
    c.acknowledged_by.ensures
    ∙ (ap (λ identity. status_by (heard_of identity (Frame (record { items = c.at_most.result.now })))) (c.identity.ensures ∙ ap (λ device. device.station.identity) c.device.ensures)
    ∙ ap (λ octets. status_by (heard_of c.args.port.now.port.device.station.identity (Frame (record { items = octets })))) c.at_most.ensures.value)
