-- An event is handed in as what it is.
use Rattle.device_frames.specs.declared.event.Event.TheVariants.{Frame}
use Rattle.device_abi.proofs.PortHanded.{answered_in, heard_in, ticked_in, whole_in}
use Rattle.device_abi.proofs.host.hand_in.Goals as goal

pub returns-in-Frame : goal.returns-in-Frame
returns-in-Frame c = rw c.in-Frame.is (whole_in Frame _ _ _ _ c.as_slice.ensures.value c.as_slice.ensures.few (heard_in _ _ _ _ c.frame.ensures))

pub returns-in-Tick : goal.returns-in-Tick
returns-in-Tick c = rw c.in-Tick.is (ticked_in _ _ _ c.tick.ensures)

pub apply-requires : goal.apply-requires
apply-requires c = rw c.in-Call.is tt

pub returns-in-Call : goal.returns-in-Call
returns-in-Call c = answered_in _ _ _ _ c.apply.ensures

pub apply-requires-in-Neighbour : goal.apply-requires-in-Neighbour
apply-requires-in-Neighbour c = rw c.in-Neighbour.is tt

pub returns-in-Neighbour : goal.returns-in-Neighbour
returns-in-Neighbour c = answered_in _ _ _ _ c.apply-in-Neighbour.ensures
