-- What is loaded is what the device starts with.
use Rattle.device_core.proofs.device.Device.boot_named.Goals as goal

pub returns-in-Ok-clause-known : goal.returns-in-Ok-clause-known
returns-in-Ok-clause-known g c = rw (← c.unstarted_named-device.ensures.flash) (rw c.unstarted_named-device.ensures.station at c.in-Ok.ensures.known)

pub returns-in-Ok-clause-strange : goal.returns-in-Ok-clause-strange
returns-in-Ok-clause-strange g c = rw (← c.unstarted_named-device.ensures.flash) c.in-Ok.ensures.strange

pub returns-in-Err-clause-known : goal.returns-in-Err-clause-known
returns-in-Err-clause-known g c = rw (← c.unstarted_named-device.ensures.flash) c.in-Err.ensures.known

pub returns-in-Err-clause-blank : goal.returns-in-Err-clause-blank
returns-in-Err-clause-blank g c = rw (← c.unstarted_named-device.ensures.flash) c.in-Err.ensures.blank

pub returns-in-Err-clause-foreign : goal.returns-in-Err-clause-foreign
returns-in-Err-clause-foreign g c = rw (← c.unstarted_named-device.ensures.flash) c.in-Err.ensures.foreign

pub returns-in-Ok-clause-blank : goal.returns-in-Ok-clause-blank
returns-in-Ok-clause-blank g c = rw (← c.unstarted_named-device.ensures.flash) c.in-Ok.ensures.blank

pub returns-in-Err-clause-left : goal.returns-in-Err-clause-left
returns-in-Err-clause-left g c = rw (← c.unstarted_named-device.ensures.flash) c.in-Err.ensures.left
