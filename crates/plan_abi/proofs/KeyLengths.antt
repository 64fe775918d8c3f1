-- No key of a catalogue has more than 23 octets.
use Rattle.std.proofs.Common.{◌≤◌, length, arith}
use Rattle.catalogue.specs.declared.keys.key.Key.{Key}
use Rattle.catalogue.specs.declared.keys.key.Key.TheVariants as key
use Rattle.catalogue.specs.keys.Keys.{name_of}

pub few_octets : (k : Key) → length (name_of k) ≤ 23
unfolding name_of
few_octets key.DeviceIdentity = omega arith
few_octets key.VendorId = omega arith
few_octets key.DeviceId = omega arith
few_octets key.DeviceAccessPointItem = omega arith
few_octets key.ModuleIdentNumber = omega arith
few_octets key.PhysicalSlots = omega arith
few_octets key.StationType = omega arith
few_octets key.MinDeviceInterval = omega arith
few_octets key.VirtualSubmoduleItem = omega arith
few_octets key.ModuleItemRef = omega arith
few_octets key.MultipleWriteSupported = omega arith
few_octets key.ModuleItemTarget = omega arith
few_octets key.AllowedInSlots = omega arith
few_octets key.FixedInSlots = omega arith
few_octets key.ModuleItem = omega arith
few_octets key.Id = omega arith
few_octets key.Subslot = omega arith
few_octets key.SubmoduleIdentNumber = omega arith
few_octets key.IoData = omega arith
few_octets key.Input = omega arith
few_octets key.Output = omega arith
few_octets key.DataType = omega arith
few_octets key.Length = omega arith
few_octets key.ParameterRecordDataItem = omega arith
few_octets key.Index = omega arith
few_octets key.Project = omega arith
few_octets key.NameOfStation = omega arith
few_octets key.IpAddress = omega arith
few_octets key.SubnetMask = omega arith
few_octets key.Gateway = omega arith
few_octets key.Controller = omega arith
few_octets key.Mac = omega arith
few_octets key.SendClockFactor = omega arith
few_octets key.ReductionRatio = omega arith
few_octets key.DataHoldFactor = omega arith
few_octets key.Slots = omega arith
few_octets key.Slot = omega arith
few_octets key.Records = omega arith
few_octets key.Data = omega arith
few_octets key.ContinueOnRefusedRecord = omega arith
few_octets key.ReleaseOnRefusedRecord = omega arith
few_octets key.ParametersAfterPlug = omega arith
few_octets key.PersistentStart = omega arith
few_octets key.Identity = omega arith
