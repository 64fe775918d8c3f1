-- The room has the octets of the frame.
use Rattle.std.proofs.Common.{◌∷◌, ◌∙◌, [], length, refl, ap, arith}
use Rattle.device_station.specs.Views.{call_octets}
use Rattle.device_station.proofs.PortOwn.{one_is}
use Rattle.device_station.proofs.port.own.OwnFrames.keep_one.Goals as goal

pub put-requires : goal.put-requires
put-requires c = omega (arith, c.as_slice.ensures.most)

pub invariant_of-self : goal.invariant_of-self
invariant_of-self c =
    let is = one_is (call_octets c.put.new.self) c.as_slice.result.now [] c.put.ensures refl in
    omega (arith, ap length is, c.as_slice.ensures.most)

pub returns : goal.returns
returns c =
    let is = one_is (call_octets c.put.new.self) c.as_slice.result.now [] c.put.ensures refl in
    ap (λ octets. octets ∷ []) (is ∙ c.as_slice.ensures.value)
