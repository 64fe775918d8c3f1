-- The room has the octets of both, one after the other.
use Rattle.std.proofs.Common.{◌≡◌, ◌∷◌, ◌∙◌, ℕ, List, [], length, ap, sym, arith}
use Rattle.device_station.specs.Views.{call_octets}
use Rattle.device_station.proofs.PortOwn.{two_are, two_fit}
use Rattle.device_station.proofs.port.own.OwnFrames.keep_two.Goals as goal

pub put-requires : goal.put-requires
put-requires c = omega (arith, c.as_slice.ensures.most, c.as_slice-2.ensures.most)

pub invariant_of-self : goal.invariant_of-self
invariant_of-self c =
    let at : c.len-self-inside.result ≡ length c.as_slice.result.now = c.len-self-inside.ensures.value ∙ ap length (sym c.as_slice.ensures.value) in
    two_fit c.len-self-inside.result (call_octets c.put.new.self) c.as_slice.result.now c.as_slice-2.result.now c.put.ensures at c.as_slice.ensures.most c.as_slice-2.ensures.most

pub returns : goal.returns
returns c =
    let at : c.len-self-inside.result ≡ length c.as_slice.result.now = c.len-self-inside.ensures.value ∙ ap length (sym c.as_slice.ensures.value) in
    two_are c.len-self-inside.result (call_octets c.put.new.self) c.as_slice.result.now c.as_slice-2.result.now c.put.ensures at
    ∙ (ap (λ (one : List ℕ). one ∷ c.as_slice-2.result.now ∷ []) c.as_slice.ensures.value ∙ ap (λ (two : List ℕ). c.args.one.now.items ∷ two ∷ []) c.as_slice-2.ensures.value)
