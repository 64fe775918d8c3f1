-- A value that fits is given to the controller.
use Rattle.std.proofs.Common.{◌≡◌, ℕ, Bool, true, false, List, Option, Some, None, refl, sym, ap, ◌∙◌}
use Rattle.controller_core.specs.declared.stored.event.Event.TheVariants.{Give}
use Rattle.controller_abi.specs.Outputs.{why_not_set}
use Rattle.controller_abi.specs.State.{after}
use Rattle.controller_abi.proofs.serving.set.Goals as goal

free_by : (waits : Bool) (output : Option ℕ) (size : ℕ) → why_not_set waits output size ≡ None → waits ≡ false
free_by true output size none = absurd cc
free_by false output size none = refl

pub take_output-requires : goal.take_output-requires
take_output-requires c = free_by _ _ _ (sym c.why_not.ensures ∙ c.in-None.is)

pub returns-in-None : goal.returns-in-None
returns-in-None c =
    rw (sym c.why_not.ensures ∙ c.in-None.is)
    (refl, c.take_output.ensures ∙ ap (λ (octets : List ℕ). after c.args.port.now (Give c.args.slot c.args.subslot (record { items = octets }))) c.at_most.ensures.value)
