-- The fault of parts that are in their ranges.
use Rattle.std.proofs.Common.{◌∙◌, ap, subst, sym}
use Rattle.plans.specs.declared.parts.Parts.{Parts}
use Rattle.plans.specs.Parts.{AreParts}
use Rattle.plans.specs.Plan.{long_of, plan_of}
use Rattle.controller_abi.specs.Plans.{length_number, parts_of}
use Rattle.controller_abi.proofs.Ranges.{good_in, of_lengths, written_in}
use Rattle.controller_abi.proofs.plan.fault_of_length.Goals as goal

pub parts_in-requires : goal.parts_in-requires
parts_in-requires c = written_in c.args.written.now c.requires

pub too_long-requires : goal.too_long-requires
too_long-requires c =
    subst AreParts (sym c.parts_in.ensures.value) (good_in c.args.written.now c.requires c.parts_in.ensures.named c.parts_in.ensures.controlled)

pub returns : goal.returns
returns c =
    c.number_of.ensures ∙ ap length_number (c.too_long.ensures ∙ ap (λ (parts : Parts). long_of (plan_of parts)) c.parts_in.ensures.value)
    ∙ of_lengths (plan_of (parts_of c.args.written.now))
