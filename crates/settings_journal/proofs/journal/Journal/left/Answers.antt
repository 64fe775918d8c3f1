-- How many commits are left.
use Rattle.std.proofs.Common.{◌+◌, ◌-◌, ◌*◌, ◌≤◌, ap, subst, sym, ◌∙◌, arith}
use Rattle.settings_journal.specs.Image.{StartsWith}
use Rattle.settings_journal.proofs.Active.{starts_with}
use Rattle.settings_journal.proofs.Room.{few_bases, few_free}
use Rattle.settings_journal.proofs.journal.Journal.left.Goals as goal

pub overflow_mul-result : goal.overflow_mul-result
overflow_mul-result g c =
    let wide = g.met.F.Flash.sector_size c.self.inside.flash in
    let few : c.from-generations.result * (c.slots_of.result + 1) ≤ 16776960 =
    few_bases c.from-generations.result c.slots_of.result (omega (arith, c.from-generations.ensures)) (omega (arith, c.slots_of.ensures, wide.at_most)) in
    omega (arith, few)

pub overflow_add-result-2 : goal.overflow_add-result-2
overflow_add-result-2 g c =
    let wide = g.met.F.Flash.sector_size c.self.inside.flash in
    let few : c.from-generations.result * (c.slots_of.result + 1) ≤ 16776960 =
    few_bases c.from-generations.result c.slots_of.result (omega (arith, c.from-generations.ensures)) (omega (arith, c.slots_of.ensures, wide.at_most)) in
    let free = few_free _ _ _ _ _ _ (g.met.F.Flash.sized c.self.inside.flash) wide (c.self.invariant c.if-self.false) in
    omega (arith, few, free)

pub returns-clause-read : goal.returns-clause-read
returns-clause-read g c =
    let position = c.self.inside.position in
    let bases = ap (λ k. k * (c.slots_of.result + 1) + position.free) c.from-generations.ensures in
    let slots = ap (λ s. (65535 - position.generation) * (s + 1) + position.free) c.slots_of.ensures in
    rw (← c.self.view_is) (λ going.
    subst (StartsWith (g.F.Flash.image c.self.inside.flash) c.self.inside.settings) (sym (bases ∙ slots))
    (starts_with _ _ _ _ _ _ (g.met.F.Flash.sized c.self.inside.flash) (c.self.invariant going)))
