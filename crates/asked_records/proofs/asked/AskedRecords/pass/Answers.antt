-- The units are counted one by one.
use Rattle.std.proofs.Common.{◌+◌, ◌≤◌, ◌∙◌, refl, sym, subst}
use Rattle.asked_records.specs.Asked.{AskedState, due_in}
use Rattle.asked_records.proofs.Later.{later_after, nearer_by, never_over}
use Rattle.asked_records.proofs.asked.AskedRecords.pass.Goals as goal

pub returns-in_default-clause-nothing : goal.returns-in_default-clause-nothing
returns-in_default-clause-nothing c = never_over c.args.self.now c.args.units c.requires

pub returns-in_default-clause-state : goal.returns-in_default-clause-state
returns-in_default-clause-state c = rw (later_after c.args.self.now c.args.units c.requires) (rw (← c.self.view_is, c.in_default.is) refl)

pub returns-in_default-clause-due : goal.returns-in_default-clause-due
returns-in_default-clause-due c =
    subst (λ (s : AskedState). due_in c.args.self.now ≤ due_in s + c.args.units)
    (sym (returns-in_default-clause-state c ∙ later_after c.args.self.now c.args.units c.requires)) (nearer_by c.args.self.now c.args.units c.requires)

pub returns-clause-nothing : goal.returns-clause-nothing
returns-clause-nothing c = never_over c.args.self.now c.args.units c.requires

pub returns-clause-state : goal.returns-clause-state
returns-clause-state c = rw (later_after c.args.self.now c.args.units c.requires) (rw (← c.self.view_is, c.in-Some.is) refl)

pub returns-clause-due : goal.returns-clause-due
returns-clause-due c =
    subst (λ (s : AskedState). due_in c.args.self.now ≤ due_in s + c.args.units)
    (sym (returns-clause-state c ∙ later_after c.args.self.now c.args.units c.requires)) (nearer_by c.args.self.now c.args.units c.requires)
