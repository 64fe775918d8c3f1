-- It is inserted before the first one in a later slot.
use Rattle.std.proofs.Common.{◌≡◌, ◌++◌, ℕ, List, [], ◌∷◌, ◌∙◌, ap}
use Rattle.std.specs.Prelude.{insert}
use Rattle.std.specs.List.{position_or_len}
use Rattle.pn_values.specs.declared.real.RealModule.{RealModule}
use Rattle.pn_values.specs.declared.real.RealSubmodule.{RealSubmodule}
use Rattle.module_diff.specs.Changes.{is_past_slot, module_with}
use Rattle.module_diff.proofs.ChangedLists.{put_in}
use Rattle.module_diff.proofs.changes.add_module.Goals as goal

-- A module with these submodules.
abbrev entry_of : ℕ → ℕ → List RealSubmodule → RealModule
entry_of slot ident parts = record { slot = slot; ident = ident; submodules = record { items = parts } }

pub returns : goal.returns
returns c =
    let past = is_past_slot c.args.slot in
    let modules = c.args.modules.now.items in
    let place = c.modules_before-place.ensures.value ∙ ap (λ (xs : List RealModule). position_or_len past xs) c.as_slice.ensures.value in
    let parts = c.push.ensures.items ∙ (ap (λ (xs : List RealSubmodule). xs ++ c.copy.result ∷ []) c.new-submodules.ensures
    ∙ ap (λ (part : RealSubmodule). part ∷ []) c.copy.ensures) in
    c.insert.ensures.items
    ∙ (ap (λ (k : ℕ). insert modules k (entry_of c.args.slot c.args.ident c.push.new.self.items)) place
    ∙ (ap (λ (xs : List RealSubmodule). insert modules (position_or_len past modules) (entry_of c.args.slot c.args.ident xs)) parts
    ∙ put_in past (module_with c.args.slot c.args.ident c.args.submodule.now) modules))
