-- The search starts after the last submodule only if that finds the first one.
use Rattle.std.proofs.Common.{◌≡◌, ◌⊎◌, inl, inr, ℕ, true, Option, Some, sym, ap, ◌∙◌}
use Rattle.connect_blocks.specs.declared.submodule_data.SubmoduleData.{SubmoduleData}
use Rattle.cyclic_data.specs.Rising.{rises}
use Rattle.cyclic_data.proofs.Rising.{found_so}
use Rattle.cyclic_data.proofs.judge.Judge.find.Goals as goal
use Rattle.cyclic_data.proofs.judge.Judge.find.Goals.{then-self, else-self, in-Some, in-None+in_ok-index-in-None}

pub returns-clause-found : goal.returns-clause-found
returns-clause-found c =
    let subs = c.args.self.now.expected.now in
    let order : (rises subs ≡ true) ⊎ (c.if-self.from ≡ 0) = elim c.if-self.branch [
      | then-self w ↦ inl (sym c.args.self.now.known ∙ w.if-self.true)
      | else-self w ↦ inr w.from-is
    ] in
    elim c.match-find.branch [
      | in-Some w ↦
          ap (λ (x : ℕ × SubmoduleData). let o : Option (ℕ × SubmoduleData) = Some x in o) w.index-is
          ∙ found_so c.args.slot c.args.subslot c.if-self.from subs w.in-Some.found order w.in-Some.ensures.found
      | in-None+in_ok-index-in-None w ↦
          ap (λ (x : ℕ × SubmoduleData). let o : Option (ℕ × SubmoduleData) = Some x in o) w.index-is ∙ w.in_ok-index-in-None.ensures.found
    ]
