-- A submodule that is not asked for has no block.
use Rattle.std.proofs.Common.{◌≡◌, ◌∙◌, ◌++◌, List, ℕ, [], ap, sym, take, rules}
use Rattle.diagnosis.specs.Record.{submodule_bytes}
use Rattle.diagnosis.proofs.Cut.{cut_whole}
use Rattle.diagnosis.proofs.record.put_submodule.Goals as goal

pub returns-else-has-clause-items : goal.returns-else-has-clause-items
returns-else-has-clause-items g c =
    let none : submodule_bytes (g.P.Places.has_of c.args.places.now) c.args.diagnoses.now c.args.slot c.args.subslot ≡ [] = search rules in
    cut_whole 1308 c.args.octets.now.items c.requires.few ∙ ap (λ (more : List ℕ). take 1308 (c.args.octets.now.items ++ more)) (sym none)
