-- What is kept passes the test.
use Rattle.std.proofs.Common.{List, not, ap, ◌∙◌, rules}
use Rattle.std.specs.List.{filter}
use Rattle.arrayvec.proofs.ArrayVecLemmas.{filter-from_retain}
use Rattle.records.specs.declared.writes.taken.TakenRecord.{TakenRecord}
use Rattle.records.specs.writes.Taken.{is_at}
use Rattle.records.proofs.writes.taken.TakenRecords.forget_at.Goals as goal

pub returns : goal.returns
returns c =
    let stays = λ (taken : TakenRecord). not (is_at c.args.slot c.args.subslot taken) in
    filter-from_retain _ stays _ (λ x b f' y called. search rules) _ _ c.retain.ensures.filtered
    ∙ ap (λ (xs : List TakenRecord). filter stays xs) c.self.view_is
