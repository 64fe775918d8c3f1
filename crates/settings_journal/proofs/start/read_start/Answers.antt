-- The newest of the two heads, which both reads left unchanged.
use Rattle.std.proofs.Common.{◌∙◌, [], ap}
use Rattle.flash_model.specs.declared.flash.Sector.TheVariants.{First, Second}
use Rattle.settings_journal.specs.Image.{head_in}
use Rattle.settings_journal.proofs.Starting.{started_ok, newest_first, newest_second}
use Rattle.settings_journal.proofs.start.read_start.Goals as goal

pub returns-in_err-second-clause-calls : goal.returns-in_err-second-clause-calls
returns-in_err-second-clause-calls g c = g.met.F.Flash.asked_more _ _ _ [] [] c.in_ok-first.ensures.calls c.in_err-second.ensures.calls

pub returns-in-None-clause-calls : goal.returns-in-None-clause-calls
returns-in-None-clause-calls g c = g.met.F.Flash.asked_more _ _ _ [] [] c.in_ok-first.ensures.calls c.in_ok-second.ensures.calls

pub read_sector-requires-clause-counts : goal.read_sector-requires-clause-counts
read_sector-requires-clause-counts g c =
    (newest_first _ _ _ _ c.in-Some-First-default.field-0-0-is (c.in-Some-First-default.ensures _ _ c.generation_of.ensures c.generation_of-2.ensures)).counts

pub read_sector-requires-in-Some-Second-default-clause-counts : goal.read_sector-requires-in-Some-Second-default-clause-counts
read_sector-requires-in-Some-Second-default-clause-counts g c =
    (newest_second _ _ _ _ c.in-Some-Second-default.field-0-0-is (c.in-Some-Second-default.ensures _ _ c.generation_of.ensures c.generation_of-2.ensures)).counts

pub returns-in-Some-First-default-clause-found : goal.returns-in-Some-First-default-clause-found
returns-in-Some-First-default-clause-found g c =
    let newest = newest_first _ _ _ _ c.in-Some-First-default.field-0-0-is (c.in-Some-First-default.ensures _ _ c.generation_of.ensures c.generation_of-2.ensures) in
    let second = c.in_ok-second.ensures.head ∙ ap (λ image. head_in image Second) c.in_ok-first.ensures.same in
    started_ok _ _ First _ _ _ c.read_sector.result (c.in_ok-second.ensures.same ∙ c.in_ok-first.ensures.same) c.in_ok-first.ensures.head second newest c.read_sector.ensures.read

pub returns-in-Some-First-default-clause-calls : goal.returns-in-Some-First-default-clause-calls
returns-in-Some-First-default-clause-calls g c =
    let both = g.met.F.Flash.asked_more _ _ _ [] [] c.in_ok-first.ensures.calls c.in_ok-second.ensures.calls in
    g.met.F.Flash.asked_more _ _ _ [] [] both c.read_sector.ensures.calls

pub returns-in-Some-Second-default-clause-found : goal.returns-in-Some-Second-default-clause-found
returns-in-Some-Second-default-clause-found g c =
    let newest = newest_second _ _ _ _ c.in-Some-Second-default.field-0-0-is (c.in-Some-Second-default.ensures _ _ c.generation_of.ensures c.generation_of-2.ensures) in
    let second = c.in_ok-second.ensures.head ∙ ap (λ image. head_in image Second) c.in_ok-first.ensures.same in
    started_ok _ _ Second _ _ _ c.read_sector-in-Some-Second-default.result (c.in_ok-second.ensures.same ∙ c.in_ok-first.ensures.same) second c.in_ok-first.ensures.head newest c.read_sector-in-Some-Second-default.ensures.read

pub returns-in-Some-Second-default-clause-calls : goal.returns-in-Some-Second-default-clause-calls
returns-in-Some-Second-default-clause-calls g c =
    let both = g.met.F.Flash.asked_more _ _ _ [] [] c.in_ok-first.ensures.calls c.in_ok-second.ensures.calls in
    g.met.F.Flash.asked_more _ _ _ [] [] both c.read_sector-in-Some-Second-default.ensures.calls
