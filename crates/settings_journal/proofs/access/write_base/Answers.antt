-- What each of the three calls leaves.
use Rattle.std.proofs.Common.{◌∙◌, ◌∷◌, [], ap, inl, inr, arith, subst}
use Rattle.std.specs.Prelude.{OnErr}
use Rattle.std.proofs.lemmas.Result.{on_ok_weaker, err_from_is_err_and}
use Rattle.flash_model.specs.Calls.{Programs, Erases}
use Rattle.flash_model.specs.Image.{sector_of}
use Rattle.settings_journal.specs.Cut.{IsCutShort, carried_out}
use Rattle.settings_journal.proofs.Asking.{front, asked_all, erase_short, erase_done}
use Rattle.settings_journal.proofs.Writes.{IsWritten, sector_with, erase_rises, program_closed, written, opened, half_opened, either}
use Rattle.settings_journal.proofs.access.write_base.Goals as goal
use Rattle.settings_journal.proofs.access.write_base.Given as given
use Rattle.settings_journal.proofs.access.write_base.Goals.{After-program-2}

full : (g : given.Over) (c : After-program-2 g) → IsWritten g.row.S (sector_of (g.F.Flash.image c.program.new.self) c.args.sector) c.args.base.now
full g c =
    let blank = ap (λ image. sector_of image c.args.sector) c.in_ok-erase.ensures.done ∙ sector_with _ c.args.sector _ in
    written _ _ _ _ c.args.base.now (g.met.F.Flash.sector_size c.args.flash.now) blank (λ k. (c.type_inv.base k).fits) c.requires (g.met.F.Flash.sized c.program.new.self) c.in_ok-program.ensures.done

pub returns-in_err-erase-clause-left : goal.returns-in_err-erase-clause-left
returns-in_err-erase-clause-left g c =
    inl (erase_rises _ _ _ _ (g.met.F.Flash.sector_size c.args.flash.now) (g.met.F.Flash.sized c.args.flash.now) c.in_err-erase.ensures.torn)

pub returns-in_err-program-clause-left : goal.returns-in_err-program-clause-left
returns-in_err-program-clause-left g c =
    let blank = ap (λ image. sector_of image c.args.sector) c.in_ok-erase.ensures.done ∙ sector_with _ c.args.sector _ in
    inr (inl (program_closed _ _ _ _ _ _ (g.met.F.Flash.sector_size c.args.flash.now) blank (omega arith) c.in_err-program.ensures.torn))

pub returns-clause-done : goal.returns-clause-done
returns-clause-done g c =
    on_ok_weaker c.program-2.result (opened _ _ _ _ _ (g.met.F.Flash.sector_size c.args.flash.now) (g.met.F.Flash.sized c.program-2.new.self) (full g c)) c.program-2.ensures.done

pub returns-clause-left : goal.returns-clause-left
returns-clause-left g c =
    either c.program-2.result (λ e. inr (inr (opened _ _ _ _ _ (g.met.F.Flash.sector_size c.args.flash.now) (g.met.F.Flash.sized c.program-2.new.self) (full g c) e)))
    (half_opened _ _ _ _ _ _ _ (g.met.F.Flash.sector_size c.args.flash.now) (g.met.F.Flash.sized c.program-2.new.self) (full g c)) c.program-2.ensures.done c.program-2.ensures.torn

pub returns-in_err-program-clause-calls : goal.returns-in_err-program-clause-calls
returns-in_err-program-clause-calls g c =
    let both = g.met.F.Flash.asked_more _ _ _ _ _ c.in_ok-erase.ensures.calls c.in_err-program.ensures.calls in
    let fault = err_from_is_err_and c.from_residual-in_err-program.result c.from_residual-in_err-program.ensures.1 in
    let blank = erase_done _ _ _ c.args.sector (g.met.F.Flash.sized c.args.flash.now) c.in_ok-erase.ensures.done in
    let left = subst (λ i. IsCutShort i (Programs c.args.sector 0 c.args.base.now) (g.F.Flash.image c.program.new.self)) blank c.in_err-program.ensures.torn in
    (_, both, rw fault.1 (front _ _ (Erases c.args.sector ∷ []) (Programs c.args.sector 511 (0 ∷ []) ∷ []) (Programs c.args.sector 0 c.args.base.now) left))

pub returns-in_err-erase-clause-calls : goal.returns-in_err-erase-clause-calls
returns-in_err-erase-clause-calls g c =
    let fault = err_from_is_err_and c.from_residual.result c.from_residual.ensures.1 in
    let left = erase_short _ _ _ c.args.sector (g.met.F.Flash.sized c.args.flash.now) c.in_err-erase.ensures.torn in
    (_, c.in_err-erase.ensures.calls, rw fault.1 (front _ _ [] (Programs c.args.sector 0 c.args.base.now ∷ Programs c.args.sector 511 (0 ∷ []) ∷ []) (Erases c.args.sector) left))

pub returns-clause-calls : goal.returns-clause-calls
returns-clause-calls g c =
    let two = g.met.F.Flash.asked_more _ _ _ _ _ c.in_ok-erase.ensures.calls c.in_ok-program.ensures.calls in
    let three = g.met.F.Flash.asked_more _ _ _ _ _ two c.program-2.ensures.calls in
    let blank = erase_done _ _ _ c.args.sector (g.met.F.Flash.sized c.args.flash.now) c.in_ok-erase.ensures.done in
    let there = c.in_ok-program.ensures.done ∙ ap (λ i. carried_out i (Programs c.args.sector 0 c.args.base.now)) blank in
    let left = subst (λ i. OnErr c.program-2.result (IsCutShort i (Programs c.args.sector 511 (0 ∷ [])) (g.F.Flash.image c.program-2.new.self))) there c.program-2.ensures.torn in
    (_, three, asked_all c.program-2.result _ _ (Erases c.args.sector ∷ Programs c.args.sector 0 c.args.base.now ∷ []) (Programs c.args.sector 511 (0 ∷ [])) left)

pub returns-in_err-erase-clause-bytes : goal.returns-in_err-erase-clause-bytes
returns-in_err-erase-clause-bytes g c = λ k. (c.type_inv.base k).fits

pub returns-in_err-program-clause-bytes : goal.returns-in_err-program-clause-bytes
returns-in_err-program-clause-bytes g c = λ k. (c.type_inv.base k).fits

pub returns-clause-bytes : goal.returns-clause-bytes
returns-clause-bytes g c = λ k. (c.type_inv.base k).fits
