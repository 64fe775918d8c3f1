-- What each of the two calls leaves.
use Rattle.std.proofs.Common.{◌≡◌, ◌∙◌, ◌∷◌, ◌≤◌, ◌+◌, [], ap, inl, inr, arith, subst, sym}
use Rattle.std.specs.Prelude.{OnErr}
use Rattle.std.proofs.lemmas.Result.{on_ok_weaker, err_from_is_err_and}
use Rattle.flash_model.specs.Calls.{Programs}
use Rattle.flash_model.specs.Image.{sector_of, programmed}
use Rattle.settings_journal.specs.Cut.{IsCutShort}
use Rattle.settings_journal.specs.Slot.{place_of, slot_at, HasEntry}
use Rattle.settings_journal.proofs.Asking.{front, asked_all}
use Rattle.settings_journal.proofs.Writes.{HasFront, IsInSlot, sector_with, sector_size, either, in_slot_then, in_slot_done, in_slot_torn, keeps_others, entry_closed, entry_there, slot_opened, slot_half}
use Rattle.settings_journal.proofs.access.write_slot.Goals as goal
use Rattle.settings_journal.proofs.access.write_slot.Given as given
use Rattle.settings_journal.proofs.access.write_slot.Goals.{After-program-2}

inside : (g : given.Over) (c : After-program-2 g) → place_of c.args.number + 256 ≤ g.row.S
inside g c =
    let wide = g.met.F.Flash.sector_size c.args.flash.now in
    omega (arith, wide.whole, c.requires.inside)

first : (g : given.Over) (c : After-program-2 g) → sector_of (g.F.Flash.image c.program.new.self) c.args.sector ≡ programmed (sector_of (g.F.Flash.image c.args.flash.now) c.args.sector) (place_of c.args.number) c.args.entry.now
first g c = ap (λ image. sector_of image c.args.sector) c.in_ok-program.ensures.done ∙ sector_with _ c.args.sector _

there : (g : given.Over) (c : After-program-2 g) → HasFront (sector_of (g.F.Flash.image c.program.new.self) c.args.sector) c.args.number c.args.entry.now
there g c =
    let long = sector_size _ _ c.args.sector (g.met.F.Flash.sized c.args.flash.now) in
    let room = inside g c in
    subst (λ s. HasFront s c.args.number c.args.entry.now) (sym (first g c))
    (entry_there c.args.number _ c.args.entry.now (omega (arith, long, room)) c.requires.blank c.requires.short (λ k. (c.type_inv.entry k).fits))

kept : (g : given.Over) (c : After-program-2 g) → IsInSlot c.args.number (sector_of (g.F.Flash.image c.args.flash.now) c.args.sector) (sector_of (g.F.Flash.image c.program.new.self) c.args.sector)
kept g c =
    let long = sector_size _ _ c.args.sector (g.met.F.Flash.sized c.args.flash.now) in
    let room = inside g c in
    subst (IsInSlot c.args.number (sector_of (g.F.Flash.image c.args.flash.now) c.args.sector)) (sym (first g c))
    (in_slot_done c.args.number (place_of c.args.number) _ c.args.entry.now (omega (arith, long, room)) (omega arith) (omega (arith, c.requires.short)))

pub returns-in_err-program-clause-left : goal.returns-in_err-program-clause-left
returns-in_err-program-clause-left g c =
    inl (entry_closed c.args.number _ _ _ _ c.requires.blank (omega (arith, c.requires.short)) c.in_err-program.ensures.torn.here)

pub returns-in_err-program-clause-others : goal.returns-in_err-program-clause-others
returns-in_err-program-clause-others g c =
    keeps_others c.args.number _ _ _ (sector_size _ _ c.args.sector (g.met.F.Flash.sized c.args.flash.now)) (sector_size _ _ c.args.sector (g.met.F.Flash.sized c.program.new.self))
    (in_slot_torn c.args.number _ _ _ _ _ (omega arith) (omega (arith, c.requires.short)) c.in_err-program.ensures.torn.here)

last : (g : given.Over) (c : After-program-2 g) → sector_of (g.F.Flash.image c.program-2.new.self) c.args.sector ≡ programmed (sector_of (g.F.Flash.image c.program.new.self) c.args.sector) (place_of c.args.number + 255) (0 ∷ [])
    → HasEntry (slot_at (sector_of (g.F.Flash.image c.program-2.new.self) c.args.sector) c.args.number) c.args.entry.now
last g c is =
    let long = sector_size _ _ c.args.sector (g.met.F.Flash.sized c.program.new.self) in
    let room = inside g c in
    subst (λ s. HasEntry (slot_at s c.args.number) c.args.entry.now) (sym is) (slot_opened c.args.number _ c.args.entry.now (omega (arith, long, room)) c.requires.short (there g c))

pub returns-clause-done : goal.returns-clause-done
returns-clause-done g c =
    on_ok_weaker c.program-2.result (λ e. last g c (ap (λ image. sector_of image c.args.sector) e ∙ sector_with _ c.args.sector _)) c.program-2.ensures.done

pub returns-clause-left : goal.returns-clause-left
returns-clause-left g c =
    either c.program-2.result (λ e. inr (last g c (ap (λ image. sector_of image c.args.sector) e ∙ sector_with _ c.args.sector _)))
    (λ torn. slot_half c.args.number _ _ _ _ c.args.entry.now c.requires.short (there g c) torn.here) c.program-2.ensures.done c.program-2.ensures.torn

pub returns-clause-others : goal.returns-clause-others
returns-clause-others g c =
    let long = sector_size _ _ c.args.sector (g.met.F.Flash.sized c.program.new.self) in
    let room = inside g c in
    keeps_others c.args.number _ _ _ (sector_size _ _ c.args.sector (g.met.F.Flash.sized c.args.flash.now)) (sector_size _ _ c.args.sector (g.met.F.Flash.sized c.program-2.new.self))
    (in_slot_then c.args.number _ _ _ (kept g c)
    (either c.program-2.result
    (λ e. subst (IsInSlot c.args.number (sector_of (g.F.Flash.image c.program.new.self) c.args.sector)) (sym (ap (λ image. sector_of image c.args.sector) e ∙ sector_with _ c.args.sector _))
    (in_slot_done c.args.number (place_of c.args.number + 255) _ (0 ∷ []) (omega (arith, long, room)) (omega arith) (omega arith)))
    (λ torn. in_slot_torn c.args.number _ _ _ _ _ (omega arith) (omega arith) torn.here) c.program-2.ensures.done c.program-2.ensures.torn))

pub returns-clause-calls : goal.returns-clause-calls
returns-clause-calls g c =
    let two = g.met.F.Flash.asked_more _ _ _ _ _ c.in_ok-program.ensures.calls c.program-2.ensures.calls in
    let left = subst (λ i. OnErr c.program-2.result (IsCutShort i (Programs c.args.sector (place_of c.args.number + 255) (0 ∷ [])) (g.F.Flash.image c.program-2.new.self))) c.in_ok-program.ensures.done c.program-2.ensures.torn in
    (_, two, asked_all c.program-2.result _ _ (Programs c.args.sector (place_of c.args.number) c.args.entry.now ∷ []) (Programs c.args.sector (place_of c.args.number + 255) (0 ∷ [])) left)

pub returns-in_err-program-clause-calls : goal.returns-in_err-program-clause-calls
returns-in_err-program-clause-calls g c =
    let fault = err_from_is_err_and c.from_residual.result c.from_residual.ensures.1 in (
      _,
      c.in_err-program.ensures.calls,
      rw fault.1 (front _ _ [] (Programs c.args.sector (place_of c.args.number + 255) (0 ∷ []) ∷ []) (Programs c.args.sector (place_of c.args.number) c.args.entry.now) c.in_err-program.ensures.torn),
    )

pub returns-in_err-program-clause-bytes : goal.returns-in_err-program-clause-bytes
returns-in_err-program-clause-bytes g c = λ k. (c.type_inv.entry k).fits

pub returns-clause-bytes : goal.returns-clause-bytes
returns-clause-bytes g c = λ k. (c.type_inv.entry k).fits
