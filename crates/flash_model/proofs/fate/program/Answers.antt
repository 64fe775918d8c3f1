use Rattle.std.proofs.Common.{◌≡◌, ◌+◌, ◌-◌, ◌≤◌, ◌∙◌, ℕ, List, ◌++◌, length, take, drop, slice_range, refl, sym, ap, subst, arith}
use Rattle.std.proofs.lemmas.List.{append_assoc, drop-drop}
use borrow.Rule.Slice.PartMut.{put_mid}
use Rattle.flash_model.specs.Image.{anded, programmed}
use Rattle.flash_model.specs.Fate.{torn_bytes}
use Rattle.flash_model.specs.Torn.{AreBetween, TornSector}
use Rattle.flash_model.proofs.ImageLemmas.{programmed_split, length-programmed, take-programmed, drop-programmed, slice_range-programmed}
use Rattle.flash_model.proofs.TornSectors.{torn-finished, torn-range}
use Rattle.flash_model.proofs.fate.program.Goals as goal

-- a sector with another range
put_range : (sector : List ℕ) (place end : ℕ) (range : List ℕ) → place ≤ end →
    put_mid place (end - place) sector range ≡ take place sector ++ range ++ drop end sector
put_range sector place end range h =
    let e : place + (end - place) ≡ end = omega arith in
    ap (λ rest. take place sector ++ (range ++ rest)) (drop-drop (end - place) place sector ∙ ap (λ n. drop n sector) e)
    ∙ sym (append_assoc (take place sector) range (drop end sector))

-- the case that the call is carried out
passed : (sector : List ℕ) (place end : ℕ) (bytes range : List ℕ) → end ≡ place + length bytes → range ≡ anded (slice_range sector place end) bytes →
    put_mid place (end - place) sector range ≡ programmed sector place bytes
passed sector place end bytes range e now =
    put_range sector place end range (omega arith)
    ∙ append_assoc (take place sector) range (drop end sector)
    ∙ ap (λ x. take place sector ++ (x ++ drop end sector)) now
    ∙ sym (programmed_split sector place end bytes e)

pub returns-in-Passes-clause-value : goal.returns-in-Passes-clause-value
returns-in-Passes-clause-value c =
    rw c.in-Passes.is (passed c.args.sector.now c.args.place (c.args.place + length c.args.bytes.now) c.args.bytes.now c.and_bytes.new.range refl c.and_bytes.ensures)

pub returns-in-Passes-clause-torn : goal.returns-in-Passes-clause-torn
returns-in-Passes-clause-torn c =
    let sector = c.args.sector.now in
    let bytes = c.args.bytes.now in
    let place = c.args.place in
    let end = place + length bytes in
    let P : List ℕ → Type 0 = λ now. TornSector place end (programmed sector place bytes) sector now in
    subst P (sym (passed sector place end bytes c.and_bytes.new.range refl c.and_bytes.ensures))
    (torn-finished place end (programmed sector place bytes) sector (length-programmed sector place bytes)
    (take-programmed sector place bytes place (omega arith) (omega arith)) (drop-programmed sector place bytes end (omega arith) c.requires))

pub returns-in-Tears-clause-value : goal.returns-in-Tears-clause-value
returns-in-Tears-clause-value c =
    let sector = c.args.sector.now in
    let bytes = c.args.bytes.now in
    let place = c.args.place in
    let end = place + length bytes in
    let mask = c.in-Tears.mask in
    let old = slice_range sector place end in
    rw c.in-Tears.is
    (put_range sector place end c.and_masked.new.range (omega arith)
    ∙ ap (λ range. take place sector ++ range ++ drop end sector)
    (c.and_masked.ensures.value ∙ ap (torn_bytes mask old) (sym (slice_range-programmed sector place end bytes refl c.requires))))

pub returns-in-Tears-clause-torn : goal.returns-in-Tears-clause-torn
returns-in-Tears-clause-torn c =
    let sector = c.args.sector.now in
    let bytes = c.args.bytes.now in
    let place = c.args.place in
    let end = place + length bytes in
    let range = c.and_masked.new.range in
    let P : List ℕ → Type 0 = λ now. TornSector place end (programmed sector place bytes) sector now in
    let B : List ℕ → Type 0 = λ finished. AreBetween (slice_range sector place end) finished range in
    subst P (sym (put_range sector place end range (omega arith)))
    (torn-range place end (programmed sector place bytes) sector range (omega arith) c.requires
    (subst B (sym (slice_range-programmed sector place end bytes refl c.requires)) c.and_masked.ensures.between))
