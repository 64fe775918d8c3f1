-- A stored call, with the bytes of its sector.
use Rattle.std.proofs.Common.{Some, drop, length, take, sym, ap, ◌∙◌, arith}
use Rattle.std.specs.Prelude.{slice_get}
use Rattle.std.proofs.lemmas.List.{length-drop, length-take-le}
use Rattle.flash_model.specs.Calls.{Programs}
use Rattle.device_station.specs.recorded.Fits.{entry_fits}
use Rattle.device_station.specs.recorded.Record.{call_in, image_of}
use Rattle.device_station.specs.declared.recorded.entry.Entry.TheVariants.{Program, Erase}
use Rattle.device_station.proofs.RecordedEntries.{all_at, bytes_fit, program_fits, read_at}
use Rattle.device_station.proofs.recorded.flash.RecordedFlash.call.Goals as goal

pub part-requires : goal.part-requires
part-requires g c =
    let one = Program c.in-Program.sector c.in-Program.place c.in-Program.length in
    let here = ap (λ l. slice_get l c.args.index) (sym c.as_slice.ensures.value) ∙ c.entry_at.ensures ∙ ap (λ e. Some e) c.in-Program.is in
    let fits = program_fits g.row.S c.in-Program.sector c.in-Program.place c.in-Program.length (all_at (entry_fits g.row.S) c.args.self.now.entries.items c.args.index one c.args.self.now.fits here) in
    omega (arith, fits.1, c.sector.ensures.size)

pub returns-in-Program-clause-at : goal.returns-in-Program-clause-at
returns-in-Program-clause-at g c =
    let one = Program c.in-Program.sector c.in-Program.place c.in-Program.length in
    let here = ap (λ l. slice_get l c.args.index) (sym c.as_slice.ensures.value) ∙ c.entry_at.ensures ∙ ap (λ e. Some e) c.in-Program.is in
    let bytes = c.part.ensures ∙ ap (λ l. take c.in-Program.length (drop c.in-Program.place l)) c.sector.ensures.bytes in
    read_at (call_in (image_of c.args.self.now)) c.args.self.now.entries.items c.args.index one here ∙ ap (λ b. Some (Programs c.in-Program.sector c.in-Program.place b)) (sym bytes)

pub returns-in-Program-clause-fits : goal.returns-in-Program-clause-fits
returns-in-Program-clause-fits g c =
    let one = Program c.in-Program.sector c.in-Program.place c.in-Program.length in
    let here = ap (λ l. slice_get l c.args.index) (sym c.as_slice.ensures.value) ∙ c.entry_at.ensures ∙ ap (λ e. Some e) c.in-Program.is in
    let fits = all_at (entry_fits g.row.S) c.args.self.now.entries.items c.args.index one c.args.self.now.fits here in
    let inside = program_fits g.row.S c.in-Program.sector c.in-Program.place c.in-Program.length fits in
    let less = length-drop c.in-Program.place c.sector.result.now in
    let many = ap length c.part.ensures ∙ length-take-le c.in-Program.length (drop c.in-Program.place c.sector.result.now) (omega (arith, inside.1, less, c.sector.ensures.size)) in
    bytes_fit g.row.S c.in-Program.sector c.in-Program.place c.in-Program.length c.part.result.now many fits

pub returns-in-Erase-clause-at : goal.returns-in-Erase-clause-at
returns-in-Erase-clause-at g c =
    let here = ap (λ l. slice_get l c.args.index) (sym c.as_slice.ensures.value) ∙ c.entry_at.ensures ∙ ap (λ e. Some e) c.in-Erase.is in
    read_at (call_in (image_of c.args.self.now)) c.args.self.now.entries.items c.args.index (Erase c.in-Erase.sector) here
