-- The parts of the head are those of the settings, and of no others.
use Rattle.std.proofs.Common.{◌≤◌, ◌∙◌, ap, length, refl, arith, Some}
use Rattle.settings_journal.proofs.Parts.{decoded, decoded_only, spelled_suite, spelled_name}
use Rattle.std.proofs.lemmas.Bool.{false≢true}
use Rattle.settings_journal.proofs.base.decode.Goals as goal

pub returns-clause-spelled : goal.returns-clause-spelled
returns-clause-spelled c =
    let l : 437 ≤ length c.args.head.now = omega arith in
    decoded _ _ _ _ _ _ _ _ _ _ l c.fits-head c.requires c.in_ok-name.ensures.named c.part.ensures c.part-2.ensures c.part-3.ensures
    (c.in_ok-suite.ensures.valid.0 refl) c.in_ok-suite.ensures.value (c.new-2.ensures ∙ c.part-4.ensures) (c.new-3.ensures ∙ c.part-5.ensures) (c.new-4.ensures ∙ c.part-6.ensures) c.im4_of.ensures

pub returns-clause-only : goal.returns-clause-only
returns-clause-only c = λ settings s.
    ap Some (decoded_only _ _ _ _ _ _ _ _ _ _ settings s (λ p. let e = c.in_ok-name.ensures.only settings.name s.valid.name p in cc) c.part.ensures c.part-2.ensures c.part-3.ensures
    c.in_ok-suite.ensures.value (c.new-2.ensures ∙ c.part-4.ensures) (c.new-3.ensures ∙ c.part-5.ensures) (c.new-4.ensures ∙ c.part-6.ensures) c.im4_of.ensures)

pub returns-in_err-name-clause-only : goal.returns-in_err-name-clause-only
returns-in_err-name-clause-only c = λ settings s.
    let named = c.in_err-name.ensures.only settings.name s.valid.name (spelled_name _ settings s) in
    cc named

pub returns-in_err-suite-clause-only : goal.returns-in_err-suite-clause-only
returns-in_err-suite-clause-only c = λ settings s.
    let valid = c.in_err-suite.ensures.valid.1 (spelled_suite _ _ _ _ settings s c.part.ensures c.part-2.ensures c.part-3.ensures) in
    absurd (false≢true valid)
