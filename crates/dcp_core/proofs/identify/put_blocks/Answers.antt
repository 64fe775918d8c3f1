-- One block after another is appended.
use Rattle.std.proofs.Common.{◌≡◌, ◌∷◌, ◌++◌, ℕ, List, None, ap, sym, ◌∙◌, append_assoc}
use Rattle.dcp_core.specs.declared.kind.Kind.TheVariants as is
use Rattle.dcp_core.specs.Bytes.{block_bytes}
use Rattle.dcp_core.specs.Identify.{valued}
use Rattle.dcp_core.proofs.identify.put_blocks.Goals as goal

regrouped : (a b c d e f g h : List ℕ) → (((a ++ b) ++ c) ++ (d ++ e ++ f ++ g)) ++ h ≡ a ++ (b ++ c ++ d ++ e ++ f ++ g ++ h)
regrouped a b c d e f g h =
    let more : List ℕ = b ++ c in
    let all : List ℕ = d ++ e ++ f ++ g in
    let inner : more ++ all ≡ more ++ d ++ e ++ f ++ g =
    sym (append_assoc more (d ++ e ++ f) g) ∙ ap (λ (xs : List ℕ). xs ++ g) (sym (append_assoc more (d ++ e) f))
    ∙ ap (λ (xs : List ℕ). xs ++ f ++ g) (sym (append_assoc more d e)) in
    ap (λ (xs : List ℕ). (xs ++ all) ++ h) (append_assoc a b c) ∙ ap (λ (xs : List ℕ). xs ++ h) (append_assoc a more all)
    ∙ append_assoc a (more ++ all) h ∙ ap (λ (xs : List ℕ). a ++ (xs ++ h)) inner

pub returns-clause-items : goal.returns-clause-items
returns-clause-items c =
    let value = valued c.args.identity.now c.args.settings.now None in
    let before = c.args.answer.now.items in
    let numbers : List ℕ = value is.DeviceId ++ value is.DeviceRole ++ value is.DeviceOptions ++ value is.DeviceInstance in
    let one = c.put_block.ensures.items ∙ ap (λ (v : List ℕ). before ++ block_bytes is.StationType (0 ∷ 0 ∷ v)) c.as_slice-station_type.ensures.value in
    let two = c.put_block-2.ensures.items
    ∙ ap (λ (v : List ℕ). c.put_block.new.blocks.items ++ block_bytes is.NameOfStation (0 ∷ 0 ∷ v)) c.as_bytes-name.ensures.value
    ∙ ap (λ (xs : List ℕ). xs ++ value is.NameOfStation) one in
    let three = c.put_numbers.ensures.items ∙ ap (λ (xs : List ℕ). xs ++ numbers) two in
    c.put_suite.ensures.items ∙ ap (λ (xs : List ℕ). xs ++ value is.IpSuite) three
    ∙ regrouped before (value is.StationType) (value is.NameOfStation) (value is.DeviceId) (value is.DeviceRole) (value is.DeviceOptions)
    (value is.DeviceInstance) (value is.IpSuite)
