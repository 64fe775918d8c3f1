-- The length before the blocks is theirs.
use Rattle.std.proofs.Common.{◌≡◌, ◌∷◌, ◌++◌, ℕ, List, None, length, ap, sym, ◌∙◌, append_assoc, arith}
use Rattle.std.proofs.lemmas.List.{length-append}
use Rattle.std.specs.Int.{w16, w32, to_be_bytes}
use Rattle.dcp_core.specs.declared.kind.Kind.TheVariants as is
use Rattle.dcp_core.specs.Identify.{identify_bytes, valued}
use Rattle.dcp_core.proofs.identify.put_identify.Goals as goal

pub returns-clause-items : goal.returns-clause-items
unfolding identify_bytes
returns-clause-items c =
    let value = valued c.args.identity.now c.args.settings.now None in
    let blocks : List ℕ = value is.StationType ++ value is.NameOfStation ++ value is.DeviceId ++ value is.DeviceRole ++ value is.DeviceOptions
    ++ value is.DeviceInstance ++ value is.IpSuite in
    let header = c.put_header.new.answer.items in
    let all = ap length c.put_blocks.ensures.items in
    let size : length blocks ≡ c.size_of-size.result = omega (arith, length-append header blocks, all, c.put_blocks.ensures.len, c.size_of-size.ensures.value) in
    let front : List ℕ = 5 ∷ 1 ∷ to_be_bytes w32 c.args.xid in
    let sized : ℕ → List ℕ = λ n. 0 ∷ 0 ∷ to_be_bytes w16 n in
    c.put_blocks.ensures.items ∙ ap (λ (xs : List ℕ). xs ++ blocks) c.put_header.ensures.items ∙ append_assoc front (sized c.size_of-size.result) blocks
    ∙ ap (λ (n : ℕ). front ++ (sized n ++ blocks)) (sym size)

pub returns-clause-length : goal.returns-clause-length
returns-clause-length c = omega (arith, c.put_blocks.ensures.len, c.put_header.ensures.len, c.size_of-size.ensures.value, c.size_of-size.ensures.most)
