-- The head of the block, and then its diagnoses.
use Rattle.std.proofs.Common.{◌≡◌, ◌==◌, ◌∙◌, false, ◌++◌, List, ℕ, [], ap, length, sym, take, rules}
use Rattle.diagnosis.specs.Record.{block_bytes, channels_bytes, head_bytes}
use Rattle.diagnosis.proofs.Cut.{cut_both, cut_whole, some_is_block}
use Rattle.diagnosis.proofs.record.put_block.Goals as goal

pub returns-then-is_empty-clause-items : goal.returns-then-is_empty-clause-items
returns-then-is_empty-clause-items c =
    let none : block_bytes c.args.slot c.args.subslot c.args.own.now ≡ [] = search rules in
    cut_whole 1308 c.args.octets.now.items c.requires.few ∙ ap (λ (more : List ℕ). take 1308 (c.args.octets.now.items ++ more)) (sym none)

pub returns-clause-items : goal.returns-clause-items
returns-clause-items c =
    let octets = c.args.octets.now.items in
    let own = c.args.own.now in
    let some : (length own == 0) ≡ false = sym c.is_empty.ensures ∙ c.if-is_empty.false in
    let head : c.head_octets.result ≡ head_bytes c.args.slot c.args.subslot (length own) = search rules in
    c.put_channels.ensures.items ∙ ap (λ (xs : List ℕ). take 1308 (xs ++ channels_bytes own)) c.append_cut.ensures.items
    ∙ cut_both 1308 octets c.head_octets.result (channels_bytes own)
    ∙ ap (λ (front : List ℕ). take 1308 (octets ++ (front ++ channels_bytes own))) head
    ∙ ap (λ (more : List ℕ). take 1308 (octets ++ more)) (some_is_block c.args.slot c.args.subslot own some)
