use Rattle.std.proofs.Common.{◌≡◌, ℕ, ◌<◌, ◌++◌, length, List, slice_index_or, rules, ap, ap₂, append_assoc, ◌∙◌}
use Rattle.frame_codec.proofs.Addresses.{both}
use Rattle.frame_codec.proofs.writing.put_mac.Goals as goal

pub returns-clause-items : goal.returns-clause-items
returns-clause-items c =
    let o = c.args.mac.octets in
    let old = c.args.frame.now.items in
    let l : length o ≡ 6 = search rules in
    let i0 : slice_index_or o 0 0 < 256 = search rules in
    let i1 : slice_index_or o 1 0 < 256 = search rules in
    let i2 : slice_index_or o 2 0 < 256 = search rules in
    let i3 : slice_index_or o 3 0 < 256 = search rules in
    let i4 : slice_index_or o 4 0 < 256 = search rules in
    let i5 : slice_index_or o 5 0 < 256 = search rules in
    let written = both o _ _ l i0 i1 i2 i3 i4 i5 c.from_le_bytes.ensures c.from_le_bytes-2.ensures in
    let octets = ap₂ (λ (xs ys : List ℕ). xs ++ ys) c.to_le_bytes.ensures c.to_le_bytes-2.ensures ∙ written in
    c.append-2.ensures.items
    ∙ ap (λ (xs : List ℕ). xs ++ c.to_le_bytes-2.result) c.append.ensures.items
    ∙ append_assoc old c.to_le_bytes.result c.to_le_bytes-2.result
    ∙ ap (λ (xs : List ℕ). old ++ xs) octets
