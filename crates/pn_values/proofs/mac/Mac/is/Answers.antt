-- Numbers made of octets are equal if and only if the octets are.
use Rattle.std.proofs.Common.{rules, ◌≡◌, nat_eq, ℕ, ◌+◌, ◌*◌, ◌<◌, length, slice_index_or, arith, refl, sym, ap, ◌∙◌, List}
use Rattle.pn_values.proofs.Octets.{alike, six}
use Rattle.pn_values.proofs.mac.Mac.is.Goals as goal

pub returns-then-from_le_bytes : goal.returns-then-from_le_bytes
returns-then-from_le_bytes c =
    let o = c.args.self.now.octets in
    let p = c.args.other.now.octets in
    let l : length o ≡ 6 = search rules in
    let m : length p ≡ 6 = search rules in
    let i0 : slice_index_or o 0 0 < 256 = search rules in
    let i1 : slice_index_or o 1 0 < 256 = search rules in
    let i2 : slice_index_or o 2 0 < 256 = search rules in
    let i4 : slice_index_or o 4 0 < 256 = search rules in
    let j0 : slice_index_or p 0 0 < 256 = search rules in
    let j1 : slice_index_or p 1 0 < 256 = search rules in
    let j2 : slice_index_or p 2 0 < 256 = search rules in
    let j4 : slice_index_or p 4 0 < 256 = search rules in
    let four = sym c.from_le_bytes.ensures ∙ c.if-from_le_bytes.true ∙ c.from_le_bytes-2.ensures in
    let high = c.from_le_bytes-then-from_le_bytes.ensures in
    let others = c.from_le_bytes-then-from_le_bytes-2.ensures in
    alike o p _ _ (λ e. six o p l m i0 i1 i2 i4 j0 j1 j2 j4 four (sym high ∙ e ∙ others))
    (λ e. high ∙ ap (λ (q : List ℕ). slice_index_or q 4 0 + slice_index_or q 5 0 * 256) e ∙ sym others)
