-- The parts of a request, one after the other.
use Rattle.std.proofs.Common.{◌≡◌, ◌≤◌, ℕ, List, ◌++◌, length, arith, sym, ap, ◌∙◌}
use Rattle.std.proofs.lemmas.List.{length-map}
use Rattle.wire.specs.Formats.{big_bytes}
use Rattle.dcp_core.specs.Request.{asked, asked_block}
use Rattle.dcp_core.specs.Writing.{blocks_size}
use Rattle.dcp_core.proofs.Written.{parts, read_behind, six, spelled}
use Rattle.dcp_core.proofs.writing.write_request.Goals as goal

pub returns-clause-exact : goal.returns-clause-exact
returns-clause-exact g c =
    let request = asked c.args.request.now in
    let size : c.len.result ≡ blocks_size request = c.len.ensures.value ∙ c.put_all.ensures.len in
    let lengths = c.append_u16-2.ensures.items ∙ ap (λ (n : ℕ). c.append_u16.new.out.items ++ big_bytes 2 n) size in
    let delay = c.append_u16.ensures.items ∙ ap (λ (n : ℕ). c.append_u32.new.out.items ++ big_bytes 2 n) c.delay.ensures in
    let id = c.append_u8.ensures.items ∙ ap (λ (n : ℕ). c.args.out.now.items ++ big_bytes 1 n) c.id.ensures in
    let blocks = c.append.ensures.items ∙ ap (λ (xs : List ℕ). c.append_u16-2.new.out.items ++ xs) (c.as_slice.ensures.value ∙ c.put_all.ensures.items) in
    six _ _ _ _ _ _ _ _ _ _ _ _ _ id c.append_u8-2.ensures.items c.append_u32.ensures.items delay lengths blocks
    ∙ ap (λ (xs : List ℕ). c.args.out.now.items ++ xs) (sym (parts request.service request.xid request.blocks))

pub returns-clause-spelled : goal.returns-clause-spelled
returns-clause-spelled g c =
    let few : length (asked c.args.request.now).blocks ≤ 16 = omega (arith, length-map c.args.request.now.blocks.items asked_block, c.put_all.ensures.most) in
    spelled (asked c.args.request.now) c.requires.fits few c.append_u32.ensures.fits

pub returns-clause-behind : goal.returns-clause-behind
returns-clause-behind g c = λ more.
    let few : length (asked c.args.request.now).blocks ≤ 16 = omega (arith, length-map c.args.request.now.blocks.items asked_block, c.put_all.ensures.most) in
    read_behind (asked c.args.request.now) more (spelled (asked c.args.request.now) c.requires.fits few c.append_u32.ensures.fits)
