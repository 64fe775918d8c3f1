-- The header and the fields are the octets of the block.
use Rattle.std.proofs.Common.{◌≡◌, ℕ, List, ◌++◌, sym, ap, ◌∙◌}
use Rattle.std.proofs.lemmas.List.{append-nil}
use Rattle.wire.specs.Formats.{big_bytes}
use Rattle.block_codec.specs.Kinds.{number_of}
use Rattle.block_codec.specs.Block.{kind_of, fields_of, block_bytes}
use Rattle.block_codec.proofs.Sound.{block_written, block_again, block_parts, joined}
use Rattle.block_codec.proofs.writing.write_block.Goals as goal

pub returns-clause-exact : goal.returns-clause-exact
returns-clause-exact g c =
    let value = c.args.block.now in
    let header : c.append_u16.new.out.items ≡ c.args.out.now.items ++ big_bytes 2 (number_of (kind_of value)) =
    c.append_u16.ensures.items ∙ ap (λ (n : ℕ). c.args.out.now.items ++ big_bytes 2 n) (c.number.ensures ∙ ap number_of c.block_type.ensures) in
    let lengths : c.append_u16-2.new.out.items ≡ c.append_u16.new.out.items ++ big_bytes 2 ((fields_of (kind_of value)).size value) =
    c.append_u16-2.ensures.items ∙ ap (λ (n : ℕ). c.append_u16.new.out.items ++ big_bytes 2 n) c.body_len.ensures.size in
    joined _ _ _ _ _ _ _ header lengths (sym (append-nil c.put_body.new.out.items) ∙ c.put_body.ensures.items) ∙ ap (λ (xs : List ℕ). c.args.out.now.items ++ xs) (sym (block_parts value))

pub returns-clause-spelled : goal.returns-clause-spelled
returns-clause-spelled g c = λ accepted rest.
    block_written c.args.block.now rest (rw (sym c.body_len.ensures.size) c.body_len.ensures.few) (c.put_body.ensures.fits accepted)

pub returns-clause-behind : goal.returns-clause-behind
returns-clause-behind g c = λ accepted rest.
    block_again (block_bytes c.args.block.now ++ rest) c.args.block.now rest
    (block_written c.args.block.now rest (rw (sym c.body_len.ensures.size) c.body_len.ensures.few) (c.put_body.ensures.fits accepted))
