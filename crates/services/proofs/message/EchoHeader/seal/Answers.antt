use Rattle.std.proofs.Common.{ℕ, ◌-◌, List, [], ◌++◌, ap, sym, ◌∙◌}
use Rattle.frame_codec.specs.Sum.{ones_sum_of}
use Rattle.services.specs.Message.{echo_header, echo_message}
use Rattle.services.proofs.Sound.{echo_header_sound}
use Rattle.services.proofs.message.EchoHeader.seal.Goals as goal

pub returns : goal.returns
unfolding echo_message
returns c =
    let header = (echo_header c.args.kind).write c.args.self [] in
    let first = c.put_echo_header.ensures.items ∙ ap (λ (xs : List ℕ). xs ++ header) c.new-octets.ensures in
    let all = c.as_slice.ensures.value ∙ c.append.ensures.items ∙ ap (λ (xs : List ℕ). xs ++ c.args.body.now) first ∙ sym ((echo_header_sound c.args.kind).local c.args.self c.args.body.now) in
    ap (λ (sum : ℕ). record c.args.self { checksum = 65535 - sum }) (c.ones_sum.ensures.exact ∙ ap ones_sum_of all)
