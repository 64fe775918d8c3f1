-- One block after another is appended.
use Rattle.std.proofs.Common.{◌++◌, ℕ, List, ap, ◌∙◌}
use Rattle.dcp_core.specs.declared.kind.Kind.TheVariants as is
use Rattle.dcp_core.specs.Bytes.{answer_bytes}
use Rattle.controller_dcp.specs.Answers.{identify_bytes}
use Rattle.controller_dcp.specs.Values.{valued}
use Rattle.controller_dcp.proofs.answers.identify_answer.Goals as goal

pub returns-clause-items : goal.returns-clause-items
unfolding identify_bytes
returns-clause-items c =
    let value = valued c.args.plan.now c.args.own.now in
    let one = c.put_value.ensures.items ∙ ap (λ (xs : List ℕ). xs ++ value is.StationType) c.new-blocks.ensures in
    let two = c.put_value-2.ensures.items ∙ ap (λ (xs : List ℕ). xs ++ value is.NameOfStation) one in
    let three = c.put_value-3.ensures.items ∙ ap (λ (xs : List ℕ). xs ++ value is.DeviceId) two in
    let four = c.put_value-4.ensures.items ∙ ap (λ (xs : List ℕ). xs ++ value is.DeviceRole) three in
    let five = c.put_value-5.ensures.items ∙ ap (λ (xs : List ℕ). xs ++ value is.DeviceOptions) four in
    let six = c.put_value-6.ensures.items ∙ ap (λ (xs : List ℕ). xs ++ value is.DeviceInstance) five in
    let all = c.put_value-7.ensures.items ∙ ap (λ (xs : List ℕ). xs ++ value is.IpSuite) six in
    c.put_answer.ensures.items ∙ ap (λ (blocks : List ℕ). answer_bytes 5 c.args.xid blocks) all
