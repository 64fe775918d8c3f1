use Rattle.rpc_core.specs.declared.fields.Order.TheVariants.{Big}
use Rattle.rpc_core.specs.Body.{status}
use Rattle.rpc_core.specs.Response.{answered}
use Rattle.rpc_core.proofs.Sound.{status_sound, response_again, response_behind}
use Rattle.rpc_core.proofs.Written.{body_joined, response_exact, response_fits, response_spelled}
use Rattle.rpc_core.proofs.writing.write_response.Goals as goal

pub returns-clause-exact : goal.returns-clause-exact
returns-clause-exact c =
    let r = answered c.args.response.now in
    response_exact r _ _ c.put_head.ensures.items
    (body_joined (status Big) r.status r.maximum_count r.blocks _ _ _ (status_sound Big) c.put_status.ensures.items c.put_blocks.ensures.items)

pub returns-clause-spelled : goal.returns-clause-spelled
returns-clause-spelled c =
    let r = answered c.args.response.now in
    response_spelled r _ (response_fits r c.put_head.ensures.fits c.put_status.ensures.fits c.put_blocks.ensures.fits) (returns-clause-exact c)

pub returns-clause-behind : goal.returns-clause-behind
returns-clause-behind c = λ more.
    let r = answered c.args.response.now in
    response_again _ r (response_behind _ more r (returns-clause-spelled c))
