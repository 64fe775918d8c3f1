-- A Read Implicit is read as it is.
use Rattle.records.specs.reads.Handled.{request_of}
use Rattle.device_core.proofs.Counting.{given_is}
use Rattle.device_core.proofs.asking.asking_among.Goals as goal

pub returns-in-ReadImplicit-clause-value : goal.returns-in-ReadImplicit-clause-value
returns-in-ReadImplicit-clause-value c =
    let is = given_is c.read_request.result (request_of c.args.serving.now.blocks.now) c.read_request.ensures in
    rw (c.in-ReadImplicit.is, is) c.asking_read-in-ReadImplicit.ensures.value
