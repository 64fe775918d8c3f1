-- The handle of an answer is not the one of a lookup that begins.
use Rattle.rpc_services.proofs.EndpointMapperEnding.{ends}
use Rattle.rpc_services.proofs.endpoint_mapper.law.lookups_end.Goals as goal

pub returns : goal.returns
returns c = ends
