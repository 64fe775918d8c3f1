-- Each field at its place.
use Rattle.std.proofs.Common.{refl}
use Rattle.fields_law.proofs.ReadingPackets.{request_is, response_is}
use Rattle.fields_law.proofs.calling.packets_are_read_back.Goals as goal

pub returns : goal.returns
returns c = record {
  request = λ interface call blocks sized maximum few there. request_is interface call blocks sized maximum few there;
  response = response_is;
  controller = λ setup request. refl;
  device = λ link. refl;
}
