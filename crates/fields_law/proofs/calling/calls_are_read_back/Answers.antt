-- Each field at its place.
use Rattle.fields_law.proofs.ReadingCalls.{answers_are, given_is, plug_is, read_is, requests_are, write_is, written_is}
use Rattle.fields_law.proofs.calling.calls_are_read_back.Goals as goal

pub returns : goal.returns
returns c =
    let long = c.blocks_are_read.ensures.long in
    record {
      requests = requests_are long;
      answers = answers_are long;
      plug = plug_is;
      write = write_is long;
      written = written_is long;
      read = read_is long;
      given = given_is long;
    }
