-- What the structs of echo messages mean: their octets, independent of where they lie in memory.
use Rattle.services.specs.declared.echo.Echo.{Echo}
use Rattle.services.specs.declared.echo.EchoRequest.{EchoRequest}
use Rattle.services.specs.declared.called.Called.{Called}
use Rattle.services.specs.Message.{EchoMeaning}
use Rattle.services.specs.Echo.{Request}
use Rattle.services.specs.Answer.{Call}

-- what a message means
abbrev pub meaning_of : Echo → EchoMeaning
meaning_of echo = record {
  source = echo.source;
  destination = echo.destination;
  identifier = echo.identifier;
  sequence = echo.sequence;
  body = echo.body.now;
}

-- what a request asks
abbrev pub asked_by : EchoRequest → Request
asked_by request = record { destination = request.destination; source = request.source; echo = meaning_of request.echo }

-- what a call is
abbrev pub call_as : Called → Call
call_as called = record { source = called.source; caller = called.caller; body = called.body.now }
