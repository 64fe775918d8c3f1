use Rattle.std.proofs.Common.{sym, ◌∙◌}
use Rattle.device_station.specs.Steps.{station_of}
use Rattle.device_station.proofs.Telling.{tells_news, tells_none, told_due}
use Rattle.device_station.proofs.step.tell_beside.Goals as goal

pub returns-then-has_news-clause-tells : goal.returns-then-has_news-clause-tells
returns-then-has_news-clause-tells g c =
    tells_news g.F.Flash (station_of c.args.device.now c.args.services.now) (station_of c.tell.new.device c.set_told.new.self) (sym c.has_news.ensures ∙ c.if-has_news.true) c.tell.ensures.alone
    c.tell.ensures.state c.set_told.ensures

pub returns-then-has_news-clause-due : goal.returns-then-has_news-clause-due
returns-then-has_news-clause-due g c =
    told_due g.F.Flash (station_of c.args.device.now c.args.services.now) (station_of c.tell.new.device c.set_told.new.self) (returns-then-has_news-clause-tells g c)

pub returns-else-has_news-clause-tells : goal.returns-else-has_news-clause-tells
returns-else-has_news-clause-tells g c = tells_none g.F.Flash (station_of c.args.device.now c.args.services.now) (sym c.has_news.ensures ∙ c.if-has_news.false)
