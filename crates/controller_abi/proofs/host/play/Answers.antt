-- The law for hosts, from the operations that were carried out.
use Rattle.controller_abi.proofs.HostRuns.{alone_all, fetched_all, plays_told, runs_all, served_all, shown_all}
use Rattle.controller_abi.proofs.host.play.Goals as goal

pub returns-clause-plays : goal.returns-clause-plays
returns-clause-plays g c = let played = c.play_all.ensures.played in (played.entries, played.rest, played.told, played.are, played.all)

pub returns-clause-runs : goal.returns-clause-runs
returns-clause-runs g c = λ entries is. runs_all entries c.args.port.now c.play_all.new.port (plays_told _ _ _ _ _ _ c.play_all.ensures.played entries is)

pub returns-clause-alone : goal.returns-clause-alone
returns-clause-alone g c = λ entries is.
    alone_all c.a_station_has_its_controller_alone.ensures.controller entries c.args.port.now c.play_all.new.port (plays_told _ _ _ _ _ _ c.play_all.ensures.played entries is)

pub returns-clause-served : goal.returns-clause-served
returns-clause-served g c = λ entries is. served_all entries c.args.port.now c.play_all.new.port (plays_told _ _ _ _ _ _ c.play_all.ensures.played entries is)

pub returns-clause-fetched : goal.returns-clause-fetched
returns-clause-fetched g c = λ entries is. fetched_all entries c.args.port.now c.play_all.new.port (plays_told _ _ _ _ _ _ c.play_all.ensures.played entries is)

pub returns-clause-shows : goal.returns-clause-shows
returns-clause-shows g c = λ before entry more is started.
    shown_all c.a_station_has_its_controller_alone.ensures.controller before entry more c.args.port.now c.play_all.new.port (plays_told _ _ _ _ _ _ c.play_all.ensures.played _ is) started
