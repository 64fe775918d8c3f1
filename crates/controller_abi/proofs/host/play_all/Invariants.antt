-- The operations so far were carried out.
use Rattle.std.proofs.Common.{◌≡◌, take}
use Rattle.std.specs.Prelude.{map, ◌++◌, List}
use Rattle.controller_abi.specs.Host.{Entry, asked_in}
use Rattle.controller_abi.specs.Plays.{Plays}
use Rattle.controller_abi.proofs.host.play_all.Given as goal

abbrev pub invariant-loop-asked : goal.invariant-loop-asked
invariant-loop-asked g l = record {
  entries : List Entry;
  told : g.H.Host.told l.host ≡ g.H.Host.told l.initial.host ++ entries;
  are : map (λ one. (one.op, one.given.now)) (take l.asked-index l.operations) ≡ asked_in entries;
  plays : Plays l.initial.port entries l.port;
  patient : g.H.Host.is_patient l.initial.host → g.H.Host.is_patient l.host;
}
