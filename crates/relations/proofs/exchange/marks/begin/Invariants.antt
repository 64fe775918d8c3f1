-- The marks so far, and that there is room for the rest.
use Rattle.std.proofs.Common.{◌≡◌, ◌++◌, length, drop, map}
use Rattle.relations.specs.exchange.Marks.{first_mark}
use Rattle.relations.proofs.exchange.marks.begin.Given as goal

abbrev pub invariant-loop-place : goal.invariant-loop-place
invariant-loop-place l = record {
  items : l.marks.items ++ map (first_mark (record { begin_bad = l.starting.begin_bad; is_running = l.starting.is_running; statuses = l.starting.statuses.now; units = l.starting.units; diagnoses = l.starting.diagnoses.now; number = l.starting.number }) l.rows) (drop l.place-index l.places)
      ≡ map (first_mark (record { begin_bad = l.starting.begin_bad; is_running = l.starting.is_running; statuses = l.starting.statuses.now; units = l.starting.units; diagnoses = l.starting.diagnoses.now; number = l.starting.number }) l.rows) l.places;
  len : length l.marks.items ≡ l.place-index;
}
