-- What both ends exchange in a run with callers is what they exchange in the run alone beside it.
use Rattle.std.proofs.Common.{◌≡◌, ◌≤◌, ◌+◌, ℕ, true, List, length, Some, subst, sym, ◌∙◌}
use Rattle.flash_model.specs.declared.flash.Flash.{Ghosts as Flash}
use Rattle.record_blocks.specs.declared.alarm_notification.AlarmNotification.{AlarmNotification}
use Rattle.diagnosis.specs.World.{IsPrefixOf}
use Rattle.diagnosis.specs.declared.diagnosis.Diagnosis.{Diagnosis}
use Rattle.diagnosis.specs.declared.reports.priority.Priority.TheVariants.{High, Low}
use Rattle.relations.specs.RelationState.{RelationState}
use Rattle.controller_core.specs.stored.State.{Controlling}
use Rattle.network_world.specs.declared.moves.Move.{Move}
use Rattle.network_world.specs.World.{World, last_world}
use Rattle.end_laws.specs.turns.Alarms.{last_of}
use Rattle.both_ends.specs.exchange.Over.{IsOneOfTheLastTwo, raised_over, reported_over, taken_over}
use Rattle.both_ends.specs.exchange.Told.{AreSizedMoves, IsTold, known_at}
use Rattle.strangers_law.specs.CallingRuns.{IsRunBeside, Occurrence, last_with_callers, moves_in}
use Rattle.strangers_law.proofs.CallingCarried.{all_raised, all_reported, all_sized, all_taken, one_frame, same_diagnoses, same_link}
use Rattle.strangers_law.proofs.exchanges.callers_leave_exchanges.Goals as goal

module _ {F : Type 0} {S : ℕ} (as_flash : Flash F S) (others : List (List ℕ)) (first : World F) (run : List (Occurrence × World F))
    (beside : IsRunBeside as_flash others first first run) where
  abbrev Taken : Type 0
  Taken = List AlarmNotification

  abbrev last : World F
  last = last_world first beside.alone

  abbrev moves : List (Move × World F)
  moves = moves_in run

  -- what is stated of the alarms of the run alone holds of those of the run with callers
  of_high : (P : Taken → Taken → Type 0) → P (raised_over first beside.alone) (taken_over High first beside.alone)
      → P (raised_over first moves) (taken_over High first moves)
  of_high P holds =
      subst (λ (raised : Taken). P raised (taken_over High first moves)) (sym (all_raised others first first moves beside.alone beside.begins beside.moves))
      (subst (λ (taken : Taken). P (raised_over first beside.alone) taken)
      (sym (all_taken others High first first moves beside.alone beside.begins beside.moves)) holds)

  of_low : (P : Taken → Taken → Type 0) → P (reported_over first beside.alone) (taken_over Low first beside.alone)
      → P (reported_over first moves) (taken_over Low first moves)
  of_low P holds =
      subst (λ (reported : Taken). P reported (taken_over Low first moves))
      (sym (all_reported others first first moves beside.alone beside.begins beside.moves))
      (subst (λ (taken : Taken). P (reported_over first beside.alone) taken)
      (sym (all_taken others Low first first moves beside.alone beside.begins beside.moves)) holds)

  few_alone : length (reported_over first moves) ≤ 32768 → length (reported_over first beside.alone) ≤ 32768
  few_alone few =
      subst (λ (reported : Taken). length reported ≤ 32768) (all_reported others first first moves beside.alone beside.begins beside.moves) few

  sized_alone : AreSizedMoves moves → AreSizedMoves beside.alone
  sized_alone sized = all_sized others moves beside.alone beside.moves sized

  link_alone : (link : RelationState) → (last_with_callers first run).device.live.rest.link ≡ Some link → last.device.live.rest.link ≡ Some link
  link_alone link is = same_link others (last_with_callers first run) last beside.last ∙ is

  -- what is stated of the last controller, and of the diagnoses at the end
  of_last : (P : Controlling → Type 0) → P last.controller → P (last_with_callers first run).controller
  of_last P holds = subst P (sym beside.last.controller) holds

  of_diagnoses : (P : List Diagnosis → Type 0) → P last.device.live.rest.diagnoses → P (last_with_callers first run).device.live.rest.diagnoses
  of_diagnoses P holds = subst P (same_diagnoses others (last_with_callers first run) last beside.last) holds

pub returns-clause-zeros : goal.returns-clause-zeros
returns-clause-zeros g c = λ can others first run few begins are link is none.
    let beside = c.callers_leave_both_ends.ensures.runs can others first run few begins are in
    c.worlds_show_what_is_given.ensures.zeros can first beside.alone begins beside.made link (link_alone g.F.Flash others first run beside link is) none

pub returns-clause-values : goal.returns-clause-values
returns-clause-values g c = λ can others first run few begins are link is some.
    let beside = c.callers_leave_both_ends.ensures.runs can others first run few begins are in
    one_frame others c.args.setup.now c.args.identity.now first (moves_in run) beside.alone link beside.begins beside.moves
    (c.worlds_show_what_is_given.ensures.values can first beside.alone begins beside.made link (link_alone g.F.Flash others first run beside link is) some)

pub returns-clause-front : goal.returns-clause-front
returns-clause-front g c = λ can others first run few begins are sized few_bits.
    let beside = c.callers_leave_both_ends.ensures.runs can others first run few begins are in
    of_high g.F.Flash others first run beside (λ raised taken. length raised ≤ 32768 → IsPrefixOf taken raised)
    (c.worlds_take_alarms.ensures.front can first beside.alone begins beside.made sized
    (sized_alone g.F.Flash others first run beside few_bits))

pub returns-clause-last : goal.returns-clause-last
returns-clause-last g c = λ can others first run few begins are sized few_bits.
    let beside = c.callers_leave_both_ends.ensures.runs can others first run few begins are in
    of_high g.F.Flash others first run beside (λ raised taken. length raised ≤ 32768 → length raised ≤ length taken + 1)
    (c.worlds_take_alarms.ensures.last can first beside.alone begins beside.made sized
    (sized_alone g.F.Flash others first run beside few_bits))

pub returns-clause-shown : goal.returns-clause-shown
returns-clause-shown g c = λ can others first run few begins are sized few_bits.
    let beside = c.callers_leave_both_ends.ensures.runs can others first run few begins are in
    of_high g.F.Flash others first run beside (λ raised taken. (last_with_callers first run).controller.live.alarm ≡ last_of taken)
    (of_last g.F.Flash others first run beside (λ control. control.live.alarm ≡ last_of (taken_over High first beside.alone))
    (c.worlds_take_alarms.ensures.shown can first beside.alone begins beside.made sized
    (sized_alone g.F.Flash others first run beside few_bits)))

pub returns-clause-alarm : goal.returns-clause-alarm
returns-clause-alarm g c = λ can others first run few begins are sized few_bits.
    let beside = c.callers_leave_both_ends.ensures.runs can others first run few begins are in
    of_high g.F.Flash others first run beside
    (λ raised taken. length raised ≤ 32768 → IsOneOfTheLastTwo raised (last_with_callers first run).controller.live.alarm)
    (of_last g.F.Flash others first run beside
    (λ control. length (raised_over first beside.alone) ≤ 32768 → IsOneOfTheLastTwo (raised_over first beside.alone) control.live.alarm)
    (c.worlds_take_alarms.ensures.alarm can first beside.alone begins beside.made sized
    (sized_alone g.F.Flash others first run beside few_bits)))

pub returns-clause-reports : goal.returns-clause-reports
returns-clause-reports g c = λ can others first run few begins are sized few_bits.
    let beside = c.callers_leave_both_ends.ensures.runs can others first run few begins are in
    of_low g.F.Flash others first run beside (λ reported taken. length reported ≤ 32768 → IsPrefixOf taken reported)
    (c.worlds_take_alarms.ensures.reports can first beside.alone begins beside.made sized
    (sized_alone g.F.Flash others first run beside few_bits))

pub returns-clause-reported_last : goal.returns-clause-reported_last
returns-clause-reported_last g c = λ can others first run few begins are sized few_bits.
    let beside = c.callers_leave_both_ends.ensures.runs can others first run few begins are in
    of_low g.F.Flash others first run beside (λ reported taken. length reported ≤ 32768 → length reported ≤ length taken + 1)
    (c.worlds_take_alarms.ensures.reported_last can first beside.alone begins beside.made sized
    (sized_alone g.F.Flash others first run beside few_bits))

pub returns-clause-told : goal.returns-clause-told
returns-clause-told g c = λ can others first run few begins are sized few_bits known link is exchanges.
    let beside = c.callers_leave_both_ends.ensures.runs can others first run few begins are in
    of_low g.F.Flash others first run beside (λ reported taken. IsTold link.flow.low (last_with_callers first run).device.live.rest.diagnoses reported)
    (of_diagnoses g.F.Flash others first run beside (λ diagnoses. IsTold link.flow.low diagnoses (reported_over first beside.alone))
    (c.worlds_take_alarms.ensures.told can first beside.alone begins beside.made sized
    (sized_alone g.F.Flash others first run beside few_bits) known link (link_alone g.F.Flash others first run beside link is) exchanges))

pub returns-clause-list : goal.returns-clause-list
returns-clause-list g c = λ can others first run few begins are sized few_bits known apart few_reports link is exchanges confirmed none stands.
    let beside = c.callers_leave_both_ends.ensures.runs can others first run few begins are in
    of_diagnoses g.F.Flash others first run beside (λ diagnoses. (last_with_callers first run).controller.live.diagnosis ≡ known_at link.flow.low diagnoses)
    (of_last g.F.Flash others first run beside
    (λ control. control.live.diagnosis ≡ known_at link.flow.low (last_world first beside.alone).device.live.rest.diagnoses)
    (c.worlds_take_alarms.ensures.list can first beside.alone begins beside.made sized
    (sized_alone g.F.Flash others first run beside few_bits) known apart
    (few_alone g.F.Flash others first run beside few_reports)
    link (link_alone g.F.Flash others first run beside link is) exchanges confirmed none
    (subst (λ (control : Controlling). control.live.stands ≡ true) beside.last.controller stands)))
