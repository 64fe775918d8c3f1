-- This follows from the laws of a start and of an earlier relation.
use Rattle.std.proofs.Common.{refl, subst, arith}
use Rattle.rounds_law.specs.Start.{start_up_limit}
use Rattle.rounds_law.specs.Stages.{Leads}
use Rattle.rounds_law.proofs.AbandonedLaw.{comes_back_refused, comes_back_unanswered}
use Rattle.rounds_law.proofs.AbandonedRounds.{DeniedLaws, HalfwayLaws}
use Rattle.rounds_law.proofs.AgainLaw.{AgainLaws, EndedLaws, comes_back, comes_back_alone}
use Rattle.rounds_law.proofs.AgainRefused.{not_held}
use Rattle.rounds_law.proofs.ComesLaw.{comes_back_addressing, comes_back_connecting, comes_back_released, comes_back_stopped, comes_from}
use Rattle.rounds_law.proofs.CompositionLaws.{Laws}
use Rattle.rounds_law.proofs.again.law.both_ends_come_back.Goals as goal

laws_of : (g : _) (c : goal.After-device_keeps_an_earlier_relation-2 g) → Laws c.args.setup.now c.args.identity.now
laws_of g c = record {
  modules = c.only_pulls_and_plugs_change_modules.ensures;
  device_found = c.device_answers_the_search.ensures.found;
  device_set = c.device_answers_the_search.ensures.set;
  device_connected = c.device_takes_calls.ensures.connected;
  device_ended = c.device_takes_calls.ensures.ended;
  device_confirmed = c.device_takes_calls.ensures.confirmed;
  device_written = c.device_takes_writes.ensures.written;
  device_free = c.device_goes_on_in_time.ensures.free;
  device_unit = c.device_goes_on_in_time.ensures.unit;
  device_outputs = c.device_goes_on_in_time.ensures.outputs;
  device_later_unit = c.device_goes_on_in_time.ensures.later_unit;
  device_later_outputs = c.device_goes_on_in_time.ensures.later_outputs;
  controller_found = c.controller_finds_its_device.ensures.found;
  controller_set = c.controller_finds_its_device.ensures.set;
  controller_connected = c.controller_takes_responses.ensures.connected;
  controller_written = c.controller_takes_responses.ensures.written;
  controller_readied = c.controller_takes_responses.ensures.readied;
  controller_unit = c.controller_goes_on_in_time.ensures.unit;
  controller_unsent = c.controller_goes_on_in_time.ensures.unsent;
  controller_inputs = c.controller_goes_on_in_time.ensures.inputs;
  controller_later_unit = c.controller_goes_on_in_time.ensures.later_unit;
  controller_later_inputs = c.controller_goes_on_in_time.ensures.later_inputs;
  controller_reported = c.controller_goes_on_in_time.ensures.reported;
}

again_of : (g : _) (c : goal.After-device_keeps_an_earlier_relation-2 g) → AgainLaws c.args.setup.now c.args.identity.now
again_of g c = record {
  refused = c.device_keeps_an_earlier_relation.ensures.refused;
  unset = c.device_keeps_an_earlier_relation.ensures.unset;
  unit = c.device_keeps_an_earlier_relation.ensures.unit;
  last = c.device_keeps_an_earlier_relation.ensures.last;
  unrelated = c.device_keeps_an_earlier_relation.ensures.unrelated;
  vain = c.device_keeps_an_earlier_relation.ensures.vain;
}

again_next : (g : _) (c : goal.After-device_keeps_an_earlier_relation-2 g) → AgainLaws c.args.next.now c.args.identity.now
again_next g c = record {
  refused = c.device_keeps_an_earlier_relation-2.ensures.refused;
  unset = c.device_keeps_an_earlier_relation-2.ensures.unset;
  unit = c.device_keeps_an_earlier_relation-2.ensures.unit;
  last = c.device_keeps_an_earlier_relation-2.ensures.last;
  unrelated = c.device_keeps_an_earlier_relation-2.ensures.unrelated;
  vain = c.device_keeps_an_earlier_relation-2.ensures.vain;
}

ended_of : (g : _) (c : goal.After-device_keeps_an_earlier_relation-2 g) → EndedLaws c.args.setup.now c.args.identity.now
ended_of g c = record {
  refused = λ controller spare octets asking other. c.controller_ends_refused.ensures.refused controller spare octets asking other.0
      (not_held c.args.setup.now.plan other.0.status other.1);
  unset = c.controller_ends_refused.ensures.unset;
  unit = c.controller_ends_refused.ensures.unit;
  alone = c.controller_ends_refused.ensures.alone;
}

denied_of : (g : _) (c : goal.After-device_keeps_an_earlier_relation-2 g) → DeniedLaws c.args.setup.now c.args.identity.now
denied_of g c = record { denied = c.device_denies_calls.ensures.denied; unreached = c.device_denies_calls.ensures.unreached }

halfway_of : (g : _) (c : goal.After-device_keeps_an_earlier_relation-2 g) → HalfwayLaws c.args.setup.now c.args.identity.now
halfway_of g c = record {
  few = c.controller_ends_halfway.ensures.few;
  denied = c.controller_ends_halfway.ensures.denied;
  unit = c.controller_ends_halfway.ensures.unit;
  released = c.controller_ends_halfway.ensures.released;
  releasing = c.controller_ends_halfway.ensures.releasing;
}

pub returns-clause-again : goal.returns-clause-again
returns-clause-again g c = λ can can_next starts pause left few plant at.
    comes_back g.F.Flash c.args.setup.now c.args.next.now c.args.identity.now (laws_of g c) (again_of g c)
    (again_next g c) (ended_of g c) can starts pause at.more
    (λ net looks. subst (λ plan. Leads g.F.Flash (start_up_limit plan) net) starts.plan (c.both_ends_start-2.ensures.looking can_next net looks))
    (c.both_ends_start.ensures.looking can) (c.both_ends_start.ensures.addressing can) (c.both_ends_start.ensures.connecting can) left few plant at refl

pub returns-clause-deserted : goal.returns-clause-deserted
returns-clause-deserted g c = λ can can_next starts pause left long plant at.
    comes_back_alone g.F.Flash c.args.setup.now c.args.next.now c.args.identity.now (laws_of g c) (again_of g c)
    (again_next g c) (ended_of g c) can starts pause at.more
    (λ net looks. subst (λ plan. Leads g.F.Flash (start_up_limit plan) net) starts.plan (c.both_ends_start-2.ensures.looking can_next net looks))
    left long plant at refl

pub returns-clause-refused : goal.returns-clause-refused
returns-clause-refused g c = λ can can_next starts pause left number long plant at.
    comes_back_refused g.F.Flash c.args.setup.now c.args.next.now c.args.identity.now (laws_of g c) (again_of g c)
    (again_next g c) (ended_of g c) can starts (denied_of g c) (halfway_of g c) pause at.at.more
    (λ net looks. subst (λ plan. Leads g.F.Flash (start_up_limit plan) net) starts.plan (c.both_ends_start-2.ensures.looking can_next net looks))
    number left long plant at refl

pub returns-clause-unanswered : goal.returns-clause-unanswered
returns-clause-unanswered g c = λ can can_next starts pause left awaited long plant at.
    comes_back_unanswered g.F.Flash c.args.setup.now c.args.next.now c.args.identity.now (laws_of g c) (again_of g c)
    (again_next g c) (ended_of g c) can starts (denied_of g c) (halfway_of g c) pause at.at.more
    (λ net looks. subst (λ plan. Leads g.F.Flash (start_up_limit plan) net) starts.plan (c.both_ends_start-2.ensures.looking can_next net looks))
    awaited left long plant at refl

pub returns-clause-each : goal.returns-clause-each
returns-clause-each g c = λ can can_next starts pause long from plant at.
    comes_from g.F.Flash c.args.setup.now c.args.next.now c.args.identity.now pause (record {
      looking = c.both_ends_start.ensures.looking can;
      addressing = c.both_ends_start.ensures.addressing can;
      connecting = c.both_ends_start.ensures.connecting can;
      asking = c.both_ends_start.ensures.repeated can;
      writing = c.both_ends_go_on.ensures.writing can;
      ending = c.both_ends_go_on.ensures.ending can;
      waiting = c.both_ends_go_on.ensures.waiting can;
      readied = c.both_ends_go_on.ensures.readied can;
      confirming = c.both_ends_go_on.ensures.confirming can;
      looking_beside = λ left few plant at. returns-clause-again g c can can_next starts pause left few plant at;
      addressing_beside = λ left few plant at.
          comes_back_addressing g.F.Flash c.args.setup.now c.args.next.now c.args.identity.now (laws_of g c) (again_of g c)
          (again_next g c) (ended_of g c) can starts pause at.will_start.more
          (λ net looks. subst (λ plan. Leads g.F.Flash (start_up_limit plan) net) starts.plan (c.both_ends_start-2.ensures.looking can_next net looks))
          (c.both_ends_start.ensures.looking can) (c.both_ends_start.ensures.addressing can) (c.both_ends_start.ensures.connecting can) left (omega (arith, long)) few plant at refl;
      connecting_beside = λ left few plant addressed at.
          comes_back_connecting g.F.Flash c.args.setup.now c.args.next.now c.args.identity.now (laws_of g c) (again_of g c)
          (again_next g c) (ended_of g c) can starts pause at.will_start.more
          (λ net looks. subst (λ plan. Leads g.F.Flash (start_up_limit plan) net) starts.plan (c.both_ends_start-2.ensures.looking can_next net looks))
          (c.both_ends_start.ensures.looking can) (c.both_ends_start.ensures.addressing can) (c.both_ends_start.ensures.connecting can) left (omega (arith, long)) few plant addressed at refl;
      deserted = λ left plant at. returns-clause-deserted g c can can_next starts pause left long plant at;
      refused = λ left number plant at. returns-clause-refused g c can can_next starts pause left number long plant at;
      unanswered = λ left awaited plant at. returns-clause-unanswered g c can can_next starts pause left awaited long plant at;
      stopped = λ left plant at.
          comes_back_stopped g.F.Flash c.args.setup.now c.args.next.now c.args.identity.now (laws_of g c) (again_of g c)
          (again_next g c) (ended_of g c) can starts pause at.will_start.more
          (λ net looks. subst (λ plan. Leads g.F.Flash (start_up_limit plan) net) starts.plan (c.both_ends_start-2.ensures.looking can_next net looks))
          left plant at refl;
      released = λ plant at.
          comes_back_released g.F.Flash c.args.setup.now c.args.next.now c.args.identity.now (laws_of g c) (again_of g c)
          (again_next g c) (ended_of g c) can starts (denied_of g c) (halfway_of g c) pause at.will_start.more
          (λ net looks. subst (λ plan. Leads g.F.Flash (start_up_limit plan) net) starts.plan (c.both_ends_start-2.ensures.looking can_next net looks))
          plant at refl;
    }) from plant at
