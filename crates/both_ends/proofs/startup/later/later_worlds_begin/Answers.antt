use Rattle.std.proofs.Common.{List, [], ap, subst, sym, ◌∙◌}
use Rattle.asked_records.specs.Asked.{question_in}
use Rattle.rpc_core.specs.Cache.{Kept, kept_of}
use Rattle.controller_messages.specs.declared.setup.Setup.{Setup}
use Rattle.device_core.specs.State.{State, Station}
use Rattle.network_world.specs.World.{last_world}
use Rattle.both_ends.specs.startup.Played.{AreUnnamed}
use Rattle.both_ends.proofs.StartupAsked.{first_own, first_related, none_asked}
use Rattle.both_ends.proofs.StartupLater.{run_leaves}
use Rattle.both_ends.proofs.startup.later.later_worlds_begin.Goals as goal

pub returns-clause-first : goal.returns-clause-first
returns-clause-first g c = λ activity calls none. ap (λ (cs : List Kept). kept_of activity cs) none

pub returns-clause-station : goal.returns-clause-station
returns-clause-station g c = λ can first run begins made.
    (run_leaves [] c.device_turns.ensures.turn c.device_turns.ensures.own g.F.Flash first run made
    (c.worlds_start_up.ensures.meant can first run begins made)).station

pub returns-clause-others : goal.returns-clause-others
returns-clause-others g c = λ can first run begins made activity other none.
    (run_leaves activity c.device_turns.ensures.turn c.device_turns.ensures.own g.F.Flash first run made
    (c.worlds_start_up.ensures.meant can first run begins made)).uncalled
    (first_own first.controller.setup.activity first.device.live.rest.asked begins.unasked)
    (λ own. other (ap (λ (s : Setup). s.activity) (sym begins.of_setup) ∙ own)) none

pub returns-clause-unasked : goal.returns-clause-unasked
returns-clause-unasked g c = λ can first run begins made over.
    none_asked (last_world first run).device.live.rest.link (last_world first run).device.live.rest.asked over
    ((run_leaves [] c.device_turns.ensures.turn c.device_turns.ensures.own g.F.Flash first run made
    (c.worlds_start_up.ensures.meant can first run begins made)).related
    (first_related first.device.live.rest.link first.device.live.rest.asked begins.unasked))

pub returns-clause-later : goal.returns-clause-later
returns-clause-later g c = λ can first run begins made over next other none unnamed world device setup new opened.
    let leaves = run_leaves next.activity c.device_turns.ensures.turn c.device_turns.ensures.own g.F.Flash first run made
    (c.worlds_start_up.ensures.meant can first run begins made) in
    record {
      of_setup = setup;
      of_device = ap (λ (d : State _). d.station.identity) device ∙ (ap (λ (s : Station). s.identity) leaves.station ∙ begins.of_device);
      made = new;
      opened = opened;
      uncalled = ap (λ (d : State _). kept_of next.activity d.live.rest.calls) device
          ∙ leaves.uncalled (first_own first.controller.setup.activity first.device.live.rest.asked begins.unasked)
          (λ own. other (ap (λ (s : Setup). s.activity) (sym begins.of_setup) ∙ own)) none;
      unrelated = ap (λ (d : State _). d.live.rest.link) device ∙ over;
      unasked = ap (λ (d : State _). question_in d.live.rest.asked) device
          ∙ none_asked (last_world first run).device.live.rest.link (last_world first run).device.live.rest.asked over
          (leaves.related (first_related first.device.live.rest.link first.device.live.rest.asked begins.unasked));
      unnamed = subst (λ (s : Station). AreUnnamed s.named next.plan.records.items) (sym (ap (λ (d : State _). d.station) device ∙ leaves.station)) unnamed;
    }
