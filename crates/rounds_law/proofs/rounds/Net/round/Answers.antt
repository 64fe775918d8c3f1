use Rattle.std.proofs.Common.{ℕ, List, ap, subst}
use Rattle.network_world.specs.Sent.{octets_of}
use Rattle.rounds_law.specs.Rounds.{IsReliable, Net, Round, Takes}
use Rattle.rounds_law.proofs.RoundsNet.{More, round_of}
use Rattle.rounds_law.proofs.rounds.Net.round.Goals as goal

pub returns : goal.returns
returns g c =
    let inside = c.self.inside in
    let before : Net g.row.F.Denot = record {
      device = inside.device;
      controller = inside.controller;
      to_device = octets_of inside.to_device.items;
      to_controller = octets_of inside.to_controller.items;
    } in
    let device = c.arrive_at_device.new.device in
    let answers = octets_of c.arrive_at_device.new.sent.items in
    let unsent = octets_of c.clear.new.self.items in
    let none = octets_of c.clear-2.new.self.items in
    let silent = octets_of c.clear-3.new.self.items in
    let sent = octets_of c.arrive_at_controller.new.sent.items in
    let more = octets_of c.arrive_at_controller-2.new.sent.items in
    let all = octets_of c.happen_at_controller.new.sent.items in
    let inputs = octets_of c.pass_at_device.new.sent.items in
    subst (λ (old : Net g.row.F.Denot). IsReliable g.F.Flash old.device → Round g.F.Flash old (record {
      device = c.pass_at_device.new.device;
      controller = c.happen_at_controller.new.controller;
      to_device = all;
      to_controller = inputs;
    }) × IsReliable g.F.Flash c.pass_at_device.new.device) c.self.view_is (λ reliable.
    let takes = subst (λ (fs : List (List ℕ)). Takes g.F.Flash inside.device fs unsent device answers) (ap (λ fs. octets_of fs) c.as_slice.ensures.value)
    (c.in_ok-arrive_at_device.ensures reliable) in
    let one = subst (λ (fs : List (List ℕ)). More inside.controller fs none c.arrive_at_controller.new.controller sent)
    (ap (λ fs. octets_of fs) c.as_slice-2.ensures.value)
    (record { controller = c.in_ok-arrive_at_controller.ensures.state; appended = c.in_ok-arrive_at_controller.ensures.frames }) in
    let two = subst (λ (fs : List (List ℕ)). More c.arrive_at_controller.new.controller fs sent c.arrive_at_controller-2.new.controller more)
    (ap (λ fs. octets_of fs) c.as_slice-3.ensures.value)
    (record { controller = c.in_ok-arrive_at_controller-2.ensures.state; appended = c.in_ok-arrive_at_controller-2.ensures.frames }) in
    round_of g.F.Flash before device c.pass_at_device.new.device unsent answers none sent more all silent inputs
    c.arrive_at_controller.new.controller c.arrive_at_controller-2.new.controller c.happen_at_controller.new.controller
    (ap (λ fs. octets_of fs) c.clear.ensures.items) takes (ap (λ fs. octets_of fs) c.clear-2.ensures.items) one two
    (ap (λ fs. octets_of fs) c.clear-3.ensures.items) (c.in_ok-pass_at_device.ensures takes.reliable)
    c.in_ok-happen_at_controller.ensures.state c.in_ok-happen_at_controller.ensures.frames)
