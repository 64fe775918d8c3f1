-- An event is handled.
use Rattle.std.proofs.Common.{◌+◌, ◌-◌, ◌<◌, ◌≤◌, ◌%◌, ◌^◌, length, sym, ap, subst, ◌∙◌, arith}
use Rattle.device_station.specs.recorded.Record.{calls_in, recalled, record_of}
use Rattle.device_station.specs.contracts.port.device.DevicePort.{the_view}
use Rattle.relations.specs.declared.steady.Steady.{Steady}
use Rattle.device_station.proofs.PortLeaps.{unknown}
use Rattle.device_station.proofs.PortCounts.{count_after, new_ones, few_new}
use Rattle.device_station.proofs.PortStages.{free_in, steady_of}
use Rattle.device_station.proofs.port.device.DevicePort.take.Goals as goal

pub returns : goal.returns
returns c =
    let port = c.self.inside in
    let old = record_of port.device.flash in
    let free = free_in (the_view port) _ c.self.view_is c.requires in
    let does = c.step-note.ensures.records in
    let same = ap record_of c.flash-2.ensures in
    let after = same ∙ does.record_is in
    let small = subst (λ f. (record_of f).count < 2 ^ 32) c.flash.ensures c.counted-before.ensures.small in
    let before = c.counted-before.ensures.value ∙ ap (λ f. (record_of f).count) c.flash.ensures in
    let count = ap (λ r. r.count) after ∙ count_after old does.calls small ∙ ap (λ n. (n + length does.calls) % 2 ^ 32) (sym before) in
    let recent = ap calls_in same ∙ does.last.1 in
    let past = c.older-self-inside.ensures.exact (length does.calls) count (few_new does.last.0 does.calls _ recent) does.few in
    rw (← c.self.view_is) (record {
      exact = c.step-note.ensures.exact;
      records = does;
      calls = new_ones does.last.0 does.calls _ _ does.last.1 (past ∙ ap (λ r. length (calls_in r) - length does.calls) same);
      stage = free.booted;
    })

pub invariant_of-self : goal.invariant_of-self
invariant_of-self c =
    let port = c.self.inside in
    let free = free_in (the_view port) _ c.self.view_is c.requires in (
      subst (λ f. c.older-self-inside.result ≤ length (recalled f)) c.flash-2.ensures c.older-self-inside.ensures.most,
      omega arith,
      steady_of port.stage _ _ _ free.booted c.step-note.ensures.going,
      unknown _ _ port.stage _ (ap (λ (s : Steady). s.inputs) c.unknown-self-inside.ensures),
    )
