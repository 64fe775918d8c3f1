-- When the next units bring something, while only the timers of an exchange run.
use Rattle.std.proofs.Common.{◌≡◌, ◌≢◌, Some, None, sym}
use Rattle.asked_records.specs.Asked.{question_in}
use Rattle.relations.specs.Steady.{IsSteady, steady_in}
use Rattle.device_core.proofs.SteadyUnits.{asked_waits, lit, none_asked, not_known, rests, steady_due}
use Rattle.device_core.proofs.device.Device.steady.Goals as goal

pub returns-then-self-ne0-clause-value : goal.returns-then-self-ne0-clause-value
returns-then-self-ne0-clause-value g c =
    let old = c.args.self.now in
    let on : old.live.rest.lamp ≢ 0 = rw (← c.self.view_is) c.if-self-ne0.true in
    lit c.unknown.result old.live on c.unknown.ensures

pub returns-then-self-ne0-clause-steady : goal.returns-then-self-ne0-clause-steady
returns-then-self-ne0-clause-steady g c some = absurd (not_known c.unknown.result c.unknown.ensures some)

pub returns-then-self-ne0-clause-due : goal.returns-then-self-ne0-clause-due
returns-then-self-ne0-clause-due g c some = absurd (not_known c.unknown.result c.unknown.ensures some)

pub returns-in-Some-clause-value : goal.returns-in-Some-clause-value
returns-in-Some-clause-value g c =
    let old = c.args.self.now in
    let dark : old.live.rest.lamp ≡ 0 = rw (← c.self.view_is) c.if-self-ne0.false in
    let inside : question_in c.self.inside.asked ≡ Some c.in-Some.field-0.now = rw c.in-Some.is at (sym c.question.ensures.value) in
    let asked : question_in old.live.rest.asked ≡ Some c.in-Some.field-0.now = rw (← c.self.view_is) inside in
    asked_waits c.unknown-in-Some.result old.live c.in-Some.field-0.now dark asked c.unknown-in-Some.ensures

pub returns-in-Some-clause-steady : goal.returns-in-Some-clause-steady
returns-in-Some-clause-steady g c some = absurd (not_known c.unknown-in-Some.result c.unknown-in-Some.ensures some)

pub returns-in-Some-clause-due : goal.returns-in-Some-clause-due
returns-in-Some-clause-due g c some = absurd (not_known c.unknown-in-Some.result c.unknown-in-Some.ensures some)

pub returns-in-None-clause-value : goal.returns-in-None-clause-value
returns-in-None-clause-value g c =
    let old = c.args.self.now in
    let dark : old.live.rest.lamp ≡ 0 = rw (← c.self.view_is) c.if-self-ne0.false in
    let inside : question_in c.self.inside.asked ≡ None = rw c.in-None.is at (sym c.question.ensures.value) in
    let asked : question_in old.live.rest.asked ≡ None = rw (← c.self.view_is) inside in
    let is : c.steady.result ≡ steady_in old.live.rest.link = rw (← c.self.view_is) c.steady.ensures.value in
    rests c.steady.result old.live.rest.lamp old.live.rest.asked.standing old.live.rest.link dark (none_asked old.live.rest.asked asked) is

pub returns-in-None-clause-steady : goal.returns-in-None-clause-steady
returns-in-None-clause-steady g c some =
    let old = c.args.self.now in
    let dark : old.live.rest.lamp ≡ 0 = rw (← c.self.view_is) c.if-self-ne0.false in
    let inside : question_in c.self.inside.asked ≡ None = rw c.in-None.is at (sym c.question.ensures.value) in
    let asked : question_in old.live.rest.asked ≡ None = rw (← c.self.view_is) inside in
    let relation : IsSteady c.steady.result old.live.rest.link = rw (← c.self.view_is) (c.steady.ensures.steady some) in
    record { relation = relation; unasked = none_asked old.live.rest.asked asked; dark = dark }

pub returns-in-None-clause-due : goal.returns-in-None-clause-due
returns-in-None-clause-due g c some =
    steady_due c.steady.result c.args.self.now.live (returns-in-None-clause-steady g c some) (rw (← c.self.view_is) (c.steady.ensures.due some))
