-- A start on what a run left.
use Rattle.std.proofs.Common.{◌≡◌, sym, ap, subst, ◌∙◌}
use Rattle.settings_journal.specs.Image.{LeftByDevice}
use Rattle.device_core.proofs.Restarts.{is_started_if, never_refused, refused_if, restarts_if}
use Rattle.device_core.proofs.headline.restart.Goals as goal

pub returns-clause-headline : goal.returns-clause-headline
returns-clause-headline g c = λ station flash first room begun events before now left starts begins run.
    let parts = c.into_parts-identity.ensures in
    let again = rw (ap (λ t. t.0) parts, ap (λ t. t.1) parts, ap (λ t. t.2) parts, ap (λ t. t.3) parts) at c.boot_named.ensures.station in
    let powered = rw (ap (λ t. t.4) parts) at c.power_up.ensures in
    let real_is : c.into_parts-identity.result.1 ≡ station.real = ap (λ t. t.1) parts ∙ ap (λ s. s.real) (run.same ∙ begins.station_is) in
    restarts_if g.F.Flash _ station flash first room events before now begun c.args.device c.power_up.result c.boot_named.result
    (begins.known first room starts) begins.station_is begins.image_is begins.failures_are begins.none_asked
    left run powered (c.requires.keeps c.args.device.flash c.power_up.result powered)
    (rw real_is at c.boot_named.ensures.known) (rw real_is at c.boot_named.ensures.fresh) c.boot_named.ensures.starts again c.boot_named.ensures.same c.boot_named.ensures.cause c.boot_named.ensures.calls

pub returns-clause-refused : goal.returns-clause-refused
returns-clause-refused g c = λ station flash begun events before now begins run.
    let powered = rw (ap (λ t. t.4) c.into_parts-identity.ensures) at c.power_up.ensures in
    refused_if g.F.Flash _ station flash events before now begun c.args.device c.power_up.result c.boot_named.result
    begins.fresh begins.station_is begins.starts begins.image_is begins.failures_are begins.none_asked
    run powered (c.requires.keeps c.args.device.flash c.power_up.result powered) c.boot_named.ensures.foreign c.boot_named.ensures.same c.boot_named.ensures.cause c.boot_named.ensures.calls

pub returns-clause-fresh : goal.returns-clause-fresh
returns-clause-fresh g c = λ station same.
    let parts = c.into_parts-identity.ensures in
    let again = rw (ap (λ t. t.0) parts, ap (λ t. t.1) parts, ap (λ t. t.2) parts, ap (λ t. t.3) parts) at c.boot_named.ensures.station in
    let real_is : c.into_parts-identity.result.1 ≡ station.real = ap (λ t. t.1) parts ∙ ap (λ s. s.real) same in
    is_started_if g.F.Flash station c.args.device c.power_up.result c.boot_named.result
    same again (rw real_is at c.boot_named.ensures.fresh) c.boot_named.ensures.starts c.boot_named.ensures.same

pub returns-clause-left : goal.returns-clause-left
returns-clause-left g c = λ left.
    let powered = rw (ap (λ t. t.4) c.into_parts-identity.ensures) at c.power_up.ensures in
    c.boot_named.ensures.left (subst LeftByDevice (sym (c.requires.keeps c.args.device.flash c.power_up.result powered)) left)

pub returns-clause-reliable : goal.returns-clause-reliable
returns-clause-reliable g c = λ reliable powers left.
    let powered = rw (ap (λ t. t.4) c.into_parts-identity.ensures) at c.power_up.ensures in
    never_refused g.F.Flash.is_reliable c.boot_named.result (c.boot_named.ensures.reliable (powers c.args.device.flash c.power_up.result powered reliable)) (returns-clause-left g c left)
