-- What of the frame concerns the services says all that they do.
use Rattle.std.proofs.Common.{◌∙◌, ap, subst, sym}
use Rattle.services.specs.Concern.{concern_as}
use Rattle.device_station.specs.Serving.{Serving}
use Rattle.device_station.specs.Beside.{Beside}
use Rattle.device_station.proofs.Concerned.{IsKnown, beside_is}
use Rattle.device_station.proofs.device_services.DeviceServices.answer.Goals as goal

pub returns-clause-state : goal.returns-clause-state
returns-clause-state c =
    let all = c.self.inside in
    let here : Serving = record { ip = all.ip; near = all.near; name = all.name; is_up = all.is_up; link = all.link; has_news = all.has_news; pieces = all.pieces } in
    let read = c.concern-concern.ensures in
    let known : IsKnown here c.args.bytes.now (concern_as c.concern-concern.result) = record { answer = read.answer; after = read.state; call = read.call; dispute = read.disputes; other = read.other } in
    let at = beside_is c.args.identity.now c.args.self.now c.args.note c.args.bytes.now c.requires.dropped _ (subst (λ (s : Serving). IsKnown s c.args.bytes.now (concern_as c.concern-concern.result)) c.self.view_is known) in
    c.handle.ensures.state ∙ ap (λ (b : Beside). b.services) (sym at)

pub returns-clause-frames : goal.returns-clause-frames
returns-clause-frames c =
    let all = c.self.inside in
    let here : Serving = record { ip = all.ip; near = all.near; name = all.name; is_up = all.is_up; link = all.link; has_news = all.has_news; pieces = all.pieces } in
    let read = c.concern-concern.ensures in
    let known : IsKnown here c.args.bytes.now (concern_as c.concern-concern.result) = record { answer = read.answer; after = read.state; call = read.call; dispute = read.disputes; other = read.other } in
    let at = beside_is c.args.identity.now c.args.self.now c.args.note c.args.bytes.now c.requires.dropped _ (subst (λ (s : Serving). IsKnown s c.args.bytes.now (concern_as c.concern-concern.result)) c.self.view_is known) in
    c.handle.ensures.frames ∙ ap (λ (b : Beside). b.sent) (sym at)

pub returns-clause-note : goal.returns-clause-note
returns-clause-note c =
    let all = c.self.inside in
    let here : Serving = record { ip = all.ip; near = all.near; name = all.name; is_up = all.is_up; link = all.link; has_news = all.has_news; pieces = all.pieces } in
    let read = c.concern-concern.ensures in
    let known : IsKnown here c.args.bytes.now (concern_as c.concern-concern.result) = record { answer = read.answer; after = read.state; call = read.call; dispute = read.disputes; other = read.other } in
    let at = beside_is c.args.identity.now c.args.self.now c.args.note c.args.bytes.now c.requires.dropped _ (subst (λ (s : Serving). IsKnown s c.args.bytes.now (concern_as c.concern-concern.result)) c.self.view_is known) in
    c.handle.ensures.note ∙ ap (λ (b : Beside). b.note) (sym at)
