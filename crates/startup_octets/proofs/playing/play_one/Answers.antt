-- The entry of a move.
use Rattle.std.proofs.Common.{◌+◌, ◌++◌, ◌∷◌, [], length, drop, option_map, sym, ap, ◌∙◌}
use Rattle.network_world.specs.Sent.{octets_of}
use Rattle.startup_octets.specs.OutputWorlds.{octets_in}
use Rattle.startup_octets.specs.Played.{came_by}
use Rattle.startup_octets.proofs.Entries.{count_is, entry_same, front_is, mapped_length, one_made}
use Rattle.startup_octets.proofs.playing.play_one.Goals as goal

pub returns-clause-logged : goal.returns-clause-logged
returns-clause-logged g c =
    let before = c.args.world.now in
    let after = c.play.new.self in
    let one = c.args.one.now in
    let count = c.args.count in
    let happens = one_made g.F.Flash before after one c.from_ref.result.now c.from_ref.ensures.value c.in_ok-play.ensures.played in
    c.tell.ensures ∙ ap (λ e. g.W.Witness.log c.args.witness.now ++ e ∷ [])
    (entry_same g.F.Flash before after one c.is_at_device.result c.came-came.result.now (octets_of c.as_slice-frames.result.now) c.in_ok-shown.shown.alarm (octets_in c.in_ok-shown.shown.outputs.items)
    (option_map (λ places. places.now) c.in_ok-shown.shown.places) c.is_at_device.ensures
    (c.came-came.ensures ∙ ap (λ l. came_by l one) (front_is g.F.Flash before after one count c.requires.counted happens))
    (ap octets_of c.as_slice-frames.ensures.value ∙ c.in_ok-sent.ensures ∙ ap (λ n. drop n after.sent) (sym c.requires.counted))
    c.in_ok-shown.ensures.alarm c.in_ok-shown.ensures.outputs c.in_ok-shown.ensures.places)

pub returns-clause-counted : goal.returns-clause-counted
returns-clause-counted g c =
    let before = c.args.world.now in
    let after = c.play.new.self in
    let one = c.args.one.now in
    let happens = one_made g.F.Flash before after one c.from_ref.result.now c.from_ref.ensures.value c.in_ok-play.ensures.played in
    count_is g.F.Flash before after one c.args.count c.requires.counted happens
    ∙ ap (λ n. c.args.count + n) (ap length (sym c.in_ok-sent.ensures) ∙ mapped_length (λ frame. frame.items) c.in_ok-sent.sent.items ∙ ap length (sym c.as_slice-frames.ensures.value))
    ∙ sym c.in-Some.ensures.1
