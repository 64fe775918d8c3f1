-- One frame more is copied.
use Rattle.std.proofs.Common.{◌≡◌, ◌++◌, ◌∷◌, [], Some, option_map, slice_get, take, sym, ap, ◌∙◌, append_assoc}
use Rattle.network_world.specs.Sent.{octets_of}
use Rattle.startup_octets.proofs.Entries.{map_more, since, more_at}
use Rattle.startup_octets.proofs.playing.sent_since.Goals as goal

pub returns-in-None : goal.returns-in-None
returns-in-None g c =
    since (c.args.world.now.sent) (octets_of c.loop-number.sent.items) c.args.count c.loop-number.number c.loop-number.invariant
    (sym c.sent.ensures ∙ ap (option_map (λ frame. frame.now.items)) c.in-None.is)

pub loop-number-preserved : goal.loop-number-preserved
loop-number-preserved g c =
    let all = c.args.world.now.sent in
    let so_far = c.loop-number.sent.items in
    let there : slice_get all c.loop-number.number ≡ Some c.in-Some.frame.now.items = sym c.sent.ensures ∙ ap (option_map (λ frame. frame.now.items)) c.in-Some.is in
    more_at all c.loop-number.number c.in-Some.frame.now.items there
    ∙ ap (λ l. l ++ c.in-Some.frame.now.items ∷ []) c.loop-number.invariant
    ∙ append_assoc (take c.args.count all) (octets_of so_far) (c.in-Some.frame.now.items ∷ [])
    ∙ ap (λ l. take c.args.count all ++ l) (ap (λ i. octets_of so_far ++ i ∷ []) (sym c.copy_of.ensures) ∙ sym (map_more (λ frame. frame.items) so_far c.copy_of.result) ∙ ap octets_of (sym c.in_ok-push-in-Some.ensures.items))
