use Rattle.std.proofs.Common.{◌≡◌, ◌+◌, ◌++◌, ◌∷◌, [], ℕ, List, take, ap, subst, sym, ◌∙◌}
use Rattle.std.proofs.lemmas.List.{take_more}
use Rattle.network_world.specs.Sent.{octets_of}
use Rattle.rounds_law.proofs.RoundsNet.{More, all_more, map_more}
use Rattle.rounds_law.proofs.rounds.arrive_at_controller.Goals as goal

pub loop-frame-preserved : goal.loop-frame-preserved
loop-frame-preserved c =
    let frames = c.args.frames.now in
    let so_far = c.loop-frame.frame-index in
    let octets = c.frame-item.result.items in
    let more : take (so_far + 1) frames ≡ take so_far frames ++ c.frame-item.result ∷ [] =
    take_more frames so_far c.frame-item.result c.loop-frame-test.true ∙ ap (λ m. take so_far frames ++ m ∷ []) (sym c.frame-item.is) in
    let same : octets_of (take (so_far + 1) frames) ≡ octets_of (take so_far frames) ++ octets ∷ [] =
    ap (λ fs. octets_of fs) more ∙ map_more (take so_far frames) c.frame-item.result (λ frame. frame.items) in
    let is = subst (λ (fs : List (List ℕ)). More c.args.controller.now fs (octets_of c.args.sent.now.items) c.hear_at_controller.new.controller
    (octets_of c.hear_at_controller.new.sent.items)) (sym same)
    (all_more c.args.controller.now (octets_of (take so_far frames)) octets c.loop-frame.controller c.hear_at_controller.new.controller
    (octets_of c.args.sent.now.items)
    (octets_of c.loop-frame.sent.items) (octets_of c.hear_at_controller.new.sent.items) c.loop-frame.invariant.0 c.loop-frame.invariant.1
    c.in_ok-hear_at_controller.ensures.state c.in_ok-hear_at_controller.ensures.frames) in
    (is.controller, is.appended)
