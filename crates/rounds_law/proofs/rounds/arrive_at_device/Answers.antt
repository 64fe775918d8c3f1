use Rattle.std.proofs.Common.{◌≡◌, ◌+◌, ◌++◌, ◌∷◌, [], ℕ, List, take, ap, subst, sym, ◌∙◌}
use Rattle.std.proofs.lemmas.List.{take_more}
use Rattle.network_world.specs.Sent.{octets_of}
use Rattle.rounds_law.specs.Rounds.{Takes}
use Rattle.rounds_law.proofs.RoundsNet.{map_more, takes_more, takes_none}
use Rattle.rounds_law.proofs.rounds.arrive_at_device.Goals as goal

pub loop-frame-init : goal.loop-frame-init
loop-frame-init g c = λ reliable. takes_none g.F.Flash c.args.device.now (octets_of c.args.sent.now.items) reliable

pub loop-frame-preserved : goal.loop-frame-preserved
loop-frame-preserved g c = λ reliable.
    let frames = c.args.frames.now in
    let so_far = c.loop-frame.frame-index in
    let octets = c.frame-item.result.items in
    let more : take (so_far + 1) frames ≡ take so_far frames ++ c.frame-item.result ∷ [] =
    take_more frames so_far c.frame-item.result c.loop-frame-test.true ∙ ap (λ m. take so_far frames ++ m ∷ []) (sym c.frame-item.is) in
    let same : octets_of (take (so_far + 1) frames) ≡ octets_of (take so_far frames) ++ octets ∷ [] =
    ap (λ fs. octets_of fs) more ∙ map_more (take so_far frames) c.frame-item.result (λ frame. frame.items) in
    let takes = c.loop-frame.invariant reliable in
    subst (λ (fs : List (List ℕ)). Takes g.F.Flash c.args.device.now fs (octets_of c.args.sent.now.items) c.hear_at_device.new.device
    (octets_of c.hear_at_device.new.sent.items)) (sym same)
    (takes_more g.F.Flash c.args.device.now (octets_of (take so_far frames)) (octets_of c.args.sent.now.items) c.loop-frame.device
    (octets_of c.loop-frame.sent.items) octets
    c.hear_at_device.new.device (octets_of c.hear_at_device.new.sent.items) takes (c.in_ok-hear_at_device.ensures takes.reliable))
