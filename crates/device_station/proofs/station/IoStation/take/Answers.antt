-- What a step hands on: nothing once power is lost.
use Rattle.std.proofs.Common.{◌≡◌, ◌++◌, ℕ, Bool, true, false, List, sym, ap, ◌∙◌}
use Rattle.std.proofs.lemmas.List.{append-nil, append_assoc}
use Rattle.device_station.specs.State.{Frames, State, handed_on, in_order}
use Rattle.device_station.proofs.station.IoStation.take.Goals as goal
use Rattle.device_station.proofs.station.IoStation.take.Goals.{then-not-is_lost, else-not-is_lost}

all_handed : (is_lost : Bool) (frames : Frames) (before one now device services : List (List ℕ)) → is_lost ≡ false → device ≡ frames.device → services ≡ frames.services
    → one ≡ before ++ device → now ≡ one ++ services → now ≡ before ++ in_order (handed_on is_lost frames)
all_handed is_lost frames before one now device services there first second to_one to_now =
    to_now
    ∙ (ap (λ (o : List (List ℕ)). o ++ services) to_one
    ∙ (append_assoc before device services
    ∙ (ap (λ (d : List (List ℕ)). before ++ (d ++ services)) first
    ∙ (ap (λ (s : List (List ℕ)). before ++ (frames.device ++ s)) second
    ∙ ap (λ (b : Bool). before ++ in_order (handed_on b frames)) (sym there)))))

none_handed : (is_lost : Bool) (frames : Frames) (before now : List (List ℕ)) → is_lost ≡ true → now ≡ before → now ≡ before ++ in_order (handed_on is_lost frames)
none_handed is_lost frames before now lost same =
    same ∙ (sym (append-nil before) ∙ ap (λ (b : Bool). before ++ in_order (handed_on b frames)) (sym lost))

pub returns : goal.returns
returns g c =
    let takes = c.step.ensures in
    let seen = sym (ap (λ (s : State g.row.F.Denot). s.device.live.values.is_lost) c.self.view_is) in
    record {
      between = takes.between;
      sent = c.step.new.outbox;
      said = c.step.result;
      tells = takes.tells;
      steps = takes.steps;
      handed = elim c.if-not-is_lost.branch [
        | then-not-is_lost w ↦
            all_handed c.step.new.self.device.live.values.is_lost c.step.new.outbox (g.K.Sink.taken c.args.sink.now) (g.K.Sink.taken w.hand_on.new.sink) (g.K.Sink.taken c.if-not-is_lost.sink) _ _
            (seen ∙ (sym c.is_lost.ensures ∙ w.if-not-is_lost.true)) w.device.ensures.value w.services.ensures.value w.hand_on.ensures
            (ap g.K.Sink.taken w.sink-is ∙ w.hand_on-then-not-is_lost.ensures)
        | else-not-is_lost w ↦
            none_handed c.step.new.self.device.live.values.is_lost c.step.new.outbox (g.K.Sink.taken c.args.sink.now) (g.K.Sink.taken c.if-not-is_lost.sink)
            (seen ∙ (sym c.is_lost.ensures ∙ w.if-not-is_lost.false)) (ap g.K.Sink.taken w.sink-is)
      ];
    }
