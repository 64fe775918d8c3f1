-- The next frame, or none.
use Rattle.std.proofs.Common.{◌≡◌, ℕ, List, [], false, refl, sym, ap, ◌∙◌, drop}
use Rattle.controller_abi.specs.State.{has_frames}
use Rattle.controller_abi.specs.Serves.{with_next}
use Rattle.controller_abi.proofs.Leaps.{none_of}
use Rattle.controller_abi.proofs.serving.next.Goals as goal

pub returns-then-not-has_work : goal.returns-then-not-has_work
returns-then-not-has_work c =
    let old = c.args.port.now in
    let none : old.frames ≡ [] = none_of old.frames (sym c.has_work.ensures ∙ c.if-not-has_work.true) in
    record {
      answered = refl;
      handed = sym (ap (λ (frames : List (List ℕ)). with_next frames c.args.op.now) none);
      taken = ap (λ (frames : List (List ℕ)). record old { frames = frames }) (none ∙ sym (ap (drop 1) none));
    }
