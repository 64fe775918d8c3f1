use Rattle.std.proofs.Common.{ℕ, List, map, ap}
use Rattle.arrayvec.specs.ArrayVec.{ArrayVec}
use Rattle.device_station.proofs.step.step_device.Goals as goal

pub returns : goal.returns
returns g c =
    let e = c.step.ensures in
    record {
      steps = e.steps;
      exact = e.exact;
      reliable = e.reliable;
      refused = λ refused. let none = e.refused refused in (none.0, ap (λ (xs : List (ArrayVec ℕ)). map (λ (f : ArrayVec ℕ). f.items) xs) none.1);
      identify = e.identify;
      repeated = e.again;
    }
