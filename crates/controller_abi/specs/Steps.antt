-- Units of time that pass.
use Rattle.std.specs.Prelude.{◌≡◌, ◌≢◌, ◌≤◌, ◌-◌, ℕ, zero, suc, Bool, true, false}
use Rattle.controller_core.specs.declared.stored.event.Event.TheVariants.{Tick}
use Rattle.controller_abi.specs.State.{State, after, is_over, is_stopped}

-- That many units of time, one step of the controller each. Before each of them all frames were fetched, and the
-- controller had not ended, unless it had ended before the first.
abbrev pub Ticks : Bool → ℕ → State → State → Type 0
Ticks was_over zero old new = new ≡ old
Ticks was_over (suc units) old new =
    (between : State) × Ticks was_over units old between × (is_stopped was_over between ≡ false) × (new ≡ after between Tick)

-- All of these units except the remaining ones passed, one step each. Some remain only if the last one sent something
-- or ended the controller.
pub record Passes (old : State) (units left : ℕ) (new : State) : Type 0 where
  pub few : left ≤ units
  pub ticks : Ticks (is_over old.controller.live.phase) (units - left) old new
  pub stops : left ≢ 0 → is_stopped (is_over old.controller.live.phase) new ≡ true
