-- What the services beside a device made in the last step, and how it is stored.
use Rattle.std.specs.Prelude.{◌≤◌, ◌+◌, ⊤, ℕ, zero, suc, List, [], ◌∷◌, length, take, drop}
use Rattle.device_frames.specs.declared.event.Event.{Event}

-- The frames that they sent, and the call that they joined, if they did.
pub record Own : Type 0 where
  pub frames : List (List ℕ)
  pub call : Event

-- that many frames, at most two, which these octets are, one after the other, the first of this length
abbrev pub kept_in : ℕ → ℕ → List ℕ → List (List ℕ)
kept_in zero first octets = []
kept_in (suc zero) first octets = octets ∷ []
kept_in (suc (suc more)) first octets = take first octets ∷ drop first octets ∷ []

-- Each of them fits a frame.
abbrev pub AreFrames : ℕ → ℕ → List ℕ → Type 0
AreFrames zero first octets = ⊤
AreFrames (suc zero) first octets = length octets ≤ 1518
AreFrames (suc (suc zero)) first octets = (first ≤ 1518) × (first ≤ length octets) × (length octets ≤ first + 1518)
AreFrames (suc (suc (suc more))) first octets = ⊥
