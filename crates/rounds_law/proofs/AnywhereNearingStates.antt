-- The states of a controller on its way: how many units are ahead of it; and one of several frames.
use Rattle.std.proofs.Common.{◌≡◌, ◌≢◌, ◌⊎◌, inl, inr, ◌≤◌, ◌+◌, ◌*◌, ℕ, suc, true, List, [], ◌∷◌, ◌++◌, refl, sym, ap, subst, ◌∙◌, arith}
use Rattle.controller_messages.specs.declared.setup.ControllerOptions.{ControllerOptions}
use Rattle.controller_messages.specs.declared.setup.Setup.{Setup}
use Rattle.controller_core.specs.declared.stored.state.State.{State as Phases}
use Rattle.controller_core.specs.declared.stored.state.State.TheVariants.{Looking, Addressing, Connecting, Writing, Ending, Waiting, Exchanging, Ended}
use Rattle.controller_core.specs.stored.State.{Controlling, is_limited, patience_in}
use Rattle.network_world.specs.World.{is_ended}
use Rattle.end_laws.specs.turns.Patience.{HasTimeLeft}
use Rattle.rounds_law.specs.Anywhere.{HasPatience, IsAnyController}
use Rattle.rounds_law.proofs.AnywhereParts.{ahead, ahead_in}

-- ---- one of some frames

-- One of these frames is of this kind.
abbrev pub Among : (List ℕ → Type 0) → List (List ℕ) → Type 0
Among Is [] = ⊥
Among Is (octets ∷ frames) = Is octets ⊎ Among Is frames

pub among_first : (Is : List ℕ → Type 0) (first more : List (List ℕ)) → Among Is first → Among Is (first ++ more)
among_first Is [] more among = absurd among
among_first Is (octets ∷ first) more (inl is) = inl is
among_first Is (octets ∷ first) more (inr later) = inr (among_first Is first more later)

pub among_more : (Is : List ℕ → Type 0) (first more : List (List ℕ)) → Among Is more → Among Is (first ++ more)
among_more Is [] more among = among
among_more Is (octets ∷ first) more among = inr (among_more Is first more among)

-- ---- the states of a controller

-- The units after the search.
abbrev pub beyond : ControllerOptions → ℕ
beyond options = 4 * options.patience + options.waiting_patience

-- It searches, may last some units more, exchanges data, or has ended.
pub kinds : (phase : Phases) → (phase ≡ Looking) ⊎ ((is_limited phase ≡ true) ⊎ ((phase ≡ Exchanging) ⊎ (is_ended phase ≡ true)))
kinds Looking = inl refl
kinds Addressing = inr (inl refl)
kinds Connecting = inr (inl refl)
kinds Writing = inr (inl refl)
kinds Ending = inr (inl refl)
kinds Waiting = inr (inl refl)
kinds Exchanging = inr (inr (inl refl))
kinds (Ended cause) = inr (inr (inr refl))

pub looks_or_not : (phase : Phases) → (phase ≡ Looking) ⊎ (phase ≢ Looking)
looks_or_not Looking = inl refl
looks_or_not state = inr (λ e. absurd cc)

-- A state after the search is no further from the exchange than the search.
few_ahead : (options : ControllerOptions) (left : ℕ) (phase : Phases) → phase ≢ Looking → HasPatience options
    → (patience_in options phase ≢ 0 → left ≤ patience_in options phase) → ahead_in options left phase ≤ beyond options
few_ahead options left Looking other patience few = absurd (other refl)
few_ahead options left Addressing other patience few = let most : left ≤ options.patience = few patience.patience in omega (arith, most)
few_ahead options left Connecting other patience few = let most : left ≤ options.patience = few patience.patience in omega (arith, most)
few_ahead options left Writing other patience few = let most : left ≤ options.patience = few patience.patience in omega (arith, most)
few_ahead options left Ending other patience few = let most : left ≤ options.patience = few patience.patience in omega (arith, most)
few_ahead options left Waiting other patience few = let most : left ≤ options.waiting_patience = few patience.waiting in omega (arith, most)
few_ahead options left Exchanging other patience few = omega arith
few_ahead options left (Ended cause) other patience few = omega arith

module _ (setup : Setup) (time_left : HasTimeLeft) (patience : HasPatience setup.options) where
  pub near_of : (controller : Controlling) → IsAnyController setup controller → controller.live.phase ≢ Looking → ahead controller ≤ beyond setup.options
  near_of controller at other =
      subst (λ (s : Setup). ahead controller ≤ beyond s.options) at.of_setup
      (few_ahead controller.setup.options controller.live.left controller.live.phase other
      (subst (λ (s : Setup). HasPatience s.options) (sym at.of_setup) patience)
      (λ limited. (time_left controller at.reached limited).1))

  pub looking_ahead : (controller : Controlling) → IsAnyController setup controller → controller.live.phase ≡ Looking
      → ahead controller ≡ suc (beyond setup.options)
  looking_ahead controller at looks =
      ap (λ (p : Phases). ahead_in controller.setup.options controller.live.left p) looks ∙ ap (λ (s : Setup). suc (beyond s.options)) at.of_setup
