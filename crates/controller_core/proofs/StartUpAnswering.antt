-- The outcomes of the rest of the records.
use Rattle.std.proofs.Common.{◌≡◌, ◌<◌, ◌≤◌, ◌+◌, ◌-◌, ℕ, suc, Bool, true, false, cond, List, Option, Some, None, ap, ◌∙◌, arith}
use Rattle.rpc_core.specs.declared.response.Status.{Status}
use Rattle.rpc_core.specs.Response.{is_done}
use Rattle.controller_core.specs.declared.start_up.outcomes.Outcomes.TheVariants.{AllWritten, Refused, Unreadable}
use Rattle.controller_core.specs.start_up.Outcomes.{outcome_at, outcomes_by, outcomes_from}

module _ (count place : ℕ) (octets : List ℕ) where
  -- The first one of the rest.
  first_of : place < count → (found : Option (Status × List ℕ)) → outcome_at octets ≡ found
      → outcomes_from (count - place) place octets ≡ outcomes_by found place (λ behind. outcomes_from (count - (place + 1)) (place + 1) behind)
  unfolding outcomes_from
  first_of inside found e =
      let left : count - place ≡ suc (count - (place + 1)) = omega (arith, inside) in
      ap (λ (n : ℕ). outcomes_from n place octets) left
      ∙ ap (λ (o : Option (Status × List ℕ)). outcomes_by o place (λ behind. outcomes_from (count - (place + 1)) (place + 1) behind)) e

  pub none_left : count ≤ place → outcomes_from (count - place) place octets ≡ AllWritten
  unfolding outcomes_from
  none_left all =
      let left : count - place ≡ 0 = omega (arith, all) in
      ap (λ (n : ℕ). outcomes_from n place octets) left

  pub unread : place < count → outcome_at octets ≡ None → outcomes_from (count - place) place octets ≡ Unreadable
  unread inside e = first_of inside None e

  pub refused : (status : Status) (behind : List ℕ) → place < count → outcome_at octets ≡ Some (status, behind) → is_done status ≡ false
      → outcomes_from (count - place) place octets ≡ Refused place status
  refused status behind inside e not_done =
      first_of inside (Some (status, behind)) e
      ∙ ap (λ (b : Bool). cond b (outcomes_from (count - (place + 1)) (place + 1) behind) (Refused place status)) not_done

  pub one_more : (status : Status) (behind : List ℕ) → place < count → outcome_at octets ≡ Some (status, behind) → is_done status ≡ true
      → outcomes_from (count - place) place octets ≡ outcomes_from (count - (place + 1)) (place + 1) behind
  one_more status behind inside e done =
      first_of inside (Some (status, behind)) e
      ∙ ap (λ (b : Bool). cond b (outcomes_from (count - (place + 1)) (place + 1) behind) (Refused place status)) done
