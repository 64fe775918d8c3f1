-- What becomes of the call that is asked.
use Rattle.std.proofs.Common.{◌≡◌, ◌⊎◌, inl, inr, ◌+◌, ◌==◌, ◌&&◌, ℕ, List, Option, Some, None, refl, ◌∙◌}
use Rattle.std.proofs.lemmas.Bool.{cond_both}
use Rattle.module_diff.specs.declared.changes.Affected.{Affected}
use Rattle.asked_records.specs.Asked.{AskedState, Standing, dropped_at, is_affected, is_of, is_over, limit, next_number, question_in, settled, ticked, without_relation}
use Rattle.asked_records.specs.declared.question.Question.{Question}
use Rattle.device_core.specs.Asking.{asked_later, is_full, left_asked}
use Rattle.device_frames.specs.Heard.{Heard}
use Rattle.asked_law.specs.Once.{IsHeardCall}

-- The call stays the one that is asked, or no call is asked any more. No other number was given.
pub record Keeps (before after : AskedState) : Type 0 where
  pub last : after.last ≡ before.last
  pub question : (question_in after ≡ question_in before) ⊎ (question_in after ≡ None)

-- A call that is heard is asked under the next number, if no other one was, or the other one gives way.
pub record Begins (heard : Heard) (before after : AskedState) : Type 0 where
  pub last : after.last ≡ next_number before.last
  pub question : Question
  pub asked : question_in after ≡ Some question
  pub is : IsHeardCall heard question

abbrev pub Goes : Heard → AskedState → AskedState → Type 0
Goes heard before after = Keeps before after ⊎ Begins heard before after

pub same_keeps : (state : AskedState) → Keeps state state
same_keeps state = record { last = refl; question = inl refl }

pub settled_keeps : (state : AskedState) → Keeps state (settled state)
settled_keeps state = record { last = refl; question = inr refl }

relation_keeps : (uuid : List ℕ) (state : AskedState) → Keeps state (without_relation uuid state)
relation_keeps uuid state = cond_both (is_of uuid state) _ _ (Keeps state) (λ _. settled_keeps state) (λ _. same_keeps state)

-- The end of a relation, if one ended.
pub left_keeps : (uuid : Option (List ℕ)) (state : AskedState) → Keeps state (left_asked uuid state)
left_keeps None state = same_keeps state
left_keeps (Some uuid) state = relation_keeps uuid state

pub dropped_keeps : (affected : Affected) (state : AskedState) → Keeps state (dropped_at affected state)
dropped_keeps affected state = cond_both (is_affected affected state) _ _ (Keeps state) (λ _. settled_keeps state) (λ _. same_keeps state)

ticked_with : (last : ℕ) (standing : Option Standing) → Keeps (record { standing = standing; last = last }) (ticked (record { standing = standing; last = last }))
ticked_with last None = record { last = refl; question = inl refl }
ticked_with last (Some standing) =
    cond_both (standing.waited + 1 == limit) _ _ (λ (later : Option Standing). Keeps (record { standing = Some standing; last = last }) (record { standing = later; last = last }))
    (λ _. record { last = refl; question = inr refl }) (λ _. record { last = refl; question = inl refl })

ticked_keeps : (state : AskedState) → Keeps state (ticked state)
ticked_keeps state = ticked_with state.last state.standing

pub later_keeps : (count : ℕ) (state : AskedState) → Keeps state (asked_later count state)
later_keeps count state = cond_both (is_over state && is_full count) _ _ (Keeps state) (λ _. same_keeps state) (λ _. ticked_keeps state)

-- One after the other.
pub keeps_on : (before between after : AskedState) → Keeps before between → Keeps between after → Keeps before after
keeps_on before between after first then = record { last = then.last ∙ first.last; question = by_then then.question first.question }
  where
    by_then : (question_in after ≡ question_in between) ⊎ (question_in after ≡ None) → (question_in between ≡ question_in before) ⊎ (question_in between ≡ None)
        → (question_in after ≡ question_in before) ⊎ (question_in after ≡ None)
    by_then (inr none) other = inr none
    by_then (inl same) (inl before) = inl (same ∙ before)
    by_then (inl same) (inr none) = inr (same ∙ none)
