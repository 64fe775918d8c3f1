-- A relation that a device makes has the submodules that are expected and plugged.
use Rattle.std.proofs.Common.{◌≡◌, ◌⊎◌, inl, inr, ℕ, true, false, List, Option, Some, None, option_map, Result, Ok, Err, sym, ap, subst, ◌∙◌, refl}
use Rattle.frame_codec.specs.declared.udp.Caller.{Caller}
use Rattle.records.specs.declared.status.call_fault.CallFault.{CallFault}
use Rattle.records.specs.declared.status.operation.Operation.{Operation}
use Rattle.records.specs.declared.status.operation.Operation.TheVariants as operation
use Rattle.relations.specs.Connect.{rows_of}
use Rattle.relations.specs.Phases.{made_of, restarted}
use Rattle.relations.specs.RelationState.{RelationState}
use Rattle.device_frames.specs.Heard.{Heard}
use Rattle.device_frames.specs.Sent.{Sent}
use Rattle.device_core.specs.Handled.{Handled, Moves, partner_of}
use Rattle.device_core.specs.State.{Station, Live, Rest}
use Rattle.end_laws.specs.device.Does.{Does, GivesWay, IsEffect, IsKeptOr, IsRestarted, Replies, with_more}
use Rattle.end_laws.specs.device.Small.{link_of}
use Rattle.both_ends.proofs.ExchangeLists.{none_some, some_is}
use Rattle.both_ends.proofs.ExchangeStated.{IsStated, made_stated}

mapped_none : {A B : Type 0} (f : A → B) (o : Option A) → option_map f o ≡ None → o ≡ None
mapped_none f None e = refl
mapped_none f (Some x) e = absurd cc

module _ (station : Station) (live : Live) (heard : Heard) (after : Rest) (sent : List Sent) (alone : live.rest.link ≡ None) where
  none_after : after.link ≡ None → (l : RelationState) → after.link ≡ Some l → IsStated live.rest.real.modules.items l
  none_after none l is = absurd (none_some l after.link none is)

  kept_none : IsKeptOr live.rest.link after.link → after.link ≡ None
  kept_none (inl same) = mapped_none link_of after.link (same ∙ ap (λ (l : Option RelationState). option_map link_of l) alone)
  kept_none (inr (inl gone)) = mapped_none link_of after.link gone
  kept_none (inr (inr forgets)) = absurd (none_some forgets.link live.rest.link alone forgets.was)

  named_none : IsRestarted live.rest.link after.link → after.link ≡ None
  named_none same = same.1 ∙ ap (λ (l : Option RelationState). option_map (restarted same.0) l) alone

  by_effect : (caller : Caller) (blocks : List ℕ) (outcome : Result (List ℕ) CallFault) (which : Operation) → IsEffect station live.rest.real caller blocks outcome which live.rest.link after.link
      → (l : RelationState) → after.link ≡ Some l → IsStated live.rest.real.modules.items l
  by_effect caller blocks (Err why) which same = none_after (same ∙ alone)
  by_effect caller blocks (Ok octets) operation.Connect it = λ l is.
      subst (λ (k : RelationState). IsStated live.rest.real.modules.items k)
      (some_is (made_of it.request (partner_of caller) (rows_of it.request live.rest.real) it.options it.starting) l (sym it.made ∙ is))
      (made_stated live.rest.real.modules.items it.request (partner_of caller) (rows_of it.request live.rest.real) it.options it.starting refl)
  by_effect caller blocks (Ok octets) operation.Write (inl it) = absurd (none_some it.link live.rest.link alone it.was)
  by_effect caller blocks (Ok octets) operation.Write (inr (inl it)) = none_after (named_none it.same)
  by_effect caller blocks (Ok octets) operation.Write (inr (inr it)) =
      none_after (it.becomes ∙ ap (λ (l : Option RelationState). option_map (with_more it.source it.passed it.values) l) alone)
  by_effect caller blocks (Ok octets) operation.Control (inl it) = absurd (none_some it.link live.rest.link alone it.was)
  by_effect caller blocks (Ok octets) operation.Control (inr it) = absurd (none_some it.link live.rest.link alone it.was)
  by_effect caller blocks (Ok octets) operation.Release it = none_after it.gone
  by_effect caller blocks (Ok octets) operation.Read it = none_after (named_none it)
  by_effect caller blocks (Ok octets) operation.ReadImplicit it = absurd it

  -- a relation that is there after a turn, while there was none before
  pub stated_made : Does station live heard after sent → (l : RelationState) → after.link ≡ Some l → IsStated live.rest.real.modules.items l
  stated_made (inl it) = none_after (ap (λ (r : Rest). r.link) it.same ∙ alone)
  stated_made (inr (inl it)) = none_after (kept_none it.link)
  stated_made (inr (inr (inl it))) = absurd (none_some it.link live.rest.link alone it.was)
  stated_made (inr (inr (inr (inl it)))) = none_after (ap (λ (r : Rest). r.link) it.same ∙ alone)
  stated_made (inr (inr (inr (inr (inl it))))) = by_effect it.caller it.blocks it.outcome it.which it.effect
  stated_made (inr (inr (inr (inr (inr (inl it)))))) = none_after (ap (λ (r : Rest). r.link) it.becomes ∙ alone)
  stated_made (inr (inr (inr (inr (inr (inr (inl it))))))) = none_after (ap (λ (r : Rest). r.link) it.becomes ∙ alone)
  stated_made (inr (inr (inr (inr (inr (inr (inr (inl it)))))))) = none_after (kept_none it.link)
  stated_made (inr (inr (inr (inr (inr (inr (inr (inr it)))))))) = none_after (by_kind it.does)
    where
      same_rest : (one other : Rest) (messages more : List Sent) → ◌≡◌ {A = Handled} (Moves one messages) (Moves other more) → one ≡ other
      same_rest one other messages more e = cc

      by_kind : ((station.options.reads_not_kept ≡ true) × Replies false station live heard after sent)
          ⊎ ((station.options.asks_own_first ≡ true) × GivesWay station live heard it.question after sent) → after.link ≡ None
      by_kind (inl replies) = kept_none replies.1.link
      by_kind (inr gives) = ap (λ (r : Rest). r.link) (same_rest after _ sent _ gives.1.moves) ∙ alone
