-- The number of a relation that begins.
use Rattle.std.specs.Prelude.{◌≡◌, ◌⊎◌, ℕ, true, false, List, Option, Some, None, option_map, Result, Ok, Err}
use Rattle.std.proofs.Common.{refl, sym, ap, subst, ◌∙◌, inl, inr, arith}
use Rattle.frame_codec.specs.declared.udp.Caller.{Caller}
use Rattle.records.specs.declared.status.call_fault.CallFault.{CallFault}
use Rattle.records.specs.declared.status.operation.Operation.{Operation}
use Rattle.records.specs.declared.status.operation.Operation.TheVariants as operation
use Rattle.pn_values.specs.declared.real.Real.{Real}
use Rattle.relations.specs.Numbers.{IsNumber, number_of}
use Rattle.relations.specs.RelationState.{RelationState}
use Rattle.relations.specs.Phases.{restarted}
use Rattle.relations.specs.declared.options.DeviceOptions.{DeviceOptions}
use Rattle.device_frames.specs.Heard.{Heard}
use Rattle.device_frames.specs.Sent.{Sent}
use Rattle.device_core.specs.State.{Live, Rest, Station}
use Rattle.device_core.specs.Handled.{Handled, Moves, number_now}
use Rattle.end_laws.specs.device.Does.{Does, GivesWay, IsEffect, IsKeptOr, Replies, with_more}
use Rattle.end_laws.specs.device.Small.{link_of}
use Rattle.end_laws.specs.device.Turn.{BeginsNumbered, IsNumbered}

-- ---- the number that a device gives

module _ (options : DeviceOptions) (made : ℕ) where
  number_is : (from : Option ℕ) → options.numbers_from ≡ from → IsNumber options (number_of from made)
  number_is None is = record { few = omega arith; fixed = λ none. refl }
  number_is (Some first) is = record { few = omega arith; fixed = λ none. absurd (never (sym is ∙ none)) }
    where
      never : Some first ≡ None → ⊥
      never e = cc

pub number_now_is : (station : Station) (live : Live) → IsNumber station.options (number_now station live)
number_now_is station live = number_is station.options live.rest.made station.options.numbers_from refl

-- ---- a relation that begins

some_none : {A : Type 0} (x : A) → Some x ≡ None → ⊥
some_none x e = cc

some_same : (x y : RelationState) → Some x ≡ Some y → x ≡ y
some_same x y e = cc

-- a relation that there was not
module _ (options : DeviceOptions) (before after : Option RelationState) where
  there_was : (link : RelationState) → before ≡ Some link → BeginsNumbered options before after
  there_was was is link none some = absurd (some_none was (sym is ∙ none))

  from_none : (f : RelationState → RelationState) → after ≡ option_map f before → BeginsNumbered options before after
  from_none f is link none some = absurd (some_none link (sym some ∙ (is ∙ ap (option_map f) none)))

  same : after ≡ before → BeginsNumbered options before after
  same is link none some = absurd (some_none link (sym some ∙ (is ∙ none)))

effect_numbered : (station : Station) (real : Real) (caller : Caller) (blocks : List ℕ) (outcome : Result (List ℕ) CallFault) (which : Operation) (before after : Option RelationState)
    → IsEffect station real caller blocks outcome which before after → BeginsNumbered station.options before after
effect_numbered station real caller blocks (Err why) which before after is = same station.options before after is
effect_numbered station real caller blocks (Ok octets) operation.Connect before after it = λ link none some.
    subst (λ (l : RelationState). IsNumbered station.options l) (some_same _ link (sym it.made ∙ some))
    (record { number = it.starting.number; is = it.numbered; endpoint = refl; route = refl })
effect_numbered station real caller blocks (Ok octets) operation.Write before after (inl it) = there_was station.options before after it.link it.was
effect_numbered station real caller blocks (Ok octets) operation.Write before after (inr (inl it)) = from_none station.options before after (restarted it.same.0) it.same.1
effect_numbered station real caller blocks (Ok octets) operation.Write before after (inr (inr it)) =
    from_none station.options before after (with_more it.source it.passed it.values) it.becomes
effect_numbered station real caller blocks (Ok octets) operation.Control before after (inl it) = there_was station.options before after it.link it.was
effect_numbered station real caller blocks (Ok octets) operation.Control before after (inr it) = there_was station.options before after it.link it.was
effect_numbered station real caller blocks (Ok octets) operation.Release before after it = there_was station.options before after it.link it.was
effect_numbered station real caller blocks (Ok octets) operation.Read before after it = from_none station.options before after (restarted it.0) it.1
effect_numbered station real caller blocks (Ok octets) operation.ReadImplicit before after it = absurd it

-- a relation that is kept, or ends, does not begin
kept_numbered : (options : DeviceOptions) (before after : Option RelationState) → IsKeptOr before after → BeginsNumbered options before after
kept_numbered options before after kept = λ link none some. by_link link none some kept
  where
    by_link : (link : RelationState) → before ≡ None → after ≡ Some link → IsKeptOr before after → IsNumbered options link
    by_link link none some (inl e) = absurd (some_none (link_of link) (sym (ap (λ (l : Option RelationState). option_map link_of l) some) ∙ (e ∙ ap (λ (l : Option RelationState). option_map link_of l) none)))
    by_link link none some (inr (inl e)) = absurd (some_none (link_of link) (sym (ap (λ (l : Option RelationState). option_map link_of l) some) ∙ e))
    by_link link none some (inr (inr it)) = absurd (some_none it.link (sym it.was ∙ none))

same_rest : (one other : Rest) (sent more : List Sent) → ◌≡◌ {A = Handled} (Moves one sent) (Moves other more) → one ≡ other
same_rest one other sent more e = cc

pub does_numbered : (station : Station) (live : Live) (heard : Heard) (after : Rest) (sent : List Sent) → Does station live heard after sent
    → BeginsNumbered station.options live.rest.link after.link
does_numbered station live heard after sent (inl it) = same station.options live.rest.link after.link (ap (λ (r : Rest). r.link) it.same)
does_numbered station live heard after sent (inr (inl it)) = kept_numbered station.options live.rest.link after.link it.link
does_numbered station live heard after sent (inr (inr (inl it))) = there_was station.options live.rest.link after.link it.link it.was
does_numbered station live heard after sent (inr (inr (inr (inl it)))) = same station.options live.rest.link after.link (ap (λ (r : Rest). r.link) it.same)
does_numbered station live heard after sent (inr (inr (inr (inr (inl it))))) =
    effect_numbered station live.rest.real it.caller it.blocks it.outcome it.which live.rest.link after.link it.effect
does_numbered station live heard after sent (inr (inr (inr (inr (inr (inl it)))))) = same station.options live.rest.link after.link
    (ap (λ (r : Rest). r.link) it.becomes)
does_numbered station live heard after sent (inr (inr (inr (inr (inr (inr (inl it))))))) = same station.options live.rest.link after.link
    (ap (λ (r : Rest). r.link) it.becomes)
does_numbered station live heard after sent (inr (inr (inr (inr (inr (inr (inr (inl it)))))))) = kept_numbered station.options live.rest.link after.link it.link
does_numbered station live heard after sent (inr (inr (inr (inr (inr (inr (inr (inr it)))))))) = by_kind it.does
  where
    by_kind : ((station.options.reads_not_kept ≡ true) × Replies false station live heard after sent)
        ⊎ ((station.options.asks_own_first ≡ true) × GivesWay station live heard it.question after sent)
        → BeginsNumbered station.options live.rest.link after.link
    by_kind (inl replies) = kept_numbered station.options live.rest.link after.link replies.1.link
    by_kind (inr gives) = same station.options live.rest.link after.link (ap (λ (r : Rest). r.link) (same_rest after _ sent _ gives.1.moves))
