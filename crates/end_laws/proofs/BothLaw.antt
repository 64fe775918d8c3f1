-- The law of a start-up.
use Rattle.std.proofs.Common.{◌≡◌, ◌⊎◌, inl, inr, ◌+◌, ◌<◌, ◌≤◌, ◌&&◌, ℕ, zero, suc, Bool, true, false, List, [], ◌∷◌, ◌++◌, length, Option, Some, None, refl, sym, ap, subst, ◌∙◌, append_assoc, arith}
use Rattle.std.proofs.lemmas.Bool.{and_parts}
use Rattle.std.specs.List.{AllByRecursion}
use Rattle.std.specs.Prelude.{slice_get}
use Rattle.end_laws.specs.both.Small.{Ask, Connects, Writes, Parameterized, Releases, Accesses, ToDevice, Call, Confirms, Idle, Reply, ToController, Answers, Readies, Nothing, Rules, Awaiting, Exchanging, RelationState, Kept, Device, Controller, Seeking, Asking, Waiting, Exchanges, Ended, World, Move, ComesToDevice, ComesToController, AtDevice, AtController, IsByController, IsByDevice}
use Rattle.end_laws.specs.both.Steps.{records_before, records_of, Forgets, IsAsked, IsDull, IsNew, IsPart, CallsWhile, SaysToDevice, IsSaid, IsNext, IsTried, Moves, DeviceSteps, StepsAtDevice, StepsAtController, ComesToDeviceAs, ComesToControllerAs, Steps}
use Rattle.end_laws.specs.both.StartUp.{IsRun, last_of, Begins, WasSent, WasHanded, WasExchanging}
use Rattle.end_laws.proofs.BothHolds.{At, IsAt, IsCurrent, IsOld, IsSomeKept, earlier, HoldsAt, IsHeldIn, TookIn, Took, IsCall, TellsDevice, Reported, IsResponse, TellsController, IsFine, AreFine, KeepsFine, Unconfirmed, Holds, MadeIn, ConfirmedIn, HoldsSince}
use Rattle.end_laws.proofs.BothRuns.{holds_behind_run, later_on}
use Rattle.end_laws.proofs.BothEach.{each_at, each_behind, each_so}
use Rattle.end_laws.proofs.BothGoes.{behind_on, are_fine_on, keeps_on, same_grows, fine_as}
use Rattle.end_laws.proofs.BothKept.{MayCome, may_come, device_leaves, held_later, made_is, part_is, ready_is}

module _ {T Q : Type 0} (rules : Rules T Q) where
  -- ---- the controller

  -- what is known after the controller moves, and of each frame
  record Moved (Good : List ℕ → Type 0) (kept : Option Kept) (link : Option (RelationState T Q)) (at : At) (now : Controller) : Type 0 where
    next : At
    is_at : IsAt rules next kept link now
    held : HoldsAt rules next kept link
    fine_on : (frame : List ℕ) → IsFine rules Good at kept link frame → IsFine rules Good next kept link frame

  module _ (Good : List ℕ → Type 0) (kept : Option Kept) (link : Option (RelationState T Q)) (at : At) (held : HoldsAt rules at kept link) where
    no_skip : true ≡ false → ⊥
    no_skip e = cc

    -- nothing moves
    still : (now : Controller) → IsAt rules at kept link now → Moved Good kept link at now
    still now is_at = record { next = at; is_at = is_at; held = held; fine_on = λ frame fine. fine }

    -- the relation is held after the current call was answered
    held_old : (other : Option Kept) → IsOld at.number other → HoldsAt rules at other link → IsHeldIn rules at.stage link
    held_old None old holds = absurd old
    held_old (Some answer) old holds = holds.0

    held_next : (next : At) (other : Option Kept) → IsOld at.number other → IsHeldIn rules next.stage link → IsHeldIn rules (earlier next.stage) link → HoldsAt rules next other link
    held_next next None old now before = absurd old
    held_next next (Some answer) old now before = (now, λ less. before)

    never_new : (sequence : ℕ) (other : Option Kept) → sequence ≡ at.number → IsOld at.number other → IsNew sequence other → ⊥
    never_new sequence None is old new = old
    never_new sequence (Some answer) is old new = absurd (omega (arith, is, old, new))

    some_old : (sequence : ℕ) (other : Option Kept) → IsOld sequence other → IsSomeKept other
    some_old sequence None old = old
    some_old sequence (Some answer) old = tt

    -- the current call was answered, and the next call is made: no call that was sent before is new
    module _ (old : IsOld at.number kept) (next : At) (number : next.number ≡ suc at.number) (before : IsHeldIn rules (earlier next.stage) link) where
      device_next : (heard : ToDevice) → TellsDevice rules at kept heard → TellsDevice rules next kept heard
      device_next (Call sequence ask) (inl releases) = inl releases
      device_next (Call sequence ask) (inr current) = inr (λ new. absurd (never_new sequence kept (current new).0 old new))
      device_next Confirms tells = tells
      device_next Idle tells = tt

      response_next : (sequence : ℕ) (reply : Reply) → IsResponse rules at kept link sequence reply → IsResponse rules next kept link sequence reply
      response_next sequence reply tells = record {
        old = tells.old;
        now = λ is. record {
          refused = λ refused. before;
          well = λ well few strict. record {
            called = some_old sequence kept tells.old;
            taken = subst (λ (l : Option (RelationState T Q)). TookIn (length (records_before rules next.stage)) l)
                (sym (tells.later (omega (arith, is, number)) (and_parts reply.done (rules.grants next.stage reply.blocks) well).0)) tt;
          };
        };
        later = λ more done. tells.later (omega (arith, more, number)) done;
      }

      controller_next : (frame : List ℕ) (heard : ToController) → TellsController rules Good at kept link frame heard → TellsController rules Good next kept link frame heard
      controller_next frame (Answers sequence reply) tells = response_next sequence reply tells
      controller_next frame Readies tells = tells
      controller_next frame Nothing tells = tt

      fine_next : (frame : List ℕ) → IsFine rules Good at kept link frame → IsFine rules Good next kept link frame
      fine_next frame fine = record {
        device = device_next (rules.to_device frame) fine.device;
        controller = controller_next frame (rules.to_controller frame) fine.controller;
      }

    -- the response to the current call
    response_is : (heard : ToController) (frame : List ℕ) (now : Controller) (stage tries : ℕ) (reply : Reply) → IsAt rules at kept link now → now ≡ Asking stage tries
        → heard ≡ Answers (stage + tries) reply → TellsController rules Good at kept link frame heard
        → (at.stage ≡ stage) × (at.number ≡ stage + tries) × IsOld at.number kept × Reported rules at.stage reply kept link
    response_is heard frame now stage tries reply is_at asked answered tells =
        let here : IsCurrent (Asking stage tries) at = subst (λ (c : Controller). IsCurrent c at) asked is_at.current in
        let told : IsResponse rules at kept link (stage + tries) reply = subst (λ (h : ToController). TellsController rules Good at kept link frame h) answered tells in
        (here.0, here.1, subst (λ (n : ℕ). IsOld n kept) (sym here.1) told.old, told.now (sym here.1))

    -- what the response to the last call says was accepted, unless records may be skipped
    granted_took : (stage : ℕ) (reply : Reply) → ((reply.done && rules.grants stage reply.blocks) ≡ true) ⊎ (rules.skips ≡ true)
        → Reported rules stage reply kept link → stage ≤ rules.count → rules.skips ≡ false → Took rules stage kept link
    granted_took stage reply (inl well) reported few strict = reported.well well few strict
    granted_took stage reply (inr skips) reported few strict = absurd (no_skip (sym skips ∙ strict))

    next_moved : (heard : ToController) (frame : List ℕ) (before after : Controller) (next : IsNext rules.grants rules.skips rules.count heard before after)
        → TellsController rules Good at kept link frame heard → IsAt rules at kept link before
        → ((next.stage ≤ rules.count) × (after ≡ Asking (next.stage + 1) next.tries)) ⊎ (after ≡ Waiting) → Moved Good kept link at after
    next_moved heard frame before after next tells is_at (inr waits) =
        still after (record {
          current = subst (λ (c : Controller). IsCurrent c at) (sym waits) tt;
          first = is_at.first;
          behind = is_at.behind;
        })
    next_moved heard frame before after next tells is_at (inl more) =
        let there = response_is heard frame before next.stage next.tries next.reply is_at next.asked next.answered tells in
        let later : At = record { stage = suc at.stage; number = suc at.number } in
        let here = held_old kept there.2 held in
        record {
          next = later;
          is_at = record {
            current = subst (λ (c : Controller). IsCurrent c later) (sym more.1) (omega (arith, there.0), omega (arith, there.1));
            first = λ none. absurd (omega (arith, none));
            behind = λ strict.
                granted_took at.stage next.reply (subst (λ (n : ℕ). ((next.reply.done && rules.grants n next.reply.blocks) ≡ true) ⊎ (rules.skips ≡ true)) (sym there.0) next.granted)
                there.3 (omega (arith, more.0, there.0)) strict;
          };
          held = held_next later kept there.2 (held_later rules at.stage link here) here;
          fine_on = fine_next there.2 later refl here;
        }

    tried_moved : (heard : ToController) (frame : List ℕ) (before after : Controller) (tried : IsTried heard before after)
        → TellsController rules Good at kept link frame heard → IsAt rules at kept link before → Moved Good kept link at after
    tried_moved heard frame before after tried tells is_at =
        let there = response_is heard frame before tried.stage tried.tries tried.reply is_at tried.asked tried.answered tells in
        let later : At = record { stage = at.stage; number = suc at.number } in
        let unchanged = there.3.refused tried.refused in
        record {
          next = later;
          is_at = record {
            current = subst (λ (c : Controller). IsCurrent c later) (sym tried.becomes) (there.0, omega (arith, there.1));
            first = λ none. absurd (omega (arith, none, there.0, tried.later));
            behind = is_at.behind;
          };
          held = held_next later kept there.2 (held_old kept there.2 held) unchanged;
          fine_on = fine_next there.2 later refl unchanged;
        }

    moved : (heard : ToController) (frame : List ℕ) (before after : Controller) → TellsController rules Good at kept link frame heard
        → IsAt rules at kept link before → (after ≡ Exchanges → ⊥) → Moves rules.grants rules.skips rules.count heard before after → Moved Good kept link at after
    moved heard frame before after tells is_at none (inl same) =
        still after (record { current = subst (λ (c : Controller). IsCurrent c at) (sym same) is_at.current; first = is_at.first; behind = is_at.behind })
    moved heard frame before after tells is_at none (inr (inl ended)) =
        still after (record { current = subst (λ (c : Controller). IsCurrent c at) (sym ended) tt; first = is_at.first; behind = is_at.behind })
    moved heard frame before after tells is_at none (inr (inr (inl begins))) =
        still after (record {
          current = subst (λ (c : Controller). IsCurrent c at) (sym begins.1) (subst (λ (c : Controller). IsCurrent c at) begins.0 is_at.current);
          first = is_at.first;
          behind = is_at.behind;
        })
    moved heard frame before after tells is_at none (inr (inr (inr (inl next)))) = next_moved heard frame before after next tells is_at next.becomes
    moved heard frame before after tells is_at none (inr (inr (inr (inr (inl readied))))) = absurd (none readied.1)
    moved heard frame before after tells is_at none (inr (inr (inr (inr (inr tried))))) = tried_moved heard frame before after tried tells is_at

    -- ---- what the controller says

    calls_tell : (now : Controller) (sequence : ℕ) (ask : Ask) → (now ≡ Exchanges → ⊥) → IsAt rules at kept link now → CallsWhile (rules.count) now sequence ask
        → IsCall rules at sequence ask kept
    calls_tell now sequence ask before is_at (inl releases) = inl releases
    calls_tell now sequence ask before is_at (inr (inl calling)) =
        let here : IsCurrent (Asking calling.stage calling.tries) at = subst (λ (c : Controller). IsCurrent c at) calling.calls is_at.current in
        inr (λ new. (calling.number ∙ sym here.1, subst (λ (n : ℕ). IsAsked rules.count n ask) (sym here.0) calling.asked))
    calls_tell now sequence ask before is_at (inr (inr accesses)) = absurd (before accesses.1)

    says_tell : (now : Controller) (heard : ToDevice) → (now ≡ Exchanges → ⊥) → IsAt rules at kept link now → SaysToDevice (rules.count) now heard → TellsDevice rules at kept heard
    says_tell now (Call sequence ask) before is_at says = calls_tell now sequence ask before is_at says
    says_tell now Confirms before is_at says = before says
    says_tell now Idle before is_at says = tt

    said_fine : (now : Controller) (frame : List ℕ) → (now ≡ Exchanges → ⊥) → IsAt rules at kept link now → IsSaid rules now frame → IsFine rules Good at kept link frame
    said_fine now frame before is_at said = fine_as rules Good at kept link frame (rules.to_device frame) Nothing refl said.0 (by_state said.1) tt
      where
        by_state : SaysToDevice (rules.count) now (rules.to_device frame) ⊎ (now ≡ Exchanges) → TellsDevice rules at kept (rules.to_device frame)
        by_state (inl says) = says_tell now (rules.to_device frame) before is_at says
        by_state (inr exchanges) = absurd (before exchanges)

    all_said_fine : (now : Controller) (frames : List (List ℕ)) → (now ≡ Exchanges → ⊥) → IsAt rules at kept link now → AllByRecursion (IsSaid rules now) frames
        → AreFine rules Good at kept link frames
    all_said_fine now [] before is_at all = tt
    all_said_fine now (frame ∷ frames) before is_at all = (said_fine now frame before is_at all.0, all_said_fine now frames before is_at all.1)

  -- ---- until the controller exchanges data

  -- what is true of an ApplicationReady stays true, and each that is sent now is good from now on
  pub record Passes (Good GoodNow : List ℕ → Type 0) (w : World T Q) (move : Move) (v : World T Q) : Type 0 where
    pub good_on : (frame : List ℕ) → Good frame → GoodNow frame
    pub good_now : IsByDevice move → (frames : List (List ℕ)) → v.sent ≡ w.sent ++ frames → v.controller ≡ w.controller
        → (number : ℕ) (frame : List ℕ) → slice_get frames number ≡ Some frame
        → (link : RelationState T Q) → v.device.link ≡ Some link → link.phase ≡ Awaiting → link.request ≡ rules.request → (rules.skips ≡ false → link.taken ≡ records_of rules) → IsPart link.taken (records_of rules) → GoodNow frame

  module _ (Good GoodNow : List ℕ → Type 0) (w : World T Q) (move : Move) (v : World T Q)
      (passes : Passes Good GoodNow w move v) (holds : Holds rules Good w) where
    -- the invariant of the relation after a step of the device, whatever it sends
    held_behind : (heard : ToDevice) → TellsDevice rules holds.at w.device.kept heard → StepsAtDevice rules heard w v → HoldsAt rules holds.at v.device.kept v.device.link
    held_behind heard tells steps =
        let leaves = device_leaves rules holds.at Good (λ (frame : List ℕ). Unit {0}) (λ frame good. tt) w.device v.device steps.frames
        holds.is_at.first holds.is_at.behind holds.held holds.kept holds.unconfirmed holds.unasked heard tells (λ number frame there ready. tt) steps.steps in
        leaves.held

    -- a step of the device
    at_device : IsByDevice move → (heard : ToDevice) → TellsDevice rules holds.at w.device.kept heard → StepsAtDevice rules heard w v → Holds rules GoodNow v
    at_device by heard tells steps =
        let at = holds.at in
        let before = w.device in
        let after = v.device in
        let leaves = device_leaves rules at Good GoodNow passes.good_on before after steps.frames holds.is_at.first holds.is_at.behind holds.held holds.kept holds.unconfirmed
        holds.unasked heard tells
        (λ number frame there ready.
        let all = ready_is rules at after.kept after.link ready.link ready.has ready.awaits (held_behind heard tells steps) in
        passes.good_now by steps.frames steps.behind steps.controller number frame there ready.link ready.has ready.awaits all.0 all.1 all.2) steps.steps in
        record {
          at = at;
          is_at = record {
            current = subst (λ (c : Controller). IsCurrent c at) (sym steps.controller) holds.is_at.current;
            first = holds.is_at.first;
            behind = behind_on rules at before.kept after.kept before.link after.link leaves.grows at.stage holds.is_at.behind;
          };
          held = leaves.held;
          kept = leaves.kept;
          sent = subst (λ (fs : List (List ℕ)). AreFine rules GoodNow at after.kept after.link fs) (sym steps.behind)
              (each_behind (IsFine rules GoodNow at after.kept after.link) w.sent steps.frames
              (are_fine_on rules at before.kept after.kept before.link after.link leaves.grows Good GoodNow passes.good_on w.sent holds.sent) leaves.new);
          before = λ exchanges. holds.before (sym steps.controller ∙ exchanges);
          unconfirmed = leaves.unconfirmed;
          unasked = leaves.unasked;
        }

    -- a step of the controller after which it does not exchange data
    at_controller : (v.controller ≡ Exchanges → ⊥) → (heard : ToController) (frame : List ℕ) → TellsController rules Good holds.at w.device.kept w.device.link frame heard
        → StepsAtController rules heard w v → Holds rules GoodNow v
    at_controller before heard frame tells steps =
        let kept = w.device.kept in
        let link = w.device.link in
        let goes = moved Good kept link holds.at holds.held heard frame w.controller v.controller tells holds.is_at before steps.steps.moves in
        let next = goes.next in
        let grows = same_grows rules next kept link in
        let fine = each_so (IsFine rules Good holds.at kept link) (IsFine rules Good next kept link) goes.fine_on w.sent holds.sent in
        let sent : AreFine rules GoodNow next kept link v.sent =
        subst (λ (fs : List (List ℕ)). AreFine rules GoodNow next kept link fs) (sym steps.behind)
        (each_behind (IsFine rules GoodNow next kept link) w.sent steps.frames
        (are_fine_on rules next kept kept link link grows Good GoodNow passes.good_on w.sent fine)
        (all_said_fine GoodNow kept link next goes.held v.controller steps.frames before goes.is_at steps.steps.sent)) in
        let same : v.device ≡ w.device = steps.device in
        record {
          at = next;
          is_at = subst (λ (d : Device T Q). IsAt rules next d.kept d.link v.controller) (sym same) goes.is_at;
          held = subst (λ (d : Device T Q). HoldsAt rules next d.kept d.link) (sym same) goes.held;
          kept = subst (λ (d : Device T Q). KeepsFine rules GoodNow next d.kept d.link d.kept) (sym same)
              (keeps_on rules next kept kept link link grows Good GoodNow passes.good_on kept (keeps_next holds.at next kept link goes.fine_on kept holds.kept));
          sent = subst (λ (d : Device T Q). AreFine rules GoodNow next d.kept d.link v.sent) (sym same) sent;
          before = before;
          unconfirmed = subst (λ (d : Device T Q). Unconfirmed d.link) (sym same) holds.unconfirmed;
          unasked = ap (λ (d : Device T Q). d.asked) same ∙ holds.unasked;
        }
      where
        keeps_next : (at next : At) (kept : Option Kept) (link : Option (RelationState T Q))
            → ((frame : List ℕ) → IsFine rules Good at kept link frame → IsFine rules Good next kept link frame)
            → (answer : Option Kept) → KeepsFine rules Good at kept link answer → KeepsFine rules Good next kept link answer
        keeps_next at next kept link on None fine = tt
        keeps_next at next kept link on (Some answer) fine = on answer.frame fine

    -- the case that nothing steps
    at_rest : v ≡ w → Holds rules GoodNow v
    at_rest same =
        let kept = w.device.kept in
        let link = w.device.link in
        let grows = same_grows rules holds.at kept link in
        subst (λ (u : World T Q). Holds rules GoodNow u) (sym same) (record {
          at = holds.at;
          is_at = holds.is_at;
          held = holds.held;
          kept = keeps_on rules holds.at kept kept link link grows Good GoodNow passes.good_on kept holds.kept;
          sent = are_fine_on rules holds.at kept kept link link grows Good GoodNow passes.good_on w.sent holds.sent;
          before = holds.before;
          unconfirmed = holds.unconfirmed;
          unasked = holds.unasked;
        })

    at_device_or_rest : IsByDevice move → (v ≡ w) ⊎ StepsAtDevice rules Idle w v → Holds rules GoodNow v
    at_device_or_rest by (inl same) = at_rest same
    at_device_or_rest by (inr steps) = at_device by Idle tt steps

    comes_to_device : IsByDevice move → (number : ℕ) → (v ≡ w) ⊎ ComesToDeviceAs rules number w v → Holds rules GoodNow v
    comes_to_device by number (inl same) = at_rest same
    comes_to_device by number (inr comes) =
        let fine = each_at (IsFine rules Good holds.at w.device.kept w.device.link) w.sent number comes.frame holds.sent comes.there in
        at_device by (rules.to_device comes.frame) fine.device comes.steps

    -- ---- the controller begins to exchange data, or does not

    -- the ApplicationReady with which it begins
    not_ended : Ended ≡ Exchanges → ⊥
    not_ended e = absurd cc

    not_asking : (stage tries : ℕ) → Asking stage tries ≡ Exchanges → ⊥
    not_asking stage tries e = absurd cc

    not_waiting : Waiting ≡ Exchanges → ⊥
    not_waiting e = absurd cc

    readied_by : (heard : ToController) → Moves rules.grants rules.skips (rules.count) heard w.controller v.controller → v.controller ≡ Exchanges → heard ≡ Readies
    readied_by heard (inl same) exchanges = absurd (holds.before (sym same ∙ exchanges))
    readied_by heard (inr (inl ended)) exchanges = absurd (not_ended (sym ended ∙ exchanges))
    readied_by heard (inr (inr (inl begins))) exchanges = absurd (not_asking 0 0 (sym begins.1 ∙ exchanges))
    readied_by heard (inr (inr (inr (inl next)))) exchanges = absurd (by_next next.becomes)
      where
        by_next : ((next.stage ≤ rules.count) × (v.controller ≡ Asking (next.stage + 1) next.tries)) ⊎ (v.controller ≡ Waiting) → ⊥
        by_next (inl more) = not_asking (next.stage + 1) next.tries (sym more.1 ∙ exchanges)
        by_next (inr waits) = not_waiting (sym waits ∙ exchanges)
    readied_by heard (inr (inr (inr (inr (inl readied))))) exchanges = readied.0
    readied_by heard (inr (inr (inr (inr (inr tried))))) exchanges = absurd (not_asking tried.stage (tried.tries + 1) (sym tried.becomes ∙ exchanges))

    made_in : (kept : Option Kept) (link : Option (RelationState T Q)) → HoldsAt rules holds.at kept link → MadeIn rules link
    made_in kept None held = tt
    made_in kept (Some there) held = made_is rules holds.at kept (Some there) there refl held

    unconfirmed_in : (Past : Type 0) (link : Option (RelationState T Q)) → Unconfirmed link → ConfirmedIn Past link
    unconfirmed_in Past None unconfirmed = tt
    unconfirmed_in Past (Some there) unconfirmed = λ exchanges. absurd (unconfirmed exchanges)

    begins_now : (WasNow PastNow HandedNow : Type 0) → WasNow → HandedNow → v.device ≡ w.device → HoldsSince rules WasNow PastNow HandedNow v
    begins_now WasNow PastNow HandedNow was handed same = record {
      was = was;
      handed = handed;
      made = subst (λ (d : Device T Q). MadeIn rules d.link) (sym same) (made_in w.device.kept w.device.link holds.held);
      confirmed = subst (λ (d : Device T Q). ConfirmedIn PastNow d.link) (sym same) (unconfirmed_in PastNow w.device.link holds.unconfirmed);
    }

  -- whether the controller exchanges data
  exchanges_or_not : (now : Controller) → (now ≡ Exchanges) ⊎ (now ≡ Exchanges → ⊥)
  exchanges_or_not Exchanges = inl refl
  exchanges_or_not Seeking = inr other
    where
      other : Seeking ≡ Exchanges → ⊥
      other e = absurd cc
  exchanges_or_not (Asking stage tries) = inr other
    where
      other : Asking stage tries ≡ Exchanges → ⊥
      other e = absurd cc
  exchanges_or_not Waiting = inr other
    where
      other : Waiting ≡ Exchanges → ⊥
      other e = absurd cc
  exchanges_or_not Ended = inr other
    where
      other : Ended ≡ Exchanges → ⊥
      other e = absurd cc

  -- ---- from then on

  -- what was true of an earlier point stays true, and a frame that is delivered to the device now is delivered after one
  pub record PassesSince (Was WasNow Past PastNow Handed HandedNow : Type 0) (move : Move) : Type 0 where
    pub was_on : Was → WasNow
    pub past_on : Past → PastNow
    pub handed_on : Handed → HandedNow
    pub past_now : (number : ℕ) → move ≡ ComesToDevice number → Was → PastNow

  made_by : (ask : Ask) (link after : Option (RelationState T Q)) → MayCome rules ask link after → MadeIn rules link → MadeIn rules after
  made_by ask link after (inl same) is_made = subst (λ (l : Option (RelationState T Q)). MadeIn rules l) (sym same) is_made
  made_by Connects link after (inr comes) is_made = subst (λ (l : Option (RelationState T Q)). MadeIn rules l) (sym comes) refl
  made_by (Writes number) link after (inr comes) is_made =
      subst (λ (l : Option (RelationState T Q)). MadeIn rules l) (sym comes.becomes) (subst (λ (l : Option (RelationState T Q)). MadeIn rules l) comes.was is_made)
  made_by Parameterized link after (inr comes) is_made =
      subst (λ (l : Option (RelationState T Q)). MadeIn rules l) (sym comes.becomes) (subst (λ (l : Option (RelationState T Q)). MadeIn rules l) comes.was is_made)
  made_by Releases link after (inr comes) is_made = subst (λ (l : Option (RelationState T Q)). MadeIn rules l) (sym comes) tt
  made_by Accesses link after (inr (inl same)) is_made = subst (λ (l : Option (RelationState T Q)). MadeIn rules l) (sym same) is_made
  made_by Accesses link after (inr (inr takes)) is_made =
      subst (λ (l : Option (RelationState T Q)). MadeIn rules l) (sym takes.becomes) (subst (λ (l : Option (RelationState T Q)). MadeIn rules l) takes.was is_made)

  made_past : (link after : Option (RelationState T Q)) → (after ≡ link) ⊎ ((after ≡ None) ⊎ Forgets link after) → MadeIn rules link → MadeIn rules after
  made_past link after (inl same) is_made = subst (λ (l : Option (RelationState T Q)). MadeIn rules l) (sym same) is_made
  made_past link after (inr (inl none)) is_made = subst (λ (l : Option (RelationState T Q)). MadeIn rules l) (sym none) tt
  made_past link after (inr (inr forgets)) is_made =
      subst (λ (l : Option (RelationState T Q)). MadeIn rules l) (sym forgets.becomes) (subst (λ (l : Option (RelationState T Q)). MadeIn rules l) forgets.was is_made)

  -- what is no call leaves the relation, or ends it, or makes it forget records
  idle_link : (before after : Device T Q) (frames : List (List ℕ)) → DeviceSteps rules Idle before after frames
      → (after.link ≡ before.link) ⊎ ((after.link ≡ None) ⊎ Forgets before.link after.link)
  idle_link before after frames (inl goes) = goes.link
  idle_link before after frames (inr replies) = replies.link

  made_on : (heard : ToDevice) (before after : Device T Q) (frames : List (List ℕ)) → DeviceSteps rules heard before after frames → MadeIn rules before.link → MadeIn rules after.link
  made_on (Call sequence ask) before after frames (inl answered) is_made =
      made_by ask before.link after.link (may_come rules ask answered.reply before.link after.link answered.does) is_made
  made_on (Call sequence ask) before after frames (inr (inl again)) is_made = subst (λ (d : Device T Q). MadeIn rules d.link) (sym again.unchanged) is_made
  made_on (Call sequence ask) before after frames (inr (inr (inl rests))) is_made = subst (λ (d : Device T Q). MadeIn rules d.link) (sym rests.0) is_made
  made_on (Call sequence ask) before after frames (inr (inr (inr question))) is_made =
      subst (λ (d : Device T Q). MadeIn rules d.link) (sym question.becomes) is_made
  made_on Confirms before after frames (inl confirms) is_made =
      subst (λ (d : Device T Q). MadeIn rules d.link) (sym confirms.becomes) (subst (λ (l : Option (RelationState T Q)). MadeIn rules l) confirms.was is_made)
  made_on Confirms before after frames (inr goes) is_made = made_past before.link after.link goes.link is_made
  made_on Idle before after frames idles is_made = made_past before.link after.link (idle_link before after frames idles) is_made

  module _ (Was WasNow Past PastNow Handed HandedNow : Type 0) (w : World T Q) (move : Move) (v : World T Q)
      (passes : PassesSince Was WasNow Past PastNow Handed HandedNow move) (holds : HoldsSince rules Was Past Handed w) where
    confirmed_on : (link : Option (RelationState T Q)) → ConfirmedIn Past link → ConfirmedIn PastNow link
    confirmed_on None confirmed = tt
    confirmed_on (Some link) confirmed = λ exchanges. passes.past_on (confirmed exchanges)

    confirmed_now : (link : Option (RelationState T Q)) → PastNow → ConfirmedIn PastNow link
    confirmed_now None past = tt
    confirmed_now (Some link) past = λ exchanges. past

    confirmed_by : (link after : Option (RelationState T Q)) → (after ≡ link) ⊎ ((after ≡ None) ⊎ Forgets link after) → ConfirmedIn Past link → ConfirmedIn PastNow after
    confirmed_by link after (inl same) confirmed = subst (λ (l : Option (RelationState T Q)). ConfirmedIn PastNow l) (sym same) (confirmed_on link confirmed)
    confirmed_by link after (inr (inl none)) confirmed = subst (λ (l : Option (RelationState T Q)). ConfirmedIn PastNow l) (sym none) tt
    confirmed_by link after (inr (inr forgets)) confirmed =
        subst (λ (l : Option (RelationState T Q)). ConfirmedIn PastNow l) (sym forgets.becomes)
        (subst (λ (l : Option (RelationState T Q)). ConfirmedIn PastNow l) forgets.was (confirmed_on link confirmed))

    goes_since : v.device ≡ w.device → HoldsSince rules WasNow PastNow HandedNow v
    goes_since same = record {
      was = passes.was_on holds.was;
      handed = passes.handed_on holds.handed;
      made = subst (λ (d : Device T Q). MadeIn rules d.link) (sym same) holds.made;
      confirmed = subst (λ (d : Device T Q). ConfirmedIn PastNow d.link) (sym same) (confirmed_on w.device.link holds.confirmed);
    }

    device_since : (heard : ToDevice) → StepsAtDevice rules heard w v → ConfirmedIn PastNow v.device.link → HoldsSince rules WasNow PastNow HandedNow v
    device_since heard steps confirmed = record {
      was = passes.was_on holds.was;
      handed = passes.handed_on holds.handed;
      made = made_on heard w.device v.device steps.frames steps.steps holds.made;
      confirmed = confirmed;
    }

    rests_since : v ≡ w → HoldsSince rules WasNow PastNow HandedNow v
    rests_since same = goes_since (ap (λ (u : World T Q). u.device) same)

    comes_since : (number : ℕ) → move ≡ ComesToDevice number → (v ≡ w) ⊎ ComesToDeviceAs rules number w v → HoldsSince rules WasNow PastNow HandedNow v
    comes_since number is (inl same) = rests_since same
    comes_since number is (inr comes) =
        device_since (rules.to_device comes.frame) comes.steps (confirmed_now v.device.link (passes.past_now number is holds.was))

    idles_since : (v ≡ w) ⊎ StepsAtDevice rules Idle w v → HoldsSince rules WasNow PastNow HandedNow v
    idles_since (inl same) = rests_since same
    idles_since (inr steps) = device_since Idle steps (confirmed_by w.device.link v.device.link
        (idle_link w.device v.device steps.frames steps.steps) holds.confirmed)

    answers_since : (number : ℕ) → (v ≡ w) ⊎ ComesToControllerAs rules number w v → HoldsSince rules WasNow PastNow HandedNow v
    answers_since number (inl same) = rests_since same
    answers_since number (inr comes) = goes_since comes.steps.device

    controls_since : (v ≡ w) ⊎ StepsAtController rules Nothing w v → HoldsSince rules WasNow PastNow HandedNow v
    controls_since (inl same) = rests_since same
    controls_since (inr steps) = goes_since steps.device

  holds_since : (Was WasNow Past PastNow Handed HandedNow : Type 0) (w : World T Q) (move : Move) (v : World T Q)
      → PassesSince Was WasNow Past PastNow Handed HandedNow move → HoldsSince rules Was Past Handed w → Steps rules w move v → HoldsSince rules WasNow PastNow HandedNow v
  holds_since Was WasNow Past PastNow Handed HandedNow w (ComesToDevice number) v passes holds steps =
      comes_since Was WasNow Past PastNow Handed HandedNow w (ComesToDevice number) v passes holds number refl steps
  holds_since Was WasNow Past PastNow Handed HandedNow w (ComesToController number) v passes holds steps =
      answers_since Was WasNow Past PastNow Handed HandedNow w (ComesToController number) v passes holds number steps
  holds_since Was WasNow Past PastNow Handed HandedNow w AtDevice v passes holds steps =
      idles_since Was WasNow Past PastNow Handed HandedNow w AtDevice v passes holds steps
  holds_since Was WasNow Past PastNow Handed HandedNow w AtController v passes holds steps =
      controls_since Was WasNow Past PastNow Handed HandedNow w AtController v passes holds steps

  -- ---- any list of moves

  -- one more point
  module _ (first : World T Q) where
    -- the controller was exchanging data after one of its own moves
    record WasAtExchange (run : List (Move × World T Q)) : Type 0 where
      before : List (Move × World T Q)
      move : Move
      point : World T Q
      later : List (Move × World T Q)
      all : run ≡ before ++ (move, point) ∷ later
      by_controller : IsByController move
      exchanges : point.controller ≡ Exchanges

    abbrev HoldsBefore : List (Move × World T Q) → World T Q → Type 0
    HoldsBefore run w = Holds rules (WasSent rules first run) w

    abbrev HoldsAfter : List (Move × World T Q) → World T Q → Type 0
    HoldsAfter run w = HoldsSince rules (WasAtExchange run) (WasExchanging run) (WasHanded rules first run) w

    abbrev HoldsBehind : List (Move × World T Q) → World T Q → Type 0
    HoldsBehind run w = HoldsBefore run w ⊎ HoldsAfter run w

    passes_on : (run : List (Move × World T Q)) (one : Move × World T Q)
        → Passes (WasSent rules first run) (WasSent rules first (run ++ one ∷ [])) (last_of first run) one.0 one.1
    passes_on run one = record {
      good_on = λ frame good. record {
        before = good.before;
        move = good.move;
        point = good.point;
        later = good.later ++ one ∷ [];
        all = later_on run good.before good.later (good.move, good.point) one good.all;
        by_device = good.by_device;
        frames = good.frames;
        behind = good.behind;
        number = good.number;
        sent = good.sent;
        still = good.still;
        link = good.link;
        has = good.has;
        awaits = good.awaits;
        accepted = good.accepted;
        taken = good.taken;
        part = good.part;
      };
      good_now = λ by frames behind same number frame there link has awaits accepted taken part. record {
        before = run;
        move = one.0;
        point = one.1;
        later = [];
        all = refl;
        by_device = by;
        frames = frames;
        behind = behind;
        number = number;
        sent = there;
        still = same;
        link = link;
        has = has;
        awaits = awaits;
        accepted = accepted;
        taken = taken;
        part = part;
      };
    }

    passes_since : (run : List (Move × World T Q)) (one : Move × World T Q)
        → PassesSince (WasAtExchange run) (WasAtExchange (run ++ one ∷ [])) (WasExchanging run) (WasExchanging (run ++ one ∷ [])) (WasHanded rules first run) (WasHanded rules first (run ++ one ∷ [])) one.0
    passes_since run one = record {
      was_on = λ was. record {
        before = was.before;
        move = was.move;
        point = was.point;
        later = was.later ++ one ∷ [];
        all = later_on run was.before was.later (was.move, was.point) one was.all;
        by_controller = was.by_controller;
        exchanges = was.exchanges;
      };
      past_on = λ past. record {
        before = past.before;
        move = past.move;
        point = past.point;
        by_controller = past.by_controller;
        exchanges = past.exchanges;
        between = past.between;
        number = past.number;
        next = past.next;
        later = past.later ++ one ∷ [];
        all = later_on run past.before (past.between ++ (ComesToDevice past.number, past.next) ∷ past.later) (past.move, past.point) one past.all
            ∙ ap (λ (xs : List (Move × World T Q)). past.before ++ (past.move, past.point) ∷ xs)
            (append_assoc past.between ((ComesToDevice past.number, past.next) ∷ past.later) (one ∷ []));
      };
      handed_on = λ handed. record {
        before = handed.before;
        number = handed.number;
        point = handed.point;
        later = handed.later ++ one ∷ [];
        all = later_on run handed.before handed.later (ComesToController handed.number, handed.point) one handed.all;
        frame = handed.frame;
        there = handed.there;
        heard = handed.heard;
        exchanges = handed.exchanges;
        sent = handed.sent;
      };
      past_now = λ number is was. record {
        before = was.before;
        move = was.move;
        point = was.point;
        by_controller = was.by_controller;
        exchanges = was.exchanges;
        between = was.later;
        number = number;
        next = one.1;
        later = [];
        all = later_on run was.before was.later (was.move, was.point) one was.all
            ∙ ap (λ (m : Move). was.before ++ (was.move, was.point) ∷ (was.later ++ (m, one.1) ∷ [])) is;
      };
    }

    -- the controller exchanges data from this point on
    was_now : (run : List (Move × World T Q)) (one : Move × World T Q) → IsByController one.0 → one.1.controller ≡ Exchanges → WasAtExchange (run ++ one ∷ [])
    was_now run one by exchanges = record { before = run; move = one.0; point = one.1; later = []; all = refl; by_controller = by; exchanges = exchanges }

    handed_now : (run : List (Move × World T Q)) (next : World T Q) (number : ℕ) (frame : List ℕ) → slice_get (last_of first run).sent number ≡ Some frame
        → rules.to_controller frame ≡ Readies → WasSent rules first run frame → next.controller ≡ Exchanges → WasHanded rules first (run ++ (ComesToController number, next) ∷ [])
    handed_now run next number frame there heard good exchanges = record {
      before = run;
      number = number;
      point = next;
      later = [];
      all = refl;
      frame = frame;
      there = there;
      heard = heard;
      exchanges = exchanges;
      sent = good;
    }

    not_readies : Nothing ≡ Readies → ⊥
    not_readies e = absurd cc

    module _ (run : List (Move × World T Q)) (v : World T Q) (holds : HoldsBefore run (last_of first run)) where
      abbrev w : World T Q
      w = last_of first run

      abbrev Good : List ℕ → Type 0
      Good frame = WasSent rules first run frame

      abbrev More : Move → Type 0
      More move = HoldsBehind (run ++ (move, v) ∷ []) v

      comes_so : (number : ℕ) → (v ≡ w) ⊎ ComesToControllerAs rules number w v → More (ComesToController number)
      comes_so number (inl same) =
          inl (at_rest Good (WasSent rules first (run ++ (ComesToController number, v) ∷ [])) w (ComesToController number) v (passes_on run (ComesToController number, v)) holds same)
      comes_so number (inr comes) = by_state (exchanges_or_not v.controller)
        where
          fine : IsFine rules Good holds.at w.device.kept w.device.link comes.frame
          fine = each_at (IsFine rules Good holds.at w.device.kept w.device.link) w.sent number comes.frame holds.sent comes.there

          by_state : (v.controller ≡ Exchanges) ⊎ (v.controller ≡ Exchanges → ⊥) → More (ComesToController number)
          by_state (inr before) =
              inl (at_controller Good (WasSent rules first (run ++ (ComesToController number, v) ∷ [])) w (ComesToController number) v (passes_on run (ComesToController number, v)) holds before
              (rules.to_controller comes.frame) comes.frame fine.controller comes.steps)
          by_state (inl exchanges) =
              let heard = readied_by Good (WasSent rules first (run ++ (ComesToController number, v) ∷ [])) w (ComesToController number) v (passes_on run (ComesToController number, v)) holds
              (rules.to_controller comes.frame) comes.steps.steps.moves exchanges in
              let good : Good comes.frame = subst (λ (h : ToController). TellsController rules Good holds.at w.device.kept w.device.link comes.frame h) heard fine.controller in
              inr (begins_now Good (WasSent rules first (run ++ (ComesToController number, v) ∷ [])) w (ComesToController number) v (passes_on run (ComesToController number, v)) holds
              (WasAtExchange (run ++ (ComesToController number, v) ∷ [])) (WasExchanging (run ++ (ComesToController number, v) ∷ [])) (WasHanded rules first (run ++ (ComesToController number, v) ∷ []))
              (was_now run (ComesToController number, v) tt exchanges) (handed_now run v number comes.frame comes.there heard good exchanges) comes.steps.device)

      controls_so : (v ≡ w) ⊎ StepsAtController rules Nothing w v → More AtController
      controls_so (inl same) = inl (at_rest Good (WasSent rules first (run ++ (AtController, v) ∷ [])) w AtController v (passes_on run (AtController, v)) holds same)
      controls_so (inr steps) = by_state (exchanges_or_not v.controller)
        where
          by_state : (v.controller ≡ Exchanges) ⊎ (v.controller ≡ Exchanges → ⊥) → More AtController
          by_state (inr before) =
              inl (at_controller Good (WasSent rules first (run ++ (AtController, v) ∷ [])) w AtController v (passes_on run (AtController, v)) holds before Nothing [] tt steps)
          by_state (inl exchanges) =
              absurd (not_readies (readied_by Good (WasSent rules first (run ++ (AtController, v) ∷ [])) w AtController v (passes_on run (AtController, v)) holds Nothing steps.steps.moves exchanges))

      more_so : (move : Move) → Steps rules w move v → More move
      more_so (ComesToDevice number) steps =
          inl (comes_to_device Good (WasSent rules first (run ++ (ComesToDevice number, v) ∷ [])) w (ComesToDevice number) v (passes_on run (ComesToDevice number, v)) holds tt number steps)
      more_so (ComesToController number) steps = comes_so number steps
      more_so AtDevice steps =
          inl (at_device_or_rest Good (WasSent rules first (run ++ (AtDevice, v) ∷ [])) w AtDevice v (passes_on run (AtDevice, v)) holds tt steps)
      more_so AtController steps = controls_so steps

    holds_more : (run : List (Move × World T Q)) (one : Move × World T Q) → HoldsBehind run (last_of first run) → Steps rules (last_of first run) one.0 one.1 → HoldsBehind (run ++ one ∷ []) one.1
    holds_more run one (inl holds) steps = more_so run one.1 holds one.0 steps
    holds_more run one (inr holds) steps =
        inr (holds_since (WasAtExchange run) (WasAtExchange (run ++ one ∷ [])) (WasExchanging run) (WasExchanging (run ++ one ∷ []))
        (WasHanded rules first run) (WasHanded rules first (run ++ one ∷ [])) (last_of first run) one.0 one.1 (passes_since run one) holds steps)

    dull_fine : (Good : List ℕ → Type 0) (at : At) (kept : Option Kept) (link : Option (RelationState T Q)) (frames : List (List ℕ)) → AllByRecursion (IsDull rules) frames
        → AreFine rules Good at kept link frames
    dull_fine Good at kept link frames all =
        each_so (IsDull rules) (IsFine rules Good at kept link) (λ frame dull. fine_as rules Good at kept link frame Idle Nothing dull.0 dull.1 tt tt) frames all

    -- no call was made yet
    abbrev at_first : At
    at_first = record { stage = 0; number = 0 }

    holds_first : Begins rules first → HoldsBehind [] first
    holds_first begins = inl (record {
      at = at_first;
      is_at = record { current = subst (λ (c : Controller). IsCurrent c at_first) (sym begins.seeking) (refl, refl); first = λ none. refl; behind = tt };
      held = subst (λ (k : Option Kept). HoldsAt rules at_first k first.device.link) (sym begins.uncalled) begins.unrelated;
      kept = subst (λ (k : Option Kept). KeepsFine rules (WasSent rules first []) at_first first.device.kept first.device.link k) (sym begins.uncalled) tt;
      sent = dull_fine (WasSent rules first []) at_first first.device.kept first.device.link first.sent begins.dull;
      before = λ exchanges. not_seeking (sym begins.seeking ∙ exchanges);
      unconfirmed = subst (λ (l : Option (RelationState T Q)). Unconfirmed l) (sym begins.unrelated) tt;
      unasked = begins.unasked;
    })
      where
        not_seeking : Seeking ≡ Exchanges → ⊥
        not_seeking e = absurd cc

    holds_at : (run : List (Move × World T Q)) → Begins rules first → IsRun rules first run → HoldsBehind run (last_of first run)
    holds_at run begins steps = holds_behind_run (Steps rules) first (λ before w. HoldsBehind before w) holds_more run (holds_first begins) steps

    handed_in : (run : List (Move × World T Q)) (w : World T Q) → HoldsBehind run w → w.controller ≡ Exchanges → WasHanded rules first run
    handed_in run w (inl holds) exchanges = absurd (holds.before exchanges)
    handed_in run w (inr holds) exchanges = holds.handed

    pub was_handed : (run : List (Move × World T Q)) → Begins rules first → IsRun rules first run → (last_of first run).controller ≡ Exchanges → WasHanded rules first run
    was_handed run begins steps exchanges = handed_in run (last_of first run) (holds_at run begins steps) exchanges

    confirmed_in : (run : List (Move × World T Q)) (w : World T Q) (there : RelationState T Q) → w.device.link ≡ Some there → there.phase ≡ Exchanging → HoldsBehind run w → WasExchanging run
    confirmed_in run w there is exchanges (inl holds) = absurd ((subst (λ (l : Option (RelationState T Q)). Unconfirmed l) is holds.unconfirmed) exchanges)
    confirmed_in run w there is exchanges (inr holds) = (subst (λ (l : Option (RelationState T Q)). ConfirmedIn (WasExchanging run) l) is holds.confirmed) exchanges

    pub was_exchanging : (run : List (Move × World T Q)) → Begins rules first → IsRun rules first run
        → (link : RelationState T Q) → (last_of first run).device.link ≡ Some link → link.phase ≡ Exchanging → WasExchanging run
    was_exchanging run begins steps link is exchanges = confirmed_in run (last_of first run) link is exchanges (holds_at run begins steps)

    asked_in : (run : List (Move × World T Q)) (w : World T Q) (there : RelationState T Q) → w.device.link ≡ Some there → HoldsBehind run w → there.request ≡ rules.request
    asked_in run w there is (inl holds) = made_is rules holds.at w.device.kept w.device.link there is holds.held
    asked_in run w there is (inr holds) = subst (λ (l : Option (RelationState T Q)). MadeIn rules l) is holds.made

    pub is_made : (run : List (Move × World T Q)) → Begins rules first → IsRun rules first run
        → (link : RelationState T Q) → (last_of first run).device.link ≡ Some link → link.request ≡ rules.request
    is_made run begins steps link is = asked_in run (last_of first run) link is (holds_at run begins steps)

    part_in : (run : List (Move × World T Q)) (w : World T Q) (there : RelationState T Q) → w.device.link ≡ Some there → HoldsBehind run w
        → IsPart there.taken (records_of rules) ⊎ WasHanded rules first run
    part_in run w there is (inl holds) = inl (part_is rules holds.at w.device.kept w.device.link there is holds.held)
    part_in run w there is (inr holds) = inr holds.handed

    pub is_part : (run : List (Move × World T Q)) → Begins rules first → IsRun rules first run
        → (link : RelationState T Q) → (last_of first run).device.link ≡ Some link → IsPart link.taken (records_of rules) ⊎ WasHanded rules first run
    is_part run begins steps link is = part_in run (last_of first run) link is (holds_at run begins steps)
