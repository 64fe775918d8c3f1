-- The rest of the records decides as all of them do.
use Rattle.std.proofs.Common.{◌≡◌, Some, false, true, sym, ◌∙◌, arith}
use Rattle.rpc_core.specs.Response.{is_done}
use Rattle.controller_core.specs.start_up.Outcomes.{outcome_at}
use Rattle.controller_core.proofs.StartUpAnswering.{none_left, one_more, refused, unread}
use Rattle.controller_core.proofs.start_up.outcomes.outcomes_from.Goals as goal

pub returns-then-not-is_done : goal.returns-then-not-is_done
returns-then-not-is_done c =
    let e : outcome_at c.loop-place.rest.now ≡ Some (c.in-Some.status, c.in-Some.behind.now) = rw (c.in-Some.status-is, c.in-Some.behind-is) (sym c.in-Some.ensures) in
    let not_done : is_done c.in-Some.status ≡ false = sym c.is_done.ensures ∙ c.if-not-is_done.true in
    sym (refused c.args.count c.loop-place.place c.loop-place.rest.now c.in-Some.status c.in-Some.behind.now (omega (arith, c.loop-place-test.true)) e not_done)
    ∙ c.loop-place.invariant

pub returns-in-None : goal.returns-in-None
returns-in-None c =
    sym (unread c.args.count c.loop-place.place c.loop-place.rest.now (omega (arith, c.loop-place-test.true)) (sym c.in-None.ensures)) ∙ c.loop-place.invariant

pub loop-place-preserved : goal.loop-place-preserved
loop-place-preserved c =
    let e : outcome_at c.loop-place.rest.now ≡ Some (c.in-Some.status, c.in-Some.behind.now) = rw (c.in-Some.status-is, c.in-Some.behind-is) (sym c.in-Some.ensures) in
    let done : is_done c.in-Some.status ≡ true = sym c.is_done.ensures ∙ c.if-not-is_done.false in
    sym (one_more c.args.count c.loop-place.place c.loop-place.rest.now c.in-Some.status c.in-Some.behind.now (omega (arith, c.loop-place-test.true)) e done)
    ∙ c.loop-place.invariant

pub returns : goal.returns
returns c = sym (none_left c.args.count c.loop-place.place c.loop-place.rest.now (omega (arith, c.loop-place-test.false))) ∙ c.loop-place.invariant
