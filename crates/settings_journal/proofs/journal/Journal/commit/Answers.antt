-- What the store of the command says about the journal.
use Rattle.std.proofs.Common.{subst, refl}
use Rattle.settings_journal.specs.Commit.{IsKept}
use Rattle.settings_journal.proofs.Active.{starts_with}
use Rattle.settings_journal.proofs.Apart.{apart_same, apart_at}
use Rattle.settings_journal.proofs.Cut.{safe_as}
use Rattle.settings_journal.proofs.Room.{one_fewer}
use Rattle.settings_journal.proofs.Storing.{still_kept, before, commit_calls}
use Rattle.settings_journal.proofs.journal.Journal.commit.Goals as goal

pub returns-then-is_exhausted-clause-stored : goal.returns-then-is_exhausted-clause-stored
returns-then-is_exhausted-clause-stored g c = rw (← c.self.view_is) (λ going. starts_with _ _ _ _ _ _ (g.met.F.Flash.sized c.self.inside.flash) (c.self.invariant going))

pub returns-then-is_exhausted-clause-kept : goal.returns-then-is_exhausted-clause-kept
returns-then-is_exhausted-clause-kept g c = rw (← c.self.view_is) (λ going left. still_kept _ _ _ _ _ _ (c.self.invariant going) left)

pub returns-in-Ok-clause-stored : goal.returns-in-Ok-clause-stored
returns-in-Ok-clause-stored g c = λ going.
    let b = before _ c.self.inside.position _ _ _ _ (c.self.invariant c.if-self.false) c.apply-next.ensures c.copy.ensures in
    let s = c.in-Ok.ensures.stored _ b in
    starts_with _ _ _ _ _ _ (g.met.F.Flash.sized c.store.new.flash) s.starts

pub returns-in-Ok-clause-counts : goal.returns-in-Ok-clause-counts
returns-in-Ok-clause-counts g c =
    let b = before _ c.self.inside.position _ _ _ _ (c.self.invariant c.if-self.false) c.apply-next.ensures c.copy.ensures in
    let s = c.in-Ok.ensures.stored _ b in
    rw (← c.self.view_is) (one_fewer _ _ _ c.if-self.false s.room)

pub returns-in-Ok-clause-generation : goal.returns-in-Ok-clause-generation
returns-in-Ok-clause-generation g c =
    let b = before _ c.self.inside.position _ _ _ _ (c.self.invariant c.if-self.false) c.apply-next.ensures c.copy.ensures in
    let s = c.in-Ok.ensures.stored _ b in
    rw (← c.self.view_is) s.generation

pub returns-in-Ok-clause-left : goal.returns-in-Ok-clause-left
returns-in-Ok-clause-left g c =
    let b = before _ c.self.inside.position _ _ _ _ (c.self.invariant c.if-self.false) c.apply-next.ensures c.copy.ensures in
    let s = c.in-Ok.ensures.stored _ b in
    rw (← c.self.view_is) (λ left. (s.kept left).left)

pub returns-in-Ok-clause-kept : goal.returns-in-Ok-clause-kept
returns-in-Ok-clause-kept g c =
    let b = before _ c.self.inside.position _ _ _ _ (c.self.invariant c.if-self.false) c.apply-next.ensures c.copy.ensures in
    let s = c.in-Ok.ensures.stored _ b in
    rw (← c.self.view_is) (λ going left. subst (λ x. IsKept (g.F.Flash.image c.store.new.flash) c.self.inside.settings x) b.next_is (s.kept left))

pub returns-in-Ok-clause-calls : goal.returns-in-Ok-clause-calls
returns-in-Ok-clause-calls g c =
    let b = before _ c.self.inside.position _ _ _ _ (c.self.invariant c.if-self.false) c.apply-next.ensures c.copy.ensures in
    let asked = c.in-Ok.ensures.calls _ b in
    let safe = safe_as _ _ _ _ _ b.next_is (c.in-Ok.ensures.cut _ b) in
    rw (← c.self.view_is) (asked.0, asked.1, commit_calls _ _ _ _ _ _ _ _ (g.met.F.Flash.sized c.self.inside.flash) b.starts (c.in-Ok.ensures.writes _ b) safe asked.2)

pub returns-in-Err-clause-calls : goal.returns-in-Err-clause-calls
returns-in-Err-clause-calls g c =
    let b = before _ c.self.inside.position _ _ _ _ (c.self.invariant c.if-self.false) c.apply-next.ensures c.copy.ensures in
    let asked = c.in-Err.ensures.calls _ b in
    let safe = safe_as _ _ _ _ _ b.next_is (c.in-Err.ensures.cut _ b) in
    rw (← c.self.view_is) (asked.0, asked.1, (_, commit_calls _ _ _ _ _ _ _ _ (g.met.F.Flash.sized c.self.inside.flash) b.starts (c.in-Err.ensures.writes _ b) safe refl, asked.2))

pub returns-in-Err-clause-left : goal.returns-in-Err-clause-left
returns-in-Err-clause-left g c =
    let b = before _ c.self.inside.position _ _ _ _ (c.self.invariant c.if-self.false) c.apply-next.ensures c.copy.ensures in
    let s = c.in-Err.ensures.stored _ b in
    rw (← c.self.view_is) (λ left. (s.kept left).left)

pub returns-in-Err-clause-kept : goal.returns-in-Err-clause-kept
returns-in-Err-clause-kept g c =
    let b = before _ c.self.inside.position _ _ _ _ (c.self.invariant c.if-self.false) c.apply-next.ensures c.copy.ensures in
    let s = c.in-Err.ensures.stored _ b in
    rw (← c.self.view_is) (λ going left. subst (λ x. IsKept (g.F.Flash.image c.store.new.flash) c.self.inside.settings x) b.next_is (s.kept left))

pub returns-then-is_exhausted-clause-apart : goal.returns-then-is_exhausted-clause-apart
returns-then-is_exhausted-clause-apart g c =
    rw (← c.self.view_is) (λ going. apart_at _ _ _ _ _ _ _ (g.met.F.Flash.sized c.self.inside.flash) (c.self.invariant going) (apart_same _ _ _ (g.F.Flash.image c.self.inside.flash)))

pub returns-in-Ok-clause-apart : goal.returns-in-Ok-clause-apart
returns-in-Ok-clause-apart g c =
    rw (← c.self.view_is) (λ going. apart_at _ (g.F.Flash.image c.store.new.flash) _ _ _ _ _ (g.met.F.Flash.sized c.self.inside.flash) (c.self.invariant going) c.in-Ok.ensures.apart)

pub returns-in-Err-clause-apart : goal.returns-in-Err-clause-apart
returns-in-Err-clause-apart g c =
    rw (← c.self.view_is) (λ going. apart_at _ (g.F.Flash.image c.store.new.flash) _ _ _ _ _ (g.met.F.Flash.sized c.self.inside.flash) (c.self.invariant going) c.in-Err.ensures.apart)
