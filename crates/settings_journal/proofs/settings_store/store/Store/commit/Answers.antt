-- What the store does for each result of the journal.
use Rattle.std.proofs.Common.{◌≡◌, true, false, [], ◌∷◌, Err, subst, ap, inl, inr}
use Rattle.pn_values.specs.Command.{show}
use Rattle.pn_values.specs.declared.set_item.SetItem.TheVariants.{Ask}
use Rattle.pn_values.specs.declared.set_item.BlockError.TheVariants.{Done, Exhausted, Local}
use Rattle.settings_journal.specs.settings_store.Carries.{CarriesItem}
use Rattle.settings_journal.proofs.SettingsStoreSteps.{seen, is_fine, is_failed, passed, faulted, refused, full}
use Rattle.settings_journal.proofs.settings_store.store.Store.commit.Goals as goal

pub returns-in-Ok-clause-carries : goal.returns-in-Ok-clause-carries
returns-in-Ok-clause-carries g c =
    let fine : c.self.inside.journal.has_failed ≡ false = is_fine _ (λ h. let e = c.in-Ok.ensures.failed.1 h in cc) in
    let still : c.commit.new.self.has_failed ≡ false = c.in-Ok.ensures.has_failed.1 (fine, λ e. cc) in
    let shown : c.show-self-inside.result ≡ show c.args.command.now c.self.inside.running = cc in
    subst (λ s. CarriesItem g.F.Flash s (Ask c.args.command.now) Done (seen g.F.Flash.is_lost c.commit.new.self c.show-self-inside.result))
    c.self.view_is
    (passed g.F.Flash c.self.inside.journal c.commit.new.self c.self.inside.running c.show-self-inside.result c.args.command.now
    fine still c.in-Ok.ensures.settings c.in-Ok.ensures.room shown c.in-Ok.ensures.lost c.in-Ok.ensures.cause c.in-Ok.ensures.left c.in-Ok.ensures.stored
    c.in-Ok.ensures.calls.0 c.in-Ok.ensures.calls.1 c.in-Ok.ensures.calls.2 c.in-Ok.ensures.stays_lost)

pub returns-in-Ok-clause-reliable : goal.returns-in-Ok-clause-reliable
returns-in-Ok-clause-reliable g c =
    let fine : c.self.inside.journal.has_failed ≡ false = is_fine _ (λ h. let e = c.in-Ok.ensures.failed.1 h in cc) in
    let still : c.commit.new.self.has_failed ≡ false = c.in-Ok.ensures.has_failed.1 (fine, λ e. cc) in
    subst (λ s. g.F.Flash.is_reliable s.flash → g.F.Flash.is_reliable c.commit.new.self.flash × (c.commit.new.self.has_failed ≡ s.values.has_failed))
    c.self.view_is (λ sound. ((c.in-Ok.ensures.reliable sound).0, cc))

pub returns-in-Err-Exhausted-clause-carries : goal.returns-in-Err-Exhausted-clause-carries
returns-in-Err-Exhausted-clause-carries g c =
    let is = ap (λ f. Err f) c.in-Err-Exhausted.field-0-is in
    let none = c.in-Err-Exhausted.ensures.exhausted.0 is in
    let same : c.commit.new.self ≡ c.self.inside.journal = c.in-Err-Exhausted.ensures.untouched (inr is) in
    subst (λ s. CarriesItem g.F.Flash s (Ask c.args.command.now) Exhausted (seen g.F.Flash.is_lost c.commit.new.self c.self.inside.running))
    c.self.view_is
    (full g.F.Flash c.self.inside.journal c.commit.new.self c.self.inside.running c.args.command.now same none.0 none.1 c.self.invariant)

pub returns-in-Err-FlashFault-clause-carries : goal.returns-in-Err-FlashFault-clause-carries
returns-in-Err-FlashFault-clause-carries g c =
    let asks = rw c.in-Err-FlashFault.field-0-is at c.in-Err-FlashFault.ensures.calls.2 in
    let fine : c.self.inside.journal.has_failed ≡ false = is_fine _ (λ h. let e = c.in-Err-FlashFault.ensures.failed.1 h in cc) in
    let failed : c.commit.new.self.has_failed ≡ true =
    is_failed _ (λ h. (c.in-Err-FlashFault.ensures.has_failed.0 h).1 (ap (λ f. Err f) c.in-Err-FlashFault.field-0-is)) in
    subst (λ s. CarriesItem g.F.Flash s (Ask c.args.command.now) Local (seen g.F.Flash.is_lost c.commit.new.self c.self.inside.running))
    c.self.view_is
    (faulted g.F.Flash c.self.inside.journal c.commit.new.self c.self.inside.running c.args.command.now
    fine failed (λ none. let e = c.in-Err-FlashFault.ensures.exhausted.1 (fine, none) in cc)
    c.in-Err-FlashFault.ensures.refused.0 c.in-Err-FlashFault.ensures.refused.1
    (rw c.in-Err-FlashFault.field-0-is at c.in-Err-FlashFault.ensures.cause) c.in-Err-FlashFault.ensures.left (c.in-Err-FlashFault.ensures.kept fine)
    c.in-Err-FlashFault.ensures.calls.0 c.in-Err-FlashFault.ensures.calls.1 asks.0 asks.1 asks.2 c.in-Err-FlashFault.ensures.stays_lost)

pub returns-in-Err-Failed-clause-carries : goal.returns-in-Err-Failed-clause-carries
returns-in-Err-Failed-clause-carries g c =
    let is = ap (λ f. Err f) c.in-Err-Failed.field-0-is in
    let same : c.commit.new.self ≡ c.self.inside.journal = c.in-Err-Failed.ensures.untouched (inl is) in
    subst (λ s. CarriesItem g.F.Flash s (Ask c.args.command.now) Local (seen g.F.Flash.is_lost c.commit.new.self c.self.inside.running))
    c.self.view_is
    (refused g.F.Flash c.self.inside.journal c.commit.new.self c.self.inside.running c.args.command.now same
    (c.in-Err-Failed.ensures.failed.0 is))
