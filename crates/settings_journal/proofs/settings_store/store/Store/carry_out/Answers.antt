-- The cases of no item, one more item, and all items.
use Rattle.std.proofs.Common.{◌+◌, ◌++◌, ◌∷◌, [], length, take, take_all, sym, ◌∙◌, ap, subst, refl, arith}
use Rattle.std.proofs.lemmas.List.{take_more}
use Rattle.settings_journal.specs.settings_store.Carries.{Carries, Holds}
use Rattle.settings_journal.proofs.SettingsStoreCrash.{carries_then}
use Rattle.settings_journal.proofs.SettingsStoreSteps.{nothing}
use Rattle.settings_journal.proofs.settings_store.store.Store.carry_out.Goals as goal

pub loop-item-init : goal.loop-item-init
loop-item-init g c =
    let holds : Holds (g.F.Flash.image c.args.self.now.flash) c.args.self.now.values =
    subst (λ s. Holds (g.F.Flash.image s.flash) s.values) c.self.view_is c.self.invariant in
    record {
      carries = rw c.new-answers.ensures (nothing g.F.Flash c.args.self.now holds);
      each = ap length c.new-answers.ensures;
      reliable = λ sound. (sound, refl);
    }

pub loop-item-preserved : goal.loop-item-preserved
loop-item-preserved g c = record {
  carries = rw (take_more c.args.items.now c.loop-item.item-index c.item-item.result c.loop-item-test.true ∙ ap (λ i. take c.loop-item.item-index c.args.items.now ++ i ∷ []) (sym c.item-item.is), c.push.ensures.items)
      (carries_then g.F.Flash c.args.self.now c.loop-item.self c.carry-answer.new.self _ _ _ _
      c.loop-item.invariant.carries c.carry-answer.ensures.listed);
  each = omega (arith, c.loop-item.invariant.each, c.push.ensures.len);
  reliable = λ sound.
      let so = c.loop-item.invariant.reliable sound in
      let on = c.carry-answer.ensures.reliable so.0 in
      (on.0, on.1 ∙ so.1);
}

pub returns-clause-carries : goal.returns-clause-carries
returns-clause-carries g c =
    subst (λ items. Carries g.F.Flash c.args.self.now items c.loop-item.answers.items c.loop-item.self)
    (take_all c.loop-item.item-index c.args.items.now c.loop-item-test.false) c.loop-item.invariant.carries

pub returns-clause-reliable : goal.returns-clause-reliable
returns-clause-reliable g c = c.loop-item.invariant.reliable
