use Rattle.std.proofs.Common.{◌≡◌, ◌∙◌, ◌+◌, List, ℕ, Some, ap, cond, drop, get_or, subst, rules, arith}
use Rattle.std.specs.Str.{bytes_eq}
use Rattle.std.specs.BTreeMap.{get_by_text}
use Rattle.std.proofs.lemmas.List.{drop_more}
use Rattle.catalogue.specs.Modules.{Module}
use Rattle.configurator.proofs.Steps.{AreNumbered, numbered_more}
use Rattle.configurator.proofs.known.numbers_of.Goals as goal

-- the module of this iteration has the next number
pub loop-module-preserved : goal.loop-module-preserved
loop-module-preserved c =
    let i = c.loop-module.module-index in
    let modules = c.args.modules.now in
    let entry = get_or modules i c.module-item.result in
    let before = subst (λ (left : List Module). AreNumbered modules left c.loop-module.next (get_by_text c.loop-module.found)) (drop_more modules i c.module-item.result c.loop-module-test.true) c.loop-module.invariant.numbered in
    let same : c.as_str.result.now ≡ entry.id = search rules in
    record {
      next = omega (arith, c.loop-module.invariant.next);
      numbered = numbered_more modules (drop (i + 1) modules) entry c.loop-module.next (get_by_text c.loop-module.found) (get_by_text c.number_module.new.numbers) before
          (λ id. c.in_ok-number_module.ensures id ∙ ap (λ (text : List ℕ). cond (bytes_eq text id) (Some c.loop-module.next) (get_by_text c.loop-module.found id)) same);
    }
