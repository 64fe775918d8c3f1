use Rattle.std.proofs.Common.{◌≡◌, ◌∙◌, refl, sym, ap, false, cond, Some, length, string_bytes}
use Rattle.std.specs.Str.{bytes_eq}
use Rattle.std.proofs.lemmas.Bool.{not-true}
use Rattle.catalogue.proofs.Places.{id_behind}
use Rattle.catalogue.specs.Modules.{has_id, module_item}
use Rattle.catalogue.proofs.module.module_of.Goals as goal

-- no module before has the ID
pub returns-clause-read : goal.returns-clause-read
unfolding module_item
returns-clause-read c =
    let new : has_id c.as_str.result.now c.args.before.now ≡ false = not-true _ (sym c.is_new-is_new.ensures ∙ c.if-not-is_new.false) in
    rw c.in_ok-id.ensures (rw (sym c.as_str.ensures.value) (rw new (rw c.in_ok-ident.ensures (rw c.in_ok-submodules.ensures refl))))

-- and the module is at the place after the others
pub returns-clause-places : goal.returns-clause-places
returns-clause-places c = λ id.
    let new : has_id (string_bytes c.in_ok-id.id) c.args.before.now ≡ false = rw (sym c.as_str.ensures.value) (not-true _ (sym c.is_new-is_new.ensures ∙ c.if-not-is_new.false)) in
    let put = c.in_ok-put_place.ensures id in
    (rw c.as_str-2.ensures.value at put)
    ∙ ap (cond (bytes_eq (string_bytes c.in_ok-id.id) id) (Some (length c.args.before.now))) (c.requires id)
    ∙ sym (id_behind c.args.before.now _ id new)
