use Rattle.std.proofs.Common.{◌≡◌, ℕ, List, [], ◌∷◌, ◌++◌, ap, ◌∙◌, append_assoc}
use Rattle.rpc_services.specs.endpoint_mapper.Annotation.{annotation, in_five, software_text, space, type_text}
use Rattle.rpc_services.proofs.endpoint_mapper.annotation.put_annotation.Goals as goal

-- one part after the others
after : (out front tail x y : List ℕ) → x ≡ out ++ front → y ≡ x ++ tail → y ≡ out ++ (front ++ tail)
after out front tail x y e f = f ∙ ap (λ (xs : List ℕ). xs ++ tail) e ∙ append_assoc out front tail

pub returns-clause-items : goal.returns-clause-items
unfolding annotation
returns-clause-items c =
    let id = c.args.identity.now in
    let out = c.args.out.now.items in
    let five = in_five id.hardware_revision in
    let end : List ℕ = 0 ∷ [] in
    let number = c.append-4.ensures.items ∙ ap (λ (xs : List ℕ). c.append-3.new.out.items ++ xs) c.in_five.ensures in
    let first = after out (type_text id) space _ c.append.new.out.items c.put_type.ensures.items c.append.ensures.items in
    let order = after out _ id.order_id _ c.append-2.new.out.items first c.append-2.ensures.items in
    let second = after out _ space _ c.append-3.new.out.items order c.append-3.ensures.items in
    let hardware = after out _ five _ c.append-4.new.out.items second number in
    let third = after out _ space _ c.append-5.new.out.items hardware c.append-5.ensures.items in
    let software = after out _ (software_text id.software_revision) _ c.put_software.new.out.items third c.put_software.ensures.items in
    after out _ end _ c.append-6.new.out.items software c.append-6.ensures.items
