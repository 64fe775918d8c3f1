-- The place with an index, in the borrowed memory.
use Rattle.std.proofs.Common.{◌≡◌, List, length, sym, ap, subst, ◌∙◌, arith}
use Rattle.std.proofs.lemmas.Option.{slice_get-get_or}
use Rattle.connect_blocks.specs.declared.io_object.IoObject.{IoObject}
use Rattle.connect_blocks.specs.declared.io_objects.Place.{Place}
use Rattle.connect_blocks.specs.Objects.{objects_in}
use Rattle.connect_blocks.specs.Places.{objects_at, IsRead}
use Rattle.connect_blocks.proofs.io_objects.IoObjects.object.Goals as goal

pub object_in-requires : goal.object_in-requires
object_in-requires c =
    let same : c.args.self.now ≡ objects_in c.in-Octets.count c.in-Octets.octets.now = sym c.self.view_is ∙ ap (λ (p : Place). objects_at p) c.in-Octets.is in
    let long = ap (λ (xs : List IoObject). length xs) same in
    record {
      read = subst (λ (p : Place). IsRead p) c.in-Octets.is c.self.invariant.read;
      below = omega (arith, c.requires, long);
      few = omega (arith, c.self.invariant.few, ap (λ (p : Place). length (objects_at p)) c.in-Octets.is);
    }

pub returns-in-Listed : goal.returns-in-Listed
returns-in-Listed c =
    let same : c.args.self.now ≡ c.in-Listed.list.now = sym c.self.view_is ∙ ap (λ (p : Place). objects_at p) c.in-Listed.is in
    rw same (slice_get-get_or c.in-Listed.list.now c.args.index _ (omega (arith, c.requires, ap (λ (xs : List IoObject). length xs) same)))
