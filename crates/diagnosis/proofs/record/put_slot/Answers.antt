-- A submodule, and then the rest.
use Rattle.std.proofs.Common.{◌≡◌, ◌∙◌, ◌++◌, ◌+◌, List, ℕ, [], true, ap, drop, get_or, subst, take, rules, arith}
use Rattle.std.proofs.lemmas.List.{drop_all, drop_more}
use Rattle.diagnosis.specs.Record.{slot_bytes, submodule_bytes}
use Rattle.pn_values.specs.declared.real.RealSubmodule.{RealSubmodule}
use Rattle.diagnosis.proofs.Cut.{goes_on, is_cut}
use Rattle.diagnosis.proofs.record.put_slot.Goals as goal

pub loop-part-preserved : goal.loop-part-preserved
loop-part-preserved g c =
    let i = c.loop-part.part-index in
    let all = c.args.parts.now in
    let whole = take 1308 (c.args.octets.now.items ++ slot_bytes (g.P.Places.has_of c.args.places.now) c.args.diagnoses.now c.args.slot all) in
    let before = subst (λ (left : List RealSubmodule). take 1308 (c.loop-part.octets.items ++ slot_bytes (g.P.Places.has_of c.args.places.now) c.args.diagnoses.now c.args.slot left) ≡ whole)
    (drop_more all i c.part-item.result c.loop-part-test.true) c.loop-part.invariant.octets in
    record {
      octets = goes_on 1308 c.put_submodule.new.octets.items c.loop-part.octets.items
          (submodule_bytes (g.P.Places.has_of c.args.places.now) c.args.diagnoses.now c.args.slot (get_or all i c.part-item.result).subslot) (slot_bytes (g.P.Places.has_of c.args.places.now) c.args.diagnoses.now c.args.slot (drop (i + 1) all)) whole (search rules) before;
      few = c.put_submodule.ensures.few;
    }

pub returns-clause-items : goal.returns-clause-items
returns-clause-items g c =
    let all = c.args.parts.now in
    let whole = take 1308 (c.args.octets.now.items ++ slot_bytes (g.P.Places.has_of c.args.places.now) c.args.diagnoses.now c.args.slot all) in
    let before = subst (λ (left : List RealSubmodule). take 1308 (c.loop-part.octets.items ++ slot_bytes (g.P.Places.has_of c.args.places.now) c.args.diagnoses.now c.args.slot left) ≡ whole)
    (drop_all c.loop-part.part-index all (omega (arith, c.loop-part-test.false))) c.loop-part.invariant.octets in
    is_cut 1308 c.loop-part.octets.items whole c.loop-part.invariant.few before
