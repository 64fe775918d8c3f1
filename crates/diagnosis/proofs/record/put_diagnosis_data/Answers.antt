-- A slot, and then the rest.
use Rattle.std.proofs.Common.{◌≡◌, ◌∙◌, ◌++◌, ◌+◌, List, ℕ, [], true, ap, drop, get_or, subst, take, rules, arith}
use Rattle.std.proofs.lemmas.List.{drop_all, drop_more}
use Rattle.diagnosis.specs.Record.{modules_bytes, slot_bytes}
use Rattle.pn_values.specs.declared.real.RealModule.{RealModule}
use Rattle.diagnosis.proofs.Cut.{goes_on, is_cut}
use Rattle.diagnosis.proofs.record.put_diagnosis_data.Goals as goal

pub loop-entry-preserved : goal.loop-entry-preserved
loop-entry-preserved g c =
    let i = c.loop-entry.entry-index in
    let all = c.as_slice-entry-items.result.now in
    let whole = take 1308 (modules_bytes (g.P.Places.has_of c.args.places.now) c.args.diagnoses.now all) in
    let before = subst (λ (left : List RealModule). take 1308 (c.loop-entry.octets.items ++ modules_bytes (g.P.Places.has_of c.args.places.now) c.args.diagnoses.now left) ≡ whole)
    (drop_more all i c.entry-item.result c.loop-entry-test.true) c.loop-entry.invariant.octets in
    record {
      octets = goes_on 1308 c.put_slot.new.octets.items c.loop-entry.octets.items
          (slot_bytes (g.P.Places.has_of c.args.places.now) c.args.diagnoses.now (get_or all i c.entry-item.result).slot (get_or all i c.entry-item.result).submodules.items) (modules_bytes (g.P.Places.has_of c.args.places.now) c.args.diagnoses.now (drop (i + 1) all)) whole (search rules) before;
      few = c.put_slot.ensures.few;
    }

pub returns : goal.returns
returns g c =
    let all = c.as_slice-entry-items.result.now in
    let whole = take 1308 (modules_bytes (g.P.Places.has_of c.args.places.now) c.args.diagnoses.now all) in
    let before = subst (λ (left : List RealModule). take 1308 (c.loop-entry.octets.items ++ modules_bytes (g.P.Places.has_of c.args.places.now) c.args.diagnoses.now left) ≡ whole)
    (drop_all c.loop-entry.entry-index all (omega (arith, c.loop-entry-test.false))) c.loop-entry.invariant.octets in
    is_cut 1308 c.loop-entry.octets.items whole c.loop-entry.invariant.few before
    ∙ ap (λ (entries : List RealModule). take 1308 (modules_bytes (g.P.Places.has_of c.args.places.now) c.args.diagnoses.now entries)) c.as_slice-entry-items.ensures.value
