-- One TLV after another.
use Rattle.std.proofs.Common.{◌≡◌, ℕ, List, ◌∷◌, Option, Some, None, Ok, sym, ap, ◌∙◌}
use Rattle.std.proofs.lemmas.Result.{err_from_is_err_and}
use Rattle.pn_values.specs.declared.mac.Mac.{Mac}
use Rattle.lldp.specs.Tlv.{Tlv}
use Rattle.lldp.specs.Message.{next_of, read_others}
use Rattle.lldp.specs.Peer.{mac_behind, mac_in, mac_or}
use Rattle.lldp.specs.Views.{tlv_as}
use Rattle.lldp.proofs.Sound.{each, each_same, next_shrinks, others_end, others_fail, others_step}
use Rattle.lldp.proofs.message.mac_at.Goals as goal

pub loop-tlv-smaller : goal.loop-tlv-smaller
loop-tlv-smaller c =
    let is : next_of c.loop-tlv.rest.now ≡ Ok (Some (tlv_as c.in-Some.tlv, c.in-Some.behind.now)) = rw c.in-Some.is at c.in_ok-tlv.ensures in
    next_shrinks c.loop-tlv.rest.now (tlv_as c.in-Some.tlv, c.in-Some.behind.now) is

pub returns-in_err-tlv : goal.returns-in_err-tlv
returns-in_err-tlv c =
    let p = err_from_is_err_and c.from_residual.result c.from_residual.ensures.1 in
    let so_far = c.loop-tlv.invariant in
    rw (p.1, p.2) (sym so_far.2 ∙ others_fail (λ ts. mac_or c.loop-tlv.found (mac_in c.args.source ts)) so_far.0 c.loop-tlv.rest.now c.in_err-tlv.field-0.0 so_far.1 c.in_err-tlv.ensures)

pub loop-tlv-preserved : goal.loop-tlv-preserved
loop-tlv-preserved c =
    let source = c.args.source in
    let x : Tlv × List ℕ = (tlv_as c.in-Some.tlv, c.in-Some.behind.now) in
    let is : next_of c.loop-tlv.rest.now ≡ Ok (Some x) = rw c.in-Some.is at c.in_ok-tlv.ensures in
    let so_far = c.loop-tlv.invariant in
    let step = others_step (λ ts. mac_or c.loop-tlv.found (mac_in source ts)) so_far.0 c.loop-tlv.rest.now x so_far.1 is in
    let same : each (λ ts. mac_or c.first_told-found.result (mac_in source ts)) (read_others step.0 x.1) ≡ each (λ ts. mac_or c.loop-tlv.found (mac_in source (x.0 ∷ ts))) (read_others step.0 x.1) =
    each_same _ _ (read_others step.0 x.1) (λ ts. c.first_told-found.ensures (mac_in source ts)) in
    let all : each (λ ts. mac_or c.first_told-found.result (mac_in source ts)) (read_others step.0 x.1) ≡ mac_behind source c.args.bytes.now = same ∙ (sym step.2 ∙ so_far.2) in
    (step.0, step.1, all)

-- what the first TLVs say, or the source address
pub returns-in-None : goal.returns-in-None
returns-in-None c =
    let source = c.args.source in
    let so_far = c.loop-tlv.invariant in
    let ends : next_of c.loop-tlv.rest.now ≡ Ok None = rw c.in_default.is at c.in_ok-tlv.ensures in
    sym so_far.2 ∙ (others_end (λ ts. mac_or c.loop-tlv.found (mac_in source ts)) so_far.0 c.loop-tlv.rest.now ends ∙ ap (λ (found : Option Mac). Ok (mac_or found source)) c.in-None.is)

pub returns-in-Some-found : goal.returns-in-Some-found
returns-in-Some-found c =
    let source = c.args.source in
    let so_far = c.loop-tlv.invariant in
    let ends : next_of c.loop-tlv.rest.now ≡ Ok None = rw c.in_default.is at c.in_ok-tlv.ensures in
    sym so_far.2 ∙ (others_end (λ ts. mac_or c.loop-tlv.found (mac_in source ts)) so_far.0 c.loop-tlv.rest.now ends ∙ ap (λ (found : Option Mac). Ok (mac_or found source)) c.in-Some-found.is)
