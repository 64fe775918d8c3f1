-- One output more.
use Rattle.std.proofs.Common.{◌++◌, ◌∷◌, [], ℕ, List, Option, get_or, map, option_map, take, sym, ap, ◌∙◌}
use Rattle.std.proofs.lemmas.List.{map-append, take_more}
use Rattle.startup_octets.specs.declared.outputs.Output.{Output}
use Rattle.startup_octets.specs.OutputWorlds.{octets_in, shown_at}
use Rattle.startup_octets.proofs.outputs.shown_outputs.Goals as goal

-- in the place of an item that does not exist
abbrev no_output : Output
no_output = record { slot = 0; subslot = 0; size = 0 }

pub loop-output-preserved : goal.loop-output-preserved
loop-output-preserved g c =
    let device = c.args.world.now.device in
    let all = c.as_slice-output-items.result.now in
    let so_far = c.loop-output.output-index in
    let one = get_or all so_far no_output in
    ap octets_in c.in_ok-push.ensures.items
    ∙ map-append (λ one. option_map (λ octets. octets.items) one) c.loop-output.shown.items (c.output_at.result ∷ [])
    ∙ ap (λ (l : List (Option (List ℕ))). l ++ option_map (λ octets. octets.items) c.output_at.result ∷ []) c.loop-output.invariant
    ∙ ap (λ (x : Option (List ℕ)). map (shown_at device) (take so_far all) ++ x ∷ []) (c.output_at.ensures ∙ ap (λ d. shown_at d one) c.device.ensures)
    ∙ sym (map-append (shown_at device) (take so_far all) (one ∷ []))
    ∙ ap (map (shown_at device)) (sym (take_more all so_far no_output c.loop-output-test.true))
