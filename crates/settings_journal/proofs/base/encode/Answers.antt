-- The pieces, one after the other, are a base.
use Rattle.std.proofs.Common.{◌≡◌, [], ◌∷◌, ◌∙◌, ap, length, rules}
use Rattle.settings_journal.specs.Head.{front_of, base_of, name_field, IsSettings}
use Rattle.settings_journal.proofs.Parts.{put_more, length-base_of}
use Rattle.settings_journal.proofs.base.encode.Goals as goal

value : (c : goal.After-put-10) → c.put-10.new.base.items ≡ base_of c.args.generation c.args.settings.now
unfolding front_of
value c =
    let name = c.as_bytes-name.ensures.value in
    let magic = put_more c.new-base.ensures c.put.ensures c.magic.ensures in
    let generation = put_more magic c.put-2.ensures c.to_be_bytes.ensures in
    let counted = put_more generation c.put-3.ensures (ap (λ text. length text ∷ []) name) in
    let named = put_more counted c.put_name.ensures (ap name_field name) in
    let address = put_more named c.put-4.ensures c.address.ensures.value in
    let mask = put_more address c.put-5.ensures c.mask.ensures.value in
    let gateway = put_more mask c.put-6.ensures c.gateway.ensures.value in
    let im1 = put_more gateway c.put-7.ensures c.as_bytes.ensures.value in
    let im2 = put_more im1 c.put-8.ensures c.as_bytes-2.ensures.value in
    let im3 = put_more im2 c.put-9.ensures c.as_bytes-3.ensures.value in
    put_more im3 c.put-10.ensures c.as_bytes-4.ensures.value

pub returns-clause-value : goal.returns-clause-value
returns-clause-value c = value c

pub returns-clause-length : goal.returns-clause-length
returns-clause-length c =
    let valid : IsSettings c.args.settings.now = search rules in
    ap length (value c) ∙ length-base_of _ _ valid
