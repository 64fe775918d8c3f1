-- A written response spells its contents.
use Rattle.std.proofs.Common.{◌≡◌, ℕ, ◌+◌, ◌*◌, ◌^◌, ◌<◌, ◌≤◌, ◌%◌, Bool, true, false, cond, List, [], ◌∷◌, ◌++◌, length, map, replicate, Option, Some, None, Result, Ok, refl, sym, ap, ◌∙◌, subst, append_assoc, arith}
use Rattle.std.specs.List.{list_all, flat_map, zip}
use Rattle.std.specs.Prelude.{◌==◌}
use Rattle.std.specs.Int.{w16, w32, to_be_bytes}
use Rattle.std.proofs.lemmas.Bool.{le-ltb}
use Rattle.std.proofs.lemmas.List.{append-nil, drop_at, length-append, length-replicate}
use Rattle.wire.specs.Formats.{number, big_number}
use Rattle.wire.proofs.Fields.{number_sound}
use Rattle.wire.specs.Whole.{everything}
use Rattle.wire.specs.Filled.{SpellAll}
use Rattle.pn_values.specs.declared.set_item.BlockError.{BlockError}
use Rattle.pn_values.specs.declared.set_item.BlockError.TheVariants as error
use Rattle.pn_values.specs.declared.identity.Identity.{Identity}
use Rattle.pn_values.specs.declared.settings.Settings.{Settings}
use Rattle.dcp_core.specs.declared.kind.Kind.{Kind}
use Rattle.dcp_core.specs.declared.kind.Kind.TheVariants as named_kind
use Rattle.dcp_core.specs.declared.request.DcpFault.{DcpFault}
use Rattle.dcp_core.specs.declared.request.DcpFault.TheVariants as fault
use Rattle.dcp_core.specs.declared.request.Service.{Service}
use Rattle.dcp_core.specs.declared.request.Service.TheVariants.{Get, Set, Identify}
use Rattle.dcp_core.specs.declared.response.Outcome.TheVariants.{Known}
use Rattle.dcp_core.specs.Kinds.{option_of, suboption_of, blame}
use Rattle.dcp_core.specs.Request.{Asked, AskedBlock}
use Rattle.dcp_core.specs.Format.{kind, block, id_of}
use Rattle.dcp_core.specs.Bytes.{block_bytes, error_number, response_bytes, answer_bytes}
use Rattle.dcp_core.specs.Identify.{valued, suite_bytes, known_options, identify_bytes}
use Rattle.dcp_core.specs.Get.{got, firsts_of, get_bytes}
use Rattle.dcp_core.specs.Set.{set_bytes}
use Rattle.dcp_core.specs.Response.{AnsweredBlock, reported, came_out}
use Rattle.dcp_core.specs.Answer.{outcome_of, said_by, value_in, answer_block, answer_blocks, answer_to, answer_data, answer_header_and_data, answer, IsAnswer}
use Rattle.dcp_core.specs.Reported.{named, reported_of, outcome_reported, supported, identify_kinds, identify_said, get_said, set_said}
use Rattle.dcp_core.proofs.AnswerSound.{answer_block_sound, answer_block_shrinks}

-- ---- blocks

-- a number of one byte
one_byte : {F : Type 0} (short : F) (byte : ℕ) (rest : List ℕ) → (number short 1).Spells (byte ∷ rest) byte rest
one_byte short byte rest = (byte ∷ [], refl, refl, omega arith)

-- a number of two bytes
two_bytes : {F : Type 0} (short : F) (n : ℕ) (rest : List ℕ) → n < 65536 → (number short 2).Spells (to_be_bytes w16 n ++ rest) n rest
two_bytes short n rest below = (number_sound short 2).written n rest below

-- a number of four bytes
four_bytes : {F : Type 0} (short : F) (n : ℕ) (rest : List ℕ) → n < 2 ^ 32 → (number short 4).Spells (to_be_bytes w32 n ++ rest) n rest
four_bytes short n rest below = (number_sound short 4).written n rest below

-- a block is spelled, with anything after it
block_spelled : (about : Kind) (contents rest : List ℕ) → length contents < 65536
    → (block everything).Spells (block_bytes about contents ++ rest) (record { kind = named about; contents = contents }) rest
unfolding block kind
block_spelled about contents rest below =
    let pad : List ℕ = replicate (length contents % 2) 0 in
    let behind : List ℕ = (contents ++ pad) ++ rest in
    let numbered = to_be_bytes w16 (length contents) ++ behind in (
      (record { kind = named about; contents = contents }, tt),
      refl,
      (
        pad ++ rest,
        (
          (named about, contents),
          refl,
          (
            numbered,
            (
              (option_of about, suboption_of about),
              refl,
              (suboption_of about ∷ numbered, one_byte fault.Block (option_of about) (suboption_of about ∷ numbered), one_byte fault.Block (suboption_of about) numbered),
            ),
            (contents, behind, two_bytes fault.Block (length contents) behind below, append_assoc contents pad rest, refl),
          ),
        ),
        sym (drop_at pad rest (length contents % 2) (length-replicate (length contents % 2) 0)),
      ),
    )

-- a value after a BlockInfo
value_spelled : (about : Kind) (high low : ℕ) (value rest : List ℕ) → named about ≡ about → said_by about (high ∷ low ∷ value) ≡ value_in about (high ∷ low ∷ value)
    → length value + 2 < 65536 → answer_block.Spells (block_bytes about (high ∷ low ∷ value) ++ rest) (reported about (high * 256 + low) value) rest
unfolding answer_block
value_spelled about high low value rest same is below =
    let contents : List ℕ = high ∷ low ∷ value in
    let info : big_number 2 contents ≡ high * 256 + low = omega arith in
    let long : 2 ≤ length contents = omega arith in
    let said : value_in about contents ≡ Ok (reported about (high * 256 + low) value) = rw (le-ltb (length contents) 2 long, info) refl in (
      record { kind = about; contents = contents },
      is ∙ said,
      subst (λ (k : Kind). (block everything).Spells (block_bytes about contents ++ rest) (record { kind = k; contents = contents }) rest) same
          (block_spelled about contents rest (omega arith)),
    )

known : (e : BlockError) → outcome_of (error_number e) ≡ Known e
known error.Done = refl
known error.Option = refl
known error.Suboption = refl
known error.Value = refl
known error.Exhausted = refl
known error.Local = refl
known error.InOperation = refl

-- the outcome of a block or pair
response_spelled : (about : Kind) (e : BlockError) (rest : List ℕ) → answer_block.Spells (response_bytes about e ++ rest) (came_out (named about) (Known e)) rest
unfolding answer_block
response_spelled about e rest =
    let contents : List ℕ = option_of about ∷ suboption_of about ∷ error_number e ∷ [] in (
      record { kind = named_kind.Response; contents = contents },
      ap (λ outcome. Ok (came_out (named about) outcome)) (known e),
      block_spelled named_kind.Response contents rest (omega arith),
    )

-- the contents are not longer than the block
block_long : (about : Kind) (contents : List ℕ) → length contents ≤ length (block_bytes about contents)
block_long about contents =
    let pad : List ℕ = replicate (length contents % 2) 0 in
    let head : List ℕ = option_of about ∷ suboption_of about ∷ to_be_bytes w16 (length contents) in
    omega (arith, length-append (head ++ contents) pad, length-append head contents)

-- a value whose BlockInfo is 0
plain : (about : Kind) (value rest : List ℕ) → named about ≡ about → said_by about (0 ∷ 0 ∷ value) ≡ value_in about (0 ∷ 0 ∷ value)
    → length (block_bytes about (0 ∷ 0 ∷ value)) ≤ 1498 → answer_block.Spells (block_bytes about (0 ∷ 0 ∷ value) ++ rest) (reported about 0 value) rest
plain about value rest same is short = let long = block_long about (0 ∷ 0 ∷ value) in value_spelled about 0 0 value rest same is (omega arith)

-- the IP suite, whose BlockInfo says whether an address is set
suite_spelled : (is_zero : Bool) (value rest : List ℕ) → length (block_bytes named_kind.IpSuite (cond is_zero (0 ∷ 0 ∷ []) (0 ∷ 1 ∷ []) ++ value)) ≤ 1498
    → answer_block.Spells (block_bytes named_kind.IpSuite (cond is_zero (0 ∷ 0 ∷ []) (0 ∷ 1 ∷ []) ++ value) ++ rest) (reported named_kind.IpSuite (cond is_zero 0 1) value) rest
suite_spelled true value rest short = plain named_kind.IpSuite value rest refl refl short
suite_spelled false value rest short =
    let long = block_long named_kind.IpSuite (0 ∷ 1 ∷ value) in value_spelled named_kind.IpSuite 0 1 value rest refl refl (omega arith)

-- the name by the place, or the error that says why it has none
alias_spelled : (identity : Identity) (settings : Settings) (alias : Option (List ℕ)) (rest : List ℕ) → length (got identity settings alias named_kind.AliasName) ≤ 1498
    → answer_block.Spells (got identity settings alias named_kind.AliasName ++ rest) (reported_of identity settings alias named_kind.AliasName) rest
alias_spelled identity settings (Some alias) rest short = plain named_kind.AliasName alias rest refl refl short
alias_spelled identity settings None rest short = response_spelled named_kind.AliasName (blame named_kind.AliasName) rest

-- what a station reports of a kind
got_spelled : (identity : Identity) (settings : Settings) (alias : Option (List ℕ)) (about : Kind) (rest : List ℕ) → length (got identity settings alias about) ≤ 1498
    → answer_block.Spells (got identity settings alias about ++ rest) (reported_of identity settings alias about) rest
got_spelled identity settings alias named_kind.MacAddress rest short = plain named_kind.MacAddress identity.mac.octets rest refl refl short
got_spelled identity settings alias named_kind.IpSuite rest short =
    suite_spelled (list_all (λ octet. octet == 0) (suite_bytes settings.suite)) (suite_bytes settings.suite) rest short
got_spelled identity settings alias named_kind.StationType rest short = plain named_kind.StationType identity.station_type.items rest refl refl short
got_spelled identity settings alias named_kind.NameOfStation rest short = plain named_kind.NameOfStation settings.name rest refl refl short
got_spelled identity settings alias named_kind.DeviceId rest short =
    plain named_kind.DeviceId (to_be_bytes w16 identity.vendor_id ++ to_be_bytes w16 identity.device_id) rest refl refl short
got_spelled identity settings alias named_kind.DeviceRole rest short = plain named_kind.DeviceRole (1 ∷ 0 ∷ []) rest refl refl short
got_spelled identity settings alias named_kind.DeviceOptions rest short = plain named_kind.DeviceOptions known_options rest refl refl short
got_spelled identity settings alias named_kind.AliasName rest short = alias_spelled identity settings alias rest short
got_spelled identity settings alias named_kind.DeviceInstance rest short = plain named_kind.DeviceInstance (to_be_bytes w16 identity.instance) rest refl refl short
got_spelled identity settings alias about rest short = response_spelled about (blame about) rest

module _ {X : Type 0} (bytes_of : X → List ℕ) (said : X → AnsweredBlock)
    (each : (x : X) (rest : List ℕ) → length (bytes_of x) ≤ 1498 → answer_block.Spells (bytes_of x ++ rest) (said x) rest) where
  all_spelled : (xs : List X) → length (flat_map bytes_of xs) ≤ 1498 → SpellAll answer_block (flat_map bytes_of xs) (map said xs)
  all_spelled [] short = refl
  all_spelled (x ∷ xs) short =
      let rest : List ℕ = flat_map bytes_of xs in
      let parts = length-append (bytes_of x) rest in
      let s = each x rest (omega arith) in
      let less = answer_block_shrinks.less (bytes_of x ++ rest) (said x) rest (answer_block_sound.again (bytes_of x ++ rest) (said x) rest s) in
      (omega arith, rest, s, all_spelled xs (omega arith))

-- ---- responses

-- a header and blocks
answer_spelled : (frame_id : ℕ) (service : Service) (xid : ℕ) (bytes : List ℕ) (blocks : List AnsweredBlock) → answer_to frame_id (id_of service) 1 ≡ Ok (service, true)
    → xid < 2 ^ 32 → length bytes < 65536 → SpellAll answer_block bytes blocks → IsAnswer frame_id (answer_bytes (id_of service) xid bytes) (supported service xid blocks)
unfolding IsAnswer answer answer_header_and_data answer_data answer_blocks
answer_spelled frame_id service xid bytes blocks to below short all =
    let sized : List ℕ = to_be_bytes w16 (length bytes) ++ bytes in
    let reserved : List ℕ = 0 ∷ 0 ∷ sized in
    let numbered : List ℕ = to_be_bytes w32 xid ++ reserved in (
      [],
      (
        ((id_of service, (1, (xid, tt))), ((service, true), blocks)),
        refl,
        (
          sized,
          (
            1 ∷ numbered,
            one_byte fault.Length (id_of service) (1 ∷ numbered),
            (
              numbered,
              one_byte fault.Length 1 numbered,
              (
                reserved,
                four_bytes fault.Length xid reserved below,
                (0, refl, two_bytes fault.Length 0 sized (omega arith)),
              ),
            ),
          ),
          (
            bytes,
            bytes,
            two_bytes fault.Length (length bytes) bytes short,
            sym (append-nil bytes),
            subst (λ (r : Result (Service × Bool) DcpFault). (answer_data r).Spells bytes ((service, true), blocks)) (sym to) (blocks, refl, all),
          ),
        ),
      ),
    )

regroup : (a b c d e f g : List ℕ) → (((((a ++ b) ++ c) ++ d) ++ e) ++ f) ++ g ≡ a ++ (b ++ (c ++ (d ++ (e ++ (f ++ (g ++ []))))))
regroup a b c d e f g = simp (append_assoc, append-nil)

header_long : (service xid : ℕ) (blocks : List ℕ) → length (answer_bytes service xid blocks) ≡ 10 + length blocks
header_long service xid blocks = omega arith

pub identify_spelled : (identity : Identity) (settings : Settings) (xid : ℕ) → length (identify_bytes identity settings xid) ≤ 1498 → xid < 2 ^ 32
    → IsAnswer 0xFEFF (identify_bytes identity settings xid) (identify_said identity settings xid)
unfolding identify_bytes
identify_spelled identity settings xid short below =
    let value : Kind → List ℕ = valued identity settings None in
    let blocks : List ℕ = flat_map (got identity settings None) identify_kinds in
    let grouped : (((((value named_kind.StationType ++ value named_kind.NameOfStation) ++ value named_kind.DeviceId) ++ value named_kind.DeviceRole)
    ++ value named_kind.DeviceOptions) ++ value named_kind.DeviceInstance) ++ value named_kind.IpSuite ≡ blocks =
    regroup (value named_kind.StationType) (value named_kind.NameOfStation) (value named_kind.DeviceId) (value named_kind.DeviceRole)
    (value named_kind.DeviceOptions) (value named_kind.DeviceInstance) (value named_kind.IpSuite) in
    let fits : length (answer_bytes 5 xid blocks) ≤ 1498 = subst (λ (bytes : List ℕ). length (answer_bytes 5 xid bytes) ≤ 1498) grouped short in
    let sized = header_long 5 xid blocks in
    subst (λ (bytes : List ℕ). IsAnswer 0xFEFF (answer_bytes 5 xid bytes) (identify_said identity settings xid)) (sym grouped)
    (answer_spelled 0xFEFF Identify xid blocks (map (reported_of identity settings None) identify_kinds) refl below (omega arith)
    (all_spelled (got identity settings None) (reported_of identity settings None) (got_spelled identity settings None) identify_kinds (omega arith)))

pub get_spelled : (identity : Identity) (settings : Settings) (alias : Option (List ℕ)) (request : Asked) → length (get_bytes identity settings alias request) ≤ 1498 → request.xid < 2 ^ 32
    → IsAnswer 0xFEFD (get_bytes identity settings alias request) (get_said identity settings alias request)
unfolding get_bytes
get_spelled identity settings alias request short below =
    let kinds : List Kind = firsts_of [] (map (λ (block : AskedBlock). block.kind) request.blocks) in
    let blocks : List ℕ = flat_map (got identity settings alias) kinds in
    let sized = header_long 3 request.xid blocks in
    answer_spelled 0xFEFD Get request.xid blocks (map (reported_of identity settings alias) kinds) refl below (omega arith)
    (all_spelled (got identity settings alias) (reported_of identity settings alias) (got_spelled identity settings alias) kinds (omega arith))

pub set_spelled : (request : Asked) (answers : List BlockError) → length (set_bytes request answers) ≤ 1498 → request.xid < 2 ^ 32
    → IsAnswer 0xFEFD (set_bytes request answers) (set_said request answers)
unfolding set_bytes
set_spelled request answers short below =
    let bytes_of : AskedBlock × BlockError → List ℕ = λ pair. response_bytes pair.0.kind pair.1 in
    let pairs : List (AskedBlock × BlockError) = zip request.blocks answers in
    let blocks : List ℕ = flat_map bytes_of pairs in
    let sized = header_long 4 request.xid blocks in
    answer_spelled 0xFEFD Set request.xid blocks (map outcome_reported pairs) refl below (omega arith)
    (all_spelled bytes_of outcome_reported (λ pair rest _. response_spelled pair.0.kind pair.1 rest) pairs (omega arith))
