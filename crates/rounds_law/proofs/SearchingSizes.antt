-- What DCP says at the search of a device: its requests and answers, and their sizes.
use Rattle.std.proofs.Common.{◌≡◌, ◌≤◌, ◌<◌, ◌+◌, ◌%◌, ◌&&◌, ◌==◌, ℕ, Bool, true, false}
use Rattle.std.proofs.Common.{List, [], ◌∷◌, ◌++◌, length, take, drop, replicate, Option, suc, nat_eq, nat_lt}
use Rattle.std.proofs.Common.{refl, sym, ap, subst, ◌∙◌, append_assoc, arith, length-append}
use Rattle.std.specs.Prelude.{if◌then◌else◌}
use Rattle.std.specs.List.{list_all}
use Rattle.std.specs.Int.{w16, to_be_bytes}
use Rattle.std.specs.Cmp.Lexicographic.{pointwise}
use Rattle.std.proofs.lemmas.List.{length-replicate}
use Rattle.std.proofs.Math.Seq.{take-append_seam, drop-append_seam, drop-append-add, take-length}
use Rattle.std.proofs.lemmas.Bool.Decides.{nat_tests}
use Rattle.std.proofs.lemmas.Cmp.{nat_list_eq_equiv}
use Rattle.pn_values.specs.IpSuite.{Suite, is_suite}
use Rattle.pn_values.specs.declared.settings.Settings.{Settings}
use Rattle.pn_values.specs.declared.identity.Identity.{Identity}
use Rattle.pn_values.specs.declared.command.Command.TheVariants.{SetIp}
use Rattle.pn_values.specs.declared.set_item.BlockError.TheVariants as error
use Rattle.pn_values.specs.declared.set_item.SetItem.{SetItem}
use Rattle.pn_values.specs.declared.set_item.SetItem.TheVariants.{Ask, Answer}
use Rattle.dcp_core.specs.declared.kind.Kind.{Kind}
use Rattle.dcp_core.specs.declared.kind.Kind.TheVariants.{IpSuite, NameOfStation, StationType, DeviceId, DeviceRole, DeviceOptions, DeviceInstance}
use Rattle.dcp_core.specs.declared.request.Service.TheVariants.{Set, Identify as Identifies}
use Rattle.dcp_core.specs.Bytes.{block_bytes, answer_bytes}
use Rattle.dcp_core.specs.Request.{Asked}
use Rattle.dcp_core.specs.Identify.{suite_bytes, known_options, suite_info, matches, identify_bytes}
use Rattle.dcp_core.specs.Set.{plan_of, set_bytes, suite_in}
use Rattle.rounds_law.specs.Path.{IsSized}
use Rattle.rounds_law.proofs.Choices.{where_both}

-- an Identify for a name, and a Set of an IP suite
abbrev pub name_asked : List ℕ → Asked
name_asked name = record { service = Identifies; xid = 1; blocks = record { kind = NameOfStation; contents = name } ∷ [] }

abbrev pub suite_asked : Suite → Asked
suite_asked suite = record { service = Set; xid = 2; blocks = record { kind = IpSuite; contents = to_be_bytes w16 0 ++ suite_bytes suite } ∷ [] }

-- ---- the suite of a Set

front_taken : (xs ys : List ℕ) (n : ℕ) → length xs ≡ n → take n (xs ++ ys) ≡ xs
front_taken xs ys n e = subst (λ (k : ℕ). take k (xs ++ ys) ≡ xs) e (take-append_seam xs ys)

front_dropped : (xs ys : List ℕ) (n : ℕ) → length xs ≡ n → drop n (xs ++ ys) ≡ ys
front_dropped xs ys n e = subst (λ (k : ℕ). drop k (xs ++ ys) ≡ ys) e (drop-append_seam xs ys)

more_dropped : (xs ys : List ℕ) → length xs ≡ 4 → drop 8 (xs ++ ys) ≡ drop 4 ys
more_dropped xs ys e = subst (λ (k : ℕ). drop (k + 4) (xs ++ ys) ≡ drop 4 ys) e (drop-append-add xs ys 4)

whole_taken : (xs : List ℕ) → length xs ≡ 4 → take 4 xs ≡ xs
whole_taken xs e = subst (λ (k : ℕ). take k xs ≡ xs) e (take-length xs)

-- a suite whose parts have their sizes is read back
pub suite_read : (suite : Suite) → IsSized suite → suite_in (suite_bytes suite) ≡ suite
suite_read suite sized =
    ap (λ (x : List ℕ). record { address = x; mask = take 4 (drop 4 bytes); gateway = take 4 (drop 8 bytes) }) address
    ∙ ap (λ (x : List ℕ). record { address = suite.address; mask = x; gateway = take 4 (drop 8 bytes) }) mask
    ∙ ap (λ (x : List ℕ). record { address = suite.address; mask = suite.mask; gateway = x }) gateway
  where
    bytes : List ℕ
    bytes = suite_bytes suite

    listed : suite_bytes suite ≡ suite.address ++ (suite.mask ++ suite.gateway)
    listed = append_assoc suite.address suite.mask suite.gateway

    address : take 4 (suite_bytes suite) ≡ suite.address
    address = ap (take 4) listed ∙ front_taken suite.address (suite.mask ++ suite.gateway) 4 sized.address

    mask : take 4 (drop 4 (suite_bytes suite)) ≡ suite.mask
    mask = ap (λ (l : List ℕ). take 4 (drop 4 l)) listed
        ∙ (ap (take 4) (front_dropped suite.address (suite.mask ++ suite.gateway) 4 sized.address) ∙ front_taken suite.mask suite.gateway 4 sized.mask)

    gateway : take 4 (drop 8 (suite_bytes suite)) ≡ suite.gateway
    gateway = ap (λ (l : List ℕ). take 4 (drop 8 l)) listed
        ∙ (ap (take 4) (more_dropped suite.address (suite.mask ++ suite.gateway) sized.address ∙ front_dropped suite.mask suite.gateway 4 sized.mask)
        ∙ whole_taken suite.gateway sized.gateway)

-- and has twelve octets
pub suite_length : (suite : Suite) → IsSized suite → length (suite_bytes suite) ≡ 12
suite_length suite sized =
    let whole : length (suite_bytes suite) ≡ length (suite.address ++ suite.mask) + length suite.gateway =
    length-append (suite.address ++ suite.mask) suite.gateway in
    let front : length (suite.address ++ suite.mask) ≡ length suite.address + length suite.mask = length-append suite.address suite.mask in
    let a : length suite.address ≡ 4 = sized.address in
    let m : length suite.mask ≡ 4 = sized.mask in
    let g : length suite.gateway ≡ 4 = sized.gateway in
    omega arith

-- suites with the same octets are the same
pub suites_same : (one other : Suite) → IsSized one → IsSized other → suite_bytes one ≡ suite_bytes other → one ≡ other
suites_same one other first second same = sym (suite_read one first) ∙ ap suite_in same ∙ suite_read other second

-- the one block of a Set of a valid suite asks for it
pub asks_suite : (suite : Suite) → IsSized suite → is_suite suite ≡ true → plan_of false (suite_asked suite) ≡ Ask (SetIp false suite) ∷ []
unfolding plan_of
asks_suite suite sized valid =
    ap (λ (item : SetItem). item ∷ [])
    (where_both (length (0 ∷ 0 ∷ suite_bytes suite) == 14) (is_suite (suite_in (suite_bytes suite)))
    (Ask (SetIp false (suite_in (suite_bytes suite)))) (Answer error.Value)
    (ap (λ (n : ℕ). suc (suc n) == 14) (suite_length suite sized)) (ap is_suite (suite_read suite sized) ∙ valid)
    ∙ ap (λ (s : Suite). Ask (SetIp false s)) (suite_read suite sized))

-- ---- the Identify

not_empty : (n : ℕ) → nat_lt 0 (suc n) ≡ true
not_empty n = grind (arith, nat_tests)

-- a station that uses this name, which is not empty, is the one that is searched for
pub name_matches : (identity : Identity) (settings : Settings) (alias : Option (List ℕ)) (name : List ℕ) → 0 < length name
    → settings.name ≡ name → matches identity settings alias (name_asked name) ≡ true
unfolding matches
name_matches identity settings alias [] some same = absurd (omega arith)
name_matches identity settings alias (octet ∷ name) some same =
    ap (λ (is : Bool). nat_lt 0 (suc (length name)) && is && true)
    (ap (λ (n : List ℕ). pointwise nat_eq n (octet ∷ name)) same ∙ nat_list_eq_equiv.refl (octet ∷ name))
    ∙ ap (λ (is : Bool). is && true && true) (not_empty (length name))

-- ---- the sizes of the answers

abbrev padding_after : List ℕ → List ℕ
padding_after contents = replicate (length contents % 2) 0

padding_short : (contents : List ℕ) → length (padding_after contents) ≤ 1
padding_short contents = rw length-replicate (omega arith)

block_short : (kind : Kind) (contents : List ℕ) → length (block_bytes kind contents) ≤ 5 + length contents
block_short kind contents =
    let padding : length (padding_after contents) ≤ 1 = padding_short contents in
    let whole : length (contents ++ padding_after contents) ≡ length contents + length (padding_after contents) =
    length-append contents (padding_after contents) in
    omega arith

pub set_short : (suite : Suite) → length (set_bytes (suite_asked suite) (error.Done ∷ [])) ≤ 1498
unfolding set_bytes
set_short suite = omega arith

info_length : (zero : Bool) → length {A = ℕ} (if zero then 0 ∷ 0 ∷ [] else 0 ∷ 1 ∷ []) ≡ 2
info_length true = refl
info_length false = refl

abbrev valued_suite : Settings → List ℕ
valued_suite settings = block_bytes IpSuite (suite_info (suite_bytes settings.suite) ++ suite_bytes settings.suite)

abbrev before_suite : Identity → Settings → List ℕ
before_suite identity settings =
    block_bytes StationType (0 ∷ 0 ∷ identity.station_type.items) ++ block_bytes NameOfStation (0 ∷ 0 ∷ settings.name)
    ++ block_bytes DeviceId (0 ∷ 0 ∷ to_be_bytes w16 identity.vendor_id ++ to_be_bytes w16 identity.device_id)
    ++ block_bytes DeviceRole (0 ∷ 0 ∷ 1 ∷ 0 ∷ []) ++ block_bytes DeviceOptions (0 ∷ 0 ∷ known_options)
    ++ block_bytes DeviceInstance (0 ∷ 0 ∷ to_be_bytes w16 identity.instance)

abbrev blocks_said : Identity → Settings → List ℕ
blocks_said identity settings = before_suite identity settings ++ valued_suite settings

joined_short : (xs ys : List ℕ) (m n : ℕ) → length xs ≤ m → length ys ≤ n → length (xs ++ ys) ≤ m + n
joined_short xs ys m n few others = let e : length (xs ++ ys) ≡ length xs + length ys = length-append xs ys in omega arith

suite_short : (settings : Settings) → IsSized settings.suite → length (valued_suite settings) ≤ 19
suite_short settings sized =
    let block : length (valued_suite settings) ≤ 5 + length (suite_info (suite_bytes settings.suite) ++ suite_bytes settings.suite) =
    block_short IpSuite (suite_info (suite_bytes settings.suite) ++ suite_bytes settings.suite) in
    let info : length (suite_info (suite_bytes settings.suite)) ≡ 2 = info_length (list_all (λ octet. octet == 0) (suite_bytes settings.suite)) in
    let whole : length (suite_info (suite_bytes settings.suite) ++ suite_bytes settings.suite)
    ≡ length (suite_info (suite_bytes settings.suite)) + length (suite_bytes settings.suite) =
    length-append (suite_info (suite_bytes settings.suite)) (suite_bytes settings.suite) in
    let twelve : length (suite_bytes settings.suite) ≡ 12 = suite_length settings.suite sized in
    omega arith

value_short : (kind : Kind) (value : List ℕ) (most : ℕ) → length value ≤ most → length (block_bytes kind (0 ∷ 0 ∷ value)) ≤ 7 + most
value_short kind value most few =
    let block : length (block_bytes kind (0 ∷ 0 ∷ value)) ≤ 5 + length (0 ∷ 0 ∷ value) = block_short kind (0 ∷ 0 ∷ value) in
    omega arith

pub identify_short : (identity : Identity) (settings : Settings) → length identity.station_type.items ≤ 25 → length settings.name ≤ 240 → IsSized settings.suite
    → length (identify_bytes identity settings 1) ≤ 1498
unfolding identify_bytes
identify_short identity settings few named sized = all (blocks_said identity settings) blocks
  where
    device_ident : List ℕ
    device_ident = block_bytes DeviceId (0 ∷ 0 ∷ to_be_bytes w16 identity.vendor_id ++ to_be_bytes w16 identity.device_id)

    texts : List ℕ
    texts = block_bytes StationType (0 ∷ 0 ∷ identity.station_type.items) ++ block_bytes NameOfStation (0 ∷ 0 ∷ settings.name)

    one : length texts ≤ 279
    one = joined_short (block_bytes StationType (0 ∷ 0 ∷ identity.station_type.items)) (block_bytes NameOfStation (0 ∷ 0 ∷ settings.name)) 32 247
        (value_short StationType identity.station_type.items 25 few) (value_short NameOfStation settings.name 240 named)

    two : length (texts ++ device_ident) ≤ 290
    two = joined_short texts device_ident 279 11 one (omega arith)

    three : length (texts ++ device_ident ++ block_bytes DeviceRole (0 ∷ 0 ∷ 1 ∷ 0 ∷ [])) ≤ 299
    three = joined_short (texts ++ device_ident) (block_bytes DeviceRole (0 ∷ 0 ∷ 1 ∷ 0 ∷ [])) 290 9 two (omega arith)

    four : length (texts ++ device_ident ++ block_bytes DeviceRole (0 ∷ 0 ∷ 1 ∷ 0 ∷ []) ++ block_bytes DeviceOptions (0 ∷ 0 ∷ known_options)) ≤ 330
    four = joined_short (texts ++ device_ident ++ block_bytes DeviceRole (0 ∷ 0 ∷ 1 ∷ 0 ∷ []))
        (block_bytes DeviceOptions (0 ∷ 0 ∷ known_options)) 299 31 three (omega arith)

    front : length (before_suite identity settings) ≤ 500
    front = let more : length (before_suite identity settings) ≤ 330 + 9 =
        joined_short (texts ++ device_ident ++ block_bytes DeviceRole (0 ∷ 0 ∷ 1 ∷ 0 ∷ []) ++ block_bytes DeviceOptions (0 ∷ 0 ∷ known_options))
        (block_bytes DeviceInstance (0 ∷ 0 ∷ to_be_bytes w16 identity.instance)) 330 9 four (omega arith) in omega arith

    blocks : length (blocks_said identity settings) ≤ 519
    blocks =
        joined_short (before_suite identity settings) (valued_suite settings) 500 19 front (suite_short settings sized)

    all : (blocks : List ℕ) → length blocks ≤ 519 → length (answer_bytes 5 1 blocks) ≤ 1498
    all blocks few = omega arith
