-- The blocks of a request: those of the format are those that are read at fixed places.
use Rattle.std.proofs.Common.{◌≡◌, ◌+◌, ◌*◌, ◌≤◌, ◌<◌, ◌==◌, ◌%◌, ◌&&◌, ltb, ℕ, zero, suc, Bool, false, List, [], ◌∷◌, length, map, take, drop, nat_le, Option, Some, None, Result, Ok, Err, if◌then◌else◌, option_map, refl, sym, ap, subst, ◌∙◌, arith}
use Rattle.std.proofs.lemmas.Bool.{and_from, and_parts, cond-false, cond-true, le-leb, le-ltb, leb-false, leb-true, lt-ltb, ltb-false, ltb-true, ne_eqb}
use Rattle.std.proofs.lemmas.List.{drop-drop, length-drop, length-take-le}
use Rattle.byteorder.specs.Endian.{big_number}
use Rattle.wire.specs.Codec.{Whole, ◌>>=◌}
use Rattle.wire.specs.Filled.{read_all}
use Rattle.wire.specs.Whole.{everything}
use Rattle.dcp_core.specs.declared.request.DcpFault.{DcpFault}
use Rattle.dcp_core.specs.declared.request.DcpFault.TheVariants as fault
use Rattle.dcp_core.specs.Format.{at_least, block, kind, pair}
use Rattle.dcp_core.specs.Kinds.{kind_of}
use Rattle.dcp_core.specs.Request.{AskedBlock}
use Rattle.field_words.specs.Octets.{octet_at, part_at, word_at}
use Rattle.end_laws.proofs.CyclicAccepting.{one_read}
use Rattle.end_laws.proofs.CyclicPlaces.{two_read, word_dropped}
use Rattle.answers_law.specs.Requests.{Block, block_in, blocks_at, pair_in, pairs_at}
use Rattle.answers_law.proofs.Tests.{by_test, no_false}

-- A block as the format has it.
abbrev pub asked_of : Block → AskedBlock
asked_of block = record { kind = kind_of block.option block.suboption; contents = block.value }

-- What the format reads of blocks that are there or not.
abbrev pub as_read : Option (List Block) → Result (List AskedBlock) DcpFault
as_read (Some blocks) = Ok (map asked_of blocks)
as_read None = Err fault.Block

one_more : (one : Block) (found : Option (List Block)) → (as_read found >>= λ values. Ok (asked_of one ∷ values)) ≡ as_read (option_map (λ blocks. one ∷ blocks) found)
one_more one (Some blocks) = refl
one_more one None = refl

some_length : (first : ℕ) (more : List ℕ) → (length (first ∷ more) == 0) ≡ false
some_length first more = ne_eqb (length (first ∷ more)) 0 (λ e. omega (arith, e))

-- ---- blocks with a length

-- What a block is read as, and what follows it.
abbrev found_as : ℕ → ℕ → List ℕ → List ℕ → Result (AskedBlock × List ℕ) DcpFault
found_as option suboption contents behind = Ok (record { kind = kind_of option suboption; contents = contents }, behind)

abbrev pub next_of : List ℕ → List ℕ
next_of octets = drop (4 + word_at 2 octets + word_at 2 octets % 2) octets

module _ (whole : Whole DcpFault (List ℕ)) (least : ℕ)
    (judges : (contents : List ℕ) → whole.read contents ≡ (if ltb (length contents) least then Err fault.Block else Ok contents)) where
  module _ (octets : List ℕ) (long : 4 ≤ length octets) where
    abbrev one : List ℕ
    one = drop 1 octets

    abbrev two : List ℕ
    two = drop 1 one

    abbrev rest : List ℕ
    rest = drop 2 two

    abbrev size : ℕ
    size = big_number 2 two

    at_one : 1 ≤ length octets
    at_one = omega (arith, long)

    at_two : 1 ≤ length one
    at_two = let a = length-drop 1 octets in omega (arith, long, a)

    at_size : 2 ≤ length two
    at_size = let a = length-drop 1 octets in let b = length-drop 1 one in omega (arith, long, a, b)

    raw_good : size ≤ length rest → least ≤ size
        → (block whole).read octets ≡ found_as (big_number 1 octets) (big_number 1 one) (take size rest) (drop (length (take size rest) % 2) (drop size rest))
    unfolding block kind
    raw_good there enough =
        let wide = length-take-le size rest there in
        let judged : whole.read (take size rest) ≡ Ok (take size rest) =
        judges (take size rest) ∙ cond-false (ltb (length (take size rest)) least) _ _ (le-ltb (length (take size rest)) least (subst (λ (n : ℕ). least ≤ n) (sym wide) enough)) in
        rw (le-ltb (length octets) 1 at_one, le-ltb (length one) 1 at_two, le-ltb (length two) 2 at_size, le-ltb (length rest) size there, judged) refl

    raw_short : length rest < size → (block whole).read octets ≡ Err fault.Block
    unfolding block kind
    raw_short short =
        rw (le-ltb (length octets) 1 at_one, le-ltb (length one) 1 at_two, le-ltb (length two) 2 at_size, lt-ltb (length rest) size short) refl

    raw_few : size ≤ length rest → size < least → (block whole).read octets ≡ Err fault.Block
    unfolding block kind
    raw_few there few =
        let wide = length-take-le size rest there in
        let judged : whole.read (take size rest) ≡ Err fault.Block =
        judges (take size rest) ∙ cond-true (ltb (length (take size rest)) least) _ _ (lt-ltb (length (take size rest)) least (subst (λ (n : ℕ). n < least) (sym wide) few)) in
        rw (le-ltb (length octets) 1 at_one, le-ltb (length one) 1 at_two, le-ltb (length two) 2 at_size, le-ltb (length rest) size there, judged) refl

    -- the same places, counted from the front
    two_is : two ≡ drop 2 octets
    two_is = drop-drop 1 1 octets

    rest_is : rest ≡ drop 4 octets
    rest_is = ap (λ (l : List ℕ). drop 2 l) two_is ∙ drop-drop 2 2 octets

    size_is : size ≡ word_at 2 octets
    size_is = sym (two_read two at_size) ∙ (ap (λ (l : List ℕ). word_at 0 l) two_is ∙ word_dropped 2 0 octets)

    rest_length : length rest + 4 ≡ length octets
    rest_length = let a = length-drop 1 octets in let b = length-drop 1 one in let c = length-drop 2 two in omega (arith, long, a, b, c)

    one_is : big_number 1 octets ≡ octet_at 0 octets
    one_is = one_read octets at_one

    other_is : big_number 1 one ≡ octet_at 1 octets
    other_is = one_read one at_two ∙ first_behind octets
      where
        first_behind : (l : List ℕ) → octet_at 0 (drop 1 l) ≡ octet_at 1 l
        first_behind [] = refl
        first_behind (x ∷ []) = refl
        first_behind (x ∷ y ∷ l) = refl

    -- A block that is there is read.
    pub block_good : least ≤ word_at 2 octets → 4 + word_at 2 octets ≤ length octets → (block whole).read octets ≡ Ok (asked_of (block_in octets), next_of octets)
    block_good enough there =
        let n = word_at 2 octets in
        let fits : size ≤ length rest = let s = size_is in let r = rest_length in omega (arith, s, r, there) in
        let wide : length (take size rest) ≡ n = length-take-le size rest fits ∙ size_is in
        let value : take size rest ≡ part_at 4 n octets = ap (λ (m : ℕ). take m rest) size_is ∙ ap (λ (l : List ℕ). take n l) rest_is in
        let sum : 4 + (n + n % 2) ≡ 4 + n + n % 2 = omega arith in
        let behind : drop (length (take size rest) % 2) (drop size rest) ≡ next_of octets =
        ap (λ (m : ℕ). drop (m % 2) (drop size rest)) wide ∙ (ap (λ (m : ℕ). drop (n % 2) (drop m rest)) size_is
        ∙ (ap (λ (l : List ℕ). drop (n % 2) (drop n l)) rest_is ∙ (drop-drop (n % 2) n (drop 4 octets)
        ∙ (drop-drop (n + n % 2) 4 octets ∙ ap (λ (m : ℕ). drop m octets) sum)))) in
        raw_good fits (subst (λ (m : ℕ). least ≤ m) (sym size_is) enough)
        ∙ (ap (λ (o : ℕ). found_as o (big_number 1 one) (take size rest) (drop (length (take size rest) % 2) (drop size rest))) one_is
        ∙ (ap (λ (s : ℕ). found_as (octet_at 0 octets) s (take size rest) (drop (length (take size rest) % 2) (drop size rest))) other_is
        ∙ (ap (λ (l : List ℕ). found_as (octet_at 0 octets) (octet_at 1 octets) l (drop (length (take size rest) % 2) (drop size rest))) value
        ∙ ap (λ (l : List ℕ). found_as (octet_at 0 octets) (octet_at 1 octets) (part_at 4 n octets) l) behind)))

    pub block_bad : (nat_le least (word_at 2 octets) && nat_le (4 + word_at 2 octets) (length octets)) ≡ false → (block whole).read octets ≡ Err fault.Block
    block_bad bad = by_test (ltb (length rest) size) (λ short. raw_short (ltb-true (length rest) size short)) (λ there. by_test (nat_le least (word_at 2 octets))
        (λ enough. absurd (no_false (sym bad ∙ and_from _ _ enough
        (le-leb (4 + word_at 2 octets) (length octets) (let t = ltb-false (length rest) size there in let s = size_is in let r = rest_length in omega (arith, t, s, r))))))
        (λ few. raw_few (ltb-false (length rest) size there) (subst (λ (m : ℕ). m < least) (sym size_is) (leb-false least (word_at 2 octets) few))))

  tiny_one : (a : ℕ) → (block whole).read (a ∷ []) ≡ Err fault.Block
  unfolding block kind
  tiny_one a = refl

  tiny_two : (a b : ℕ) → (block whole).read (a ∷ b ∷ []) ≡ Err fault.Block
  unfolding block kind
  tiny_two a b = refl

  tiny_three : (a b c : ℕ) → (block whole).read (a ∷ b ∷ c ∷ []) ≡ Err fault.Block
  unfolding block kind
  tiny_three a b c = refl

  none_read : (octets : List ℕ) → 0 < length octets → (nat_le least (word_at 2 octets) && nat_le (4 + word_at 2 octets) (length octets)) ≡ false → (block whole).read octets ≡ Err fault.Block
  none_read [] some bad = absurd (omega (arith, some))
  none_read (a ∷ []) some bad = tiny_one a
  none_read (a ∷ b ∷ []) some bad = tiny_two a b
  none_read (a ∷ b ∷ c ∷ []) some bad = tiny_three a b c
  none_read (a ∷ b ∷ c ∷ d ∷ behind) some bad = block_bad (a ∷ b ∷ c ∷ d ∷ behind) (omega arith) bad

  -- The blocks are read as they are there.
  pub blocks_read : (most : ℕ) (octets : List ℕ) → read_all most fault.Block (block whole) octets ≡ as_read (blocks_at least most octets)
  unfolding read_all
  blocks_read zero [] = refl
  blocks_read (suc most) [] = refl
  blocks_read zero (first ∷ more) = cond-false (length (first ∷ more) == 0) _ _ (some_length first more)
  blocks_read (suc most) (first ∷ more) =
      let octets : List ℕ = first ∷ more in
      let test : Bool = nat_le least (word_at 2 octets) && nat_le (4 + word_at 2 octets) (length octets) in
      let found : Option (List Block) = option_map (λ blocks. block_in octets ∷ blocks) (blocks_at least most (next_of octets)) in
      cond-false (length octets == 0) _ _ (some_length first more) ∙ by_test test (λ good.
      let parts = and_parts (nat_le least (word_at 2 octets)) (nat_le (4 + word_at 2 octets) (length octets)) good in
      let there = leb-true (4 + word_at 2 octets) (length octets) parts.1 in
      ap (λ (r : Result (AskedBlock × List ℕ) DcpFault). r >>= λ x. read_all most fault.Block (block whole) x.1 >>= λ values. Ok (x.0 ∷ values))
      (block_good octets (omega (arith, there)) (leb-true least (word_at 2 octets) parts.0) there)
      ∙ (ap (λ (r : Result (List AskedBlock) DcpFault). r >>= λ values. Ok (asked_of (block_in octets) ∷ values)) (blocks_read most (next_of octets))
      ∙ (one_more (block_in octets) (blocks_at least most (next_of octets)) ∙ ap as_read (sym (cond-true test found None good)))))
      (λ bad. ap (λ (r : Result (AskedBlock × List ℕ) DcpFault). r >>= λ x. read_all most fault.Block (block whole) x.1 >>= λ values. Ok (x.0 ∷ values))
      (none_read octets (omega arith) bad)
      ∙ ap as_read (sym (cond-false test found None bad)))

-- What the contents of a block may be.
pub any_judged : (contents : List ℕ) → (let w : Whole DcpFault (List ℕ) = everything in w).read contents ≡ (if ltb (length contents) 0 then Err fault.Block else Ok contents)
any_judged contents = sym (cond-false (ltb (length contents) 0) _ _ (le-ltb (length contents) 0 (omega arith)))

pub least_judged : (contents : List ℕ) → (at_least fault.Block 2).read contents ≡ (if ltb (length contents) 2 then Err fault.Block else Ok contents)
least_judged contents = refl

-- ---- pairs

pair_read : (octets : List ℕ) → 2 ≤ length octets
    → pair.read octets ≡ found_as (big_number 1 octets) (big_number 1 (drop 1 octets)) [] (drop 1 (drop 1 octets))
unfolding pair kind
pair_read octets long =
    let a = length-drop 1 octets in
    rw (le-ltb (length octets) 1 (omega (arith, long)), le-ltb (length (drop 1 octets)) 1 (omega (arith, long, a))) refl

half_read : (a : ℕ) → pair.read (a ∷ []) ≡ Err fault.Block
unfolding pair kind
half_read a = refl

alone : (n : ℕ) → n * 1 + 0 ≡ n
alone n = omega arith

two_read_of : (a b : ℕ) (more : List ℕ) → pair.read (a ∷ b ∷ more) ≡ Ok (asked_of (pair_in a b), more)
two_read_of a b more =
    pair_read (a ∷ b ∷ more) (omega arith)
    ∙ (ap (λ (o : ℕ). found_as o (b * 1 + 0) [] more) (alone a) ∙ ap (λ (s : ℕ). found_as a s [] more) (alone b))

pub pairs_read : (most : ℕ) (octets : List ℕ) → read_all most fault.Block pair octets ≡ as_read (pairs_at most octets)
unfolding read_all
pairs_read zero [] = refl
pairs_read (suc most) [] = refl
pairs_read zero (first ∷ more) = cond-false (length (first ∷ more) == 0) _ _ (some_length first more)
pairs_read (suc most) (first ∷ []) =
    ap (λ (r : Result (AskedBlock × List ℕ) DcpFault). r >>= λ x. read_all most fault.Block pair x.1 >>= λ values. Ok (x.0 ∷ values)) (half_read first)
pairs_read (suc most) (first ∷ second ∷ more) =
    let one : Block = pair_in first second in
    cond-false (length (first ∷ second ∷ more) == 0) _ _ (some_length first (second ∷ more))
    ∙ (ap (λ (r : Result (AskedBlock × List ℕ) DcpFault). r >>= λ x. read_all most fault.Block pair x.1 >>= λ values. Ok (x.0 ∷ values)) (two_read_of first second more)
    ∙ (ap (λ (r : Result (List AskedBlock) DcpFault). r >>= λ values. Ok (asked_of one ∷ values)) (pairs_read most more)
    ∙ one_more one (pairs_at most more)))
