-- A base and its parts: which settings it spells, and that it spells no others.
use Rattle.std.proofs.Common.{◌≡◌, ℕ, ◌+◌, ◌-◌, ◌<◌, ◌≤◌, List, [], ◌∷◌, ◌++◌, length, take, drop, get_or, replicate, refl, sym, ap, subst, ◌∙◌, inl, inr, arith, lit<, lit≤}
use Rattle.std.specs.Prelude.{slice_range}
use Rattle.std.specs.Int.{w16, to_be_bytes, from_be_bytes}
use Rattle.std.proofs.lemmas.List.{take-append-drop, take-take, take_at, drop_at, length-append, length-take, length-drop, length-replicate, get_or-take, get_or-drop, get_or_past, drop_more, drop-replicate, take_all}
use Rattle.std.proofs.lemmas.Bool.{cases_lt}
use Rattle.pn_values.specs.StationName.{IsNameOrNone}
use Rattle.pn_values.specs.IpSuite.{Suite, IsSuite}
use Rattle.std.proofs.lemmas.Slice.{between_is}
use Rattle.std.proofs.lemmas.Nat.{be_bytes_2, from_be_bytes-to_be_bytes_2}
use Rattle.pn_values.specs.declared.settings.Settings.{Settings}
use Rattle.flash_model.specs.Image.{AreBytes}
use Rattle.settings_journal.specs.declared.head.Version.{Version}
use Rattle.settings_journal.specs.declared.head.Version.TheVariants.{One, Two}
use Rattle.settings_journal.specs.Head.{magic_of, version_at, generation_at, front_of, base_of, im4_at, name_field, HasName, IsSettings, Spells}
use Rattle.settings_journal.proofs.Rising.{stored_bytes}

-- a range of this many positions
pub range_at : (xs : List ℕ) (from upto size : ℕ) → upto - from ≡ size → slice_range xs from upto ≡ take size (drop from xs)
range_at xs from upto size e = ap (λ n. take n (drop from xs)) e

-- a prefix is a shorter prefix followed by the items up to its end
front_more : (xs : List ℕ) (i j : ℕ) → i ≤ j → take j xs ≡ take i xs ++ slice_range xs i j
front_more xs i j h =
    let e = take-append-drop i (take j xs) in
    let f = take-take i j xs h in
    let b = between_is xs i j in
    cc

-- two lists whose ends have equal lengths are equal in both parts
split_back : (xs ys ps qs : List ℕ) → xs ++ ys ≡ ps ++ qs → length ys ≡ length qs → (xs ≡ ps) × (ys ≡ qs)
split_back xs ys ps qs e l =
    let n : length xs ≡ length ps = omega (arith, length-append xs ys, length-append ps qs, ap length e, l) in
    (sym (take_at xs ys _ refl) ∙ ap (take (length xs)) e ∙ take_at ps qs _ (sym n), sym (drop_at xs ys _ refl) ∙ ap (drop (length xs)) e ∙ drop_at ps qs _ (sym n))

length_range : (head : List ℕ) (i j : ℕ) → 383 ≤ length head → j ≤ 383 → length (slice_range head i j) ≡ j - i
length_range head i j l h = simp (length-take, length-drop) (omega arith)

range_byte : (xs : List ℕ) (i j k : ℕ) → AreBytes xs → get_or (slice_range xs i j) k 0 < 256
range_byte xs i j k bytes =
    elim (cases_lt k (j - i)) [
      | inl h ↦ (let e = get_or-take (j - i) (drop i xs) k 0 h ∙ get_or-drop i xs k 0 in rw e (bytes (i + k)))
      | inr h ↦
          (let past : length (slice_range xs i j) ≤ k = omega (arith, length-take (j - i) (drop i xs)) in
          let e = get_or_past (slice_range xs i j) k 0 past in
          rw e (lit< tt))
    ]

name_short : (name : List ℕ) → IsNameOrNone name → length name ≤ 240
name_short name (inl e) = rw e (lit≤ tt)
name_short name (inr h) = h.short

length-name_field : (name : List ℕ) → length name ≤ 240 → length (name_field name) ≡ 240
length-name_field name h = simp (length-append, length-replicate) (omega arith)

same_zeros : (a b : List ℕ) → length a ≡ length b → length {A = ℕ} (replicate (240 - length a) 0) ≡ length {A = ℕ} (replicate (240 - length b) 0)
same_zeros a b e = length-replicate (240 - length a) 0 ∙ ap (λ n. 240 - n) e ∙ sym (length-replicate (240 - length b) 0)

made : {A B C D : Type 0} (f : A → B → C → C → C → C → D) (a x : A) (b y : B) (c d e g u v w z : C) → a ≡ x → b ≡ y → c ≡ u → d ≡ v → e ≡ w → g ≡ z → f a b c d e g ≡ f x y u v w z
made f a x b y c d e g u v w z h i j k l m = cc

made_three : {C D : Type 0} (f : C → C → C → D) (a b c u v w : C) → a ≡ u → b ≡ v → c ≡ w → f a b c ≡ f u v w
made_three f a b c u v w h i j = cc

-- the parts of the first 383 bytes of a base, each at its offset
pub record Parts (head : List ℕ) (version : Version) (generation : ℕ) (settings : Settings) : Type 0 where
  pub front : take 4 head ≡ magic_of version
  pub stored : slice_range head 4 6 ≡ to_be_bytes w16 (65535 - generation)
  pub name : HasName head settings.name
  pub address : slice_range head 247 251 ≡ settings.suite.address
  pub mask : slice_range head 251 255 ≡ settings.suite.mask
  pub gateway : slice_range head 255 259 ≡ settings.suite.gateway
  pub im1 : slice_range head 259 313 ≡ settings.im1
  pub im2 : slice_range head 313 329 ≡ settings.im2
  pub im3 : slice_range head 329 383 ≡ settings.im3

byte_at_six : (head : List ℕ) → 383 ≤ length head → slice_range head 6 7 ≡ get_or head 6 0 ∷ []
byte_at_six head l = ap (take 1) (drop_more head 6 0 (omega arith))

whole : (head : List ℕ) → take 383 head
    ≡ take 4 head ++ slice_range head 4 6 ++ slice_range head 6 7 ++ slice_range head 7 247 ++ slice_range head 247 251
    ++ slice_range head 251 255 ++ slice_range head 255 259 ++ slice_range head 259 313 ++ slice_range head 313 329 ++ slice_range head 329 383
whole head = cc (front_more head 4 6 (omega arith), front_more head 6 7 (omega arith), front_more head 7 247 (omega arith), front_more head 247 251 (omega arith), front_more head 251 255 (omega arith), front_more head 255 259 (omega arith), front_more head 259 313 (omega arith), front_more head 313 329 (omega arith), front_more head 329 383 (omega arith))

pub front_from_parts : (head : List ℕ) (version : Version) (generation : ℕ) (settings : Settings) → 383 ≤ length head → Parts head version generation settings → take 383 head ≡ front_of version generation settings
unfolding front_of
front_from_parts head version generation settings l p =
    let w = whole head in
    let six = byte_at_six head l in
    cc (w, six, p.front, p.stored, p.name.length, p.name.field, p.address, p.mask, p.gateway, p.im1, p.im2, p.im3)

length_joined : (a b c d e f g h i j : List ℕ) → length (a ++ b ++ c ++ d ++ e ++ f ++ g ++ h ++ i ++ j)
    ≡ length a + length b + length c + length d + length e + length f + length g + length h + length i + length j
length_joined a b c d e f g h i j = simp length-append

pub length-front_of : (version : Version) (generation : ℕ) (settings : Settings) → IsSettings settings → length (front_of version generation settings) ≡ 383
unfolding front_of
length-front_of version generation settings valid =
    let name = length-name_field settings.name (name_short settings.name valid.name) in
    let suite = settings.suite in
    length_joined (magic_of version) (to_be_bytes w16 (65535 - generation)) (length settings.name ∷ []) (name_field settings.name) suite.address suite.mask suite.gateway settings.im1 settings.im2 settings.im3
    ∙ omega (arith, name, valid.address, valid.mask, valid.gateway, valid.im1, valid.im2, valid.im3)

base_long : (head : List ℕ) → length (take 383 head) ≡ 383 → 383 ≤ length head
base_long head e = omega (arith, length-take 383 head)

pub length-base_of : (generation : ℕ) (settings : Settings) → IsSettings settings → length (base_of generation settings) ≡ 437
length-base_of generation settings valid =
    omega (arith, length-append (front_of Two generation settings) settings.im4, length-front_of Two generation settings valid, valid.im4)

-- the parts of the first 383 bytes of a base
pub parts_from_front : (head : List ℕ) (version : Version) (generation : ℕ) (settings : Settings) → IsSettings settings → take 383 head ≡ front_of version generation settings → Parts head version generation settings
unfolding front_of
parts_from_front head version generation settings valid base =
    let l : 383 ≤ length head = base_long head (omega (arith, ap length base, length-front_of version generation settings valid)) in
    let e10 = sym (whole head) ∙ base in
    let p10 = split_back _ _ _ _ e10 (length_range head 329 383 l (lit≤ tt) ∙ sym valid.im3) in
    let p9 = split_back _ _ _ _ p10.0 (length_range head 313 329 l (lit≤ tt) ∙ sym valid.im2) in
    let p8 = split_back _ _ _ _ p9.0 (length_range head 259 313 l (lit≤ tt) ∙ sym valid.im1) in
    let p7 = split_back _ _ _ _ p8.0 (length_range head 255 259 l (lit≤ tt) ∙ sym valid.gateway) in
    let p6 = split_back _ _ _ _ p7.0 (length_range head 251 255 l (lit≤ tt) ∙ sym valid.mask) in
    let p5 = split_back _ _ _ _ p6.0 (length_range head 247 251 l (lit≤ tt) ∙ sym valid.address) in
    let short = name_short settings.name valid.name in
    let p4 = split_back _ _ _ _ p5.0 (length_range head 7 247 l (lit≤ tt) ∙ sym (length-name_field settings.name short)) in
    let p3 = split_back _ _ _ _ p4.0 (length_range head 6 7 l (lit≤ tt)) in
    let p2 = split_back _ _ _ _ p3.0 (length_range head 4 6 l (lit≤ tt)) in
    let six : get_or head 6 0 ∷ [] ≡ length settings.name ∷ [] = sym (byte_at_six head l) ∙ p3.1 in
    record {
      front = p2.0;
      stored = p2.1;
      name = record { short = short; length = cc; field = p4.1 };
      address = p5.1;
      mask = p6.1;
      gateway = p7.1;
      im1 = p8.1;
      im2 = p9.1;
      im3 = p10.1;
    }

-- settings that agree in each part are equal
pub settings_same : (s t : Settings) → s.name ≡ t.name → s.suite ≡ t.suite → s.im1 ≡ t.im1 → s.im2 ≡ t.im2 → s.im3 ≡ t.im3 → s.im4 ≡ t.im4 → s ≡ t
settings_same s t e f g h i j =
    let build : List ℕ → Suite → List ℕ → List ℕ → List ℕ → List ℕ → Settings = λ name suite im1 im2 im3 im4. record { name = name; suite = suite; im1 = im1; im2 = im2; im3 = im3; im4 = im4 } in
    made build _ _ _ _ _ _ _ _ _ _ _ _ e f g h i j

pub suite_same : (s t : Suite) → s.address ≡ t.address → s.mask ≡ t.mask → s.gateway ≡ t.gateway → s ≡ t
suite_same s t e f g =
    let build : List ℕ → List ℕ → List ℕ → Suite = λ address mask gateway. record { address = address; mask = mask; gateway = gateway } in
    made_three build _ _ _ _ _ _ e f g

-- a base has at most one name
name_same : (head name other : List ℕ) → HasName head name → HasName head other → name ≡ other
name_same head name other p q = (split_back _ _ _ _ (sym p.field ∙ q.field) (same_zeros name other (sym p.length ∙ q.length))).0

-- a head spells at most one value of settings
pub Spells-same : (head : List ℕ) (s t : Settings) → Spells head s → Spells head t → s ≡ t
Spells-same head s t p q =
    let a = parts_from_front head _ _ s p.valid p.front in
    let b = parts_from_front head _ _ t q.valid q.front in
    settings_same s t (name_same head _ _ a.name b.name)
    (suite_same _ _ (sym a.address ∙ b.address) (sym a.mask ∙ b.mask) (sym a.gateway ∙ b.gateway))
    (sym a.im1 ∙ b.im1) (sym a.im2 ∙ b.im2) (sym a.im3 ∙ b.im3) (p.im4 ∙ sym q.im4)

-- two bytes that are read as a number are the bytes of that number
pub stored_is : (head : List ℕ) → 383 ≤ length head → AreBytes head → slice_range head 4 6 ≡ to_be_bytes w16 (65535 - generation_at head)
stored_is head l bytes =
    let e = stored_bytes head in
    let high = bytes 4 in
    let low = bytes 5 in
    sym (be_bytes_2 (slice_range head 4 6) (65535 - generation_at head) (length_range head 4 6 l (lit≤ tt)) (λ k. range_byte head 4 6 k bytes) (omega arith))

-- the generation of a base is read back
pub generation_at_base : (head : List ℕ) (version : Version) (generation : ℕ) (settings : Settings) → generation ≤ 65535 → Parts head version generation settings → generation_at head ≡ generation
generation_at_base head version generation settings le p =
    let e = ap (from_be_bytes w16) p.stored ∙ from_be_bytes-to_be_bytes_2 (65535 - generation) (omega arith) in
    ap (λ n. 65535 - n) e ∙ omega arith

-- a head with the parts of valid settings spells them
pub spelled_by_parts : (head : List ℕ) (settings : Settings) → 383 ≤ length head → IsNameOrNone settings.name → IsSuite settings.suite → Parts head (version_at head) (generation_at head) settings
    → length settings.im4 ≡ 54 → settings.im4 ≡ im4_at (version_at head) head → Spells head settings
spelled_by_parts head settings l name suite p long im4 = record {
  valid = record {
    name = name;
    suite = suite;
    address = ap length (sym p.address) ∙ length_range head 247 251 l (lit≤ tt);
    mask = ap length (sym p.mask) ∙ length_range head 251 255 l (lit≤ tt);
    gateway = ap length (sym p.gateway) ∙ length_range head 255 259 l (lit≤ tt);
    im1 = ap length (sym p.im1) ∙ length_range head 259 313 l (lit≤ tt);
    im2 = ap length (sym p.im2) ∙ length_range head 313 329 l (lit≤ tt);
    im3 = ap length (sym p.im3) ∙ length_range head 329 383 l (lit≤ tt);
    im4 = long;
  };
  front = front_from_parts head _ _ settings l p;
  im4 = im4;
}

length-im4_at : (version : Version) (head : List ℕ) → 437 ≤ length head → length (im4_at version head) ≡ 54
length-im4_at One head l = length-replicate {A = ℕ} 54 0
length-im4_at Two head l = simp (length-take, length-drop) (omega arith)

-- what a reader makes of the parts is spelled by the head
pub decoded : (head name im1 im2 im3 im4 a m g : List ℕ) (suite : Suite) → 437 ≤ length head → AreBytes head → take 4 head ≡ magic_of (version_at head)
    → IsNameOrNone name × HasName head name → a ≡ slice_range head 247 251 → m ≡ slice_range head 251 255 → g ≡ slice_range head 255 259
    → IsSuite (record { address = a; mask = m; gateway = g }) → suite ≡ record { address = a; mask = m; gateway = g }
    → im1 ≡ slice_range head 259 313 → im2 ≡ slice_range head 313 329 → im3 ≡ slice_range head 329 383 → im4 ≡ im4_at (version_at head) head
    → Spells head (record { name = name; suite = suite; im1 = im1; im2 = im2; im3 = im3; im4 = im4 })
decoded head name im1 im2 im3 im4 a m g suite l bytes front named ea em eg valid es e1 e2 e3 e4 =
    let short : 383 ≤ length head = omega arith in
    spelled_by_parts head _ short named.0 (subst IsSuite (sym es) valid) (record {
      front = front;
      stored = stored_is head short bytes;
      name = named.1;
      address = sym ea ∙ sym (ap (λ s. s.address) es);
      mask = sym em ∙ sym (ap (λ s. s.mask) es);
      gateway = sym eg ∙ sym (ap (λ s. s.gateway) es);
      im1 = sym e1;
      im2 = sym e2;
      im3 = sym e3;
    }) (ap length e4 ∙ length-im4_at (version_at head) head l) e4

-- what the head spells is what a reader makes of the parts
pub decoded_only : (head name im1 im2 im3 im4 a m g : List ℕ) (suite : Suite) (settings : Settings) → Spells head settings
    → (HasName head settings.name → name ≡ settings.name) → a ≡ slice_range head 247 251 → m ≡ slice_range head 251 255 → g ≡ slice_range head 255 259
    → suite ≡ record { address = a; mask = m; gateway = g } → im1 ≡ slice_range head 259 313 → im2 ≡ slice_range head 313 329 → im3 ≡ slice_range head 329 383 → im4 ≡ im4_at (version_at head) head
    → record { name = name; suite = suite; im1 = im1; im2 = im2; im3 = im3; im4 = im4 } ≡ settings
decoded_only head name im1 im2 im3 im4 a m g suite settings s named ea em eg es e1 e2 e3 e4 =
    let p = parts_from_front head _ _ settings s.valid s.front in
    settings_same _ settings (named p.name)
    (suite_same _ _ (ap (λ s. s.address) es ∙ ea ∙ p.address) (ap (λ s. s.mask) es ∙ em ∙ p.mask) (ap (λ s. s.gateway) es ∙ eg ∙ p.gateway))
    (e1 ∙ p.im1) (e2 ∙ p.im2) (e3 ∙ p.im3) (e4 ∙ sym s.im4)

-- the suite that is spelled is the one at its offsets
pub spelled_suite : (head a m g : List ℕ) (settings : Settings) → Spells head settings
    → a ≡ slice_range head 247 251 → m ≡ slice_range head 251 255 → g ≡ slice_range head 255 259
    → IsSuite (record { address = a; mask = m; gateway = g })
spelled_suite head a m g settings s ea em eg =
    let p = parts_from_front head _ _ settings s.valid s.front in
    subst IsSuite (sym (suite_same _ settings.suite (ea ∙ p.address) (em ∙ p.mask) (eg ∙ p.gateway))) s.valid.suite

-- the name that is spelled is the one at its offset
pub spelled_name : (head : List ℕ) (settings : Settings) → Spells head settings → HasName head settings.name
spelled_name head settings s = (parts_from_front head _ _ settings s.valid s.front).name

-- the rest of the zeros after a name
pub zeros_behind : (size n : ℕ) → n ≤ size → take {A = ℕ} (size - n) (drop n (replicate size 0)) ≡ replicate (size - n) 0
zeros_behind size n h = let e = drop-replicate {X = ℕ} n size 0 in rw e (take_all (size - n) (replicate (size - n) 0) (omega (arith, length-replicate {A = ℕ} (size - n) 0)))

-- one more piece at the end of those put so far
pub put_more : {old new xs piece ys : List ℕ} → old ≡ xs → new ≡ old ++ piece → piece ≡ ys → new ≡ xs ++ ys
put_more e f g = cc

version_by : (head : List ℕ) (version : Version) → take 4 head ≡ magic_of version → version_at head ≡ version
version_by head One e =
    let f : get_or head 3 0 ≡ 1 = sym (get_or-take 4 head 3 0 (lit< tt)) ∙ ap (λ bytes. get_or bytes 3 0) e in
    rw f refl
version_by head Two e =
    let f : get_or head 3 0 ≡ 2 = sym (get_or-take 4 head 3 0 (lit< tt)) ∙ ap (λ bytes. get_or bytes 3 0) e in
    rw f refl

-- a head that begins with a base as it is written: its version is 2, and it spells the settings
pub record IsRead (head : List ℕ) (generation : ℕ) (settings : Settings) : Type 0 where
  pub version : version_at head ≡ Two
  pub magic : take 4 head ≡ magic_of (version_at head)
  pub is : generation_at head ≡ generation
  pub spells : Spells head settings

pub read_base : (head : List ℕ) (generation : ℕ) (settings : Settings) → IsSettings settings → generation ≤ 65535 → take 437 head ≡ base_of generation settings → IsRead head generation settings
read_base head generation settings valid few base =
    let long = length-front_of Two generation settings valid in
    let front : take 383 head ≡ front_of Two generation settings =
    sym (take-take 383 437 head (lit≤ tt)) ∙ ap (take 383) base ∙ take_at (front_of Two generation settings) settings.im4 383 long in
    let im4 : slice_range head 383 437 ≡ settings.im4 =
    sym (drop_at (take 383 head) (slice_range head 383 437) 383 (ap length front ∙ long)) ∙ ap (drop 383) (sym (front_more head 383 437 (lit≤ tt)) ∙ base)
    ∙ drop_at (front_of Two generation settings) settings.im4 383 long in
    let parts = parts_from_front head Two generation settings valid front in
    let version : version_at head ≡ Two = version_by head Two parts.front in
    let is = generation_at_base head Two generation settings few parts in
    record {
      version = version;
      magic = subst (λ v. take 4 head ≡ magic_of v) (sym version) parts.front;
      is = is;
      spells = record {
        valid = valid;
        front = subst (λ v. take 383 head ≡ front_of v (generation_at head) settings) (sym version) (subst (λ n. take 383 head ≡ front_of Two n settings) (sym is) front);
        im4 = subst (λ v. settings.im4 ≡ im4_at v head) (sym version) (sym im4);
      };
    }
