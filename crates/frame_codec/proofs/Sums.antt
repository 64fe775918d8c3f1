-- Sums of words with the carry at the low end.
use Rattle.std.proofs.Common.{◌≡◌, ◌≢◌, ℕ, zero, suc, ◌+◌, ◌-◌, ◌*◌, ◌^◌, ◌%◌, ◌/◌, ◌<◌, ◌≤◌, Bool, true, false, cond, eqb, List, [], ◌∷◌, ◌++◌, length, take, drop, get_or, All, refl, sym, ap, ◌∙◌, arith}
use Rattle.std.proofs.lemmas.Bool.{eqb-true, eq-eqb, ne_eqb}
use Rattle.std.proofs.lemmas.List.{drop_more, drop_all, length-drop, take_all}
use Rattle.std.proofs.lemmas.List.Elements.{All-cons, All-nil, All-head, All-tail}
use Rattle.std.proofs.Math.Nat.{div-add-mod, mod-eq_of_lt, mod-lt, mul-add-mod_self_left}
use Rattle.wire.specs.Formats.{big_bytes, big_number}
use Rattle.wire.proofs.Fields.{ok_is, number_sound}
use Rattle.frame_codec.specs.declared.fault.FrameFault.{FrameFault}
use Rattle.frame_codec.specs.declared.fault.FrameFault.TheVariants.{TooShort}
use Rattle.frame_codec.specs.Sum.{words_total, carried, ones_sum_of, complement, complement_of_sum}

-- ---- the carry

carried_suc : (n : ℕ) → carried (suc n) ≡ n % 65535 + 1
carried_suc n = refl

-- a sum that has no carry
pub carried_small : (n : ℕ) → n ≤ 65535 → carried n ≡ n
carried_small zero most = refl
carried_small (suc n) most = carried_suc n ∙ (let e = mod-eq_of_lt {n = n} {m = 65535} (omega (arith, most)) in omega (arith, e))

pub carried_most : (n : ℕ) → carried n ≤ 65535
carried_most zero = omega arith
carried_most (suc n) = let e = carried_suc n in let below : n % 65535 < 65535 = mod-lt n (omega arith) in omega (arith, e, below)

-- a multiple of 65,535 more does not change the carried sum of a number above 0
pub carried_over : (times n : ℕ) → 0 < n → carried (65535 * times + n) ≡ carried n
carried_over times zero some = absurd (omega (arith, some))
carried_over times (suc n) some =
    let one : 65535 * times + suc n ≡ suc (65535 * times + n) = omega arith in
    ap carried one ∙ carried_suc (65535 * times + n) ∙ ap (λ (k : ℕ). k + 1) (mul-add-mod_self_left 65535 times n) ∙ sym (carried_suc n)

-- adding to a carried sum gives the carried sum of the total
pub carried_on : (n m : ℕ) → carried (carried n + m) ≡ carried (n + m)
carried_on zero m = refl
carried_on (suc n) m =
    let cut = div-add-mod n 65535 in
    let one : 65535 * (n / 65535) + (n % 65535 + 1 + m) ≡ suc n + m = omega (arith, cut) in
    ap (λ (k : ℕ). carried (k + m)) (carried_suc n) ∙ sym (carried_over (n / 65535) (n % 65535 + 1 + m) (omega arith)) ∙ ap carried one

-- a carry of one word
pub carried_once : (n : ℕ) → 65535 < n → n ≤ 131070 → n - 65535 ≡ carried n
carried_once n more most =
    let one : n ≡ 65535 * 1 + (n - 65535) = omega (arith, more) in
    sym (ap carried one ∙ carried_over 1 (n - 65535) (omega (arith, more)) ∙ carried_small (n - 65535) (omega (arith, most)))

-- two numbers that are both 0 or both not, and that differ by a multiple of 65,535, have the same carried sum
pub carried_same : (times n m : ℕ) → n ≡ 65535 * times + m → (m ≡ 0 → n ≡ 0) → carried n ≡ carried m
carried_same times n zero e none = ap carried (none refl)
carried_same times n (suc m) e none = ap carried e ∙ carried_over times (suc m) (omega arith)

-- the carry of a number of eight octets is added at the low end
pub carried_eight : (total number next : ℕ) → 2 ^ 64 ≤ total + number → total + number < 2 ^ 65 → next ≡ (total + number) % 2 ^ 64
    → carried (next + 1) ≡ carried (total + number)
carried_eight total number next over below e =
    let cut = div-add-mod (total + number) (2 ^ 64) in
    let one : (total + number) / 2 ^ 64 ≡ 1 = omega (arith, cut, over, below) in
    let all : total + number ≡ 65535 * 281479271743489 + (next + 1) = omega (arith, cut, one, e) in
    sym (carried_same 281479271743489 (total + number) (next + 1) all (λ z. absurd (omega (arith, z))))

-- what is above 32 bits is added to the low half
pub carried_halves : (total : ℕ) → carried (total / 4294967296 + total % 4294967296) ≡ carried total
carried_halves total =
    let cut = div-add-mod total 4294967296 in
    sym (carried_same (65537 * (total / 4294967296)) total (total / 4294967296 + total % 4294967296) (omega (arith, cut)) (λ z. omega (arith, cut, z)))

-- the same for 16 bits
pub carried_quarters : (total : ℕ) → carried (total / 65536 + total % 65536) ≡ carried total
carried_quarters total =
    let cut = div-add-mod total 65536 in
    sym (carried_same (total / 65536) total (total / 65536 + total % 65536) (omega (arith, cut)) (λ z. omega (arith, cut, z)))

-- only 0 has the sum 0
pub carried_zero : (n : ℕ) → carried n ≡ 0 → n ≡ 0
carried_zero zero e = refl
carried_zero (suc n) e = absurd (let s = carried_suc n in omega (arith, e, s))

-- a carried sum equals the number modulo 65,535
pub carried_equal : (n : ℕ) → carried n % 65535 ≡ n % 65535
carried_equal zero = refl
carried_equal (suc n) =
    let cut = div-add-mod n 65535 in
    let one : 65535 * (n / 65535) + (n % 65535 + 1) ≡ suc n = omega (arith, cut) in
    ap (λ (k : ℕ). k % 65535) (carried_suc n) ∙ sym (mul-add-mod_self_left 65535 (n / 65535) (n % 65535 + 1)) ∙ ap (λ (k : ℕ). k % 65535) one

-- ---- words

-- after an even number of bytes, the words of the rest are added
pub words_append : (pairs : ℕ) (xs ys : List ℕ) → length xs ≡ 2 * pairs → words_total (xs ++ ys) ≡ words_total xs + words_total ys
words_append zero [] ys even = omega arith
words_append zero (x ∷ xs) ys even = absurd (omega (arith, even))
words_append (suc pairs) [] ys even = absurd (omega (arith, even))
words_append (suc pairs) (x ∷ []) ys even = absurd (omega (arith, even))
words_append (suc pairs) (high ∷ low ∷ xs) ys even =
    ap (λ (k : ℕ). 256 * high + low + k) (words_append pairs xs ys (omega (arith, even))) ∙ omega arith

-- a number of two bytes is a word
word_back : (n : ℕ) → n < 256 ^ 2 → big_number 2 (big_bytes 2 n ++ []) ≡ n
word_back n fits =
    let field = number_sound TooShort 2 in
    let reads = field.again (big_bytes 2 n ++ []) n [] (field.written n [] fits) in
    ap (λ p. p.0) (ok_is {F = FrameFault} (big_number 2 (big_bytes 2 n ++ []), []) (n, []) reads)

word_is : (high low n : ℕ) → high * 256 + (low * 1 + 0) ≡ n → 256 * high + low ≡ n
word_is high low n e = omega (arith, e)

pub word_of : (n : ℕ) (rest : List ℕ) → n < 256 ^ 2 → words_total (big_bytes 2 n ++ rest) ≡ n + words_total rest
word_of n rest fits = ap (λ (k : ℕ). k + words_total rest) (word_is _ _ n (word_back n fits))

-- if all octets are 0, so is their sum
pub no_words : (bytes : List ℕ) → All (λ octet. octet ≡ 0) bytes → words_total bytes ≡ 0
no_words [] all = refl
no_words (high ∷ []) all = let h = All-head (λ octet. octet ≡ 0) high [] all in omega (arith, h)
no_words (high ∷ low ∷ rest) all =
    let h = All-head (λ octet. octet ≡ 0) high (low ∷ rest) all in
    let others = All-tail (λ octet. octet ≡ 0) high (low ∷ rest) all in
    let l = All-head (λ octet. octet ≡ 0) low rest others in
    let e = no_words rest (All-tail (λ octet. octet ≡ 0) low rest others) in
    omega (arith, h, l, e)

-- if the sum is 0, all octets are 0
pub only_no_words : (bytes : List ℕ) → words_total bytes ≡ 0 → All (λ octet. octet ≡ 0) bytes
only_no_words [] e = All-nil (λ octet. octet ≡ 0)
only_no_words (high ∷ []) e = All-cons (λ octet. octet ≡ 0) high [] (omega (arith, e)) (All-nil (λ octet. octet ≡ 0))
only_no_words (high ∷ low ∷ rest) e =
    All-cons (λ octet. octet ≡ 0) high (low ∷ rest) (omega (arith, e))
    (All-cons (λ octet. octet ≡ 0) low rest (omega (arith, e)) (only_no_words rest (omega (arith, e))))

-- ---- a loop over the words

-- one more word is added
pub sum_goes_on : (bytes : List ℕ) (index total next word whole high low : ℕ) → 2 * index + 1 < length bytes
    → high ≡ get_or bytes (2 * index) 0 → low ≡ get_or bytes (2 * index + 1) 0 → word ≡ 256 * high + low → next ≡ carried (total + word)
    → carried (total + words_total (drop (2 * index) bytes)) ≡ whole → carried (next + words_total (drop (2 * (index + 1)) bytes)) ≡ whole
sum_goes_on bytes index total next word whole high low below h l w n so_far =
    let one = drop_more bytes (2 * index) 0 (omega (arith, below)) in
    let two = drop_more bytes (2 * index + 1) 0 below in
    let end : drop (2 * index + 1 + 1) bytes ≡ drop (2 * (index + 1)) bytes = ap (λ (k : ℕ). drop k bytes) (omega arith) in
    let rest = words_total (drop (2 * (index + 1)) bytes) in
    let parts : words_total (drop (2 * index) bytes) ≡ 256 * get_or bytes (2 * index) 0 + get_or bytes (2 * index + 1) 0 + rest =
    ap words_total (one ∙ ap (λ (xs : List ℕ). get_or bytes (2 * index) 0 ∷ xs) (two ∙ ap (λ (xs : List ℕ). get_or bytes (2 * index + 1) 0 ∷ xs) end)) in
    ap (λ (k : ℕ). carried (k + rest)) n ∙ carried_on (total + word) rest ∙ ap carried (omega (arith, parts, h, l, w)) ∙ so_far

-- no word is left
pub sum_ends : (bytes : List ℕ) (index total whole : ℕ) → length bytes ≤ 2 * index → total ≤ 65535
    → carried (total + words_total (drop (2 * index) bytes)) ≡ whole → total ≡ whole
sum_ends bytes index total whole end most so_far =
    let none : words_total (drop (2 * index) bytes) ≡ 0 = ap words_total (drop_all (2 * index) bytes end) in
    sym (carried_small total most) ∙ ap carried (omega (arith, none)) ∙ so_far

-- one byte is left
pub sum_ends_odd : (bytes : List ℕ) (index total next word whole high : ℕ) → 2 * index + 1 ≡ length bytes
    → high ≡ get_or bytes (2 * index) 0 → word ≡ 256 * high + 0 → next ≡ carried (total + word)
    → carried (total + words_total (drop (2 * index) bytes)) ≡ whole → next ≡ whole
sum_ends_odd bytes index total next word whole high end h w n so_far =
    let one = drop_more bytes (2 * index) 0 (omega (arith, end)) in
    let none = drop_all (2 * index + 1) bytes (omega (arith, end)) in
    let parts : words_total (drop (2 * index) bytes) ≡ 256 * get_or bytes (2 * index) 0 =
    ap words_total (one ∙ ap (λ (xs : List ℕ). get_or bytes (2 * index) 0 ∷ xs) none) in
    n ∙ ap carried (omega (arith, parts, h, w)) ∙ so_far

-- the octets after the first eight, as a slice up to the end
pub behind_eight : (bytes : List ℕ) → take (length bytes - 8) (drop 8 bytes) ≡ drop 8 bytes
behind_eight bytes = take_all (length bytes - 8) (drop 8 bytes) (let e = length-drop 8 bytes in omega (arith, e))

-- eight octets are their four words
pub eight_on : (bytes : List ℕ) (total next : ℕ) → 8 ≤ length bytes → carried next ≡ carried (total + big_number 8 bytes)
    → carried (next + words_total (drop 8 bytes)) ≡ carried (total + words_total bytes)
eight_on [] total next long e = absurd (omega (arith, long))
eight_on (a ∷ []) total next long e = absurd (omega (arith, long))
eight_on (a ∷ b ∷ []) total next long e = absurd (omega (arith, long))
eight_on (a ∷ b ∷ c ∷ []) total next long e = absurd (omega (arith, long))
eight_on (a ∷ b ∷ c ∷ d ∷ []) total next long e = absurd (omega (arith, long))
eight_on (a ∷ b ∷ c ∷ d ∷ e1 ∷ []) total next long e = absurd (omega (arith, long))
eight_on (a ∷ b ∷ c ∷ d ∷ e1 ∷ f ∷ []) total next long e = absurd (omega (arith, long))
eight_on (a ∷ b ∷ c ∷ d ∷ e1 ∷ f ∷ g ∷ []) total next long e = absurd (omega (arith, long))
eight_on (a ∷ b ∷ c ∷ d ∷ e1 ∷ f ∷ g ∷ h ∷ rest) total next long e =
    let number : ℕ = big_number 8 (a ∷ b ∷ c ∷ d ∷ e1 ∷ f ∷ g ∷ h ∷ rest) in
    let words : ℕ = words_total rest in
    let times : ℕ = 4295032833 * (256 * a + b) + 65537 * (256 * c + d) + (256 * e1 + f) in
    let sum : ℕ = total + (256 * a + b + (256 * c + d + (256 * e1 + f + (256 * g + h + words)))) in
    let is : total + number + words ≡ 65535 * times + sum = omega arith in
    sym (carried_on next words) ∙ ap (λ (n : ℕ). carried (n + words)) e ∙ carried_on (total + number) words
    ∙ carried_same times (total + number + words) sum is (λ z. omega (arith, z))

-- the octets after the first four, as a slice up to the end
pub behind_four : (bytes : List ℕ) → take (length bytes - 4) (drop 4 bytes) ≡ drop 4 bytes
behind_four bytes = take_all (length bytes - 4) (drop 4 bytes) (let e = length-drop 4 bytes in omega (arith, e))

-- four octets are their two words
pub four_on : (bytes : List ℕ) (total next : ℕ) → 4 ≤ length bytes → carried next ≡ carried (total + big_number 4 bytes)
    → carried (next + words_total (drop 4 bytes)) ≡ carried (total + words_total bytes)
four_on [] total next long e = absurd (omega (arith, long))
four_on (a ∷ []) total next long e = absurd (omega (arith, long))
four_on (a ∷ b ∷ []) total next long e = absurd (omega (arith, long))
four_on (a ∷ b ∷ c ∷ []) total next long e = absurd (omega (arith, long))
four_on (a ∷ b ∷ c ∷ d ∷ rest) total next long e =
    let number : ℕ = big_number 4 (a ∷ b ∷ c ∷ d ∷ rest) in
    let words : ℕ = words_total rest in
    let times : ℕ = 256 * a + b in
    let sum : ℕ = total + (256 * a + b + (256 * c + d + words)) in
    let is : total + number + words ≡ 65535 * times + sum = omega arith in
    sym (carried_on next words) ∙ ap (λ (n : ℕ). carried (n + words)) e ∙ carried_on (total + number) words
    ∙ carried_same times (total + number + words) sum is (λ z. omega (arith, z))

-- a sum that is continued after an even number of bytes
pub sum_parts : (front body : List ℕ) (first sum pairs : ℕ) → length front ≡ 2 * pairs → first ≡ ones_sum_of front
    → sum ≡ carried (first + words_total body) → sum ≡ ones_sum_of (front ++ body)
unfolding ones_sum_of
sum_parts front body first sum pairs even one e =
    e ∙ ap (λ (n : ℕ). carried (n + words_total body)) one ∙ carried_on (words_total front) (words_total body)
    ∙ ap carried (sym (words_append pairs front body even))

-- ---- what is sent

-- the sum with the checksum in its field
pub sealed_sum : (total : ℕ) → carried (total + complement (carried total)) ≡ 65535
sealed_sum total =
    let most = carried_most total in
    let all : carried total + (65535 - carried total) ≡ 65535 = omega (arith, most) in
    sym (carried_on total (complement (carried total))) ∙ ap carried all

sealed_or : (total sum : ℕ) (all : Bool) → sum ≡ carried total → eqb sum 65535 ≡ all → carried (total + cond all 65535 (complement sum)) ≡ 65535
sealed_or total sum true is test =
    let whole : carried total ≡ 65535 = sym is ∙ eqb-true _ _ test in
    sym (carried_on total 65535) ∙ ap (λ (k : ℕ). carried (k + 65535)) whole
sealed_or total sum false is test = ap (λ (k : ℕ). carried (total + complement k)) is ∙ sealed_sum total

-- the same if 65,535 is sent in place of 0
pub sealed_sum_of : (total : ℕ) → carried (total + complement_of_sum (carried total)) ≡ 65535
sealed_sum_of total = sealed_or total (carried total) (eqb (carried total) 65535) refl refl

pub all_ones : (sum : ℕ) → sum ≡ 65535 → sum ≡ complement_of_sum sum
all_ones sum e = rw (eq-eqb _ _ e) e

pub not_all_ones : (sum : ℕ) → sum ≢ 65535 → complement sum ≡ complement_of_sum sum
not_all_ones sum other = rw (ne_eqb _ _ other) refl

-- a checksum is a word
pub complement_most : (sum : ℕ) → complement sum < 256 ^ 2
complement_most sum = omega arith

complement_or : (sum : ℕ) (all : Bool) → cond all 65535 (complement sum) < 256 ^ 2
complement_or sum true = omega arith
complement_or sum false = omega arith

pub complement_of_sum_most : (sum : ℕ) → complement_of_sum sum < 256 ^ 2
complement_of_sum_most sum = complement_or sum (eqb sum 65535)
