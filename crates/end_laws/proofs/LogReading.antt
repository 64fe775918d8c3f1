-- What is written of a log is read at its places.
use Rattle.std.proofs.Common.{◌≡◌, ◌+◌, ◌*◌, ◌^◌, ◌<◌, ◌≤◌, ◌++◌, ℕ, suc, List, [], ◌∷◌, drop, length, take, refl, sym, ap, ◌∙◌, append_assoc, arith}
use Rattle.std.specs.List.{AllByRecursion}
use Rattle.std.proofs.lemmas.List.{length-append}
use Rattle.byteorder.specs.Numbers.{big_number-reads_back}
use Rattle.wire.specs.Formats.{big_bytes, big_number}
use Rattle.device_records.specs.declared.log_data.entry.LogEntry.{LogEntry}
use Rattle.device_records.specs.log_data.Log.{entries_bytes, entry_bytes, log_bytes, status_bytes}
use Rattle.end_laws.specs.log_data.Reading.{IsEntry, IsLogData, entries_at, entry_at, number_at, octets_at, status_at}

-- ---- places

-- a place after some octets
under : (front rest : List ℕ) (more : ℕ) → drop (length front + more) (front ++ rest) ≡ drop more rest
under [] rest more = ap (λ (k : ℕ). drop k rest) (omega arith)
under (x ∷ xs) rest more =
    let step : suc (length xs) + more ≡ suc (length xs + more) = omega arith in
    ap (λ (k : ℕ). drop k (x ∷ (xs ++ rest))) step ∙ under xs rest more

past : (front rest : List ℕ) (size more : ℕ) → length front ≡ size → drop (size + more) (front ++ rest) ≡ drop more rest
past front rest size more long = ap (λ (k : ℕ). drop (k + more) (front ++ rest)) (sym long) ∙ under front rest more

front_of : (front rest : List ℕ) → take (length front) (front ++ rest) ≡ front
front_of [] rest = refl
front_of (x ∷ xs) rest = ap (λ (ys : List ℕ). x ∷ ys) (front_of xs rest)

-- the lengths of numbers
one_long : (n : ℕ) → length (big_bytes 1 n) ≡ 1
one_long n = refl

two_long : (n : ℕ) → length (big_bytes 2 n) ≡ 2
two_long n = refl

eight_long : (n : ℕ) → length (big_bytes 8 n) ≡ 8
eight_long n = refl

-- one octet
one_octet : (n : ℕ) (rest : List ℕ) → n < 256 → big_number 1 (n ∷ rest) ≡ n
one_octet n rest few = omega arith

-- ---- an entry

spread_entry : (a b c d rest : List ℕ) → (a ++ b ++ c ++ d) ++ rest ≡ a ++ (b ++ (c ++ (d ++ rest)))
spread_entry a b c d rest =
    append_assoc (a ++ b ++ c) d rest ∙ append_assoc (a ++ b) c (d ++ rest) ∙ append_assoc a b (c ++ (d ++ rest))

module _ (entry : LogEntry) (rest : List ℕ) (is : IsEntry entry) where
  abbrev zeros : List ℕ
  zeros = 0 ∷ 0 ∷ 0 ∷ 0 ∷ []

  whole : entry_bytes entry ++ rest ≡ big_bytes 8 entry.time ++ (entry.uuid ++ (status_bytes entry.status ++ (zeros ++ rest)))
  whole = spread_entry (big_bytes 8 entry.time) entry.uuid (status_bytes entry.status) zeros rest

  time_is : number_at 0 8 (entry_bytes entry ++ rest) ≡ entry.time
  time_is = ap (λ (xs : List ℕ). big_number 8 xs) whole ∙ big_number-reads_back 8 entry.time (entry.uuid ++ (status_bytes entry.status ++ (zeros ++ rest))) is.time

  after_time : (more : ℕ) → drop (8 + more) (entry_bytes entry ++ rest) ≡ drop more (entry.uuid ++ (status_bytes entry.status ++ (zeros ++ rest)))
  after_time more =
      ap (drop (8 + more)) whole ∙ past (big_bytes 8 entry.time) (entry.uuid ++ (status_bytes entry.status ++ (zeros ++ rest))) 8 more (eight_long entry.time)

  uuid_is : octets_at 8 16 (entry_bytes entry ++ rest) ≡ entry.uuid
  uuid_is =
      ap (take 16) (after_time 0) ∙ ap (λ (k : ℕ). take k (entry.uuid ++ (status_bytes entry.status ++ (zeros ++ rest)))) (sym is.uuid)
      ∙ front_of entry.uuid (status_bytes entry.status ++ (zeros ++ rest))

  after_uuid : (more : ℕ) → drop (8 + (16 + more)) (entry_bytes entry ++ rest) ≡ drop more (status_bytes entry.status ++ (zeros ++ rest))
  after_uuid more = after_time (16 + more) ∙ past entry.uuid (status_bytes entry.status ++ (zeros ++ rest)) 16 more is.uuid

  status_is : status_at 24 (entry_bytes entry ++ rest) ≡ entry.status
  status_is =
      let code : number_at 24 1 (entry_bytes entry ++ rest) ≡ entry.status.code = ap (big_number 1) (after_uuid 0) ∙ one_octet entry.status.code (entry.status.decode ∷ entry.status.code1 ∷ entry.status.code2 ∷ (zeros ++ rest)) is.code in
      let decode : number_at 25 1 (entry_bytes entry ++ rest) ≡ entry.status.decode = ap (big_number 1) (after_uuid 1) ∙ one_octet entry.status.decode (entry.status.code1 ∷ entry.status.code2 ∷ (zeros ++ rest)) is.decode in
      let code1 : number_at 26 1 (entry_bytes entry ++ rest) ≡ entry.status.code1 = ap (big_number 1) (after_uuid 2) ∙ one_octet entry.status.code1 (entry.status.code2 ∷ (zeros ++ rest)) is.code1 in
      let code2 : number_at 27 1 (entry_bytes entry ++ rest) ≡ entry.status.code2 = ap (big_number 1) (after_uuid 3) ∙ one_octet entry.status.code2 (zeros ++ rest) is.code2 in
      λ i. record { code = code i; decode = decode i; code1 = code1 i; code2 = code2 i }

  entry_is : entry_at 0 (entry_bytes entry ++ rest) ≡ entry
  entry_is = λ i. record { time = time_is i; uuid = uuid_is i; status = status_is i }

  after_entry : drop 32 (entry_bytes entry ++ rest) ≡ rest
  after_entry = after_uuid 8

-- all entries
entries_are : (log : List LogEntry) → AllByRecursion IsEntry log → entries_at (length log) (entries_bytes log) ≡ log
entries_are [] all = refl
entries_are (entry ∷ entries) all =
    ap (λ (first : LogEntry). first ∷ entries_at (length entries) (drop 32 (entry_bytes entry ++ entries_bytes entries))) (entry_is entry (entries_bytes entries) all.0)
    ∙ ap (λ (xs : List ℕ). entry ∷ entries_at (length entries) xs) (after_entry entry (entries_bytes entries) all.0)
    ∙ ap (λ (others : List LogEntry). entry ∷ others) (entries_are entries all.1)

entry_long : (entry : LogEntry) → length entry.uuid ≡ 16 → length (entry_bytes entry) ≡ 32
entry_long entry long =
    let a = length-append (big_bytes 8 entry.time) entry.uuid in
    let b = length-append (big_bytes 8 entry.time ++ entry.uuid) (status_bytes entry.status) in
    let c = length-append (big_bytes 8 entry.time ++ entry.uuid ++ status_bytes entry.status) (0 ∷ 0 ∷ 0 ∷ 0 ∷ []) in
    let d = eight_long entry.time in
    omega (arith, a, b, c, d, long)

entries_long : (log : List LogEntry) → AllByRecursion IsEntry log → length (entries_bytes log) ≡ 32 * length log
entries_long [] all = refl
entries_long (entry ∷ entries) all =
    let a = length-append (entry_bytes entry) (entries_bytes entries) in
    let b = entry_long entry all.0.uuid in
    let c = entries_long entries all.1 in
    omega (arith, a, b, c)

-- ---- the record

spread : (a b c d e f : List ℕ) → a ++ b ++ c ++ d ++ e ++ f ≡ a ++ (b ++ (c ++ (d ++ (e ++ f))))
spread a b c d e f =
    append_assoc (a ++ b ++ c ++ d) e f ∙ append_assoc (a ++ b ++ c) d (e ++ f) ∙ append_assoc (a ++ b) c (d ++ (e ++ f))
    ∙ append_assoc a b (c ++ (d ++ (e ++ f)))

module _ (now : ℕ) (log : List LogEntry) (now_fits : now < 256 ^ 8) (few : length log ≤ 16) (all : AllByRecursion IsEntry log) where
  abbrev kind : List ℕ
  kind = big_bytes 2 0x0019

  abbrev size : List ℕ
  size = big_bytes 2 (12 + 32 * length log)

  abbrev tail : List ℕ
  tail = big_bytes 8 now ++ (big_bytes 2 (length log) ++ entries_bytes log)

  record_is : log_bytes now log ≡ kind ++ (size ++ (1 ∷ 0 ∷ tail))
  unfolding log_bytes
  record_is = spread kind size (1 ∷ 0 ∷ []) (big_bytes 8 now) (big_bytes 2 (length log)) (entries_bytes log)

  after_kind : (more : ℕ) → drop (2 + more) (log_bytes now log) ≡ drop more (size ++ (1 ∷ 0 ∷ tail))
  after_kind more = ap (drop (2 + more)) record_is ∙ past kind (size ++ (1 ∷ 0 ∷ tail)) 2 more (two_long 0x0019)

  after_size : (more : ℕ) → drop (2 + (2 + more)) (log_bytes now log) ≡ drop more (1 ∷ 0 ∷ tail)
  after_size more = after_kind (2 + more) ∙ past size (1 ∷ 0 ∷ tail) 2 more (two_long (12 + 32 * length log))

  after_version : (more : ℕ) → drop (2 + (2 + (2 + more))) (log_bytes now log) ≡ drop more tail
  after_version more = after_size (2 + more) ∙ past (1 ∷ 0 ∷ []) tail 2 more refl

  after_now : (more : ℕ) → drop (2 + (2 + (2 + (8 + more)))) (log_bytes now log) ≡ drop more (big_bytes 2 (length log) ++ entries_bytes log)
  after_now more = after_version (8 + more) ∙ past (big_bytes 8 now) (big_bytes 2 (length log) ++ entries_bytes log) 8 more (eight_long now)

  after_count : drop 16 (log_bytes now log) ≡ entries_bytes log
  after_count = after_now 2 ∙ past (big_bytes 2 (length log)) (entries_bytes log) 2 0 (two_long (length log))

  count_is : number_at 14 2 (log_bytes now log) ≡ length log
  count_is = ap (big_number 2) (after_now 0) ∙ big_number-reads_back 2 (length log) (entries_bytes log) (omega (arith, few))

  whole_long : length (log_bytes now log) ≡ 16 + 32 * length log
  whole_long =
      let a = ap length record_is in
      let b = length-append kind (size ++ (1 ∷ 0 ∷ tail)) in
      let c = length-append size (1 ∷ 0 ∷ tail) in
      let d = length-append (big_bytes 8 now) (big_bytes 2 (length log) ++ entries_bytes log) in
      let e = length-append (big_bytes 2 (length log)) (entries_bytes log) in
      let f = entries_long log all in
      let g = two_long 0x0019 in
      let h = two_long (12 + 32 * length log) in
      let i = eight_long now in
      let j = two_long (length log) in
      omega (arith, a, b, c, d, e, f, g, h, i, j)

  size_is : number_at 2 2 (log_bytes now log) ≡ 12 + 32 * length log
  size_is = ap (big_number 2) (after_kind 0) ∙ big_number-reads_back 2 (12 + 32 * length log) (1 ∷ 0 ∷ tail) (omega (arith, few))

  pub read_back : IsLogData (log_bytes now log) now log
  read_back = record {
    kind = ap (big_number 2) record_is ∙ big_number-reads_back 2 0x0019 (size ++ (1 ∷ 0 ∷ tail)) (omega arith);
    size = let s = size_is in let l = whole_long in omega (arith, s, l);
    version = ap (take 2) (after_size 0);
    time = ap (big_number 8) (after_version 0) ∙ big_number-reads_back 8 now (big_bytes 2 (length log) ++ entries_bytes log) now_fits;
    count = count_is;
    entries = ap (λ (n : ℕ). entries_at n (drop 16 (log_bytes now log))) count_is ∙ ap (entries_at (length log)) after_count ∙ entries_are log all;
  }
