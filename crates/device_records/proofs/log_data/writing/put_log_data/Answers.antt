-- The fields one after another.
use Rattle.std.proofs.Common.{◌≡◌, ◌+◌, ◌*◌, ◌++◌, List, ℕ, [], ◌∷◌, length, ap, ◌∙◌, append_assoc}
use Rattle.wire.specs.Formats.{big_bytes}
use Rattle.device_records.specs.log_data.Log.{entries_bytes, log_bytes}
use Rattle.device_records.specs.declared.log_data.entry.LogEntry.{LogEntry}
use Rattle.device_records.proofs.log_data.writing.put_log_data.Goals as goal

-- Octets that are appended one after another.
joined : (before a b c d e f : List ℕ) → before ++ a ++ b ++ c ++ d ++ e ++ f ≡ before ++ (a ++ b ++ c ++ d ++ e ++ f)
joined before a b c d e f =
    ap (λ (xs : List ℕ). xs ++ c ++ d ++ e ++ f) (append_assoc before a b)
    ∙ (ap (λ (xs : List ℕ). xs ++ d ++ e ++ f) (append_assoc before (a ++ b) c)
    ∙ (ap (λ (xs : List ℕ). xs ++ e ++ f) (append_assoc before (a ++ b ++ c) d)
    ∙ (ap (λ (xs : List ℕ). xs ++ f) (append_assoc before (a ++ b ++ c ++ d) e) ∙ append_assoc before (a ++ b ++ c ++ d ++ e) f)))

pub returns : goal.returns
unfolding log_bytes
returns g c =
    let entries = c.as_slice-entries.result.now in
    let out = c.args.out.now.items in
    rw (c.append_entries.ensures, c.append_u16-3.ensures.items, c.append_u64.ensures.items, c.append.ensures.items, c.append_u16-2.ensures.items, c.append_u16.ensures.items)
    (joined out (big_bytes 2 0x0019) (big_bytes 2 (12 + 32 * length entries)) (1 ∷ 0 ∷ []) (big_bytes 8 c.args.now) (big_bytes 2 (length entries)) (entries_bytes entries)
    ∙ ap (λ (log : List LogEntry). out ++ (big_bytes 2 0x0019 ++ big_bytes 2 (12 + 32 * length log) ++ (1 ∷ 0 ∷ []) ++ big_bytes 8 c.args.now ++ big_bytes 2 (length log)
    ++ entries_bytes log)) c.as_slice-entries.ensures.value)
