-- A diagnosis, and then the rest.
use Rattle.std.proofs.Common.{◌≡◌, ◌∙◌, ◌++◌, ◌+◌, List, ℕ, [], true, ap, drop, get_or, subst, take, rules, arith}
use Rattle.std.proofs.lemmas.List.{drop_all, drop_more}
use Rattle.diagnosis.specs.Notices.{channel_bytes}
use Rattle.diagnosis.specs.Record.{channels_bytes}
use Rattle.diagnosis.specs.declared.diagnosis.Diagnosis.{Diagnosis}
use Rattle.diagnosis.proofs.Cut.{goes_on, is_cut}
use Rattle.diagnosis.proofs.record.put_channels.Goals as goal

-- Any diagnosis, for a place that does not exist.
abbrev blank : Diagnosis
blank = record { slot = 0; subslot = 0; channel = 0; error = 0 }

pub loop-diagnosis-preserved : goal.loop-diagnosis-preserved
loop-diagnosis-preserved c =
    let i = c.loop-diagnosis.diagnosis-index in
    let all = c.args.own.now in
    let whole = take 1308 (c.args.octets.now.items ++ channels_bytes all) in
    let before = subst (λ (left : List Diagnosis). take 1308 (c.loop-diagnosis.octets.items ++ channels_bytes left) ≡ whole)
    (drop_more all i blank c.loop-diagnosis-test.true) c.loop-diagnosis.invariant.octets in
    record {
      octets = goes_on 1308 c.append_cut.new.octets.items c.loop-diagnosis.octets.items
          (channel_bytes (record { diagnosis = get_or all i blank; appears = true })) (channels_bytes (drop (i + 1) all)) whole (search rules) before;
      few = c.append_cut.ensures.few;
    }

pub returns-clause-items : goal.returns-clause-items
returns-clause-items c =
    let all = c.args.own.now in
    let whole = take 1308 (c.args.octets.now.items ++ channels_bytes all) in
    let before = subst (λ (left : List Diagnosis). take 1308 (c.loop-diagnosis.octets.items ++ channels_bytes left) ≡ whole)
    (drop_all c.loop-diagnosis.diagnosis-index all (omega (arith, c.loop-diagnosis-test.false))) c.loop-diagnosis.invariant.octets in
    is_cut 1308 c.loop-diagnosis.octets.items whole c.loop-diagnosis.invariant.few before
