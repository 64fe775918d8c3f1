-- A dot ends a label, any other byte belongs to one, and the end of the text ends the last.
use Rattle.std.proofs.Common.{inl, inr, true, refl, sym, ◌∙◌, arith}
use Rattle.station_names.proofs.Labels.{at_start, after_dot, after_letter, after_other, after_all}
use Rattle.station_names.proofs.scan.Found.of.Goals as goal
use Rattle.station_names.proofs.scan.Found.of.Goals.{then-not-is_letter+then-byte-eq46, then-not-is_letter+else-byte-eq46+then-not-is_label_byte, then-not-is_letter+else-byte-eq46+else-not-is_label_byte, else-not-is_letter}

pub loop-index-init : goal.loop-index-init
loop-index-init c = record {
  in_text = omega arith;
  few = omega (arith, c.none-labels.ensures.count);
  between = at_start c.args.bytes.now c.none-labels.result c.none-labels.ensures.seen;
}

pub loop-index-preserved : goal.loop-index-preserved
loop-index-preserved c =
    let before = c.loop-index.invariant in
    elim c.if-not-is_letter.branch [
      | then-not-is_letter+then-byte-eq46 w ↦ rw (w.labels-is, w.has_bad_byte-is, w.start-is) (record {
        in_text = omega arith;
        few = omega (arith, before.few, before.in_text, w.and-labels.ensures.count);
        between = after_dot c.args.bytes.now c.loop-index.start c.loop-index.index c.loop-index.labels w.and-labels.result c.loop-index.has_bad_byte
            c.loop-index-test.true w.if-byte-eq46.true before.between w.and-labels.ensures.seen;
      })
      | then-not-is_letter+else-byte-eq46+then-not-is_label_byte w ↦ rw (w.labels-is, w.has_bad_byte-is, w.start-is) (record {
        in_text = omega (arith, before.in_text);
        few = before.few;
        between = after_other c.args.bytes.now c.loop-index.start c.loop-index.index c.loop-index.labels c.loop-index.has_bad_byte true
            before.in_text c.loop-index-test.true w.if-byte-eq46.false before.between
            (λ _. inr (sym w.is_label_byte.ensures ∙ w.if-not-is_label_byte.true), λ _. refl);
      })
      | then-not-is_letter+else-byte-eq46+else-not-is_label_byte w ↦ rw (w.labels-is, w.has_bad_byte-is, w.start-is) (record {
        in_text = omega (arith, before.in_text);
        few = before.few;
        between = after_other c.args.bytes.now c.loop-index.start c.loop-index.index c.loop-index.labels c.loop-index.has_bad_byte c.loop-index.has_bad_byte
            before.in_text c.loop-index-test.true w.if-byte-eq46.false before.between
            (λ yes. inl yes, λ h. elim h [ inl old ↦ old | inr bad ↦ (let good = w.if-not-is_label_byte.false in let e = w.is_label_byte.ensures in cc) ]);
      })
      | else-not-is_letter w ↦ rw (w.labels-is, w.has_bad_byte-is, w.start-is) (record {
        in_text = omega (arith, before.in_text);
        few = before.few;
        between = after_letter c.args.bytes.now c.loop-index.start c.loop-index.index c.loop-index.labels c.loop-index.has_bad_byte
            before.in_text c.loop-index-test.true (sym c.is_letter.ensures ∙ w.if-not-is_letter.false) before.between;
      })
    ]

pub returns : goal.returns
returns c =
    let all = after_all c.args.bytes.now c.loop-index.start c.loop-index.index c.loop-index.labels c.and.result c.loop-index.has_bad_byte
    c.loop-index-test.false (omega (arith, c.loop-index.auto.index-end)) c.loop-index.invariant.between c.and.ensures.seen in
    record { short = c.requires; seen = all.0; bad = all.1 }
