-- One operation after another.
use Rattle.std.proofs.Common.{◌+◌, ◌++◌, ◌∷◌, [], ℕ, List, true, drop, map, ap, ◌∙◌}
use Rattle.std.proofs.lemmas.Bool.{false≢true}
use Rattle.std.proofs.lemmas.List.{append_assoc}
use Rattle.c_layout.specs.declared.op.Op.{Op}
use Rattle.controller_abi.specs.declared.host.Asked.{Asked}
use Rattle.controller_abi.specs.Host.{Entry}
use Rattle.controller_abi.proofs.HostRuns.{asked_apart, asked_more, both_same, plays_more}
use Rattle.controller_abi.proofs.host.play_all.Goals as goal

abbrev written : Asked → Op × List ℕ
written one = (one.op, one.given.now)

pub returns-then-not-play_one-clause-played : goal.returns-then-not-play_one-clause-played
returns-then-not-play_one-clause-played g c =
    let before = c.loop-asked.invariant in
    let turn = c.if-not-play_one.ensures.played in
    let entries : List Entry = before.entries ++ turn.0 ∷ [] in
    let so_far = c.loop-asked.asked-index in
    let are = asked_more written c.args.operations.now so_far _ before.entries turn.0 c.loop-asked-test.true before.are (both_same _ _ _ _ turn.2 turn.3) in
    record {
      entries = entries;
      rest = map written (drop (so_far + 1) c.args.operations.now);
      told = turn.1 ∙ ap (λ (l : List Entry). l ++ turn.0 ∷ []) before.told ∙ append_assoc (g.H.Host.told c.args.host.now) before.entries (turn.0 ∷ []);
      are = asked_apart written c.args.operations.now (so_far + 1) entries are;
      plays = plays_more before.entries turn.0 c.args.port.now c.loop-asked.port c.play_one.new.port before.plays turn.4;
      all = λ whole. absurd (false≢true whole);
    }

pub loop-asked-preserved : goal.loop-asked-preserved
loop-asked-preserved g c =
    let before = c.loop-asked.invariant in
    let turn = c.if-not-play_one.ensures.played in
    record {
      entries = before.entries ++ turn.0 ∷ [];
      told = turn.1 ∙ ap (λ (l : List Entry). l ++ turn.0 ∷ []) before.told ∙ append_assoc (g.H.Host.told c.args.host.now) before.entries (turn.0 ∷ []);
      are = asked_more written c.args.operations.now c.loop-asked.asked-index _ before.entries turn.0 c.loop-asked-test.true before.are (both_same _ _ _ _ turn.2 turn.3);
      plays = plays_more before.entries turn.0 c.args.port.now c.loop-asked.port c.play_one.new.port before.plays turn.4;
      patient = λ is. (c.if-not-play_one.ensures.patient (before.patient is)).1;
    }
