use Rattle.std.proofs.lemmas.Result.{on_ok_weaker}
use Rattle.script_session.proofs.Leaping.{leapt_sent}
use Rattle.script_session.proofs.both.leap.Goals as goal

pub returns-clause-leapt : goal.returns-clause-leapt
returns-clause-leapt c station runs =
    on_ok_weaker c.send_all.result
    (leapt_sent _ c.elapse.new.self c.args.other.now c.send_all.new.self c.args.text.now.items c.send_all.new.text.items c.elapse.new.outbox (c.elapse.ensures.leapt station runs))
    c.send_all.ensures
