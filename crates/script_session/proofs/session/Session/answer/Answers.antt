use Rattle.std.proofs.Common.{subst, sym}
use Rattle.script_session.specs.Said.{said}
use Rattle.script_session.specs.Session.{Are}
use Rattle.script_session.proofs.Flashes.{back_demo}
use Rattle.script_session.proofs.Obeying.{always_obeys, always_tells, chosen_obeyed, if_there_obeys, if_there_tells, serve_obeyed}
use Rattle.script_session.proofs.session.Session.answer.Goals as goal

pub returns-in-Frame-clause-obeys : goal.returns-in-Frame-clause-obeys
unfolding said
returns-in-Frame-clause-obeys c plans network right are plain = rw c.in-Frame.is (always_obeys _ _ _ _ _ _ (c.hand_in.ensures.obeys network are) c.always.ensures)

pub returns-in-Input-clause-obeys : goal.returns-in-Input-clause-obeys
unfolding said
returns-in-Input-clause-obeys c plans network right are plain = rw c.in-Input.is (always_obeys _ _ _ _ _ _ (rw c.of.ensures.value at (c.say.ensures.obeys network are)) c.always-in-Input.ensures)

pub returns-in-Alarm-clause-obeys : goal.returns-in-Alarm-clause-obeys
unfolding said
returns-in-Alarm-clause-obeys c plans network right are plain = rw c.in-Alarm.is (always_obeys _ _ _ _ _ _ (rw c.of-in-Alarm.ensures.value at (c.say-in-Alarm.ensures.obeys network are)) c.always-in-Alarm.ensures)

pub returns-in-Restart-clause-obeys : goal.returns-in-Restart-clause-obeys
unfolding said
returns-in-Restart-clause-obeys c plans network right are plain = rw c.in-Restart.is (always_obeys _ _ _ _ _ _ (c.restart.ensures.obeys network are) c.always-in-Restart.ensures)

pub returns-in-Tick-clause-obeys : goal.returns-in-Tick-clause-obeys
unfolding said
returns-in-Tick-clause-obeys c plans network right are plain = rw c.in-Tick.is (if_there_obeys _ _ _ _ _ _ (c.tick.ensures.obeys network are) c.if_there.ensures)

pub returns-in-Elapse-clause-obeys : goal.returns-in-Elapse-clause-obeys
unfolding said
returns-in-Elapse-clause-obeys c plans network right are plain = rw c.in-Elapse.is (if_there_obeys _ _ _ _ _ _ (c.elapse.ensures.obeys network are) c.if_there-in-Elapse.ensures)

pub returns-in-Due-clause-obeys : goal.returns-in-Due-clause-obeys
unfolding said
returns-in-Due-clause-obeys c plans network right are plain = rw c.in-Due.is (always_obeys _ _ _ _ _ _ (c.due.ensures network are) c.always-in-Due.ensures)

pub returns-in-Choose-clause-obeys : goal.returns-in-Choose-clause-obeys
unfolding said
returns-in-Choose-clause-obeys c plans network right are plain =
    let ends = subst (Are network) (sym c.self.view_is) are in
    rw c.in-Choose.is (always_obeys _ _ _ _ _ _ (chosen_obeyed network c.in-Choose.choice _ _ _ c.args.text.now.items ends.0 ends.1 c.choose.ensures) c.always-in-Choose.ensures)

pub returns-in-Ready-clause-obeys : goal.returns-in-Ready-clause-obeys
unfolding said
returns-in-Ready-clause-obeys c plans network right are plain = rw c.in-Ready.is (always_obeys _ _ _ _ _ _ (c.say-in-Ready.ensures.obeys network are) c.always-in-Ready.ensures)

pub returns-in-Status-clause-obeys : goal.returns-in-Status-clause-obeys
unfolding said
returns-in-Status-clause-obeys c plans network right are plain = rw c.in-Status.is (always_obeys _ _ _ _ _ _ (c.say-in-Status.ensures.obeys network are) c.always-in-Status.ensures)

pub returns-in-Diagnosis-clause-obeys : goal.returns-in-Diagnosis-clause-obeys
unfolding said
returns-in-Diagnosis-clause-obeys c plans network right are plain = rw c.in-Diagnosis.is (always_obeys _ _ _ _ _ _ (c.say-in-Diagnosis.ensures.obeys network are) c.always-in-Diagnosis.ensures)

pub returns-in-Provider-clause-obeys : goal.returns-in-Provider-clause-obeys
unfolding said
returns-in-Provider-clause-obeys c plans network right are plain = rw c.in-Provider.is (always_obeys _ _ _ _ _ _ (c.provider.ensures network are) c.always-in-Provider.ensures)

pub returns-in-Show-clause-obeys : goal.returns-in-Show-clause-obeys
unfolding said
returns-in-Show-clause-obeys c plans network right are plain = rw c.in-Show.is (always_obeys _ _ _ _ _ _ (c.show.ensures network are) c.always-in-Show.ensures)

pub returns-in-Config-clause-obeys : goal.returns-in-Config-clause-obeys
unfolding said
returns-in-Config-clause-obeys c plans network right are plain = rw c.in-Config.is (c.config.ensures.obeys plans network (rw c.in-Config.is at right) are)

pub returns-in-Give-clause-obeys : goal.returns-in-Give-clause-obeys
unfolding said
returns-in-Give-clause-obeys c plans network right are plain = rw c.in-Give.is (if_there_obeys _ _ _ _ _ _ (c.give_output.ensures.obeys network are) c.if_there-in-Give.ensures)

pub returns-in-OutputStatus-clause-obeys : goal.returns-in-OutputStatus-clause-obeys
unfolding said
returns-in-OutputStatus-clause-obeys c plans network right are plain = rw c.in-OutputStatus.is (if_there_obeys _ _ _ _ _ _ (c.output_status.ensures.obeys network are) c.if_there-in-OutputStatus.ensures)

pub returns-in-Restart-clause-demo : goal.returns-in-Restart-clause-demo
returns-in-Restart-clause-demo c demo = back_demo _ _ _ _ demo c.restart.ensures.back

pub returns-in-Frame-clause-lost : goal.returns-in-Frame-clause-lost
returns-in-Frame-clause-lost c handed there gone = rw c.in-Frame.is (always_tells _ _ _ (c.hand_in.ensures.lost there gone) c.always.ensures)

pub returns-in-Input-clause-lost : goal.returns-in-Input-clause-lost
returns-in-Input-clause-lost c handed there gone = rw c.in-Input.is (always_tells _ _ _ (c.say.ensures.lost there gone) c.always-in-Input.ensures)

pub returns-in-Alarm-clause-lost : goal.returns-in-Alarm-clause-lost
returns-in-Alarm-clause-lost c handed there gone = rw c.in-Alarm.is (always_tells _ _ _ (c.say-in-Alarm.ensures.lost there gone) c.always-in-Alarm.ensures)

pub returns-in-Ready-clause-lost : goal.returns-in-Ready-clause-lost
returns-in-Ready-clause-lost c handed there gone = rw c.in-Ready.is (always_tells _ _ _ (c.say-in-Ready.ensures.lost there gone) c.always-in-Ready.ensures)

pub returns-in-Status-clause-lost : goal.returns-in-Status-clause-lost
returns-in-Status-clause-lost c handed there gone = rw c.in-Status.is (always_tells _ _ _ (c.say-in-Status.ensures.lost there gone) c.always-in-Status.ensures)

pub returns-in-Diagnosis-clause-lost : goal.returns-in-Diagnosis-clause-lost
returns-in-Diagnosis-clause-lost c handed there gone = rw c.in-Diagnosis.is (always_tells _ _ _ (c.say-in-Diagnosis.ensures.lost there gone) c.always-in-Diagnosis.ensures)

pub returns-in-Deliver-clause-lost : goal.returns-in-Deliver-clause-lost
returns-in-Deliver-clause-lost c handed there gone = rw c.in-Deliver.is (if_there_tells _ _ _ (c.deliver.ensures.lost there gone) c.if_there-in-Deliver.ensures)

pub returns-in-Serve-clause-obeys : goal.returns-in-Serve-clause-obeys
unfolding said
returns-in-Serve-clause-obeys c plans network right are plain =
    let ends = subst (Are network) (sym c.self-in-Serve.view_is) are in
    rw c.in-Serve.is (always_obeys _ _ _ _ _ _ (serve_obeyed network _ _ _ c.args.text.now.items (c.serve.ensures.runs network.station ends.0) ends.1 c.serve-in-Serve.ensures) c.always-in-Serve.ensures)

pub returns-in-Read-clause-obeys : goal.returns-in-Read-clause-obeys
unfolding said
returns-in-Read-clause-obeys c plans network right are plain = rw c.in-Read.is (if_there_obeys _ _ _ _ _ _ (c.read.ensures.obeys network are) c.if_there-in-Read.ensures)

pub returns-in-Write-clause-obeys : goal.returns-in-Write-clause-obeys
unfolding said
returns-in-Write-clause-obeys c plans network right are plain = rw c.in-Write.is (if_there_obeys _ _ _ _ _ _ (c.write.ensures.obeys network are) c.if_there-in-Write.ensures)

pub returns-in-ReadyAt-clause-obeys : goal.returns-in-ReadyAt-clause-obeys
unfolding said
returns-in-ReadyAt-clause-obeys c plans network right are plain = rw c.in-ReadyAt.is (always_obeys _ _ _ _ _ _ (c.say-in-ReadyAt.ensures.obeys network are) c.always-in-ReadyAt.ensures)

pub returns-in-ReadyAt-clause-lost : goal.returns-in-ReadyAt-clause-lost
returns-in-ReadyAt-clause-lost c handed there gone = rw c.in-ReadyAt.is (always_tells _ _ _ (c.say-in-ReadyAt.ensures.lost there gone) c.always-in-ReadyAt.ensures)

pub returns-in-Pull-clause-obeys : goal.returns-in-Pull-clause-obeys
unfolding said
returns-in-Pull-clause-obeys c plans network right are plain = rw c.in-Pull.is (always_obeys _ _ _ _ _ _ (c.say-in-Pull.ensures.obeys network are) c.always-in-Pull.ensures)

pub returns-in-Pull-clause-lost : goal.returns-in-Pull-clause-lost
returns-in-Pull-clause-lost c handed there gone = rw c.in-Pull.is (always_tells _ _ _ (c.say-in-Pull.ensures.lost there gone) c.always-in-Pull.ensures)

pub returns-in-PullModule-clause-obeys : goal.returns-in-PullModule-clause-obeys
unfolding said
returns-in-PullModule-clause-obeys c plans network right are plain = rw c.in-PullModule.is (always_obeys _ _ _ _ _ _ (c.say-in-PullModule.ensures.obeys network are) c.always-in-PullModule.ensures)

pub returns-in-PullModule-clause-lost : goal.returns-in-PullModule-clause-lost
returns-in-PullModule-clause-lost c handed there gone = rw c.in-PullModule.is (always_tells _ _ _ (c.say-in-PullModule.ensures.lost there gone) c.always-in-PullModule.ensures)

pub returns-in-Plug-clause-obeys : goal.returns-in-Plug-clause-obeys
unfolding said
returns-in-Plug-clause-obeys c plans network right are plain = rw c.in-Plug.is (always_obeys _ _ _ _ _ _ (c.say-in-Plug.ensures.obeys network are) c.always-in-Plug.ensures)

pub returns-in-Plug-clause-lost : goal.returns-in-Plug-clause-lost
returns-in-Plug-clause-lost c handed there gone = rw c.in-Plug.is (always_tells _ _ _ (c.say-in-Plug.ensures.lost there gone) c.always-in-Plug.ensures)

pub returns-in-Expected-clause-obeys : goal.returns-in-Expected-clause-obeys
unfolding said
returns-in-Expected-clause-obeys c plans network right are plain = rw c.in-Expected.is (always_obeys _ _ _ _ _ _ (c.expected.ensures network are) c.always-in-Expected.ensures)

pub returns-in-Asked-clause-obeys : goal.returns-in-Asked-clause-obeys
unfolding said
returns-in-Asked-clause-obeys c plans network right are plain =
    rw c.in-Asked.is (always_obeys _ _ _ _ _ _ (c.asked.ensures network are) c.always-in-Asked.ensures)

pub returns-in-AnswerRead-clause-obeys : goal.returns-in-AnswerRead-clause-obeys
unfolding said
returns-in-AnswerRead-clause-obeys c plans network right are plain =
    let said = rw c.of-in-AnswerRead.ensures.value at (c.say-in-AnswerRead.ensures.obeys network are) in
    rw c.in-AnswerRead.is (always_obeys _ _ _ _ _ _ said c.always-in-AnswerRead.ensures)

pub returns-in-AnswerRead-clause-lost : goal.returns-in-AnswerRead-clause-lost
returns-in-AnswerRead-clause-lost c handed there gone =
    rw c.in-AnswerRead.is (always_tells _ _ _ (c.say-in-AnswerRead.ensures.lost there gone) c.always-in-AnswerRead.ensures)

pub returns-in-AnswerWrite-clause-obeys : goal.returns-in-AnswerWrite-clause-obeys
unfolding said
returns-in-AnswerWrite-clause-obeys c plans network right are plain =
    rw c.in-AnswerWrite.is (always_obeys _ _ _ _ _ _ (c.say-in-AnswerWrite.ensures.obeys network are) c.always-in-AnswerWrite.ensures)

pub returns-in-AnswerWrite-clause-lost : goal.returns-in-AnswerWrite-clause-lost
returns-in-AnswerWrite-clause-lost c handed there gone =
    rw c.in-AnswerWrite.is (always_tells _ _ _ (c.say-in-AnswerWrite.ensures.lost there gone) c.always-in-AnswerWrite.ensures)

pub returns-in-Refuse-clause-obeys : goal.returns-in-Refuse-clause-obeys
unfolding said
returns-in-Refuse-clause-obeys c plans network right are plain =
    rw c.in-Refuse.is (always_obeys _ _ _ _ _ _ (c.say-in-Refuse.ensures.obeys network are) c.always-in-Refuse.ensures)

pub returns-in-Refuse-clause-lost : goal.returns-in-Refuse-clause-lost
returns-in-Refuse-clause-lost c handed there gone =
    rw c.in-Refuse.is (always_tells _ _ _ (c.say-in-Refuse.ensures.lost there gone) c.always-in-Refuse.ensures)
