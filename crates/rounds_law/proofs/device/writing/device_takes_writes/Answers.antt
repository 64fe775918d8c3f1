-- By the laws of the crates below.
use Rattle.controller_messages.specs.declared.request.Request.TheVariants.{Write}
use Rattle.end_laws.specs.hearing.Hearing.{comes}
use Rattle.device_frames.specs.Heard.{heard_of}
use Rattle.rounds_law.specs.Path.{request_to}
use Rattle.std.proofs.Common.{arith}
use Rattle.rounds_law.proofs.WriteTaken.{fit_each, number_few, write_answered, write_heard}
use Rattle.rounds_law.proofs.device.writing.device_takes_writes.Goals as goal

pub returns : goal.returns
returns c = record {
  written = λ can has_address writable serial outcomes station live number age own of_plan addressed below relation.
      let setup = c.args.setup.now in
      let identity = c.args.identity.now in
      let good = c.stations_are_real.ensures.setup in
      let few = good.plan.few_records in
      let call = c.calls_can_be_sent.ensures.call setup (Write number) good tt (omega (arith, number_few setup.plan number below few)) in
      let fits = fit_each setup.plan.real setup.plan.records.items can.records c.plan_is_placed.ensures good.plan.short_records writable in
      write_answered c.blocks_are_read.ensures.read c.blocks_are_read.ensures.long setup identity good.ar few fits has_address number below call.header
      outcomes station live age own of_plan.plugged of_plan.names addressed serial relation
      (heard_of station.identity (comes (request_to setup identity (Write number))))
      (write_heard c.calls_are_heard.ensures.device setup identity station.identity number good c.stations_are_real.ensures.device call own);
}
