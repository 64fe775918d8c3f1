-- The call is read back, and so is its frame.
use Rattle.std.proofs.Common.{ℕ, List, [], Some, None, Ok, Result, sym, ap, ◌∙◌, arith}
use Rattle.std.proofs.lemmas.List.{append-nil}
use Rattle.frame_codec.specs.declared.fault.FrameFault.{FrameFault}
use Rattle.frame_codec.specs.declared.udp.Endpoint.{Endpoint}
use Rattle.frame_codec.specs.Calls.{calls_at}
use Rattle.frame_codec.specs.Frame.{frame_bytes, frame_of}
use Rattle.frame_codec.specs.Meaning.{Meaning, UdpDatagram}
use Rattle.rpc_core.specs.declared.fault.RpcFault.{RpcFault}
use Rattle.rpc_core.specs.declared.header.CallHeader.{CallHeader}
use Rattle.rpc_core.specs.declared.interface.Interface.TheVariants.{Device}
use Rattle.rpc_core.specs.Call.{Asked, call_bytes, call_of}
use Rattle.commissioning.specs.Record.{header_of}
use Rattle.commissioning.proofs.record.read_record.Goals as goal

pub returns : goal.returns
returns c =
    let tool = c.args.tool.now in
    let target = c.args.target.now in
    let body = c.as_slice-2.result.now in
    let from : Endpoint → Endpoint → Result Meaning FrameFault = λ s t. Ok (record { destination = target.mac; source = tool.mac; tag = None; content = UdpDatagram s t body }) in
    let asked : CallHeader → List ℕ → Result Asked RpcFault = λ header blocks. Ok (record { header = header; args_maximum = 1372; blocks = Some blocks }) in
    let spelled : CallHeader → List ℕ → List ℕ = λ header blocks. call_bytes Device (record { header = header; args_maximum = 1372; blocks = Some blocks }) in
    let framed : Endpoint → Endpoint → List ℕ = λ s t. frame_bytes (record { destination = target.mac; source = tool.mac; tag = None; content = UdpDatagram s t body }) in
    record {
      body = body;
      octets = c.as_slice-2.ensures.value ∙ c.write_request.ensures.exact Device
          ∙ ap (λ h. spelled h c.as_slice.result.now) c.header_of.ensures
          ∙ ap (spelled (header_of target c.args.activity)) (c.as_slice.ensures.value ∙ c.read_block_of-blocks.ensures);
      whole = c.write.ensures.exact ∙ ap (λ s. framed s c.of_calls-2.result) c.of_calls.ensures ∙ ap (framed (calls_at tool.address)) c.of_calls-2.ensures;
      read = ap frame_of (sym (append-nil c.write.result.items)) ∙ c.write.ensures.behind [] (omega (arith, c.write.ensures.most))
          ∙ ap (λ s. from s c.of_calls-2.result) c.of_calls.ensures ∙ ap (from (calls_at tool.address)) c.of_calls-2.ensures;
      asks = ap (call_of Device) (c.as_slice-2.ensures.value ∙ sym (append-nil c.write_request.new.datagram.items))
          ∙ c.write_request.ensures.behind Device [] (ap (λ (h : CallHeader). h.interface) c.header_of.ensures)
          ∙ ap (λ h. asked h c.as_slice.result.now) c.header_of.ensures
          ∙ ap (asked (header_of target c.args.activity)) (c.as_slice.ensures.value ∙ c.read_block_of-blocks.ensures);
    }
