use Rattle.std.proofs.Common.{◌≡◌, refl, ◌∙◌, false, rules}
use Rattle.enc_output.specs.declared.decoder_result.DecoderResult.TheVariants.{InputEmpty}
use Rattle.enc_decoder.specs.Call.{IsCallInto}
use Rattle.enc_decoder.specs.CodecState.{remainder_of}
use Rattle.enc_decoder.specs.CallRecord.{CallInto, call_into}
use Rattle.enc_decoder.proofs.ByteLemmas.{bytes_of_slice}
use Rattle.enc_decoder.proofs.JoinedCallLemmas.{stops_in_held, joins}
use Rattle.enc_decoder.proofs.held_first.decode_held_first.Goals as goal

pub returns-then-ne-clause-call : goal.returns-then-ne-clause-call
returns-then-ne-clause-call g c =
    let stopped : c.decode-first.result.result ≡ InputEmpty → ⊥ = search rules in
    record {
      call = stops_in_held (call_into c.args.held.now c.args.options
          (g.U.Units.output c.args.out.now) (g.U.Units.output c.decode-first.new.out)
          c.decode-first.result) c.args.src.now c.args.options.last
          (bytes_of_slice _ c.type_inv.held) (bytes_of_slice _ c.type_inv.src) stopped
          c.decode-first.ensures.call.call;
      rule = c.decode-first.ensures.call.rule;
    }

pub returns-clause-call : goal.returns-clause-call
returns-clause-call g c =
    let all_read : c.decode-first.result.result ≡ InputEmpty = search rules in
    let held : CallInto = call_into c.args.held.now (record c.args.options { last = false })
    (g.U.Units.output c.args.out.now) (g.U.Units.output c.decode-first.new.out)
    c.decode-first.result in
    let first : IsCallInto g.U.Units.units_of
    (remainder_of (g.D.RawDecoder.state c.args.codec.now))
    (remainder_of (g.D.RawDecoder.state c.decode-first.new.self))
    (record held { result = InputEmpty }) = rw all_read at c.decode-first.ensures.call.call in
    record {
      call = joins held _ (bytes_of_slice _ c.type_inv.held)
          (bytes_of_slice _ c.type_inv.src) refl refl first c.decode-then.ensures.call.call;
      rule = c.decode-then.ensures.call.rule ∙ c.decode-first.ensures.call.rule;
    }
