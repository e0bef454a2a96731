-- A call into a buffer of the queried length is never full.
use Rattle.std.proofs.Common.{◌≡◌, ap, refl, subst, length, true, arith, ℕ}
use Rattle.std.specs.Char.{encode_utf8}
use Rattle.enc_output.specs.Results.{decoder_result_of}
use Rattle.enc_decoder.specs.declared.error_mode.ErrorMode.TheVariants.{Replacement}
use Rattle.enc_decoder.specs.Need.{NeedExceeds}
use Rattle.encoding_rs.specs.Decoding.{decoder_remainder}
use Rattle.example_callers.proofs.decode_sized.Goals as goal

pub unreachable-requires : goal.unreachable-requires
unreachable-requires c =
    let bytes = c.args.bytes.now in
    let decoder = decoder_remainder c.new_decoder-decoder.result in
    let exceeds =
    c.decode_to_utf8-stop.ensures.call.need.full.0 (ap decoder_result_of c.in-OutputFull.is) in
    let room_is : length c.deref_mut.result.now ≡ c.in-Some.most =
    omega (arith, c.deref_mut.ensures.len, c.in_ok-text.ensures.len) in
    c.in-Some.ensures.enough bytes true c.slices_are_bytes.ensures refl
    (subst (λ (room : ℕ). NeedExceeds encode_utf8 Replacement decoder bytes true room) room_is
    exceeds)
