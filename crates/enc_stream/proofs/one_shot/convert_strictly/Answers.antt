use Rattle.std.proofs.Common.{rules}
use Rattle.enc_decoder.proofs.ByteLemmas.{bytes_of_slice}
use Rattle.enc_stream.proofs.OneShotDecodeLemmas.{nothing, something, none_strict, strict_end, strict_report}
use Rattle.enc_stream.proofs.OneShotDecodeLemmas.{never_full, has_room, asks_for_memory}
use Rattle.enc_stream.proofs.one_shot.convert_strictly.Goals as goal

pub returns-then-is_empty-clause-text : goal.returns-then-is_empty-clause-text
returns-then-is_empty-clause-text c =
    rw c.empty_text.ensures.bytes
    (none_strict c.args.encoding c.args.bytes.now
    (nothing c.args.bytes.now (c.if-is_empty.ensures)))

pub returns-in_err-text-clause-memory : goal.returns-in_err-text-clause-memory
returns-in_err-text-clause-memory c = λ memory.
    asks_for_memory c.start-decoder.ensures
    c.max_utf8_buffer_length_without_replacement-length.ensures.length
    (something c.if-is_empty.ensures) (search rules)

pub unreachable-requires : goal.unreachable-requires
unreachable-requires c =
    never_full _ _ c.max_utf8_buffer_length_without_replacement-length.ensures.enough
    (has_room _ _ c.in_ok-text.ensures.room) (bytes_of_slice _ c.type_inv.bytes)
    (c.decode_to_string_without_replacement-stop.ensures.call.need.full.0 c.in-OutputFull.is)

pub returns-in-InputEmpty-clause-text : goal.returns-in-InputEmpty-clause-text
returns-in-InputEmpty-clause-text c =
    let decoded = c.decode_to_string_without_replacement-stop.ensures in
    strict_end c.start-decoder.ensures _ c.in_ok-text.ensures.bytes decoded.call.decodes
    decoded.appended c.in-InputEmpty.is

pub returns-in-Malformed-clause-text : goal.returns-in-Malformed-clause-text
returns-in-Malformed-clause-text c =
    strict_report c.start-decoder.ensures _
    c.decode_to_string_without_replacement-stop.ensures.call.decodes c.in-Malformed.is
