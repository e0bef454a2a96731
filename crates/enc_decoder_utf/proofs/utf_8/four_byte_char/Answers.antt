use Rattle.enc_utf8.proofs.Utf8SequenceLemmas.{four_range, second_range, continuation_range}
use Rattle.enc_decoder_utf.proofs.Utf8Lemmas.{four_scalar}
use Rattle.enc_decoder_utf.proofs.utf_8.four_byte_char.Goals as goal

pub overflow_sub-scalar : goal.overflow_sub-scalar
overflow_sub-scalar c = (four_range c.args.first c.requires.len).0

pub overflow_sub-scalar-2 : goal.overflow_sub-scalar-2
overflow_sub-scalar-2 c = (second_range c.args.first c.args.second c.requires.second).0

pub overflow_sub-scalar-3 : goal.overflow_sub-scalar-3
overflow_sub-scalar-3 c = (continuation_range c.args.third c.requires.third).0

pub overflow_sub-scalar-4 : goal.overflow_sub-scalar-4
overflow_sub-scalar-4 c = (continuation_range c.args.fourth c.requires.fourth).0

pub unwrap-requires : goal.unwrap-requires
unwrap-requires c =
    c.from_u32.ensures.succeeds (four_scalar c.args.first c.args.second c.args.third c.args.fourth
    c.requires.len c.requires.second c.requires.third c.requires.fourth)
