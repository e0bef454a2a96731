use Rattle.std.proofs.Common.{arith}
use Rattle.enc_utf8.proofs.Utf8SequenceLemmas.{two_range, second_range}
use Rattle.enc_decoder_utf.proofs.utf_8.two_byte_char.Goals as goal

pub overflow_sub-scalar : goal.overflow_sub-scalar
overflow_sub-scalar c = let lead_in_range = two_range c.args.first c.requires.len in omega arith

pub overflow_sub-scalar-2 : goal.overflow_sub-scalar-2
overflow_sub-scalar-2 c = (second_range c.args.first c.args.second c.requires.second).0
