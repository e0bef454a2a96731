use Rattle.std.proofs.Common.{refl, arith}
use Rattle.enc_output.proofs.GatherLemmas.{word_put}
use Rattle.enc_output.proofs.buffer.BufferU8UnitBuffer.store_byte.Goals as goal

pub returns-clause-stored : goal.returns-clause-stored
returns-clause-stored g c was_stored =
    word_put refl (c.word-word.ensures (omega arith)) (omega arith) (omega arith) c.requires.room
    c.store_word.ensures.stored
