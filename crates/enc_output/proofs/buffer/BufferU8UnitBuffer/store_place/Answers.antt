use Rattle.std.proofs.Common.{arith}
use Rattle.std.proofs.lemmas.List.{take_all}
use Rattle.enc_output.proofs.GatherLemmas.{word_put}
use Rattle.enc_output.proofs.buffer.BufferU8UnitBuffer.store_place.Goals as goal

pub returns-clause-stored : goal.returns-clause-stored
returns-clause-stored g c was_stored bytes at some =
    word_put (take_all _ bytes (omega arith)) (c.word_at-word.ensures (omega arith) bytes at) some
    (omega arith) c.requires.room c.store_word.ensures.stored
