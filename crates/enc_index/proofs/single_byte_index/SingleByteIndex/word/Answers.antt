use Rattle.enc_index.proofs.GridEntries.{is_word, word_found}
use Rattle.enc_index.proofs.SingleByteLemmas.{words_fit, ascii_found, pointer_found}
use Rattle.enc_index.proofs.single_byte_index.SingleByteIndex.word.Goals as goal

pub returns-clause-ascii : goal.returns-clause-ascii
returns-clause-ascii c l some = word_found _ _ (ascii_found is_word c.args.self _ c.args.byte _
    (words_fit c.args.self c.number-from.ensures.which) c.word_in.ensures some l)

pub returns-clause-others : goal.returns-clause-others
returns-clause-others c l some = word_found _ _ (pointer_found is_word c.args.self _ c.args.byte _
    (words_fit c.args.self c.number-from.ensures.which) c.word_in.ensures some l
    c.ranges.byte.fits)
