use Rattle.std.proofs.Common.{sym}
use Rattle.enc_sniff.proofs.TokenLemmas.{word_token}
use Rattle.enc_sniff.proofs.tokens.take_token.Goals as goal

pub returns-clause-value : goal.returns-clause-value
returns-clause-value c =
    word_token _ _ _ _ c.requires.some c.if-first-eq34.false (sym c.if-not-has.ensures)
    c.past_byte.ensures c.split_run.ensures.front c.split_run.ensures.rest
