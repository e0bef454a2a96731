use Rattle.std.proofs.Common.{sym, ◌∙◌, inl, inr}
use Rattle.enc_decoder_multi_byte.proofs.multi_byte.malformed_len.Goals as goal

pub returns-in-Malformed : goal.returns-in-Malformed
returns-in-Malformed g c = inl (sym c.classify.ensures ∙ c.in-Malformed.is)

pub classify-requires-2 : goal.classify-requires-2
classify-requires-2 g c = record { incomplete = (sym c.classify.ensures ∙ c.in-Incomplete.is, tt) }

pub returns-in-Malformed-classify : goal.returns-in-Malformed-classify
returns-in-Malformed-classify g c =
    inr (
      sym c.classify.ensures ∙ c.in-Incomplete.is,
      sym c.classify-2.ensures ∙ c.in-Malformed-classify.is,
    )
