use Rattle.std.proofs.Common.{arith, sym, ◌∙◌}
use Rattle.enc_decoder.specs.declared.byte_codec.Kind.TheVariants.{Valid, Malformed}
use Rattle.enc_decoder.proofs.PieceLemmas.{one_of, two_of, three_of, four_of}
use Rattle.enc_decoder.proofs.ReplacedCharLemmas.{whole_at, before_byte}
use Rattle.enc_utf8.proofs.Utf8SequenceLemmas.{len_by_range}
use Rattle.enc_decoder_utf.proofs.Utf8FirstSequences.{none_malformed, one_valid, one_malformed, two_valid}
use Rattle.enc_decoder_utf.proofs.Utf8FirstSequences.{two_malformed, three_valid, three_malformed, four_valid}
use Rattle.enc_decoder_utf.proofs.Utf8Rule.{utf_8_by_prefixes}
use Rattle.enc_decoder_utf.proofs.Utf8Pieces.{valued, none_len, lead_len}
use Rattle.enc_decoder_utf.proofs.utf_8.Utf8DecoderPrefixCodec.replaced_at.Goals as goal

pub returns-then-first-lt128-clause-first : goal.returns-then-first-lt128-clause-first
returns-then-first-lt128-clause-first c =
    rw utf_8_by_prefixes (whole_at Valid _ (one_of c.args.src.now c.args.at c.requires.within)
    (λ y. one_valid _ y ((len_by_range _).one c.if-first-lt128.true)))

pub returns-then-not-is_lead-clause-first : goal.returns-then-not-is_lead-clause-first
returns-then-not-is_lead-clause-first c =
    rw utf_8_by_prefixes (whole_at Malformed _ (one_of c.args.src.now c.args.at c.requires.within)
    (λ y. none_malformed _ y
    (none_len _ c.if-first-lt128.false (sym c.is_lead.ensures ∙ c.if-not-is_lead.true))))

pub returns-then-not-is_second_byte-clause-first : goal.returns-then-not-is_second_byte-clause-first
returns-then-not-is_second_byte-clause-first c =
    rw utf_8_by_prefixes (before_byte Malformed _
    (one_of c.args.src.now c.args.at c.requires.within) (omega arith)
    (λ z. one_malformed _ _ z (lead_len _ (sym c.is_lead.ensures ∙ c.if-not-is_lead.false)).0
    (sym c.is_second_byte.ensures ∙ c.if-not-is_second_byte.true)))

pub two_byte_char-requires-clause-len : goal.two_byte_char-requires-clause-len
two_byte_char-requires-clause-len c =
    (lead_len _ (sym c.is_lead.ensures ∙ c.if-not-is_lead.false)).1 c.if-first-lt224.true

pub returns-then-first-lt224-clause-first : goal.returns-then-first-lt224-clause-first
returns-then-first-lt224-clause-first c =
    rw utf_8_by_prefixes (whole_at Valid _ (two_of c.args.src.now c.args.at (omega arith))
    (valued _ _ c.two_byte_char.ensures (λ y. two_valid _ _ y
    ((lead_len _ (sym c.is_lead.ensures ∙ c.if-not-is_lead.false)).1 c.if-first-lt224.true)
    (sym c.is_second_byte.ensures ∙ c.if-not-is_second_byte.false))))

pub returns-then-not-is_continuation-clause-first :
    goal.returns-then-not-is_continuation-clause-first
returns-then-not-is_continuation-clause-first c =
    rw utf_8_by_prefixes (before_byte Malformed _ (two_of c.args.src.now c.args.at (omega arith))
    (omega arith)
    (λ z. two_malformed _ _ _ z
    ((lead_len _ (sym c.is_lead.ensures ∙ c.if-not-is_lead.false)).2 c.if-first-lt224.false)
    (sym c.is_second_byte.ensures ∙ c.if-not-is_second_byte.false)
    (sym c.is_continuation.ensures ∙ c.if-not-is_continuation.true)))

pub three_byte_char-requires-clause-len : goal.three_byte_char-requires-clause-len
three_byte_char-requires-clause-len c =
    (len_by_range _).three c.if-first-lt224.false c.if-first-lt240.true

pub returns-then-first-lt240-clause-first : goal.returns-then-first-lt240-clause-first
returns-then-first-lt240-clause-first c =
    rw utf_8_by_prefixes (whole_at Valid _ (three_of c.args.src.now c.args.at (omega arith))
    (valued _ _ c.three_byte_char.ensures (λ y. three_valid _ _ _ y
    ((len_by_range _).three c.if-first-lt224.false c.if-first-lt240.true)
    (sym c.is_second_byte.ensures ∙ c.if-not-is_second_byte.false)
    (sym c.is_continuation.ensures ∙ c.if-not-is_continuation.false))))

pub four_byte_char-requires-clause-len : goal.four_byte_char-requires-clause-len
four_byte_char-requires-clause-len c =
    (lead_len _ (sym c.is_lead.ensures ∙ c.if-not-is_lead.false)).3 c.if-first-lt240.false

pub returns-then-not-is_continuation-2-clause-first :
    goal.returns-then-not-is_continuation-2-clause-first
returns-then-not-is_continuation-2-clause-first c =
    rw utf_8_by_prefixes (before_byte Malformed _ (three_of c.args.src.now c.args.at (omega arith))
    (omega arith)
    (λ z. three_malformed _ _ _ _ z
    ((lead_len _ (sym c.is_lead.ensures ∙ c.if-not-is_lead.false)).3 c.if-first-lt240.false)
    (sym c.is_second_byte.ensures ∙ c.if-not-is_second_byte.false)
    (sym c.is_continuation.ensures ∙ c.if-not-is_continuation.false)
    (sym c.is_continuation-2.ensures ∙ c.if-not-is_continuation-2.true)))

pub returns-clause-first : goal.returns-clause-first
returns-clause-first c =
    rw utf_8_by_prefixes (whole_at Valid _ (four_of c.args.src.now c.args.at (omega arith))
    (valued _ _ c.four_byte_char.ensures (λ y. four_valid _ _ _ _ y
    ((lead_len _ (sym c.is_lead.ensures ∙ c.if-not-is_lead.false)).3 c.if-first-lt240.false)
    (sym c.is_second_byte.ensures ∙ c.if-not-is_second_byte.false)
    (sym c.is_continuation.ensures ∙ c.if-not-is_continuation.false)
    (sym c.is_continuation-2.ensures ∙ c.if-not-is_continuation-2.false))))
