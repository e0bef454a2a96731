use Rattle.std.proofs.Common.{ℕ, [], ◌∷◌, arith}
use Rattle.enc_decoder.specs.Taking.{IsWholeChar}
use Rattle.enc_decoder_single_byte.specs.OneByte.{one_byte_rule}
use Rattle.enc_utf8.proofs.LaneLemmas.{all_more}
use Rattle.enc_utf8.proofs.LengthLemmas.{rest_is}
use Rattle.enc_decoder_single_byte.proofs.OneByteLemmas.{plain_own}
use Rattle.enc_decoder_single_byte.proofs.one_byte.OneByteDecoderPrefixCodec.latin1_front.Goals as goal

pub returns-then-letters-ne0-clause-latin1 : goal.returns-then-letters-ne0-clause-latin1
returns-then-letters-ne0-clause-latin1 g c k d inside =
    c.has_ascii.ensures c.if-not-has_ascii.false _
    (c.ascii_valid_up_to-ascii.ensures.has k d inside)

pub returns-clause-latin1 : goal.returns-clause-latin1
returns-clause-latin1 g c =
    let keeps = c.has_ascii.ensures c.if-not-has_ascii.false in
    let more = rw (rest_is c.ascii_valid_up_to-ascii.result c.args.src.now) at
    c.plain_len.ensures.plain in
    let Own = λ (b : ℕ).
    IsWholeChar (one_byte_rule (g.E.OneByte.character c.args.self.encoding)) 0 (b ∷ []) b in
    all_more Own c.ascii_valid_up_to-ascii.result c.plain_len.result c.args.src.now
    (λ k d inside. keeps _ (c.ascii_valid_up_to-ascii.ensures.has k d inside))
    (λ k d inside. plain_own c.letters-letters.result (omega (arith, c.if-letters-ne0.false)) keeps
    c.letters-letters.ensures _ (more k d inside))
