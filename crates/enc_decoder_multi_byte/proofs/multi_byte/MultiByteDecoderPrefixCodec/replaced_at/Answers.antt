use Rattle.std.proofs.Common.{refl, arith, length-drop}
use Rattle.enc_decoder.specs.declared.byte_codec.Kind.TheVariants.{Valid}
use Rattle.enc_decoder.proofs.ReplacedCharLemmas.{whole_at}
use Rattle.enc_decoder_multi_byte.proofs.MultiByteReplaced.{one_or_two, malformed_at}
use Rattle.enc_decoder_multi_byte.proofs.multi_byte.MultiByteDecoderPrefixCodec.replaced_at.Goals as goal

pub returns-in-Some-clause-first : goal.returns-in-Some-clause-first
returns-in-Some-clause-first g c = whole_at Valid _ refl c.in-Some.ensures.means

pub returns-clause-some : goal.returns-clause-some
returns-clause-some g c =
    (one_or_two g.E.MultiByte.prefix c.laws.ensures.prefixes _ _ _ c.in_ok-len.ensures).0

pub returns-clause-within : goal.returns-clause-within
returns-clause-within g c =
    omega (
      arith,
      (one_or_two g.E.MultiByte.prefix c.laws.ensures.prefixes _ _ _ c.in_ok-len.ensures).1,
      length-drop c.args.at c.args.src.now,
    )

pub returns-clause-first : goal.returns-clause-first
returns-clause-first g c =
    malformed_at g.E.MultiByte.prefix c.laws.ensures.prefixes c.args.src.now c.args.at
    (omega arith) _
    c.in_ok-len.ensures
