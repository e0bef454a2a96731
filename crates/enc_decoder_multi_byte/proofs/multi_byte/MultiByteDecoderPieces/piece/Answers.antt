use Rattle.std.proofs.Common.{◌∙◌, ap, sym}
use Rattle.enc_decoder.specs.declared.prefix.Prefix.TheVariants.{Complete}
use Rattle.enc_decoder.proofs.PieceLemmas.{one_of, two_of, same_piece}
use Rattle.enc_decoder.proofs.PrefixLemmas.{complete_one, complete_two}
use Rattle.enc_decoder_multi_byte.proofs.multi_byte.MultiByteDecoderPieces.piece.Goals as goal

pub returns-then-lead-lt128-clause-means : goal.returns-then-lead-lt128-clause-means
returns-then-lead-lt128-clause-means g c =
    same_piece _ 0 _ _ _ (one_of c.args.src.now c.args.at c.requires.within)
    (complete_one g.E.MultiByte.prefix _ _ (c.laws.ensures.ascii _ c.if-lead-lt128.true))

pub returns-in-Some-clause-means : goal.returns-in-Some-clause-means
returns-in-Some-clause-means g c =
    let pair = c.in-Some.ensures in
    same_piece _ 0 _ _ _ (two_of c.args.src.now c.args.at c.if-at-src.true)
    (complete_two g.E.MultiByte.prefix _ _ _ pair.first pair.both)

pub returns-in-Complete-One-clause-means : goal.returns-in-Complete-One-clause-means
returns-in-Complete-One-clause-means g c =
    same_piece _ 0 _ _ _ (one_of c.args.src.now c.args.at c.requires.within)
    (complete_one g.E.MultiByte.prefix _ _
    (sym c.classify.ensures ∙ c.in-Complete-One.is ∙ ap Complete c.in-Complete-One.field-0-is))
