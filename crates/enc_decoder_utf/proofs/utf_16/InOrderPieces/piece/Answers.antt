use Rattle.std.proofs.Common.{◌∙◌, sym, arith}
use Rattle.enc_decoder.proofs.PieceLemmas.{two_of, four_of, same_piece}
use Rattle.enc_decoder_utf.proofs.Utf16Pieces.{unit_piece, pair_piece}
use Rattle.enc_decoder_utf.proofs.utf_16.InOrderPieces.piece.Goals as goal

pub returns-then-not-is_lead_surrogate-clause-means :
    goal.returns-then-not-is_lead_surrogate-clause-means
returns-then-not-is_lead_surrogate-clause-means c =
    same_piece _ 0 _ _ _ (two_of c.args.src.now c.args.at (omega (arith, c.if-left-lt2.false)))
    (unit_piece c.args.self.big_endian (c.unit_char.ensures ∙ c.code_unit-unit.ensures)
    (rw (← c.code_unit-unit.ensures)
    (sym c.is_lead_surrogate.ensures ∙ c.if-not-is_lead_surrogate.true))
    (rw (← c.code_unit-unit.ensures)
    (sym c.is_trail_surrogate.ensures ∙ c.if-is_trail_surrogate.false)))

pub returns-clause-means : goal.returns-clause-means
returns-clause-means c =
    same_piece _ 0 _ _ _ (four_of c.args.src.now c.args.at (omega (arith, c.if-left-lt4.false)))
    (pair_piece c.args.self.big_endian
    (rw (← c.code_unit-unit.ensures, ← c.code_unit-trail.ensures) c.pair_char.ensures)
    (rw (← c.code_unit-unit.ensures)
    (sym c.is_lead_surrogate.ensures ∙ c.if-not-is_lead_surrogate.false))
    (rw (← c.code_unit-trail.ensures)
    (sym c.is_trail_surrogate-2.ensures ∙ c.if-not-is_trail_surrogate.false)))
