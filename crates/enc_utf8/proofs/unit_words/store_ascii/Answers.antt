use Rattle.enc_utf8.proofs.UnitWordsLemmas.{stored_ascii}
use Rattle.enc_utf8.proofs.unit_words.store_ascii.Goals as goal

pub returns-clause-stored : goal.returns-clause-stored
returns-clause-stored c =
    stored_ascii c.args.at c.args.buffer.now c.args.units c.fits-units.0 c.requires.room
    c.requires.ascii
