use Rattle.enc_round_trip.proofs.RoundTripLemmas.{is_read, same_text}
use Rattle.enc_round_trip.proofs.laws.written_text_is_read_back.Goals as goal

pub returns-clause-well_formed : goal.returns-clause-well_formed
returns-clause-well_formed c = λ b e t q s m. (is_read c.args.codec b e t q s m).none_malformed

pub returns-clause-characters : goal.returns-clause-characters
returns-clause-characters c = λ b e t q s m. (is_read c.args.codec b e t q s m).text

pub returns-clause-same_text : goal.returns-clause-same_text
returns-clause-same_text c = same_text c.args.codec
