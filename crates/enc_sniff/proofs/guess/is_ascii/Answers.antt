use Rattle.enc_sniff.proofs.WholeLemmas.{whole_or_not}
use Rattle.enc_sniff.proofs.guess.is_ascii.Goals as goal

pub returns : goal.returns
returns c = whole_or_not c.ascii_valid_up_to.ensures
