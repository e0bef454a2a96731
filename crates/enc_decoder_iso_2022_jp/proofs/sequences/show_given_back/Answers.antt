use Rattle.enc_decoder_iso_2022_jp.proofs.Iso2022JpUndetermined.{undetermined}
use Rattle.enc_decoder_iso_2022_jp.proofs.sequences.show_given_back.Goals as goal

pub returns-in_default : goal.returns-in_default
returns-in_default c =
    undetermined c.args.set c.args.held c.requires.holds c.in_default.not-GivenBack
