use Rattle.enc_stream.proofs.DivisionLemmas.{iso_2022_jp_is_not_joined}
use Rattle.enc_stream.proofs.laws.iso_2022_jp_parts_are_not_the_whole.Goals as goal

pub returns : goal.returns
returns c = iso_2022_jp_is_not_joined
