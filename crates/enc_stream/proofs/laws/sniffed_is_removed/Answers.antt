use Rattle.enc_stream.proofs.OwnMarkLemmas.{sniffed_is_removed, removal_keeps}
use Rattle.enc_stream.proofs.laws.sniffed_is_removed.Goals as goal

pub returns-clause-sequences : goal.returns-clause-sequences
returns-clause-sequences c = λ bytes. sniffed_is_removed c.args.encoding bytes

pub returns-clause-encoding : goal.returns-clause-encoding
returns-clause-encoding c = λ bytes. removal_keeps c.args.encoding bytes
