use Rattle.std.proofs.Common.{sym, true}
use Rattle.enc_stream.proofs.SniffingLemmas.{reaches_itself}
use Rattle.enc_stream.proofs.WholeInputMark.{without_mark}
use Rattle.enc_stream.proofs.own_text.begins_unmarked.Goals as goal

pub returns-clause-encoding : goal.returns-clause-encoding
returns-clause-encoding c = λ begins.
    sym (without_mark c.args.handling c.args.encoding c.args.bytes.now 0 _ (reaches_itself _)
    (rw c.first_life.ensures at (c.begins_as_text.ensures.text begins true))).0

pub returns-clause-rest : goal.returns-clause-rest
returns-clause-rest c = λ begins.
    sym (without_mark c.args.handling c.args.encoding c.args.bytes.now 0 _ (reaches_itself _)
    (rw c.first_life.ensures at (c.begins_as_text.ensures.text begins true))).1
