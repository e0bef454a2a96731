use Rattle.std.proofs.Common.{arith, ◌-◌, ◌∙◌, sym}
use Rattle.std.proofs.lemmas.Bool.{false≢true, false_from_ne_true}
use Rattle.enc_reader.proofs.CountingLemmas.{PullsCounted-after}
use Rattle.enc_reader.proofs.RecentLemmas.{SameEnd-shifted}
use Rattle.enc_reader.proofs.decode_reader.DecodeReader.pull.Goals as goal

pub returns-clause-ok : goal.returns-clause-ok
returns-clause-ok g c =
    let reader = c.args.self.now in
    PullsCounted-after (reader.filled - reader.at) c.in-Ok.n c.pull_after.new.input
    c.requires.not_ended
    (false_from_ne_true _ (λ f. false≢true (sym c.requires.not_ended ∙ reader.seen f)))
    (c.pull_after.ensures.held ∙ c.move_to_start-recent.ensures.moved)
    (omega (arith, c.in-Ok.ensures.bound, c.pull_after.ensures.length)) c.in-Ok.ensures.bytes
    c.saturating_add-self.ensures

pub invariant_of-self-clause-same_end : goal.invariant_of-self-clause-same_end
invariant_of-self-clause-same_end g c =
    let reader = c.args.self.now in
    SameEnd-shifted reader.decoder.pending reader.recent reader.at reader.input.now
    c.pull_after.new.input (omega (arith, reader.decoded, reader.within)) reader.same_end
    c.move_to_start-recent.ensures.recent
