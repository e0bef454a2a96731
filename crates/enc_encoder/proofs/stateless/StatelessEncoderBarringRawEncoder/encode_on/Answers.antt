use Rattle.std.proofs.Common.{◌≡◌, refl, ap}
use Rattle.enc_encoder.specs.Barring.{bytes_unless_barred}
use Rattle.enc_encoder.proofs.BarringLemmas.{none_barred, unlisted}
use Rattle.enc_encoder.proofs.BegunLemmas.{ends_by}
use Rattle.enc_encoder.proofs.stateless.StatelessEncoderBarringRawEncoder.encode_on.Goals as goal

pub returns-then-is_empty-clause-call : goal.returns-then-is_empty-clause-call
returns-then-is_empty-clause-call g c =
    ends_by (unlisted _ _ _ (none_barred _ c.if-is_empty.ensures)
    (ap g.R.Repertoire.bytes_for c.new-encoder.ensures)) c.run_on.ensures.call

pub returns-clause-call : goal.returns-clause-call
returns-clause-call g c =
    let encoding = c.args.self.now.repertoire in
    let same : bytes_unless_barred c.new-encoder-2.result.repertoire.barred.now
    (g.R.Repertoire.bytes_for c.new-encoder-2.result.repertoire.repertoire)
    ≡ bytes_unless_barred encoding.barred.now (g.R.Repertoire.bytes_for encoding.repertoire) =
    rw (c.new-encoder-2.ensures, c.new.ensures.repertoire, c.new.ensures.barred) refl in
    ends_by same c.run_on-2.ensures.call
