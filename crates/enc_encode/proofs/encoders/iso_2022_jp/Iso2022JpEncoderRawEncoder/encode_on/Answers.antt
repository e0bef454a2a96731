use Rattle.std.proofs.Common.{[], sym, subst}
use Rattle.enc_encoder.specs.Begun.{EndsCall}
use Rattle.enc_encoder.specs.Writes.{place}
use Rattle.enc_encode.specs.Iso2022Jp.{iso_2022_jp_encoder_state}
use Rattle.enc_encoder.proofs.BarringLemmas.{barring_is_lawful, none_barred}
use Rattle.enc_encoder.proofs.BegunLemmas.{with_rule}
use Rattle.enc_encode.proofs.Iso2022JpLemmas.{iso_2022_jp_is_lawful}
use Rattle.enc_encode.proofs.encoders.iso_2022_jp.Iso2022JpEncoderRawEncoder.encode_on.Goals as goal

pub run_on-outcome-requires-clause-lawful : goal.run_on-outcome-requires-clause-lawful
run_on-outcome-requires-clause-lawful g c = barring_is_lawful [] _ iso_2022_jp_is_lawful

pub returns-then-is_empty-clause-call : goal.returns-then-is_empty-clause-call
returns-then-is_empty-clause-call g c =
    let run = c.run_on-outcome in
    subst (λ barred. EndsCall g.C.Chars.units_of c.args.begun
    (iso_2022_jp_encoder_state barred c.args.self.now.set) (g.C.Chars.rest c.args.src.now)
    c.args.dst.now
    (place (iso_2022_jp_encoder_state barred run.new.encoder.set) (g.C.Chars.rest run.new.src)
    run.new.dst run.result.written) run.result.result run.result.read)
    (sym (none_barred _ c.if-is_empty.ensures)) run.ensures.call

pub returns-then-is_empty-clause-lawful : goal.returns-then-is_empty-clause-lawful
returns-then-is_empty-clause-lawful g c = barring_is_lawful _ _ iso_2022_jp_is_lawful

pub run_on-outcome-requires-2-clause-lawful : goal.run_on-outcome-requires-2-clause-lawful
run_on-outcome-requires-2-clause-lawful g c = barring_is_lawful _ _ iso_2022_jp_is_lawful

pub returns-clause-call : goal.returns-clause-call
returns-clause-call g c = with_rule c.run_on-outcome-2.ensures.call

pub returns-clause-lawful : goal.returns-clause-lawful
returns-clause-lawful g c = barring_is_lawful _ _ iso_2022_jp_is_lawful
