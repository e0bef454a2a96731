use Rattle.enc_input.proofs.Utf8BytesLemmas.{lanes_are}
use Rattle.enc_input.proofs.utf8_bytes.lanes_at.Goals as goal

pub returns : goal.returns
returns c = lanes_are c.args.src.now c.args.from c.units_of.result _ _ c.units_of.ensures
    c.clamped.ensures c.leads_of.ensures
