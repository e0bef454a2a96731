use Rattle.std.proofs.Common.{◌∙◌, ap, sym}
use Rattle.enc_output.specs.CodeUnits.{units_of_bytes}
use Rattle.enc_output.proofs.CodeUnitLanes.{little_units, big_units}
use Rattle.enc_output.proofs.code_units.units_in.Goals as goal

pub returns-then-big_endian : goal.returns-then-big_endian
returns-then-big_endian c = (big_units c.args.bytes c.fits-bytes.0 c.fits-bytes.1).1
    ∙ ap (λ t. units_of_bytes t c.args.bytes) (sym c.if-big_endian.true)

pub returns : goal.returns
returns c = little_units 8 c.args.bytes c.fits-bytes.0 c.fits-bytes.1
    ∙ ap (λ t. units_of_bytes t c.args.bytes) (sym c.if-big_endian.false)
