-- Well-formed bytes are their own text, and others have a malformed sequence.
use Rattle.std.proofs.Common.{refl, length, sym, arith, inl}
use Rattle.enc_stream.specs.declared.bom.BomHandling.TheVariants.{Off}
use Rattle.enc_stream.specs.declared.constants.TheConstants.{UTF_8}
use Rattle.enc_stream.proofs.OwnTextLemmas.{whole_own_valid}
use Rattle.encoding_rs.proofs.WellFormedLemmas.{well_formed}
use Rattle.encoding_rs.proofs.laws.well_formed_utf_8.Goals as goal

pub returns : goal.returns
returns c =
    let bytes = c.args.bytes.now in (
      λ is_utf_8. sym (whole_own_valid Off UTF_8 bytes (inl (refl, is_utf_8))),
      well_formed (length bytes) bytes (omega arith),
    )
