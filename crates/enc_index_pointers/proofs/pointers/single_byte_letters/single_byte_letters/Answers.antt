use Rattle.std.proofs.Common.{◌-◌, arith}
use Rattle.enc_index_pointers.proofs.SingleBytePages.{single_byte_once}
use Rattle.enc_index_pointers.proofs.pointers.single_byte_letters.single_byte_letters.Goals as goal

pub returns : goal.returns
returns c b low high =
    let is = c.letters.ensures b low high in (
      is.0,
      single_byte_once c.args.index (b - 0x80) _ (omega (arith, high, c.letters.type_inv)) is.1,
      is.2,
      is.3,
    )
