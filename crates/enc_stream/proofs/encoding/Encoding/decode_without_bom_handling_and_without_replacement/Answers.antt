use Rattle.std.proofs.Common.{refl}
use Rattle.enc_stream.specs.declared.bom.BomHandling.TheVariants.{Off}
use Rattle.enc_stream.proofs.OwnTextLemmas.{copied_text, strict_own}
use Rattle.enc_stream.proofs.encoding.Encoding.decode_without_bom_handling_and_without_replacement.Goals as goal

pub returns-in_ok-copy_own_text-in-Some-clause-text :
    goal.returns-in_ok-copy_own_text-in-Some-clause-text
returns-in_ok-copy_own_text-in-Some-clause-text c =
    strict_own c.args.self c.args.bytes.now (c.in-Some.ensures.own.0 refl)
    (copied_text Off c.args.self c.args.bytes.now (c.in-Some.ensures.own.0 refl)
    c.in-Some.ensures.bytes c.in_ok-copy_own_text-in-Some.ensures.text
    c.in_ok-copy_own_text-in-Some.ensures.nothing)
