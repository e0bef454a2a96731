use Rattle.std.proofs.Common.{◌-◌, length, drop, subst, arith}
use Rattle.std.proofs.lemmas.List.{take_all}
use Rattle.enc_utf8.proofs.LengthLemmas.{lengths}
use Rattle.enc_utf8.specs.Validity.{AreAscii}
use Rattle.enc_utf8.proofs.ascii.ends_as_ascii.Goals as goal

pub returns-then-bytes-ge16-clause-ascii : goal.returns-then-bytes-ge16-clause-ascii
returns-then-bytes-ge16-clause-ascii c = λ t.
    let bytes = c.args.bytes.now in
    let first = length bytes - 16 in
    subst AreAscii (take_all 16 (drop first bytes) (omega (arith, lengths)))
    (c.are_ascii.ensures.0 t)
