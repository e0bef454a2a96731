use Rattle.std.proofs.Common.{sym, subst, arith, chars, IsUtf8, drop}
use Rattle.std.proofs.Math.ListN.{set}
use Rattle.enc_input.specs.Mappings.{WritesFront}
use Rattle.enc_input.proofs.Utf8BytesLemmas.{short_written}
use Rattle.enc_input.proofs.WriteLoopLemmas.{writes_none}
use Rattle.enc_input.proofs.utf8_bytes.put_short.Goals as goal

pub returns-then-unit-ge2048-clause-writes : goal.returns-then-unit-ge2048-clause-writes
returns-then-unit-ge2048-clause-writes g c = writes_none (omega arith) c.requires.utf8

pub returns-then-byte-eq0-clause-writes : goal.returns-then-byte-eq0-clause-writes
returns-then-byte-eq0-clause-writes g c = writes_none (omega arith) c.requires.utf8

pub returns-clause-writes : goal.returns-clause-writes
returns-clause-writes g c =
    let byte = c.unit_byte-byte.result in
    subst (λ n. WritesFront chars IsUtf8 (g.M.Mapping.means c.args.mapping)
    (drop c.args.from c.args.src.now) c.args.dst.now (set c.args.dst.now c.args.at byte)
    c.args.at n 1) (sym c.short_len.ensures)
    (short_written c.args.src.now c.args.from byte c.requires.utf8 (omega arith)
    c.unit_at-unit.ensures (omega arith) (c.unit_byte-byte.ensures.means (omega arith))
    (omega arith))
