use Rattle.std.proofs.Common.{arith, subst, take, sym}
use Rattle.enc_utf8.specs.Validity.{AreAscii}
use Rattle.enc_utf8.proofs.AsciiMaskLemmas.{ascii_loaded}
use Rattle.enc_output.proofs.PiecesLemmas.{then_rest}
use Rattle.enc_output.proofs.single_bytes.store_hops.Goals as goal

pub store_hop-first-requires-clause-are_ascii : goal.store_hop-first-requires-clause-are_ascii
store_hop-first-requires-clause-are_ascii g c =
    let are_ascii = c.ascii_from-ascii.ensures in
    ascii_loaded c.args.src.now 0 _ c.args.lanes c.requires.lanes (omega (arith, are_ascii.bound))
    are_ascii.ascii

pub store_hop-second-requires-clause-are_ascii : goal.store_hop-second-requires-clause-are_ascii
store_hop-second-requires-clause-are_ascii g c =
    let are_ascii = c.ascii_from-ascii-2.ensures in
    let first_hop = c.store_hop-first.ensures in
    let count = c.ascii_from-ascii-2.result in
    subst (λ rest. AreAscii (take count rest)) (sym c.split_at.ensures.back)
    (ascii_loaded c.args.src.now _ _ c.args.lanes c.requires.lanes
    (omega (arith, are_ascii.bound, first_hop.read, c.ascii_from-ascii.ensures.bound))
    are_ascii.ascii)

pub returns-clause-puts : goal.returns-clause-puts
returns-clause-puts g c =
    then_rest c.split_at.ensures.back c.store_hop-first.ensures.puts c.store_hop-second.ensures.puts
