use Rattle.std.proofs.Common.{◌+◌, ◌<◌, ◌∙◌, ap, drop, length, arith, length-drop}
use Rattle.std.proofs.lemmas.Grind.{common_steps}
use Rattle.enc_sniff.specs.HeaderTokens.{closing_offset}
use Rattle.enc_sniff.proofs.TokenLemmas.{closing_pair, closing_byte}
use Rattle.enc_sniff.proofs.tokens.closing_mark.Goals as goal

pub pairs-preserved-then-byte-eq92 : goal.pairs-preserved-then-byte-eq92
pairs-preserved-then-byte-eq92 c =
    let some : 0 < length c.pairs.rest.now = grind (arith, common_steps) in
    let whole = c.pairs.invariant.left some in
    let first = ap length c.past_byte-after.ensures in
    let second = ap length c.past_byte-rest.ensures in
    let first_len = length-drop 1 c.pairs.rest.now in
    let second_len = length-drop 1 c.past_byte-after.result.now in
    record {
      same =
          ap (closing_offset (c.pairs.offset + 2))
          (c.past_byte-rest.ensures ∙ ap (drop 1) c.past_byte-after.ensures)
          ∙ closing_pair c.pairs.offset c.pairs.rest.now some c.if-byte-eq92.true
          ∙ c.pairs.invariant.same;
      within = omega (arith, some, whole);
      left = λ more. omega (arith, some, whole, first, second, first_len, second_len);
    }

pub pairs-preserved : goal.pairs-preserved
pairs-preserved c =
    let some : 0 < length c.pairs.rest.now = grind (arith, common_steps) in
    let whole = c.pairs.invariant.left some in
    let first = ap length c.past_byte-after.ensures in
    let first_len = length-drop 1 c.pairs.rest.now in
    record {
      same =
          ap (closing_offset (c.pairs.offset + 1)) c.past_byte-after.ensures
          ∙ closing_byte c.pairs.offset c.pairs.rest.now some c.if-byte-eq34.false
          c.if-byte-eq92.false
          ∙ c.pairs.invariant.same;
      within = omega (arith, some, whole);
      left = λ more. omega (arith, some, whole, first, first_len);
    }
