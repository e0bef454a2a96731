use Rattle.std.proofs.Common.{ℕ, ◌<◌, ◌∙◌, sym, ap, drop, length, arith, length-drop}
use Rattle.std.proofs.lemmas.Grind.{common_steps}
use Rattle.enc_sniff.specs.HeaderTokens.{past_comments}
use Rattle.enc_sniff.proofs.TokenLemmas.{comments_pair, comments_byte}
use Rattle.enc_sniff.proofs.tokens.past_white_space.Goals as goal

pub bytes-preserved-then-quotes_next : goal.bytes-preserved-then-quotes_next
bytes-preserved-then-quotes_next c =
    let some : 0 < length c.bytes.rest.now = grind (arith, common_steps) in
    let first = ap length c.past_byte-after.ensures in
    let second = ap length c.past_byte-rest.ensures in
    let first_len = length-drop 1 c.bytes.rest.now in
    let second_len = length-drop 1 c.past_byte-after.result.now in
    record {
      same =
          ap (past_comments c.bytes.depth)
          (c.past_byte-rest.ensures ∙ ap (drop 1) c.past_byte-after.ensures)
          ∙ comments_pair c.bytes.depth c.bytes.rest.now some (sym c.if-ends_comments.ensures)
          (sym c.if-quotes_next.ensures)
          ∙ c.bytes.invariant.same;
      within = omega (arith, some, first, second, first_len, second_len);
    }

pub bytes-preserved : goal.bytes-preserved
bytes-preserved c =
    let some : 0 < length c.bytes.rest.now = grind (arith, common_steps) in
    let first = ap length c.past_byte-after.ensures in
    let first_len = length-drop 1 c.bytes.rest.now in
    record {
      same =
          ap (past_comments c.depth_after-depth.result) c.past_byte-after.ensures
          ∙ ap (λ (depth : ℕ). past_comments depth (drop 1 c.bytes.rest.now))
          c.depth_after-depth.ensures.value
          ∙ comments_byte c.bytes.depth c.bytes.rest.now some (sym c.if-ends_comments.ensures)
          (sym c.if-quotes_next.ensures)
          ∙ c.bytes.invariant.same;
      within = omega (arith, c.depth_after-depth.ensures.within, some, first, first_len);
    }
