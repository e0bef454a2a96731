use Rattle.std.proofs.Common.{rules, arith, ◌≡◌, ◌+◌, ◌-◌, ◌<◌, ◌++◌, length, drop, get_or, ap, ◌∙◌, sym}
use Rattle.std.proofs.Common.{length-append, get_or-drop}
use Rattle.std.proofs.lemmas.List.{length-drop}
use Rattle.enc_reader.proofs.RecentLemmas.{stored_more}
use Rattle.enc_reader.proofs.recent.bytes_before_end.Goals as goal

pub loop-at-preserved : goal.loop-at-preserved
loop-at-preserved c =
    let whole = c.args.recent ++ c.args.bytes.now in
    let start = 8 + length c.args.bytes.now - c.args.after - c.args.len in
    let within : c.loop-at.at < c.args.len = search rules in
    let all : length whole ≡ 8 + length c.args.bytes.now =
    omega (arith, length-append c.args.recent c.args.bytes.now) in
    let place : 8 + length c.args.bytes.now - (c.args.len + c.args.after - c.loop-at.at)
    ≡ start + c.loop-at.at = omega (arith, within, c.requires.few) in
    record {
      within = omega (arith, within);
      room = search rules;
      found = stored_more c.loop-at.found (drop start whole) c.loop-at.at
          c.byte_before_end.result
          (omega (arith, within, c.requires.short, c.loop-at.invariant.room))
          (omega (arith, within, c.requires.few, all, length-drop start whole))
          c.loop-at.invariant.found
          (c.byte_before_end.ensures ∙ ap (λ n. get_or whole n 0) place
          ∙ sym (get_or-drop start whole c.loop-at.at 0));
    }
