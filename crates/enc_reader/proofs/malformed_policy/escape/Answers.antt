use Rattle.std.proofs.Common.{◌≡◌, ◌≤◌, ◌+◌, ◌*◌, ◌++◌, take, drop, length, get_or, arith, ap, sym, ◌∙◌}
use Rattle.std.proofs.Common.{rules, subst}
use Rattle.std.specs.Str.{IsAscii}
use Rattle.std.proofs.lemmas.Str.{IsAscii-append, IsUtf8-from_ascii}
use Rattle.enc_reader.specs.Policies.{escaped_byte}
use Rattle.enc_reader.proofs.PolicyLemmas.{escaped-next, front_written}
use Rattle.enc_reader.proofs.malformed_policy.escape.Goals as goal

pub loop-at-preserved : goal.loop-at-preserved
loop-at-preserved c =
    let at = c.loop-at.at in
    let room = c.loop-at.room in
    let byte = get_or c.args.bytes.now at 0 in
    let so_far = c.loop-at.invariant in
    let long : 4 * at ≤ length room =
    omega (arith, so_far.within, so_far.len, c.requires.few, c.loop-at-test.true) in
    let written : take (4 * (at + 1)) c.put_escaped.new.room
    ≡ take (4 * at) room ++ escaped_byte byte =
    ap (take (4 * (at + 1))) c.put_escaped.ensures.onto
    ∙ ap (λ n. take n (take (4 * at) room ++ (escaped_byte byte ++ drop (4 * at + 4) room)))
    (let sum : 4 * (at + 1) ≡ 4 * at + 4 = omega arith in sum)
    ∙ front_written room (escaped_byte byte) (drop (4 * at + 4) room) (4 * at) long in
    record {
      within = omega (arith, c.loop-at-test.true);
      text = written ∙ ap (λ l. l ++ escaped_byte byte) so_far.text
          ∙ sym (escaped-next c.args.bytes.now at c.loop-at-test.true);
      len = search rules;
      ascii = subst IsAscii (sym written)
          (IsAscii-append (take (4 * at) room) (escaped_byte byte) so_far.ascii
          c.put_escaped.ensures.ascii);
    }

pub from_utf8_unchecked-requires : goal.from_utf8_unchecked-requires
from_utf8_unchecked-requires c = IsUtf8-from_ascii _ c.loop-at.invariant.ascii
