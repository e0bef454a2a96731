use Rattle.std.proofs.Common.{◌+◌, ◌++◌, take, [], arith, rules, ◌<◌, refl, ap}
use Rattle.enc_stream.specs.Bom.{find_mark}
use Rattle.enc_reader.proofs.ReadingLemmas.{handed_utf_8}
use Rattle.enc_reader.proofs.CountingLemmas.{nothing_undetermined}
use Rattle.enc_reader.proofs.LendingLemmas.{HandsOutCounted-filled, HandsOutCounted-lent, CountsBytes-lent}
use Rattle.enc_reader.proofs.LendingLemmas.{HandsOut-filled, HandsOut-chunk, FailsToRead-filled}
use Rattle.enc_reader.proofs.LongTextLemmas.{own_text_at_hand, lent_len}
use Rattle.enc_reader.proofs.RecentLemmas.{SameEnd-nil}
use Rattle.enc_reader.proofs.decode_reader.DecodeReader.read_or_lend.Goals as goal

pub returns-then-len-ge-LEAST_LENT-clause-ok : goal.returns-then-len-ge-LEAST_LENT-clause-ok
returns-then-len-ge-LEAST_LENT-clause-ok g c =
    let after_fill = c.fill.new.self in
    let some : 0 < c.text_ahead-len.result = omega arith in
    rw c.fill.ensures.had_errors
    (HandsOut-filled c.in_ok-fill.ensures.ok.fills
    (HandsOut-chunk _ _ after_fill.filled after_fill.at c.text_ahead-len.result
    after_fill.input.now _ _
    after_fill.decoded after_fill.within c.text_ahead-len.ensures.within
    (c.text_ahead-len.ensures.own some) after_fill.exhausted))

pub returns-then-len-ge-LEAST_LENT-clause-utf_8 : goal.returns-then-len-ge-LEAST_LENT-clause-utf_8
returns-then-len-ge-LEAST_LENT-clause-utf_8 g c =
    let after_fill = c.fill.new.self in
    let some : 0 < c.text_ahead-len.result = omega arith in
    handed_utf_8
    (HandsOut-chunk _ _ after_fill.filled after_fill.at c.text_ahead-len.result
    after_fill.input.now _
    after_fill.had_errors after_fill.decoded after_fill.within c.text_ahead-len.ensures.within
    (c.text_ahead-len.ensures.own some) after_fill.exhausted).reads

pub returns-in_err-len-clause-reader_fault : goal.returns-in_err-len-clause-reader_fault
returns-in_err-len-clause-reader_fault g c =
    λ e. FailsToRead-filled c.in_ok-fill.ensures.ok.fills c.in_ok-fill.ensures.kept
    (c.in_err-len.ensures.reader_fault (search rules))

pub returns-clause-ok : goal.returns-clause-ok
returns-clause-ok g c =
    rw (← c.fill.ensures.had_errors)
    (HandsOut-filled c.in_ok-fill.ensures.ok.fills c.in_ok-len.ensures.ok)

pub returns-then-len-ge-LEAST_LENT-clause-counted :
    goal.returns-then-len-ge-LEAST_LENT-clause-counted
returns-then-len-ge-LEAST_LENT-clause-counted g c =
    let after_fill = c.fill.new.self in
    let some : 0 < c.text_ahead-len.result = omega arith in
    rw c.fill.ensures.had_errors
    (HandsOutCounted-lent c.in_ok-fill.ensures.ok
    (HandsOut-chunk _ _ after_fill.filled after_fill.at c.text_ahead-len.result
    after_fill.input.now _ _
    after_fill.decoded after_fill.within c.text_ahead-len.ensures.within
    (c.text_ahead-len.ensures.own some) after_fill.exhausted)
    (CountsBytes-lent _ _ after_fill.filled after_fill.at c.text_ahead-len.result
    after_fill.given after_fill.input.now))

pub returns-clause-counted : goal.returns-clause-counted
returns-clause-counted g c =
    rw (← c.fill.ensures.had_errors)
    (HandsOutCounted-filled c.in_ok-fill.ensures.ok c.in_ok-len.ensures.counted)

pub invariant_of-self-clause-settled : goal.invariant_of-self-clause-settled
invariant_of-self-clause-settled g c =
    let some : 0 < c.text_ahead-len.result = omega arith in
    let between = (c.text_ahead-len.ensures.own some).between in
    λ _ _. nothing_undetermined c.fill.new.self.decoder between.none_pending
    (ap (λ marks. find_mark marks []) between.no_mark)

pub returns-then-len-ge-LEAST_LENT-clause-lends : goal.returns-then-len-ge-LEAST_LENT-clause-lends
returns-then-len-ge-LEAST_LENT-clause-lends g c =
    let after_fill = c.fill.new.self in
    let fills = c.in_ok-fill.ensures.ok.fills in
    let some : 0 < c.text_ahead-len.result = omega arith in
    let hands_out = HandsOut-chunk _ _ after_fill.filled after_fill.at c.text_ahead-len.result
    after_fill.input.now _ c.args.self.now.had_errors
    after_fill.decoded after_fill.within c.text_ahead-len.ensures.within
    (c.text_ahead-len.ensures.own some) after_fill.exhausted in
    λ roomy. rw c.fill.ensures.had_errors (record {
      hands_out = HandsOut-filled fills hands_out;
      long = λ n least among is_own. (
        refl,
        omega (
          arith,
          own_text_at_hand fills hands_out.bytes (λ ends. (hands_out.reads.none_after ends).0)
              hands_out.needed c.in_ok-fill.ensures.at_hand
              (omega (arith, roomy, c.fill.ensures.buffer_len)) c.text_ahead-len.ensures.longest n
              (record { some = omega (arith, least); among = among; own = is_own }),
          lent_len after_fill.filled after_fill.at c.text_ahead-len.result after_fill.input.now
              after_fill.within c.text_ahead-len.ensures.within,
        ),
      );
    })

pub returns-clause-lends : goal.returns-clause-lends
returns-clause-lends g c =
    let fills = c.in_ok-fill.ensures.ok.fills in
    let hands_out = c.in_ok-len.ensures.ok in
    λ roomy. rw (← c.fill.ensures.had_errors) (record {
      hands_out = HandsOut-filled fills hands_out;
      long = λ n least among is_own.
          absurd (omega (
            arith,
            least,
            own_text_at_hand fills hands_out.bytes (λ ends. (hands_out.reads.none_after ends).0)
                hands_out.needed c.in_ok-fill.ensures.at_hand
                (omega (arith, roomy, c.fill.ensures.buffer_len)) c.text_ahead-len.ensures.longest n
                (record { some = omega (arith, least); among = among; own = is_own }),
          ));
    })

pub invariant_of-self-clause-same_end : goal.invariant_of-self-clause-same_end
invariant_of-self-clause-same_end g c =
    let some : 0 < c.text_ahead-len.result = omega arith in
    rw (c.text_ahead-len.ensures.own some).between.none_pending
    (SameEnd-nil (c.fill.new.self.recent
    ++ take (c.fill.new.self.at + c.text_ahead-len.result) c.fill.new.self.input.now))
