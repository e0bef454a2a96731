-- Byte by byte: a state that holds one more, the end of a mark, or bytes before text.
use Rattle.std.proofs.Common.{◌≡◌, inl, inr, length, arith, sym, ◌∙◌}
use Rattle.std.proofs.lemmas.Bool.{true≢false}
use Rattle.std.proofs.lemmas.List.{take_all}
use Rattle.enc_stream.proofs.SniffingLemmas.{reaches_itself, reaches_next, ends_next, text_at, text_at_end}
use Rattle.enc_stream.proofs.sniffing.sniff.Goals as goal

pub loop-len-init : goal.loop-len-init
loop-len-init c = record { within = omega arith; reaches = reaches_itself _ }

pub loop-len-preserved : goal.loop-len-preserved
loop-len-preserved c = record {
  within = omega arith;
  reaches = reaches_next _ _ _ _ _ c.loop-len-test.true c.loop-len.invariant.reaches
      c.in-Holds.ensures;
}

pub returns-in-Ends-clause-sniffed : goal.returns-in-Ends-clause-sniffed
returns-in-Ends-clause-sniffed c =
    ends_next _ _ _ _ _ c.loop-len-test.true c.loop-len.invariant.reaches c.in-Ends.ensures

pub returns-in-RulesOut-clause-sniffed : goal.returns-in-RulesOut-clause-sniffed
returns-in-RulesOut-clause-sniffed c =
    (c.loop-len.invariant.reaches, text_at _ _ _ _ c.loop-len-test.true c.in-RulesOut.ensures)

pub returns-then-not-last-clause-sniffed : goal.returns-then-not-last-clause-sniffed
returns-then-not-last-clause-sniffed c =
    let all : c.loop-len.len ≡ length c.args.src.now = omega arith in (
      all,
      c.if-not-last.true,
      sym c.awaits_mark.ensures ∙ c.if-awaits_mark.true,
      rw (take_all c.loop-len.len c.args.src.now c.loop-len-test.false)
          at c.loop-len.invariant.reaches,
    )

pub returns-clause-sniffed : goal.returns-clause-sniffed
returns-clause-sniffed c = (
  c.loop-len.invariant.reaches,
  text_at_end _ _ _ _ c.loop-len-test.false (λ awaits. elim c.else-awaits_mark.either [
    | inl last ↦ last.1
    | inr none ↦ absurd (true≢false (sym awaits ∙ sym c.awaits_mark.ensures ∙ none))
  ]),
)
