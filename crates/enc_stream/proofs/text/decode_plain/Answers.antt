use Rattle.std.proofs.Common.{◌∙◌, sym, arith}
use Rattle.enc_decoder.proofs.ByteLemmas.{bytes_of_slice}
use Rattle.enc_stream.proofs.PlainTextLemmas.{plain_holds, plain_ends, plain_goes_on, plain_stays}
use Rattle.enc_stream.proofs.UnmarkedTextLemmas.{reads_text}
use Rattle.enc_stream.proofs.text.decode_plain.Goals as goal

pub returns-then-reaches_end-clause-call : goal.returns-then-reaches_end-clause-call
returns-then-reaches_end-clause-call g c = λ e same.
    plain_ends c.decode-outcome.ensures.call c.requires.none_held c.requires.holds
    (reads_text (bytes_of_slice _ c.type_inv.src) same c.requires.unfinished c.requires.text
    c.requires.holds) (sym c.reaches_end.ensures ∙ c.if-reaches_end.true)

pub returns-then-outcome-gt0-clause-call : goal.returns-then-outcome-gt0-clause-call
returns-then-outcome-gt0-clause-call g c = λ e same.
    plain_goes_on c.decode-outcome.ensures.call c.requires.none_held c.requires.holds
    (reads_text (bytes_of_slice _ c.type_inv.src) same c.requires.unfinished c.requires.text
    c.requires.holds) (sym c.reaches_end.ensures ∙ c.if-reaches_end.false)
    (λ none_read _. omega (arith, none_read, c.if-outcome-gt0.true))

pub returns-else-outcome-gt0-clause-call : goal.returns-else-outcome-gt0-clause-call
returns-else-outcome-gt0-clause-call g c = λ e same.
    plain_stays c.decode-outcome.ensures.call c.requires.none_held c.requires.holds
    (reads_text (bytes_of_slice _ c.type_inv.src) same c.requires.unfinished c.requires.text
    c.requires.holds) (sym c.reaches_end.ensures ∙ c.if-reaches_end.false)
    (omega (arith, c.if-outcome-gt0.false))

pub returns-else-outcome-gt0-clause-holds : goal.returns-else-outcome-gt0-clause-holds
returns-else-outcome-gt0-clause-holds g c =
    plain_holds c.decode-outcome.ensures.call c.requires.none_held c.requires.holds
    (omega (arith, c.if-outcome-gt0.false))
