use Rattle.std.proofs.Common.{◌≡◌, ◌≤◌, inl, inr, [], length, ap, arith, subst, sym, ◌∙◌}
use Rattle.enc_decoder.proofs.FirstSequenceLemmas.{true_or_false}
use Rattle.std.specs.Prelude.{Err}
use Rattle.enc_reader.specs.declared.decode_reader.ReadFault.TheVariants as fault
use Rattle.enc_reader.specs.Reader.{state_of}
use Rattle.enc_reader.specs.HeldText.{text_state_of, TakesText}
use Rattle.enc_reader.proofs.HeldTextLemmas.{held_length, none_held, by_fault, holding, TakesText-none}
use Rattle.enc_reader.proofs.HeldTextLemmas.{TakesText-same, TakesText-handed, TakesText-fails}
use Rattle.enc_reader.proofs.decoded_text.DecodedText.fill.Goals as goal

pub returns-then-self-clause-takes : goal.returns-then-self-clause-takes
returns-then-self-clause-takes g c = TakesText-none _ _

pub returns-then-self-clause-end : goal.returns-then-self-clause-end
returns-then-self-clause-end g c =
    let text = c.args.self.now in
    let within : text.reader.at ≤ length text.reader.input.now =
    omega (arith, text.reader.decoded, text.reader.within) in
    let long = held_length text.handed.lent text.handed.len text.reader.at text.at
    text.reader.input.now text.text.now within text.at_hand in
    λ none. absurd (omega (arith, long, ap length none, c.if-self.true))

pub returns-in-Ok-clause-takes : goal.returns-in-Ok-clause-takes
returns-in-Ok-clause-takes g c =
    let text = c.args.self.now in
    let within : text.reader.at ≤ length text.reader.input.now =
    omega (arith, text.reader.decoded, text.reader.within) in
    let none = none_held text.handed.lent text.handed.len text.reader.at text.at
    text.reader.input.now text.text.now within text.at_hand (omega (arith, c.if-self.false)) in
    TakesText-handed _ none c.in-Ok.ensures.ok

pub returns-in-Err-clause-takes : goal.returns-in-Err-clause-takes
returns-in-Err-clause-takes g c =
    let text = c.args.self.now in
    let within : text.reader.at ≤ length text.reader.input.now =
    omega (arith, text.reader.decoded, text.reader.within) in
    let none = none_held text.handed.lent text.handed.len text.reader.at text.at
    text.reader.input.now text.text.now within text.at_hand (omega (arith, c.if-self.false)) in
    by_fault c.read_or_lend.result c.in-Err.fault c.in-Err.is
    (λ reader. TakesText-fails _ none (c.read_or_lend.ensures.reader_fault reader)
    (c.in-Err.ensures.no_error))
    (λ failed. subst
    (λ r. TakesText (g.R.Source.remaining text.reader.reader.now)
    (g.R.Source.remaining r.reader.now) (text_state_of text)
    (holding (state_of r) [] r.had_errors) [])
    (sym (c.read_or_lend.ensures.unchanged failed))
    (TakesText-same _ _ _ _ none))

pub returns-in-Err-clause-reader_fault : goal.returns-in-Err-clause-reader_fault
returns-in-Err-clause-reader_fault g c = λ is_reader.
    let same : c.in-Err.fault ≡ fault.Reader = cc in
    c.read_or_lend.ensures.reader_fault (c.in-Err.is ∙ ap Err same)

pub returns-in-Err-clause-failed_before : goal.returns-in-Err-clause-failed_before
returns-in-Err-clause-failed_before g c = λ is_failed.
    let same : c.in-Err.fault ≡ fault.Failed = cc in
    c.read_or_lend.ensures.from_then_on.0 (c.in-Err.is ∙ ap Err same)

pub returns-in-Ok-clause-going : goal.returns-in-Ok-clause-going
returns-in-Ok-clause-going g c = elim (true_or_false c.args.self.now.reader.failed) [
  | inl failed ↦ (
      let is_err = c.read_or_lend.ensures.from_then_on.1 failed in
      let is_ok = c.in-Ok.is in
      absurd (cc))
  | inr going ↦ c.in-Ok.ensures.going ∙ sym going
]
