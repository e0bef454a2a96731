use Rattle.std.proofs.Common.{◌≡◌, ◌+◌, [], ◌∷◌, ◌∙◌, sym, ap, arith}
use Rattle.enc_decoder.specs.declared.byte_codec.Text.TheVariants.{One}
use Rattle.enc_decoder.specs.declared.prefix.Prefix.TheVariants.{Complete}
use Rattle.enc_decoder.specs.Sequence.{is_malformed}
use Rattle.enc_decoder.specs.Segmentation.{Head}
use Rattle.enc_decoder_utf.proofs.PlainLemmas.{complete_found, malformed_found, end_found, next_test, end_test, goes_on}
use Rattle.enc_decoder_utf.proofs.plain.first_sequence.Goals as goal

pub returns-in-Complete-One : goal.returns-in-Complete-One
returns-in-Complete-One c =
    let is_one : c.classify.result ≡ Complete (One c.in-Complete-One.character) = cc in
    let found = complete_found c.loop-at.invariant c.loop-at-test.true c.classify.ensures is_one in
    record {
      len = ap (λ (h : Head). h.more + 1) (sym found);
      character = ap (λ (h : Head). h.text) found
          ∙ ap (λ x. x ∷ []) (sym c.in-Complete-One.character-is);
      within = omega arith;
      malformed = ap (λ (h : Head). is_malformed h.kind) (sym found);
      incomplete = sym (next_test c.loop-at.invariant c.loop-at-test.true c.classify.ensures
          is_one);
    }

pub returns-in-Malformed : goal.returns-in-Malformed
returns-in-Malformed c =
    let found = malformed_found c.loop-at.invariant c.loop-at-test.true c.classify.ensures
    c.in-Malformed.is in
    record {
      len = omega (arith, found.0, ap (λ (h : Head). h.more + 1) found.2);
      character = ap (λ (h : Head). h.text) found.2;
      within = found.1;
      malformed = ap (λ (h : Head). is_malformed h.kind) (sym found.2);
      incomplete = sym (next_test c.loop-at.invariant c.loop-at-test.true c.classify.ensures
          c.in-Malformed.is);
    }

pub loop-at-preserved : goal.loop-at-preserved
loop-at-preserved c =
    rw c.with-front.ensures
    (goes_on c.loop-at.invariant c.loop-at-test.true c.classify.ensures c.in-Incomplete.is)

pub returns : goal.returns
returns c =
    let found = end_found c.loop-at.invariant (omega arith) c.requires.some in
    record {
      len = omega (arith, ap (λ (h : Head). h.more) found, c.loop-at-test.false, c.requires.some);
      character = ap (λ (h : Head). h.text) found;
      within = c.loop-at.invariant.within;
      malformed = ap (λ (h : Head). is_malformed h.kind) (sym found);
      incomplete = sym (end_test c.loop-at.invariant (omega arith));
    }
