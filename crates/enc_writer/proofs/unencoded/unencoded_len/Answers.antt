use Rattle.std.proofs.Common.{rules, ◌≡◌, take, false}
use Rattle.std.proofs.lemmas.Str.{IsCharBoundary-start, IsCharBoundary-from_take}
use Rattle.enc_utf8.specs.Validity.{AreAscii}
use Rattle.enc_encoder.specs.EncoderRule.{is_escape_due}
use Rattle.enc_stream.specs.declared.constants.TheConstants.{UTF_8}
use Rattle.enc_stream.proofs.OwnTextLemmas.{ascii_utf_8}
use Rattle.enc_writer.proofs.UnencodedLemmas.{is_ascii, EncodesText-ascii, EncodesText-whole}
use Rattle.enc_writer.proofs.unencoded.unencoded_len.Goals as goal

pub returns-then-text-lt-LEAST_UNENCODED-clause-boundary :
    goal.returns-then-text-lt-LEAST_UNENCODED-clause-boundary
returns-then-text-lt-LEAST_UNENCODED-clause-boundary c =
    IsCharBoundary-start c.args.text.now c.utf8.text

pub returns-then-eq-clause-own : goal.returns-then-eq-clause-own
returns-then-eq-clause-own c =
    let is_utf_8 : c.args.encoder.now.encoding ≡ UTF_8 = search rules in
    let none_due : is_escape_due c.args.encoder.now.set ≡ false = search rules in
    EncodesText-whole c.args.encoder.now c.args.text.now is_utf_8 (is_ascii _ none_due)
    c.requires.none_barred c.utf8.text

pub returns-then-not-is_ascii_compatible-clause-boundary :
    goal.returns-then-not-is_ascii_compatible-clause-boundary
returns-then-not-is_ascii_compatible-clause-boundary c =
    IsCharBoundary-start c.args.text.now c.utf8.text

pub returns-then-len-lt-LEAST_UNENCODED-clause-boundary :
    goal.returns-then-len-lt-LEAST_UNENCODED-clause-boundary
returns-then-len-lt-LEAST_UNENCODED-clause-boundary c =
    IsCharBoundary-start c.args.text.now c.utf8.text

pub returns-else-len-lt-LEAST_UNENCODED-clause-boundary :
    goal.returns-else-len-lt-LEAST_UNENCODED-clause-boundary
returns-else-len-lt-LEAST_UNENCODED-clause-boundary c =
    let len = c.ascii_valid_up_to-len.result in
    let are_ascii : AreAscii (take len c.args.text.now) = search rules in
    IsCharBoundary-from_take c.args.text.now len c.utf8.text (search rules)
    (ascii_utf_8 (take len c.args.text.now) are_ascii)

pub returns-else-len-lt-LEAST_UNENCODED-clause-own :
    goal.returns-else-len-lt-LEAST_UNENCODED-clause-own
returns-else-len-lt-LEAST_UNENCODED-clause-own c =
    let len = c.ascii_valid_up_to-len.result in
    let are_ascii : AreAscii (take len c.args.text.now) = search rules in
    let none_due : is_escape_due c.args.encoder.now.set ≡ false = search rules in
    EncodesText-ascii c.args.text.now len are_ascii c.args.encoder.now (is_ascii _ none_due)
    (search rules) (search rules)
