use Rattle.std.proofs.Common.{rules, ◌≡◌, true, arith, sym, ◌∙◌}
use Rattle.std.proofs.lemmas.Bool.{false≢true}
use Rattle.enc_stream.specs.declared.constants.TheConstants.{UTF_8}
use Rattle.enc_reader.specs.Reader.{state_of}
use Rattle.enc_reader.proofs.LendingLemmas.{incomplete_determines_none}
use Rattle.enc_decoder_utf.proofs.Utf8Incomplete.{incomplete_is_short}
use Rattle.enc_reader.proofs.FillingLemmas.{long_is_whole, some_unread, unread_len}
use Rattle.enc_reader.proofs.decode_reader.DecodeReader.lacks_bytes.Goals as goal
use Rattle.enc_reader.proofs.decode_reader.DecodeReader.lacks_bytes.Goals.{then-unread-self, else-unread-self}
use Rattle.enc_reader.proofs.decode_reader.DecodeReader.lacks_bytes.Goals.{then-is_incomplete_sequence}
use Rattle.enc_reader.proofs.decode_reader.DecodeReader.lacks_bytes.Goals.{else-is_incomplete_sequence}

pub returns-then-eq-clause-none_determined : goal.returns-then-eq-clause-none_determined
returns-then-eq-clause-none_determined g c =
    let reader = c.args.self.now in
    let is_utf_8 : reader.decoder.encoding ≡ UTF_8 = search rules in
    λ between.
    incomplete_determines_none (state_of reader) (c.is_between.ensures.0 between) is_utf_8
    (search rules) c.requires.going

pub returns-then-eq-clause-few : goal.returns-then-eq-clause-few
returns-then-eq-clause-few g c =
    let reader = c.args.self.now in
    λ between. incomplete_is_short (state_of reader).unread (search rules)

pub returns-then-eq-clause-at_hand : goal.returns-then-eq-clause-at_hand
returns-then-eq-clause-at_hand g c =
    let reader = c.args.self.now in
    λ within. record {
      some = some_unread reader.filled reader.at reader.input.now reader.decoded reader.within
          c.if-self.false;
      whole = λ roomy is_utf_8 between.
          absurd (false≢true (sym within ∙ c.is_between.ensures.1 between));
    }

pub returns-else-eq-clause-at_hand : goal.returns-else-eq-clause-at_hand
returns-else-eq-clause-at_hand g c =
    let reader = c.args.self.now in
    λ _. record {
      some = some_unread reader.filled reader.at reader.input.now reader.decoded reader.within
          c.if-self.false;
      whole = λ roomy is_utf_8 between. elim c.if-is_incomplete_sequence.branch [
        | then-is_incomplete_sequence w ↦
            let encoding : w.encoding.result ≡ UTF_8 = w.encoding.ensures ∙ is_utf_8 in
            let same : w.eq.result ≡ true = rw encoding at w.eq.ensures in
            absurd (false≢true (sym c.if-eq.false ∙ w.value-is ∙ same))
        | else-is_incomplete_sequence w ↦ elim c.if-unread-self.branch [
          | then-unread-self v ↦ sym v.is_incomplete_sequence.ensures ∙ sym v.value-is
              ∙ w.if-is_incomplete_sequence.false
          | else-unread-self v ↦ long_is_whole (state_of reader).unread
              (omega (
                arith,
                v.if-unread-self.false,
                unread_len reader.filled reader.at reader.input.now reader.decoded reader.within,
              ))
        ]
      ];
    }
