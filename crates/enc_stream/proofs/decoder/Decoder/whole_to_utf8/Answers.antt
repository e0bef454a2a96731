use Rattle.std.proofs.Common.{◌≡◌, ℕ, List, refl, rules, arith, true, length, take}
use Rattle.std.specs.Char.{encode_utf8}
use Rattle.enc_stream.specs.Decoding.{fresh_decoder, AnswersDecode, replacing_call}
use Rattle.enc_stream.specs.Parts.{state_of_parts}
use Rattle.enc_stream.proofs.AppendedOutputLemmas.{over_slice, reports_none}
use Rattle.enc_stream.proofs.LifeCycleLemmas.{starts}
use Rattle.enc_stream.proofs.OneShotDecodeLemmas.{utf_8_written, text_at_once, flag_at_once}
use Rattle.enc_stream.proofs.OutputFullLemmas.{four_bytes}
use Rattle.enc_stream.proofs.decoder.Decoder.whole_to_utf8.Goals as goal

pub decode_sniffed-outcome-requires : goal.decode_sniffed-outcome-requires
decode_sniffed-outcome-requires c = record {
  unfinished = rw c.start-parts.ensures.life (starts c.args.handling c.args.encoding).going;
  parts = c.start-parts.ensures.parts;
  within = c.requires.within;
  sniffed = rw c.start-parts.ensures.life c.requires.sniffed;
}

pub unreported-requires : goal.unreported-requires
unreported-requires c =
    record { none_malformed = reports_none four_bytes c.decode_sniffed-outcome.ensures.call refl }

pub returns : goal.returns
returns c =
    let handling = c.args.handling in
    let encoding = c.args.encoding in
    let src = c.args.src.now in
    let result = c.unreported.result in
    let outcome = c.decode_sniffed-outcome in
    let call = rw c.start-parts.ensures.state at outcome.ensures.call in
    let answers : (text : List ℕ) → take outcome.new.out.len outcome.new.out.dst.now ≡ text
    → AnswersDecode encode_utf8 4 (fresh_decoder handling encoding)
    (state_of_parts outcome.new.self) (replacing_call src true (length c.args.dst.now) result
    outcome.result.read text outcome.result.replaced) =
    λ text text_is. rw c.unreported.ensures (over_slice four_bytes call
    (rw c.new-out.ensures.len refl)
    (rw (c.new-out.ensures.now, c.new-out.ensures.len) (omega arith)) text_is refl) in
    record {
      written = search rules;
      utf8 = utf_8_written (answers _ (search rules));
      text = text_at_once handling encoding result (answers _ (search rules)) refl;
      flag = flag_at_once handling encoding result (answers _ refl) refl;
    }
