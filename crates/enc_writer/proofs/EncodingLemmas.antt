-- Successive calls of an encoder are one call.
use Rattle.std.proofs.Common.{◌≡◌, ℕ, Bool, true, false, ◌||◌, List, [], ◌++◌, refl}
use Rattle.std.proofs.Common.{ap, ◌∙◌, sym, append_assoc, append-nil, chars, IsUtf8}
use Rattle.std.proofs.lemmas.Str.{encodes-chars}
use Rattle.std.specs.Str.{encode_utf8_all}
use Rattle.enc_utf8.specs.declared.coder_result.CoderResult.{CoderResult}
use Rattle.enc_utf8.specs.declared.coder_result.CoderResult.TheVariants.{InputEmpty, OutputFull}
use Rattle.enc_encoder.specs.declared.character_set.CharacterSet.TheVariants.{Ascii}
use Rattle.enc_encoder.specs.declared.character_set.CharacterSet.{CharacterSet}
use Rattle.enc_encoder.specs.Text.{bytes_after_text, escape_at_end, with_references, KeepsText}
use Rattle.enc_encoder.specs.Steps.{step_chars}
use Rattle.enc_input.specs.Results.{encoder_result_of}
use Rattle.enc_encoder.specs.ErrorMode.{CallInMode}
use Rattle.enc_encoder.specs.Unmappable.{any_unmappable}
use Rattle.enc_encoder.proofs.LeavesLemmas.{leaves_in_mode}
use Rattle.enc_encoder.proofs.ReferenceStopLemmas.{rest_is_read}
use Rattle.enc_encoder.proofs.UnmappableLemmas.{any_reported_is, any_unmappable-append}
use Rattle.enc_stream.specs.declared.constants.TheConstants.{UTF_8}
use Rattle.enc_stream.specs.Encodings.{output_rule}
use Rattle.enc_stream.specs.Encoder.{EncoderState, EncodesChunk, raw_state, html_mode}
use Rattle.enc_stream.proofs.EncoderProgressLemmas.{none_due}
use Rattle.enc_stream.proofs.ReferenceLemmas.{lawful_of}
use Rattle.enc_stream.proofs.OwnBytesLemmas.{EachIsOwnChar, all_stay, all_mappable, all_written, each_in_utf_8}
use Rattle.enc_writer.specs.EncodedText.{bytes_from_state, bytes_to_come, TextToEncode, text_to_encode}
use Rattle.enc_writer.specs.EncodedText.{EncodesText}

pub not_ended : {P : Type 0} → false ≡ true → P
not_ended e = cc

-- no call
pub EncodesText-none : (s : TextToEncode) (last : Bool) → EncodesText s s last [] false
EncodesText-none s last =
    record {
      encoding = refl;
      barred = refl;
      front = [];
      reads = refl;
      residual = λ z h. refl;
      flag = refl;
    }

-- At the end nothing is owed.
pub none_owed : (e : EncoderState) → e.set ≡ Ascii → bytes_from_state e [] ≡ []
none_owed e h = ap (λ (s : CharacterSet). escape_at_end ((raw_state e).rule.set_after s [])) h
    ∙ none_due e.barred e.encoding

-- one call
pub EncodesText-call : (old : TextToEncode) {new : EncoderState} (result : CoderResult)
    {units_of : ℕ → List ℕ} {c : CallInMode} → c.mode ≡ html_mode old.encoder
    → c.result ≡ encoder_result_of result
    → c.src ≡ old.text → (encodes : EncodesChunk units_of old.encoder new c)
    → EncodesText old (text_to_encode new encodes.rest) c.last c.wrote c.replaced
EncodesText-call old {new = new} result {c = c} is_html result_is src_is encodes =
    let call = encodes.call in
    record {
      encoding = encodes.encoding;
      barred = encodes.barred;
      front = step_chars call.done;
      reads = sym src_is ∙ call.reads;
      residual = by_result result (rw (src_is, result_is) at call.text);
      flag = rw is_html at call.flag ∙ any_reported_is (leaves_in_mode call);
    }
  where
    by_result : (r : CoderResult)
        → KeepsText (raw_state old.encoder) (raw_state new) old.text encodes.rest c.last
        (encoder_result_of r) c.wrote
        → (z : List ℕ) → (c.last ≡ true → z ≡ [])
        → bytes_to_come old z ≡ c.wrote ++ bytes_from_state new (encodes.rest ++ z)
    by_result InputEmpty keeps_text = keeps_text
    by_result OutputFull keeps_text = keeps_text

-- At the end of a text no character is unread.
pub none_unread : (result : CoderResult) → result ≡ InputEmpty → {units_of : ℕ → List ℕ}
    {old new : EncoderState} {c : CallInMode} → c.mode ≡ html_mode old
    → c.result ≡ encoder_result_of result → (encodes : EncodesChunk units_of old new c)
    → encodes.rest ≡ []
none_unread result at_end {new = new} {c = c} is_html result_is encodes =
    sym (rest_is_read (raw_state new) encodes.rest c.last
    (rw (is_html, result_is, at_end) at encodes.call.stops))

-- some calls, and some more that are offered the text left
pub EncodesText-then : {a b c : TextToEncode} {last : Bool} {w₁ w₂ : List ℕ} {r₁ r₂ : Bool}
    → EncodesText a b last w₁ r₁ → EncodesText b c last w₂ r₂
    → EncodesText a c last (w₁ ++ w₂) (r₁ || r₂)
EncodesText-then {a} {b} {c} {w₁ = w₁} {w₂ = w₂} {r₂ = r₂} first then_more = record {
  encoding = then_more.encoding ∙ first.encoding;
  barred = then_more.barred ∙ first.barred;
  front = first.front ++ then_more.front;
  reads = first.reads ∙ ap (λ t. first.front ++ t) then_more.reads
      ∙ sym (append_assoc first.front then_more.front c.text);
  residual = λ z ends. first.residual z ends ∙ ap (λ t. w₁ ++ t) (then_more.residual z ends)
      ∙ sym (append_assoc w₁ w₂ (bytes_to_come c z));
  flag =
      let rule = (raw_state a.encoder).rule in
      ap (λ r. r || r₂) first.flag
      ∙ ap (λ r. any_unmappable rule first.front || r) (then_more.flag
      ∙ ap (λ e. any_unmappable (output_rule b.encoder.barred e) then_more.front) first.encoding
      ∙ ap (λ l. any_unmappable (output_rule l a.encoder.encoding) then_more.front) first.barred)
      ∙ sym (any_unmappable-append rule first.front then_more.front);
}

-- characters that are written as their UTF-8
pub EncodesText-own : (s : EncoderState) (front back : List ℕ) (last : Bool) → s.set ≡ Ascii
    → EachIsOwnChar (raw_state s).rule front
    → EncodesText (text_to_encode s (front ++ back)) (text_to_encode s back) last
    (encode_utf8_all front) false
EncodesText-own s front back last in_ascii each =
    let rule = (raw_state s).rule in
    let lawful = lawful_of s.barred s.encoding in
    let bytes_of : List ℕ → List ℕ = λ t. bytes_after_text rule Ascii [] (with_references rule t) in
    let from_ascii : (t : List ℕ) → bytes_from_state s t ≡ bytes_of t =
    λ t. ap (λ set. bytes_after_text rule set [] (with_references rule t)) in_ascii in
    record {
      encoding = refl;
      barred = refl;
      front = front;
      reads = refl;
      residual = λ z h. from_ascii ((front ++ back) ++ z)
          ∙ ap bytes_of (append_assoc front back z)
          ∙ ap (bytes_after_text rule Ascii []) (all_stay rule lawful front (back ++ z) each)
          ∙ all_written rule lawful [] front (with_references rule (back ++ z))
          (lawful.set_after_none Ascii) each
          ∙ ap (λ x. encode_utf8_all front ++ x) (sym (from_ascii (back ++ z)));
      flag = sym (all_mappable rule lawful front each);
    }

-- UTF-8 is written as it is
pub EncodesText-utf_8 : (s : EncoderState) (text : List ℕ) (last : Bool) → s.encoding ≡ UTF_8
    → (s.set ≡ Ascii) × (s.barred ≡ []) → IsUtf8 text
    → EncodesText (text_to_encode s (chars text)) (text_to_encode s []) last text false
EncodesText-utf_8 s text last is_utf_8 fresh utf_8 =
    let each : EachIsOwnChar (raw_state s).rule (chars text) =
    rw (is_utf_8, fresh.1) (each_in_utf_8 (chars text)) in
    rw (append-nil (chars text), encodes-chars text utf_8)
    at (EncodesText-own s (chars text) [] last fresh.0 each)
