-- A run of an encoder reads the characters of the whole text, and writes their bytes.
use Rattle.std.proofs.Common.{◌≡◌, ℕ, ◌+◌, ◌≤◌, Bool, true, true≢false, List, [], ◌++◌, length, take}
use Rattle.std.proofs.Common.{drop, refl, ap, ◌∙◌, sym, arith, append_assoc, ◌||◌, nat_le, append-nil}
use Rattle.std.proofs.Common.{if◌then◌else◌}
use Rattle.std.proofs.lemmas.Bool.{and_parts}
use Rattle.std.proofs.lemmas.List.{take-append-drop, drop-drop, length-append, length-take}
use Rattle.std.proofs.Math.ListN.{length-drop}
use Rattle.std.proofs.Math.Seq.{drop-append_seam}
use Rattle.enc_encoder.specs.declared.character_set.CharacterSet.TheVariants.{Ascii}
use Rattle.enc_input.specs.declared.encoder_result.EncoderResult.{EncoderResult}
use Rattle.enc_encoder.specs.EncoderRule.{EncoderRule}
use Rattle.enc_encoder.specs.Steps.{step_chars, any_reported}
use Rattle.enc_encoder.specs.Text.{escape_at_end, bytes_of_text, with_references, reference_after}
use Rattle.enc_encoder.specs.ErrorMode.{IsCallInMode}
use Rattle.enc_encoder.specs.Unmappable.{any_unmappable, reports_of}
use Rattle.enc_encoder.proofs.LeavesLemmas.{leaves_in_mode}
use Rattle.enc_encoder.proofs.UnmappableLemmas.{reports_in, any_reported_is, reports_are, any_unmappable-append}
use Rattle.enc_encoder.proofs.UnmappableLemmas.{reports_of-append}
use Rattle.enc_stream.specs.declared.encoding.Encoding.{Encoding}
use Rattle.encoding_rs.specs.declared.encode_run.EncodeCall.{EncodeCall}
use Rattle.enc_stream.specs.Encodings.{output_rule}
use Rattle.enc_stream.specs.Properties.{output_encoding_of}
use Rattle.enc_stream.specs.Encoder.{EncoderState, raw_state, whole_bytes}
use Rattle.encoding_rs.specs.Run.{units_of_call}
use Rattle.enc_decoder.proofs.SequenceLemmas.{or_false, or_assoc}
use Rattle.enc_stream.proofs.ReferenceLemmas.{lawful_of}
use Rattle.enc_stream.proofs.EncoderProgressLemmas.{output_rule_is}
use Rattle.encoding_rs.specs.EncodeRun.{encode_error_mode, reported_character, is_unmappable_result}
use Rattle.encoding_rs.specs.EncodeRun.{MakesEncodeCall, EncodeRunState, encode_run_start}
use Rattle.encoding_rs.specs.EncodeRun.{EncodeRunAdvances, IsEncodeRun}
use Rattle.encoding_rs.specs.EncodeRun.{all_report_unmappable, HasRunEncoding}
use Rattle.encoding_rs.proofs.EncodeCallLemmas.{report_of_call, left_nothing, is_empty_is, nothing_later}
use Rattle.encoding_rs.specs.Runs.{done_of_parts}
use Rattle.encoding_rs.proofs.RunParts.{DoesParts, parts_of, modes_of, takes_parts, reports_parts}
use Rattle.encoding_rs.proofs.RunParts.{adds_up, all_reported}

-- A call of a run reads no more than is unread.
pub read_within : {made : EncodeCall} {old new : EncoderState} {unread before after : List ℕ}
    {result : EncoderResult} {more : ℕ} {replaced : Bool}
    → MakesEncodeCall made old new unread before after result more replaced → more ≤ length unread
read_within {made = made} {unread = unread} call = omega (
  arith,
  ap length call.encodes.call.reads,
  length-append (step_chars call.encodes.call.done) call.encodes.rest,
  length-take made.offer unread,
)

-- the bytes that a run still has to write
abbrev pub bytes_to_come : List ℕ → EncodeRunState → List ℕ
bytes_to_come text s = bytes_of_text (raw_state s.encoder).rule s.encoder.set
    (with_references (raw_state s.encoder).rule (drop s.read text))

-- Every state of a run: the bytes written and those to come are the bytes of the whole text.
pub record IsInText (b : List ℕ) (e : Encoding) (text : List ℕ) (s : EncodeRunState) : Type 0 where
  pub within : s.read ≤ length text
  pub encoding : s.encoder.encoding ≡ output_encoding_of e
  pub barred : s.encoder.barred ≡ b
  pub bytes : whole_bytes b e text ≡ s.bytes ++ bytes_to_come text s
  pub ended : s.finished ≡ true → (drop s.read text ≡ []) × (s.encoder.set ≡ Ascii)

pub starts_in_text : (b : List ℕ) (e : Encoding) (text : List ℕ)
    → IsInText b e text (encode_run_start b e)
starts_in_text b e text = record {
  within = omega arith;
  encoding = refl;
  barred = refl;
  bytes = ap (λ (r : EncoderRule). bytes_of_text r Ascii (with_references r text))
      (sym (output_rule_is b e));
  ended = λ f. absurd (true≢false (sym f));
}

-- one call
module _ {b : List ℕ} {e : Encoding} {text : List ℕ} {made : EncodeCall} {old new : EncodeRunState}
    (in_text : IsInText b e text old) (advances : EncodeRunAdvances text made old new) where
  abbrev unread : List ℕ
  unread = drop old.read text

  abbrev later : List ℕ
  later = drop made.offer unread

  abbrev last : Bool
  last = nat_le (length unread) made.offer

  abbrev rest : List ℕ
  rest = advances.call.encodes.rest

  abbrev pub raw : IsCallInMode (units_of_call made.utf16) (raw_state old.encoder)
      (raw_state new.encoder) rest (record {
        src = take made.offer unread;
        last = last;
        mode = encode_error_mode made.replace old.encoder;
        room = made.room;
        result = advances.result;
        read = advances.call.units;
        wrote = advances.call.wrote;
        replaced = advances.replaced;
      })
  raw = advances.call.encodes.call

  unread_is : unread ≡ step_chars raw.done ++ (rest ++ later)
  unread_is = sym (take-append-drop made.offer unread) ∙ ap (λ t. t ++ later) raw.reads
      ∙ append_assoc (step_chars raw.done) rest later

  pub rest_is : drop new.read text ≡ rest ++ later
  rest_is = ap (λ n. drop n text) advances.read ∙ sym (drop-drop advances.more old.read text)
      ∙ ap (λ n. drop n unread) advances.call.chars
      ∙ ap (drop (length (step_chars raw.done))) unread_is
      ∙ drop-append_seam (step_chars raw.done) (rest ++ later)

  pub reads_first : unread ≡ step_chars raw.done ++ drop new.read text
  reads_first = unread_is ∙ ap (λ t. step_chars raw.done ++ t) (sym rest_is)

  rule_is : (raw_state old.encoder).rule ≡ output_rule b e
  rule_is = ap (output_rule old.encoder.barred) in_text.encoding
      ∙ ap (λ l. output_rule l (output_encoding_of e)) in_text.barred ∙ output_rule_is b e

  bytes_after : whole_bytes b e text ≡ new.bytes ++ bytes_to_come text new
  bytes_after =
      let wrote = advances.call.wrote in
      let reference = reference_after advances.result in
      let bytes_before : List ℕ → List ℕ =
      λ t. old.bytes ++ bytes_of_text (raw_state old.encoder).rule old.encoder.set
      (with_references (raw_state old.encoder).rule t) in
      let bytes_now : List ℕ → List ℕ =
      λ t. old.bytes ++ (wrote ++ (reference ++ bytes_of_text (raw_state new.encoder).rule
      new.encoder.set (with_references (raw_state new.encoder).rule t))) in
      in_text.bytes ∙ ap bytes_before (sym (take-append-drop made.offer unread))
      ∙ ap (λ t. old.bytes ++ t) (raw.text later (nothing_later unread made.offer))
      ∙ ap bytes_now (sym rest_is)
      ∙ ap (λ t. old.bytes ++ t) (sym (append_assoc wrote reference (bytes_to_come text new)))
      ∙ sym (append_assoc old.bytes (wrote ++ reference) (bytes_to_come text new))
      ∙ ap (λ t. t ++ bytes_to_come text new) (sym advances.call.bytes)

  ended_after : new.finished ≡ true → (drop new.read text ≡ []) × (new.encoder.set ≡ Ascii)
  ended_after finished =
      let both = and_parts _ _ (sym advances.finished ∙ finished) in
      let none_unread = left_nothing _ _ rest _ made.room raw.done advances.result raw.stops
      both.1 in (
        rest_is ∙ ap (λ t. t ++ later) none_unread ∙ nothing_later unread made.offer both.0,
        ap (λ (v : EncoderState). v.set)
            (advances.call.encodes.ended (is_empty_is advances.result both.1) both.0),
      )

  pub stays_in_text : IsInText b e text new
  stays_in_text = record {
    within = omega (arith, read_within advances.call, length-drop old.read text);
    encoding = advances.call.encodes.encoding ∙ in_text.encoding;
    barred = advances.call.encodes.barred ∙ in_text.barred;
    bytes = bytes_after;
    ended = ended_after;
  }

  report_holds : (reported_character advances.result
      ≡ (if made.replace then [] else reports_in raw.done))
      × ((advances.replaced || is_unmappable_result advances.result) ≡ any_reported raw.done)
  report_holds = report_of_call made.replace old.encoder (raw_state new.encoder) rest last made.room
      raw.done advances.result advances.replaced raw.flag raw.stops

  pub reports_after : new.unmappables ≡ old.unmappables
      ++ (if made.replace then [] else reports_of (output_rule b e) (step_chars raw.done))
  reports_after =
      let by_rule = reports_are (leaves_in_mode raw) in
      advances.unmappables
      ∙ ap (λ t. old.unmappables ++ t) (report_holds.0
      ∙ ap (λ t. if made.replace then [] else t) (by_rule
      ∙ ap (λ r. reports_of r (step_chars raw.done)) rule_is))

  pub flag_after : new.had_unmappables
      ≡ (old.had_unmappables || any_unmappable (output_rule b e) (step_chars raw.done))
  flag_after =
      let by_rule = any_reported_is (leaves_in_mode raw) in
      advances.flag
      ∙ ap (λ t. old.had_unmappables || t) (report_holds.1 ∙ by_rule
      ∙ ap (λ r. any_unmappable r (step_chars raw.done)) rule_is)

-- a run from the start

abbrev replaces : EncodeCall → Bool
replaces call = call.replace

abbrev size : List ℕ → ℕ
size chars = length chars

abbrev does_parts : (b : List ℕ) (e : Encoding) (text : List ℕ)
    → DoesParts (EncodeRunAdvances text) (IsInText b e text)
    (λ (a : EncodeRunState). drop a.read text) (λ (a : EncodeRunState). a.read) size
does_parts b e text = record {
  replaces = replaces;
  keeps_on = λ call old new in_text advances. stays_in_text in_text advances;
  done = λ call old new in_text advances. step_chars (raw in_text advances).done;
  takes_first = λ call old new in_text advances. reads_first in_text advances;
  offset = λ call old new in_text advances.
      sym (advances.read ∙ ap (λ n. old.read + n) advances.call.chars);
}

module _ {b : List ℕ} {e : Encoding} {text : List ℕ} (calls : List EncodeCall)
    (s : EncodeRunState) (in_text : IsInText b e text s)
    (run : IsEncodeRun text calls (encode_run_start b e) s) where
  abbrev pub has_encoded : HasRunEncoding b e text calls s.bytes s.read s.unmappables
      s.had_unmappables
  has_encoded =
      let start = encode_run_start b e in
      let starts = starts_in_text b e text in
      let does = does_parts b e text in
      let rule = output_rule b e in
      record {
        parts = parts_of does calls start s starts run;
        unread = drop s.read text;
        more = bytes_to_come text s;
        chars = takes_parts does calls start s starts run;
        count =
            let count = adds_up does (λ m n. m + n) size (λ (a : EncodeRunState). a.read)
            (λ n. let same : n + 0 ≡ n = omega arith in same)
            (λ k m n. let same : k + m + n ≡ k + (m + n) = omega arith in same) length-append
            (λ call old new in_text advances.
            advances.read ∙ ap (λ n. old.read + n) advances.call.chars) calls start s starts run in
            omega (arith, count);
        calls_are = modes_of does calls start s starts run;
        beginning = in_text.bytes;
        reported = reports_parts does (λ _ chars. reports_of rule chars)
            (λ (a : EncodeRunState). a.unmappables)
            (λ call old new in_text advances. reports_after in_text advances)
            calls start s starts run;
        flag = adds_up does (λ x y. x || y) (any_unmappable rule)
            (λ (a : EncodeRunState). a.had_unmappables) or_false or_assoc
            (any_unmappable-append rule)
            (λ call old new in_text advances. flag_after in_text advances) calls start s starts run;
      }

  module _ (finished : s.finished ≡ true) where
    all_chars : done_of_parts has_encoded.parts ≡ text
    all_chars = sym (has_encoded.chars
        ∙ ap (λ t. done_of_parts has_encoded.parts ++ t) (in_text.ended finished).0
        ∙ append-nil (done_of_parts has_encoded.parts))

    none_to_come : bytes_to_come text s ≡ []
    none_to_come =
        let rule = (raw_state s.encoder).rule in
        ap (λ t. bytes_of_text rule s.encoder.set (with_references rule t))
        (in_text.ended finished).0
        ∙ ap (λ set. bytes_of_text rule set []) (in_text.ended finished).1
        ∙ ap escape_at_end
        ((lawful_of s.encoder.barred s.encoder.encoding).set_after_none Ascii)

    pub all_bytes : s.bytes ≡ whole_bytes b e text
    all_bytes = sym (in_text.bytes ∙ ap (λ t. s.bytes ++ t) none_to_come ∙ append-nil s.bytes)

    pub any_char : s.had_unmappables ≡ any_unmappable (output_rule b e) text
    any_char = has_encoded.flag ∙ ap (any_unmappable (output_rule b e)) all_chars

    pub all_reports : all_report_unmappable calls ≡ true
        → s.unmappables ≡ reports_of (output_rule b e) text
    all_reports all_report = has_encoded.reported
        ∙ all_reported replaces (λ _ chars. reports_of (output_rule b e) chars)
        (λ chars. length chars) (λ at. refl) (λ at. reports_of-append (output_rule b e)) 0
        has_encoded.parts calls has_encoded.calls_are all_report
        ∙ ap (reports_of (output_rule b e)) all_chars

    pub all_read : s.read ≡ length text
    all_read = omega (arith, has_encoded.count, ap length all_chars)
