-- A run of a decoder does the sequences of the whole input, from the first on.
use Rattle.std.proofs.Common.{◌≡◌, ℕ, ◌+◌, ◌-◌, ◌≤◌, Bool, true, false, true≢false, List, [], ◌∷◌, ◌++◌, length}
use Rattle.std.proofs.Common.{take, drop, refl, ap, ◌∙◌, sym, arith, append_assoc, ◌||◌, nat_le, append-nil}
use Rattle.std.proofs.lemmas.Bool.{leb-true}
use Rattle.std.proofs.lemmas.List.{take-append-drop, drop-append-le, drop-drop, length-append}
use Rattle.std.proofs.Math.ListN.{drop_of_length-le, length-drop, length-take}
use Rattle.std.specs.Prelude.{if◌then◌else◌}
use Rattle.std.specs.Char.{encode_utf8}
use Rattle.enc_stream.specs.declared.bom.BomHandling.{BomHandling}
use Rattle.enc_stream.specs.declared.encoding.Encoding.{Encoding}
use Rattle.enc_output.specs.declared.decoder_result.DecoderResult.{DecoderResult}
use Rattle.enc_output.specs.declared.decoder_result.DecoderResult.TheVariants.{InputEmpty, OutputFull, Malformed}
use Rattle.encoding_rs.specs.declared.run.DecodeCall.{DecodeCall}
use Rattle.enc_utf8.specs.Text.{units_of_text}
use Rattle.enc_decoder.specs.Sequence.{Sequence, sequence_bytes, sequence_text, any_malformed}
use Rattle.enc_decoder.specs.Call.{is_replacement_mode, DecoderStops}
use Rattle.enc_decoder.specs.CallRecord.{Call}
use Rattle.enc_decoder.specs.Call.{decode_error_mode}
use Rattle.enc_stream.specs.Decoding.{has_finished, remaining_sequences, decoder_remainder, DecodesChunk}
use Rattle.enc_stream.specs.Decoding.{whole_sequences, whole_encoding, whole_utf_8, whole_malformed, marks_after}
use Rattle.encoding_rs.specs.Run.{units_of_call, is_malformed_result, replacement_text, fault_of_result}
use Rattle.encoding_rs.specs.Run.{DecodeRunState, DecodeRunAdvances, IsDecodeRun, decode_run_start}
use Rattle.encoding_rs.specs.Run.{all_report_malformed, HasRunDecoding}
use Rattle.enc_decoder.proofs.SequenceLemmas.{sequence_bytes-append, sequence_bytes-one, sequence_text-append}
use Rattle.enc_decoder.proofs.SequenceLemmas.{any_malformed-append, any_malformed-one, or_false, or_assoc}
use Rattle.enc_decoder.proofs.SequenceLemmas.{units-append, units_of_text-append}
use Rattle.enc_stream.proofs.EndOfInputLemmas.{none_left}
use Rattle.enc_stream.proofs.WholeInputLemmas.{joined, remaining_bytes}
use Rattle.enc_stream.proofs.DecoderCallLemmas.{pending_so_far}
use Rattle.enc_stream.proofs.DecoderProgressLemmas.{ends_read}
use Rattle.enc_stream.proofs.WholeEncodingLemmas.{encoding_ahead, still_ahead}
use Rattle.encoding_rs.proofs.DecodeCallLemmas.{determined_by}
use Rattle.enc_stream.specs.Faults.{faults_from, whole_faults}
use Rattle.enc_stream.proofs.FaultLemmas.{no_faults, last_fault, faults-append}
use Rattle.encoding_rs.specs.Runs.{done_of_parts, reported_from}
use Rattle.encoding_rs.proofs.RunParts.{DoesParts, parts_of, modes_of, takes_parts, reports_parts}
use Rattle.encoding_rs.proofs.RunParts.{adds_up, all_reported}

-- the sequences still to come in a run
abbrev pub remaining_in_run : List ℕ → DecodeRunState → List Sequence
remaining_in_run bytes s = remaining_sequences s.decoder (drop s.read bytes)

-- the offset of the first of them
abbrev pub next_offset : List ℕ → DecodeRunState → ℕ
next_offset bytes s = length bytes - length (sequence_bytes (remaining_in_run bytes s))

-- Every state of a run: the sequences still to come are in the input, the bytes pending are among
-- those read, and no call changes the encoding ahead.
pub record IsInInput (handling : BomHandling) (e : Encoding) (bytes : List ℕ)
    (s : DecodeRunState) : Type 0 where
  pub within : s.read ≤ length bytes
  pub pending : length s.decoder.pending ≤ s.read
  pub all_read : has_finished s.decoder ≡ true → s.read ≡ length bytes
  pub none_awaited : has_finished s.decoder ≡ true → s.decoder.marks ≡ []
  pub encoding : encoding_ahead s.decoder (drop s.read bytes) ≡ whole_encoding handling e bytes
  pub remaining : length (sequence_bytes (remaining_in_run bytes s)) ≤ length bytes

-- a run that has made no call
module _ (handling : BomHandling) (e : Encoding) (bytes : List ℕ) where
  whole_length : length (sequence_bytes (remaining_in_run bytes (decode_run_start handling e)))
      ≡ length bytes
  whole_length = ap length (joined handling e bytes)

  pub starts_in_input : IsInInput handling e bytes (decode_run_start handling e)
  starts_in_input = record {
    within = omega arith;
    pending = omega arith;
    all_read = λ finished. absurd (true≢false (sym finished));
    none_awaited = λ finished. absurd (true≢false (sym finished));
    encoding = refl;
    remaining = omega (arith, whole_length);
  }

  starts_at : next_offset bytes (decode_run_start handling e) ≡ 0
  starts_at = omega (arith, whole_length)

-- one call
module _ {handling : BomHandling} {e : Encoding} {bytes : List ℕ} {made : DecodeCall}
    {old new : DecodeRunState} (in_input : IsInInput handling e bytes old)
    (advances : DecodeRunAdvances bytes made old new) where
  abbrev unread : List ℕ
  unread = drop old.read bytes

  abbrev chunk : List ℕ
  chunk = take made.offer unread

  abbrev following : List ℕ
  following = drop made.offer unread

  abbrev last : Bool
  last = nat_le (length unread) made.offer

  abbrev of_call : Call
  of_call = record {
    src = chunk;
    last = last;
    mode = decode_error_mode made.replace;
    room = made.room;
    result = advances.result;
    read = advances.more;
    wrote = units_of_text (units_of_call made.utf16) advances.call.answers.text;
    replaced = advances.replaced;
  }

  abbrev decodes : DecodesChunk (units_of_call made.utf16) old.decoder new.decoder of_call
  decodes = advances.call.answers.decodes

  abbrev put : List Sequence
  put = decodes.call.put

  abbrev done : List Sequence
  done = decodes.call.done

  rest_is : drop advances.more chunk ++ following ≡ drop new.read bytes
  rest_is = sym (drop-append-le advances.more chunk following decodes.call.within)
      ∙ ap (drop advances.more) (take-append-drop made.offer unread)
      ∙ drop-drop advances.more old.read bytes ∙ ap (λ n. drop n bytes) (sym advances.read)

  none_following : last ≡ true → following ≡ []
  none_following h = drop_of_length-le unread (leb-true (length unread) made.offer h)

  takes_first : remaining_in_run bytes old ≡ done ++ remaining_in_run bytes new
  takes_first = ap (remaining_sequences old.decoder) (sym (take-append-drop made.offer unread))
      ∙ decodes.call.residual following none_following
      ∙ ap (λ x. done ++ remaining_sequences new.decoder x) rest_is

  remaining_length : length (sequence_bytes (remaining_in_run bytes old))
      ≡ length (sequence_bytes done) + length (sequence_bytes (remaining_in_run bytes new))
  remaining_length =
      ap (λ ss. length (sequence_bytes ss)) takes_first
      ∙ ap length (sequence_bytes-append done (remaining_in_run bytes new))
      ∙ length-append (sequence_bytes done) (sequence_bytes (remaining_in_run bytes new))

  offset_after : next_offset bytes old + length (sequence_bytes done) ≡ next_offset bytes new
  offset_after = omega (arith, remaining_length, in_input.remaining)

  pub stays_in_input : IsInInput handling e bytes new
  stays_in_input = record {
    within = omega (
      arith,
      decodes.call.within,
      length-take made.offer unread,
      length-drop old.read bytes,
    );
    pending = omega (
      arith,
      pending_so_far of_call decodes,
      in_input.pending,
      advances.read,
    );
    all_read = λ finished.
        let ends = ends_read of_call decodes finished in
        omega (
          arith,
          leb-true (length unread) made.offer ends.0,
          length-take made.offer unread,
          length-drop old.read bytes,
        );
    none_awaited = λ finished. decodes.marks
        ∙ ap (λ end. marks_after old.decoder.marks end done new.decoder.pending)
        (sym decodes.finished ∙ finished);
    encoding = ap (encoding_ahead new.decoder) (sym rest_is)
        ∙ still_ahead of_call decodes following none_following
        ∙ ap (encoding_ahead old.decoder) (take-append-drop made.offer unread)
        ∙ in_input.encoding;
    remaining = omega (arith, remaining_length, in_input.remaining);
  }

  -- The sequences done are those put out, and the one that is reported.

  abbrev Stops : DecoderResult → Type 0
  Stops r = DecoderStops (units_of_call made.utf16) (decoder_remainder old.decoder)
      (decoder_remainder new.decoder) of_call put done r

  text_by : (r : DecoderResult) → Stops r
      → sequence_text done ≡ sequence_text put ++ replacement_text r
  text_by InputEmpty stops = ap sequence_text stops.only_put ∙ sym (append-nil (sequence_text put))
  text_by OutputFull stops = ap sequence_text stops.only_put ∙ sym (append-nil (sequence_text put))
  text_by (Malformed l a) stops =
      ap sequence_text stops.then_next ∙ sequence_text-append put (stops.next ∷ [])
      ∙ ap (λ t. sequence_text put ++ t) (append-nil stops.next.text ∙ stops.replacement)

  flag_by : (r : DecoderResult) → Stops r
      → any_malformed done ≡ (any_malformed put || is_malformed_result r)
  flag_by InputEmpty stops = ap any_malformed stops.only_put ∙ sym (or_false (any_malformed put))
  flag_by OutputFull stops = ap any_malformed stops.only_put ∙ sym (or_false (any_malformed put))
  flag_by (Malformed l a) stops = ap any_malformed stops.then_next
      ∙ any_malformed-one put stops.next ∙ ap (λ b. any_malformed put || b) stops.malformed

  -- The sequences still to come begin with the bytes pending.
  pending_before : next_offset bytes old + length old.decoder.pending ≡ old.read
  pending_before = omega (
    arith,
    ap length (remaining_bytes old.decoder unread advances.not_finished),
    length-append old.decoder.pending unread,
    length-drop old.read bytes,
    in_input.within,
    in_input.remaining,
  )

  none_put : made.replace ≡ false → any_malformed put ≡ false
  none_put reports = sym decodes.call.flag
      ∙ decodes.call.none_replaced (ap (λ b. is_replacement_mode (decode_error_mode b)) reports)

  no_fault : (r : DecoderResult) → Stops r → made.replace ≡ true → fault_of_result r new.read ≡ []
  no_fault InputEmpty stops replaces = refl
  no_fault OutputFull stops replaces = refl
  no_fault (Malformed l a) stops replaces =
      absurd (true≢false (ap (λ b. is_replacement_mode (decode_error_mode b)) (sym replaces)
      ∙ stops.not_replaced))

  fault_by : (r : DecoderResult) → Stops r → made.replace ≡ false
      → fault_of_result r new.read ≡ faults_from (next_offset bytes old) done
  fault_by InputEmpty stops reports =
      sym (ap (faults_from _) stops.only_put ∙ no_faults _ put (none_put reports))
  fault_by OutputFull stops reports =
      sym (ap (faults_from _) stops.only_put ∙ no_faults _ put (none_put reports))
  fault_by (Malformed l a) stops reports =
      let offset : new.read - a - l ≡ next_offset bytes old + length (sequence_bytes put) = omega (
        arith,
        pending_before,
        advances.read,
        stops.len,
        stops.pending,
        ap length decodes.accounted,
        length-append old.decoder.pending (take advances.more chunk),
        length-take advances.more chunk,
        decodes.call.within,
        length-append (sequence_bytes done) new.decoder.pending,
        ap (λ ss. length (sequence_bytes ss)) stops.then_next,
        ap length (sequence_bytes-one put stops.next),
        length-append (sequence_bytes put) stops.next.bytes,
      ) in
      ap (λ n. (n, l) ∷ []) offset
      ∙ ap (λ n. (next_offset bytes old + length (sequence_bytes put), n) ∷ []) stops.len
      ∙ sym (ap (faults_from (next_offset bytes old)) stops.then_next
      ∙ last_fault (next_offset bytes old) put stops.next (none_put reports) stops.malformed)

  faults_by : (replace : Bool) → made.replace ≡ replace
      → fault_of_result advances.result new.read
      ≡ (if replace then [] else faults_from (next_offset bytes old) done)
  faults_by true replaces = no_fault advances.result decodes.call.stops replaces
  faults_by false reports = fault_by advances.result decodes.call.stops reports

  text_after : new.text ≡ old.text ++ units_of_text encode_utf8 (sequence_text done)
  text_after =
      let put_text : advances.call.answers.text ≡ sequence_text put =
      determined_by made.utf16 advances.call.answers.text (sequence_text put)
      advances.call.answers.scalars decodes.call.scalars decodes.call.text in
      advances.call.text
      ∙ append_assoc old.text advances.call.wrote
      (units_of_text encode_utf8 (replacement_text advances.result))
      ∙ ap (λ x. old.text ++ (x ++ units_of_text encode_utf8 (replacement_text advances.result)))
      (advances.call.answers.is ∙ ap (units_of_text encode_utf8) put_text)
      ∙ ap (λ x. old.text ++ x) (sym (ap (units_of_text encode_utf8)
      (text_by advances.result decodes.call.stops)
      ∙ units_of_text-append encode_utf8 (sequence_text put) (replacement_text advances.result)))

  flag_after : new.had_errors ≡ (old.had_errors || any_malformed done)
  flag_after =
      advances.flag
      ∙ ap (λ b. old.had_errors || (b || is_malformed_result advances.result)) decodes.call.flag
      ∙ ap (λ b. old.had_errors || b) (sym (flag_by advances.result decodes.call.stops))

-- a run from the start

abbrev replaces : DecodeCall → Bool
replaces call = call.replace

abbrev size : List Sequence → ℕ
size ss = length (sequence_bytes ss)

abbrev does_parts : (handling : BomHandling) (e : Encoding) (bytes : List ℕ)
    → DoesParts (DecodeRunAdvances bytes) (IsInInput handling e bytes) (remaining_in_run bytes)
    (next_offset bytes) size
does_parts handling e bytes = record {
  replaces = replaces;
  keeps_on = λ call old new in_input advances. stays_in_input in_input advances;
  done = λ call old new in_input advances. done in_input advances;
  takes_first = λ call old new in_input advances. takes_first in_input advances;
  offset = λ call old new in_input advances. offset_after in_input advances;
}

pub has_run : {handling : BomHandling} {e : Encoding} {bytes : List ℕ} (calls : List DecodeCall)
    (s : DecodeRunState) {ended : Bool}
    → IsDecodeRun bytes calls (decode_run_start handling e) s
    → has_finished s.decoder ≡ ended
    → HasRunDecoding handling e bytes calls s.text s.faults s.had_errors ended
has_run {handling = handling} {e = e} {bytes = bytes} calls s run ends =
    let start = decode_run_start handling e in
    let starts = starts_in_input handling e bytes in
    let does = does_parts handling e bytes in
    record {
      parts = parts_of does calls start s starts run;
      rest = remaining_in_run bytes s;
      sequences = takes_parts does calls start s starts run;
      all = λ ended. none_left s.decoder (drop s.read bytes) (ends ∙ ended);
      calls_are = modes_of does calls start s starts run;
      text_of_done = adds_up does (λ a b. a ++ b)
          (λ ss. units_of_text encode_utf8 (sequence_text ss)) (λ (x : DecodeRunState). x.text)
          append-nil append_assoc (units-append encode_utf8)
          (λ call old new in_input advances. text_after in_input advances) calls start s starts run;
      reported = reports_parts does faults_from (λ (x : DecodeRunState). x.faults)
          (λ call old new in_input advances. advances.faults
          ∙ ap (λ t. old.faults ++ t) (faults_by in_input advances call.replace refl))
          calls start s starts run
          ∙ ap (λ n. reported_from faults_from size n
          (parts_of does calls start s starts run)) (starts_at handling e bytes);
      flag = adds_up does (λ a b. a || b) any_malformed
          (λ (x : DecodeRunState). x.had_errors) or_false or_assoc any_malformed-append
          (λ call old new in_input advances. flag_after in_input advances) calls start s starts run;
    }

-- A run that has ended has done the sequences of the whole input.
module _ {handling : BomHandling} {e : Encoding} {bytes : List ℕ} {calls : List DecodeCall}
    {text : List ℕ} {faults : List (ℕ × ℕ)} {had : Bool}
    (has_run : HasRunDecoding handling e bytes calls text faults had true) where
  all_done : done_of_parts has_run.parts ≡ whole_sequences handling e bytes
  all_done = sym (has_run.sequences
      ∙ ap (λ ss. done_of_parts has_run.parts ++ ss) (has_run.all refl)
      ∙ append-nil (done_of_parts has_run.parts))

  pub whole_text : text ≡ whole_utf_8 handling e bytes
  whole_text = has_run.text_of_done
      ∙ ap (λ ss. units_of_text encode_utf8 (sequence_text ss)) all_done

  pub whole_flag : had ≡ whole_malformed handling e bytes
  whole_flag = has_run.flag ∙ ap any_malformed all_done

  pub whole_places : all_report_malformed calls ≡ true → faults ≡ whole_faults handling e bytes
  whole_places all_report = has_run.reported
      ∙ all_reported replaces faults_from size (λ at. refl) faults-append 0 has_run.parts calls
      has_run.calls_are all_report
      ∙ ap (faults_from 0) all_done
