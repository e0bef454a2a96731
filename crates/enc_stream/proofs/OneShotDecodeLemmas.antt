-- One-shot calls: the text and the state after calls of a decoder that are offered the whole input.
use Rattle.std.proofs.Common.{◌≡◌, ℕ, Bool, true, false, true≢false, List, [], ◌∷◌, ◌++◌, length, take, drop, refl, ap}
use Rattle.std.proofs.Common.{◌∙◌, sym, subst, arith, append_assoc, append-nil, ◌||◌, if◌then◌else◌}
use Rattle.std.proofs.lemmas.List.{take-append-drop}
use Rattle.std.specs.Prelude.{Option, Some, None, IfSome, ◌==◌, ◌≢◌}
use Rattle.std.specs.Char.{encode_utf8}
use Rattle.enc_stream.specs.declared.bom.BomHandling.{BomHandling}
use Rattle.enc_stream.specs.declared.bom.BomHandling.TheVariants.{Off}
use Rattle.enc_stream.specs.declared.encoding.Encoding.{Encoding}
use Rattle.enc_output.specs.declared.decoder_result.DecoderResult.{DecoderResult}
use Rattle.enc_output.specs.declared.decoder_result.DecoderResult.TheVariants.{InputEmpty, Malformed}
use Rattle.enc_utf8.specs.declared.coder_result.CoderResult.{CoderResult}
use Rattle.enc_utf8.specs.declared.coder_result.CoderResult.TheVariants as coder
use Rattle.enc_output.specs.Results.{decoder_result_of}
use Rattle.enc_utf8.specs.Text.{units_of_text}
use Rattle.enc_utf8.proofs.UnitsLemmas.{text_utf8}
use Rattle.std.specs.Str.{IsUtf8}
use Rattle.enc_decoder.specs.Sequence.{Sequence, sequence_text, is_malformed, any_malformed}
use Rattle.enc_decoder.specs.declared.error_mode.ErrorMode.{ErrorMode}
use Rattle.enc_decoder.specs.Call.{reaches_end}
use Rattle.enc_decoder.specs.CallRecord.{Call}
use Rattle.enc_decoder.specs.Remainder.{Remainder, AreBytes}
use Rattle.enc_decoder.proofs.SequenceLemmas.{units-append, any_malformed-append}
use Rattle.enc_decoder.proofs.SegmentationLemmas.{sequences_of-nil}
use Rattle.enc_stream.specs.Encodings.{rule_of}
use Rattle.enc_stream.specs.Bom.{find_mark, sequences_by_mark}
use Rattle.enc_stream.specs.Decoding.{DecoderState, has_finished, fresh_decoder, remaining_sequences}
use Rattle.enc_stream.specs.Decoding.{whole_sequences, whole_utf_8, whole_malformed, DecodesChunk}
use Rattle.enc_stream.specs.Decoding.{replacing_call, reporting_call}
use Rattle.enc_stream.specs.Decoding.{AnswersDecode, HasDecoded}
use Rattle.enc_utf8.specs.Checked.{checked_add}
use Rattle.enc_stream.specs.declared.lengths.Query.TheVariants as query
use Rattle.enc_stream.specs.declared.lengths.Query.TheVariants.{Utf8Reporting}
use Rattle.enc_stream.specs.Lengths.{max_length}
use Rattle.enc_stream.proofs.EnoughLemmas.{IsEnough}
use Rattle.enc_stream.specs.OneShot.{utf_8_without_replacement, HasRoomFor, HasRoomExactlyFor}
use Rattle.enc_stream.specs.OneShot.{first_length, IsTooLongAfterFull, MayLackMemory}
use Rattle.enc_decoder.specs.Need.{NeedExceeds}
use Rattle.enc_stream.proofs.EndOfInputLemmas.{whole_text, whole_flag}
use Rattle.std.proofs.lemmas.List.{nil_from_length}
use Rattle.std.proofs.Common.{eqb-true}
use Rattle.enc_stream.proofs.FoundMarkLemmas.{looked_for_have}
use Rattle.std.proofs.Math.Bool.{or-true}

pub nothing : (bytes : List ℕ) → true ≡ (length bytes == 0) → bytes ≡ []
nothing bytes is_empty = nil_from_length bytes (eqb-true (length bytes) 0 (sym is_empty))

pub something : {bytes : List ℕ} → false ≡ (length bytes == 0) → bytes ≢ []
something is_empty none =
    true≢false (sym (is_empty ∙ ap (λ (bytes : List ℕ). length bytes == 0) none))

-- an empty input has no sequence
pub none_whole : (handling : BomHandling) (e : Encoding) (bytes : List ℕ) → bytes ≡ []
    → whole_sequences handling e bytes ≡ []
none_whole handling e bytes is_empty =
    let none = sequences_of-nil (rule_of e) 0 in
    ap (whole_sequences handling e) is_empty
    ∙ looked_for_have (λ looked_for. sequences_by_mark (find_mark looked_for []) e 0 [] ≡ []) none
    none none none none handling e

-- no call
pub none_decoded : (handling : BomHandling) (e : Encoding) (bytes : List ℕ)
    → HasDecoded handling e bytes bytes true
    (fresh_decoder handling e) [] false
none_decoded handling e bytes = record {
  done = [];
  whole = λ z h. refl;
  text = refl;
  flag = refl;
}

pub none_so_far : {handling : BomHandling} {e : Encoding} {bytes before : List ℕ}
    {old : DecoderState} → old ≡ fresh_decoder handling e → before ≡ []
    → HasDecoded handling e bytes bytes true old before false
none_so_far {handling} {e} {bytes} is_fresh is_empty =
    rw (is_fresh, is_empty) (none_decoded handling e bytes)

-- One more call, whose text follows the text already written.
module _ {handling : BomHandling} {e : Encoding} {bytes src : List ℕ} {old : DecoderState}
    {before : List ℕ} {had : Bool} (decoded : HasDecoded handling e bytes src true old before had)
  where
    -- if the call puts out all sequences that it does, their text is appended
    goes_on : {new : DecoderState} {mode : ErrorMode} {room read : ℕ}
        {result : DecoderResult} {after : List ℕ} {replaced : Bool}
        (decodes : DecodesChunk encode_utf8 old new (record {
          src = src;
          last = true;
          mode = mode;
          room = room;
          result = result;
          read = read;
          wrote = drop (length before) after;
          replaced = replaced;
        }))
        → take (length before) after ≡ before → decodes.call.put ≡ decodes.call.done
        → HasDecoded handling e bytes (drop read src) true new after (had || replaced)
    goes_on {new} {read = read} {after = after} {replaced} decodes keeps all_put = record {
      done = decoded.done ++ decodes.call.done;
      whole = λ z at_end. decoded.whole z at_end
          ∙ ap (λ ss. decoded.done ++ ss) (decodes.call.residual z at_end)
          ∙ sym (append_assoc decoded.done decodes.call.done
          (remaining_sequences new (drop read src ++ z)));
      text =
          sym (take-append-drop (length before) after)
          ∙ ap (λ x. x ++ drop (length before) after) (keeps ∙ decoded.text)
          ∙ ap (λ x. units_of_text encode_utf8 (sequence_text decoded.done) ++ x)
          (decodes.call.text ∙ ap (λ ss. units_of_text encode_utf8 (sequence_text ss)) all_put)
          ∙ sym (units-append encode_utf8 decoded.done decodes.call.done);
      flag =
          ap (λ x. x || replaced) decoded.flag
          ∙ ap (λ x. any_malformed decoded.done || x) (decodes.call.flag ∙ ap any_malformed all_put)
          ∙ sym (any_malformed-append decoded.done decodes.call.done);
    }

-- The same if the call replaces, is given the unread bytes, and writes after the text already
-- written.
pub next_call : (result : CoderResult) {handling : BomHandling} {e : Encoding}
    {bytes unread : List ℕ} {old new : DecoderState} {wrote : List ℕ} {had : Bool}
    → HasDecoded handling e bytes unread true old wrote had
    → {src before after : List ℕ} → src ≡ unread → before ≡ wrote
    → {room read : ℕ} {replaced : Bool}
    → DecodesChunk encode_utf8 old new
    (replacing_call src true room result read (drop (length before) after) replaced)
    → take (length before) after ≡ before
    → HasDecoded handling e bytes (drop read src) true new after (had || replaced)
next_call coder.InputEmpty decoded src_is before_is decodes keeps =
    goes_on (rw (src_is, before_is) decoded) decodes keeps (sym decodes.call.stops.only_put)
next_call coder.OutputFull decoded src_is before_is decodes keeps =
    goes_on (rw (src_is, before_is) decoded) decodes keeps (sym decodes.call.stops.only_put)

-- a call writes UTF-8
pub utf_8_written : {least : ℕ} {old new : DecoderState} {c : Call}
    → AnswersDecode encode_utf8 least old new c → IsUtf8 c.wrote
utf_8_written answers = text_utf8 _ _ answers.decodes.call.scalars answers.decodes.call.text

-- A call with replacement of a new decoder, which is given the whole input and comes to its end,
-- writes the whole text.
module _ (handling : BomHandling) (e : Encoding) (result : CoderResult) {new : DecoderState}
    {c : Call} (answers : AnswersDecode encode_utf8 4 (fresh_decoder handling e) new c)
    (call_is : c ≡ replacing_call c.src true c.room result c.read c.wrote c.replaced)
    (at_end : result ≡ coder.InputEmpty) where
  decodes_all : DecodesChunk encode_utf8 (fresh_decoder handling e) new
      (replacing_call c.src true c.room result c.read c.wrote c.replaced)
  decodes_all = subst (DecodesChunk encode_utf8 (fresh_decoder handling e) new) call_is
      answers.decodes

  decoded_at_once : HasDecoded handling e c.src (drop c.read c.src) true new c.wrote c.replaced
  decoded_at_once = next_call result (none_decoded handling e c.src) refl refl decodes_all refl

  pub text_at_once : c.wrote ≡ whole_utf_8 handling e c.src
  text_at_once = whole_text decoded_at_once (rw at_end at decodes_all.finished)

  pub flag_at_once : c.replaced ≡ whole_malformed handling e c.src
  flag_at_once = whole_flag decoded_at_once (rw at_end at decodes_all.finished)

-- a malformed sequence is one of all
any_of_last : (ss ts : List Sequence) (s : Sequence) → is_malformed s.kind ≡ true
    → any_malformed ((ss ++ s ∷ []) ++ ts) ≡ true
any_of_last [] ts s malformed = ap (λ b. b || any_malformed ts) malformed
any_of_last (t ∷ ss) ts s malformed =
    ap (λ b. is_malformed t.kind || b) (any_of_last ss ts s malformed) ∙ or-true _

not_at_end : (result : CoderResult) → ¬ (result ≡ coder.InputEmpty)
    → reaches_end true (decoder_result_of result) ≡ false
not_at_end coder.InputEmpty goes_on = absurd (goes_on refl)
not_at_end coder.OutputFull goes_on = refl

-- a call that is not at the end leaves a decoder open
pub still_open : (result : CoderResult) {old new : DecoderState} {src : List ℕ} {room : ℕ}
    {read : ℕ} {wrote : List ℕ} {replaced : Bool}
    → DecodesChunk encode_utf8 old new (replacing_call src true room result read wrote replaced)
    → ¬ (result ≡ coder.InputEmpty) → has_finished new ≡ false
still_open result decodes goes_on = decodes.finished ∙ not_at_end result goes_on

-- with enough room a call is never full
pub never_full : {units_of : ℕ → List ℕ} {mode : ErrorMode} (length_answered : Option ℕ)
    (old : Remainder) {src : List ℕ} {room : ℕ}
    → IfSome length_answered (IsEnough units_of mode old (length src))
    → HasRoomFor length_answered room → AreBytes src
    → NeedExceeds units_of mode old src true room → ⊥
never_full None old enough has_room bytes exceeds = has_room
never_full (Some answer) old {src} enough has_room bytes exceeds =
    enough src true bytes refl (record {
      sequences = exceeds.sequences;
      determined = exceeds.determined;
      more = omega (arith, has_room, exceeds.more);
    })

-- exactly the room for a length is room for it
pub has_room : (length_answered : Option ℕ) (room : ℕ) → HasRoomExactlyFor length_answered room
    → HasRoomFor length_answered room
has_room None room exact = exact
has_room (Some more) room exact = omega (arith, exact)

-- a length for which there is room does not overflow
pub there_is_a_length : (length_answered : Option ℕ) (room : ℕ)
    → HasRoomExactlyFor length_answered room → length_answered ≢ None
there_is_a_length None room exact none = exact
there_is_a_length (Some more) room exact none = absurd (let none_is_some : ⊥ = cc in none_is_some)

-- where memory is asked for, the first length query does not overflow
pub asks_for_memory : {handling : BomHandling} {e : Encoding} {bytes : List ℕ}
    {decoder : DecoderState} → decoder ≡ fresh_decoder handling e
    → {length_answered : Option ℕ}
    → length_answered ≡ max_length Utf8Reporting decoder (length bytes)
    → bytes ≢ [] → length_answered ≢ None → MayLackMemory handling e bytes
asks_for_memory {bytes} is_fresh length_is some fits = record {
  some = some;
  length_fits = rw (length_is, is_fresh) at fits;
}

-- The first call answers `OutputFull`, and the length query after it overflows usize.
pub too_long_after : {handling : BomHandling} {e : Encoding} {bytes : List ℕ}
    {old new : DecoderState}
    → old ≡ fresh_decoder handling e
    → {length_answered : Option ℕ} → length_answered ≡ max_length Utf8Reporting old (length bytes)
    → {room : ℕ}
    → HasRoomExactlyFor length_answered room
    → (result : CoderResult) → ¬ (result ≡ coder.InputEmpty)
    → {read : ℕ} {wrote : List ℕ} {replaced : Bool}
    → AnswersDecode encode_utf8 4 old new
    (replacing_call bytes true room result read wrote replaced)
    → checked_add (max_length query.Utf8 new (length (drop read bytes))) (length wrote) ≡ None
    → IsTooLongAfterFull handling e bytes
too_long_after is_fresh length_is exact coder.InputEmpty goes_on call passes = absurd (goes_on refl)
too_long_after {handling} {e} {bytes} {new} is_fresh length_is {room} exact coder.OutputFull
    goes_on {read} {wrote} {replaced} call passes =
    let exactly_for_first : HasRoomExactlyFor (first_length handling e bytes) room =
    rw (length_is, is_fresh) at exact in
    record {
      room = room;
      enough = has_room _ room exactly_for_first;
      exact = exactly_for_first;
      state = new;
      read = read;
      wrote = wrote;
      replaced = replaced;
      call = rw is_fresh at call;
      passes = passes;
    }

-- calls that report malformed sequences

pub none_strict : (e : Encoding) (bytes : List ℕ) → bytes ≡ []
    → Some [] ≡ utf_8_without_replacement e bytes
none_strict e bytes is_empty =
    ap (λ ss. if any_malformed ss then None
    else Some (units_of_text encode_utf8 (sequence_text ss)))
    (sym (none_whole Off e bytes is_empty))

-- the only call
module _ {e : Encoding} {old new : DecoderState} (is_fresh : old ≡ fresh_decoder Off e) where
  pub strict_end : (result : DecoderResult) {bytes before after : List ℕ} {room read : ℕ}
      → before ≡ []
      → DecodesChunk encode_utf8 old new
      (reporting_call bytes true room result read (drop (length before) after))
      → take (length before) after ≡ before → result ≡ InputEmpty
      → Some after ≡ utf_8_without_replacement e bytes
  strict_end result {bytes} {before} none_before decodes keeps at_end =
      let none : HasDecoded Off e bytes bytes true old before false =
      none_so_far is_fresh none_before in
      let ends = rw at_end at decodes in
      let decoded = goes_on none ends keeps (sym ends.call.stops.only_put) in
      let finished = ends.finished in
      rw (← whole_flag decoded finished, ← whole_text decoded finished) refl

  pub strict_report : (result : DecoderResult) {l a : ℕ} {bytes wrote : List ℕ} {room read : ℕ}
      → DecodesChunk encode_utf8 old new (reporting_call bytes true room result read wrote)
      → result ≡ Malformed l a → None ≡ utf_8_without_replacement e bytes
  strict_report result {bytes = bytes} {read = read} decodes reported =
      let call = (rw reported at decodes).call in
      let stops = call.stops in
      let rest = remaining_sequences new (drop read bytes ++ []) in
      let sequences : whole_sequences Off e bytes ≡ (call.put ++ stops.next ∷ []) ++ rest =
      ap (whole_sequences Off e) (sym (append-nil bytes))
      ∙ rw (is_fresh, stops.then_next) at (call.residual [] (λ _. refl)) in
      let is_malformed_now : whole_malformed Off e bytes ≡ true =
      ap any_malformed sequences ∙ any_of_last call.put rest stops.next stops.malformed in
      rw is_malformed_now refl
