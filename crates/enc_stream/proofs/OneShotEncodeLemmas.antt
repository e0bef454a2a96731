-- One-shot calls: the bytes and the state after calls of an encoder that are offered the whole
-- text.
use Rattle.std.proofs.Common.{◌≡◌, ℕ, ◌≤◌, Bool, true, ◌||◌, List, [], ◌∷◌, ◌++◌, length, take, drop, refl, ap}
use Rattle.std.proofs.Common.{◌∙◌, sym, append_assoc, append-nil, chars}
use Rattle.std.specs.Prelude.{Option, None, ◌≢◌}
use Rattle.std.proofs.lemmas.List.{take-append-drop}
use Rattle.std.specs.Char.{encode_utf8}
use Rattle.enc_utf8.specs.declared.coder_result.CoderResult.{CoderResult}
use Rattle.enc_utf8.specs.declared.coder_result.CoderResult.TheVariants.{InputEmpty, OutputFull}
use Rattle.enc_encoder.specs.declared.character_set.CharacterSet.{CharacterSet}
use Rattle.enc_encoder.specs.declared.character_set.CharacterSet.TheVariants.{Ascii}
use Rattle.enc_encoder.specs.EncoderRule.{EncoderRule}
use Rattle.enc_encoder.specs.Text.{bytes_of_text, with_references, reference_after}
use Rattle.enc_encoder.specs.Steps.{step_chars}
use Rattle.enc_input.specs.Results.{encoder_result_of}
use Rattle.enc_encoder.specs.Unmappable.{any_unmappable}
use Rattle.enc_encoder.proofs.UnmappableLemmas.{replaced_is, any_unmappable-append}
use Rattle.enc_stream.specs.declared.encoding.Encoding.{Encoding}
use Rattle.enc_stream.specs.Encodings.{output_rule}
use Rattle.enc_stream.specs.Encoder.{EncoderState, EncodesChunk, fresh_encoder, raw_state}
use Rattle.enc_stream.specs.Encoder.{html_mode}
use Rattle.enc_stream.specs.Encoder.{whole_bytes}
use Rattle.enc_utf8.specs.Checked.{checked_add}
use Rattle.enc_stream.specs.Properties.{output_encoding_of}
use Rattle.enc_stream.specs.OneShot.{HasWritten, length_to_encode, remaining_length, HasRoomFor, EncoderRound}
use Rattle.enc_stream.specs.OneShot.{AreFullRounds, IsTooLongToEncode}
use Rattle.enc_decoder.proofs.SequenceLemmas.{or_assoc}
use Rattle.enc_stream.proofs.EncoderProgressLemmas.{none_due, output_rule_is}
use Rattle.std.proofs.Common.{IsUtf8, false, rules}
use Rattle.enc_decoder.proofs.SequenceLemmas.{or_false}
use Rattle.enc_stream.proofs.UnreadTextLemmas.{all_read, chars_after}

-- the bytes of a text, by an encoder's rule and set
abbrev bytes_by : EncoderRule → CharacterSet → List ℕ → List ℕ
bytes_by rule set text = bytes_of_text rule set (with_references rule text)

-- full calls from the start of the text
pub record FollowsFullRounds (e : Encoding) (text : List ℕ) (state : EncoderState)
    (unread wrote : List ℕ) : Type 0 where
  pub rounds : List EncoderRound
  pub full : AreFullRounds rounds (fresh_encoder [] e) text [] state unread wrote

-- Full calls that follow here follow from the start of the text too.
abbrev pub ExtendsFullRounds : Encoding → List ℕ → EncoderState → List ℕ → List ℕ → Type 0
ExtendsFullRounds e text state unread wrote =
    (rounds : List EncoderRound) (last : EncoderState) (left all : List ℕ)
    → AreFullRounds rounds state unread wrote last left all
    → FollowsFullRounds e text last left all

-- What the calls so far have come to: the state, the unread text, the bytes written, and whether a
-- character was unmappable.
pub record HasEncoded (e : Encoding) (text : List ℕ) (state : EncoderState) (unread wrote : List ℕ)
    (had_unmappables : Bool) : Type 0 where
  pub written : HasWritten e (chars text) (chars unread) state wrote
  pub flag : any_unmappable (output_rule [] e) (chars text)
      ≡ (had_unmappables || any_unmappable (output_rule [] e) (chars unread))
  pub front : List ℕ
  pub rest : text ≡ front ++ unread
  pub full : ExtendsFullRounds e text state unread wrote
  -- only the first call asks for a length that is not there
  pub start : length_to_encode (output_encoding_of e) (length text) ≡ None → unread ≡ text

-- There is room for a call with the unread text, after `written` bytes: at least the answer of the
-- length query, which does not overflow usize.
pub record HasRoomForCall (state : EncoderState) (unread : List ℕ) (written room : ℕ)
    : Type 0 where
  pub fits : checked_add (remaining_length state (length unread)) written ≢ None
  pub enough : HasRoomFor (remaining_length state (length unread)) room
  pub least : 14 ≤ room

-- no call
pub none_encoded : (e : Encoding) (text : List ℕ)
    → HasEncoded e text (fresh_encoder [] e) text [] false
none_encoded e text = record {
  written = record {
    encoding = refl;
    barred = refl;
    whole = ap (λ rule. bytes_by rule Ascii (chars text)) (sym (output_rule_is [] e));
  };
  flag = refl;
  front = [];
  rest = refl;
  full = λ rounds last left all full. record { rounds = rounds; full = full };
  start = λ none. refl;
}

-- no text
pub nothing_written : (e : Encoding) (text : List ℕ) → text ≡ [] → [] ≡ whole_bytes [] e text
nothing_written e text none = sym (none_due [] e) ∙ ap (whole_bytes [] e) (sym none)

-- Before the first call there is room, once there is room for the answer to its length query.
pub has_first_room : (state : EncoderState) (text : List ℕ) {answer : Option ℕ} {room : ℕ}
    → answer ≡ remaining_length state (length text) → HasRoomFor answer room → 14 ≤ room
    → HasRoomForCall state text 0 room
has_first_room state text {answer} {room} answer_is enough least =
    let is_enough : HasRoomFor (remaining_length state (length text)) room = rw answer_is at enough
    in
    record { fits = search rules; enough = is_enough; least = least }

-- no reference is left to the caller
none_after : (stop : CoderResult) → reference_after (encoder_result_of stop) ≡ []
none_after InputEmpty = refl
none_after OutputFull = refl

full_otherwise : (stop : CoderResult) → ¬ (stop ≡ InputEmpty) → stop ≡ OutputFull
full_otherwise InputEmpty goes_on = absurd (goes_on refl)
full_otherwise OutputFull goes_on = refl

module _ {e : Encoding} {text : List ℕ} {old : EncoderState} {unread before : List ℕ} {had : Bool}
    (so_far : HasEncoded e text old unread before had) where
  -- where the length query of the whole text overflows, it is the next one
  pub none_asked : length_to_encode (output_encoding_of e) (length text) ≡ None
      → remaining_length old (length unread) ≡ None
  none_asked none = rw (so_far.start none, so_far.written.barred, so_far.written.encoding) none

  pub too_long : checked_add (length_to_encode (output_encoding_of e) (length unread))
      (length before) ≡ None → IsTooLongToEncode e text
  too_long passes =
      let follows = so_far.full [] _ _ _ (refl, refl, refl) in
      record {
        front = so_far.front;
        unread = unread;
        rest = so_far.rest;
        state = old;
        wrote = before;
        written = so_far.written;
        rounds = follows.rounds;
        full = follows.full;
        passes = passes;
      }

  -- one more call, whose bytes follow those already written
  module _ {new : EncoderState} (after : List ℕ) (stop : CoderResult) {room read : ℕ}
      {replaced : Bool} (encodes : EncodesChunk encode_utf8 old new (record {
        src = chars unread;
        last = true;
        mode = html_mode old;
        room = room;
        result = encoder_result_of stop;
        read = read;
        wrote = drop (length before) after;
        replaced = replaced;
      }))
      (keeps : take (length before) after ≡ before) where
    joined : after ≡ before ++ drop (length before) after
    joined = sym (take-append-drop (length before) after)
        ∙ ap (λ x. x ++ drop (length before) after) keeps

    written_on : {left : List ℕ} → left ≡ encodes.rest → HasWritten e (chars text) left new after
    written_on left_is = record {
      encoding = encodes.encoding ∙ so_far.written.encoding;
      barred = encodes.barred ∙ so_far.written.barred;
      whole =
          let later = bytes_by (raw_state new).rule new.set encodes.rest in
          let text_kept : bytes_by (raw_state old).rule old.set (chars unread)
          ≡ drop (length before) after ++ later =
          ap (bytes_by (raw_state old).rule old.set) (sym (append-nil (chars unread)))
          ∙ encodes.call.text [] (λ _. refl)
          ∙ rw (none_after stop, append-nil encodes.rest) refl in
          rw left_is (so_far.written.whole ∙ ap (λ x. before ++ x) text_kept
          ∙ sym (append_assoc before (drop (length before) after) later)
          ∙ ap (λ x. x ++ later) (sym joined));
    }

    flagged_on : {left : List ℕ} → left ≡ encodes.rest
        → any_unmappable (output_rule [] e) (chars text)
        ≡ ((had || replaced) || any_unmappable (output_rule [] e) left)
    flagged_on left_is =
        let any_in : List ℕ → Bool = any_unmappable (output_rule [] e) in
        let done = step_chars encodes.call.done in
        let rule_is : (raw_state old).rule ≡ output_rule [] e =
        rw (so_far.written.barred, so_far.written.encoding) (output_rule_is [] e) in
        let replaced_now : replaced ≡ any_in done =
        replaced_is encodes.call refl ∙ ap (λ rule. any_unmappable rule done) rule_is in
        so_far.flag ∙ ap (λ x. had || any_in x) encodes.call.reads
        ∙ ap (λ b. had || b) (any_unmappable-append (output_rule [] e) done encodes.rest)
        ∙ rw (replaced_now, left_is) (sym (or_assoc had (any_in done) (any_in encodes.rest)))

    -- at the end of the text all its bytes are written
    pub all_written : stop ≡ InputEmpty → after ≡ whole_bytes [] e (chars text)
    all_written at_end =
        let whole = (written_on (all_read stop at_end refl refl encodes)).whole in
        let is_ascii : new.set ≡ Ascii =
        ap (λ (state : EncoderState). state.set)
        (encodes.ended (ap encoder_result_of at_end) refl) in
        sym (append-nil after) ∙ ap (λ x. after ++ x) (sym (none_due new.barred new.encoding))
        ∙ ap (λ set. after ++ bytes_by (raw_state new).rule set []) (sym is_ascii) ∙ sym whole

    pub all_flagged : stop ≡ InputEmpty
        → (had || replaced) ≡ any_unmappable (output_rule [] e) (chars text)
    all_flagged at_end = sym (flagged_on (all_read stop at_end refl refl encodes) ∙ or_false _)

    -- and otherwise others follow
    pub one_more : ¬ (stop ≡ InputEmpty) → {left : List ℕ} → left ≡ drop read unread
        → IsUtf8 unread → HasRoomForCall old unread (length before) room
        → HasEncoded e text new left after (had || replaced)
    one_more goes_on left_is utf8 has_room =
        let left_chars = ap chars left_is
        ∙ chars_after _ _ _ _ utf8 encodes.call.reads encodes.call.units in
        record {
          written = written_on left_chars;
          flag = flagged_on left_chars;
          front = so_far.front ++ take read unread;
          rest = rw (
            left_is,
            append_assoc so_far.front (take read unread) (drop read unread),
            take-append-drop read unread,
          ) so_far.rest;
          full = λ rounds last rest all full.
              let round : EncoderRound = record {
                room = room;
                read = read;
                wrote = drop (length before) after;
                replaced = replaced;
                after = new;
              } in
              so_far.full (round ∷ rounds) last rest all (
                record {
                  length_fits = has_room.fits;
                  enough = has_room.enough;
                  least = has_room.least;
                  call = rw (full_otherwise stop goes_on) at encodes;
                },
                rw (← left_is, ← joined) full,
              );
          start = λ none. absurd (has_room.fits
              (ap (λ n. checked_add n (length before)) (none_asked none)));
        }

-- the first length query overflows usize
pub too_long_at_once : (e : Encoding) (text : List ℕ)
    → length_to_encode (output_encoding_of e) (length text) ≡ None → IsTooLongToEncode e text
too_long_at_once e text none = too_long (none_encoded e text) (ap (λ n. checked_add n 0) none)
