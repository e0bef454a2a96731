-- What a turn of the decoder hands out.
use Rattle.std.proofs.Common.{◌≡◌, ℕ, ◌+◌, ◌-◌, ◌*◌, ◌^◌, ◌<◌, ◌≤◌, min, inl, inr, Bool, true, false, List, [], ◌∷◌}
use Rattle.std.proofs.Common.{length, take, drop, Option, None, refl, ap, ◌∙◌, sym, subst, arith}
use Rattle.std.proofs.Common.{◌&&◌, not, nat_eq, drop-drop, ◌++◌, append_assoc}
use Rattle.std.proofs.Math.Seq.{take-add}
use Rattle.std.proofs.Math.ListN.{length-drop}
use Rattle.std.proofs.Math.Seq.{drop-length}
use Rattle.std.proofs.lemmas.List.{drop-take, length-take, take-take}
use Rattle.std.proofs.lemmas.Bool.{false≢true, eqb-false}
use Rattle.enc_decoder.proofs.FirstSequenceLemmas.{true_or_false}
use Rattle.std.specs.Char.{encode_utf8}
use Rattle.enc_utf8.specs.Text.{AreScalars, units_of_text}
use Rattle.enc_decoder.specs.Sequence.{Sequence, sequence_text, sequence_bytes, any_malformed}
use Rattle.enc_decoder.specs.declared.error_mode.ErrorMode.{ErrorMode}
use Rattle.enc_decoder.specs.declared.error_mode.ErrorMode.TheVariants.{Replacement}
use Rattle.enc_decoder.specs.CallRecord.{Call}
use Rattle.enc_utf8.specs.declared.coder_result.CoderResult.{CoderResult}
use Rattle.enc_utf8.specs.declared.coder_result.CoderResult.TheVariants as result
use Rattle.enc_output.specs.declared.decoder_result.DecoderResult.{DecoderResult}
use Rattle.enc_output.specs.declared.decoder_result.DecoderResult.TheVariants.{InputEmpty, OutputFull, Malformed}
use Rattle.enc_output.specs.Results.{decoder_result_of}
use Rattle.enc_stream.specs.Decoding.{DecoderState, has_finished, DecodesChunk, replacing_call, remaining_sequences}
use Rattle.enc_decoder.specs.Remainder.{AreDetermined, IsUndetermined}
use Rattle.enc_stream.proofs.WholeEncodingLemmas.{still_ahead}
use Rattle.enc_stream.proofs.DecoderProgressLemmas.{nearer, ends_read}
use Rattle.enc_stream.proofs.DecoderCallLemmas.{bytes_done, only_put}
use Rattle.enc_stream.proofs.OutputFullLemmas.{four_bytes, some_written}
use Rattle.enc_reader.specs.Reading.{ReaderState, ReadsOwed, FillsRoom}
use Rattle.enc_reader.specs.Reading.{distance_to_end}
use Rattle.enc_reader.specs.Turn.{IsWaiting, IsTurn}
use Rattle.enc_reader.specs.Counting.{CountsBytes}
use Rattle.enc_reader.specs.Reporting.{lens_of_result}
use Rattle.enc_reader.specs.Recent.{SameEnd}
use Rattle.enc_reader.proofs.RecentLemmas.{SameEnd-append, SameEnd-left}
use Rattle.enc_reader.proofs.ReadingLemmas.{ended_at, before_end}
use Rattle.enc_reader.proofs.NextSequenceLemmas.{call_settles, call_fills_room}
use Rattle.std.proofs.KnownBytes.{Consumes-nil}

-- What a reader decodes next: its decoder is not finished, a byte is unread or the end is seen, and
-- there is room for any character.
pub record CanDecode (s : ReaderState) (room : ℕ) : Type 0 where
  pub going : has_finished s.decoder ≡ false
  pub some : s.ended ≡ false → 1 ≤ length s.unread
  pub roomy : 4 ≤ room

-- a call of the decoder with the unread bytes
abbrev pub unread_call : ReaderState → ErrorMode → ℕ → DecoderResult → ℕ → List ℕ → Bool
    → Call
unread_call s mode room result read wrote replaced = record {
  src = s.unread;
  last = s.ended;
  mode = mode;
  room = room;
  result = result;
  read = read;
  wrote = wrote;
  replaced = replaced;
}

-- These sequences are done, and their text is handed out.
pub record HandsOutSequences (done : List Sequence) (handed : List ℕ)
    (malformed : Bool) : Type 0 where
  pub scalars : AreScalars (sequence_text done)
  pub text : handed ≡ units_of_text encode_utf8 (sequence_text done)
  pub flag : malformed ≡ any_malformed done

module _ (before : ReaderState) {new : DecoderState} {mode : ErrorMode} {room : ℕ}
    {result : DecoderResult} {read : ℕ} {wrote : List ℕ} {replaced : Bool} where
  module _ (decodes : DecodesChunk encode_utf8 before.decoder new
      (unread_call before mode room result read wrote replaced))
      (can_decode : CanDecode before room) where
    abbrev pub after : ReaderState
    after = record { decoder = new; unread = drop read before.unread; ended = before.ended }

    abbrev call : Call
    call = unread_call before mode room result read wrote replaced

    pub comes_nearer : (handed : List ℕ)
        → distance_to_end after + min 1 (length handed) ≤ distance_to_end before + 2 * 0
    comes_nearer handed = elim (true_or_false (has_finished new)) [
      | inl f ↦ omega (arith, ended_at after f, before_end before can_decode.going)
      | inr unfinished ↦ elim (nearer four_bytes call can_decode.roomy decodes can_decode.some) [
        | inl finished ↦ absurd (false≢true (sym unfinished ∙ finished))
        | inr less ↦ omega (
          arith,
          before_end after unfinished,
          before_end before can_decode.going,
          length-drop read before.unread,
        )
      ]
    ]

    abbrev pub reads_owed : {handed : List ℕ} {malformed : Bool}
        → HandsOutSequences decodes.call.done handed malformed → (known : Option (List ℕ))
        → ReadsOwed known known before after [] handed malformed
    reads_owed {handed = handed} hands_out known = record {
      given = Consumes-nil known;
      none_after = λ f. (refl, f);
      done = decodes.call.done;
      residual = decodes.call.residual;
      encoding = λ z none. still_ahead call decodes z none;
      scalars = hands_out.scalars;
      text = hands_out.text;
      flag = hands_out.flag;
      nearer = comes_nearer handed;
    }

    -- Without text, a malformed sequence and the end it has read all unread bytes.
    waits_for_more : wrote ≡ [] → lens_of_result result ≡ None → has_finished new ≡ false
        → IsWaiting after
    waits_for_more none unreported going = by_result result decodes unreported
      where
        by_result : (r : DecoderResult)
            → DecodesChunk encode_utf8 before.decoder new
            (unread_call before mode room r read wrote replaced)
            → lens_of_result r ≡ None → IsWaiting after
        by_result InputEmpty at_empty said = record {
          unread = ap (λ n. drop n before.unread) at_empty.call.stops.all_read
              ∙ drop-length before.unread;
          undetermined =
              let not_last = sym at_empty.finished ∙ going in
              call_settles (unread_call before mode room InputEmpty read wrote replaced) at_empty
              not_last at_empty.call.stops.all_read (can_decode.some not_last);
          not_ended = sym at_empty.finished ∙ going;
          going = going;
        }
        by_result OutputFull at_full said =
            let some = some_written four_bytes call can_decode.roomy at_full in
            absurd (omega (arith, some, ap length none))
        by_result (Malformed l a) at_malformed said = absurd (let no : ⊥ = cc in no)

    pub is_turn : (waits : Bool) {handed unread : List ℕ} {malformed : Bool}
        → drop read before.unread ≡ unread
        → HandsOutSequences decodes.call.done handed malformed
        → (waits ≡ true
        → (wrote ≡ []) × (lens_of_result result ≡ None) × (has_finished new ≡ false))
        → (waits ≡ false → handed ≡ [] → has_finished new ≡ true)
        → IsTurn before (record { decoder = new; unread = unread; ended = before.ended }) handed
        malformed waits
    is_turn waits rest_is hands_out without_text text_or_end = rw (← rest_is) (record {
      reads = reads_owed hands_out;
      waiting = λ w. let is = without_text w in waits_for_more is.0 is.1 is.2;
      text_or_end = text_or_end;
    })

    -- Bytes unread and pending are among those unread and pending before.
    pub still_among : length after.unread + length new.pending
        ≤ length before.unread + length before.decoder.pending
    still_among = omega (
      arith,
      bytes_done call decodes,
      decodes.call.within,
      length-drop read before.unread,
    )

    pub CountsBytes-call : {n : ℕ} {unread : List ℕ} → drop read before.unread ≡ unread
        → CountsBytes before (record { decoder = new; unread = unread; ended = before.ended })
        n n []
    CountsBytes-call rest_is = rw (← rest_is) (record {
      counted = λ given counted. let same : given ≡ given + 0 = omega arith in
          counted ∙ ap (λ m. min m (2 ^ 64 - 1)) same;
      among = omega (arith, still_among);
    })

-- a call with replacement, which reports nothing
pub unreported : (result : CoderResult) → lens_of_result (decoder_result_of result) ≡ None
unreported result.InputEmpty = refl
unreported result.OutputFull = refl

module _ (before : ReaderState) {new : DecoderState} {room : ℕ} (result : CoderResult) {read : ℕ}
    {wrote : List ℕ} {replaced : Bool}
    (decodes : DecodesChunk encode_utf8 before.decoder new
    (replacing_call before.unread before.ended room result read wrote replaced))
    (can_decode : CanDecode before room) where
  hands_out : HandsOutSequences decodes.call.done wrote replaced
  hands_out =
      let all_put = only_put (unread_call before Replacement room (decoder_result_of result) read
      wrote replaced) decodes refl in
      record {
        scalars = subst (λ ss. AreScalars (sequence_text ss)) all_put decodes.call.scalars;
        text = decodes.call.text
            ∙ ap (λ ss. units_of_text encode_utf8 (sequence_text ss)) all_put;
        flag = decodes.call.flag ∙ ap any_malformed all_put;
      }

  pub IsTurn-call : (waits : Bool) {unread : List ℕ} → drop read before.unread ≡ unread
      → (waits ≡ true → (wrote ≡ []) × (has_finished new ≡ false))
      → (waits ≡ false → wrote ≡ [] → has_finished new ≡ true)
      → IsTurn before (record { decoder = new; unread = unread; ended = before.ended }) wrote
      replaced waits
  IsTurn-call waits rest_is without_text text_or_end =
      is_turn before decodes can_decode waits rest_is hands_out
      (λ w. ((without_text w).0, unreported result, (without_text w).1)) text_or_end

-- The chunk in the buffer: how much of it is left after a call, and that some is left where it is
-- not all decoded.

pub left_of : (filled at read : ℕ) (xs : List ℕ) → at ≤ filled
    → read ≤ length (take (filled - at) (drop at xs))
    → drop read (take (filled - at) (drop at xs))
    ≡ take (filled - (at + read)) (drop (at + read) xs)
left_of filled at read xs h r =
    let read_and_left : filled - at ≡ read + (filled - (at + read)) =
    omega (arith, h, r, length-take (filled - at) (drop at xs)) in
    ap (λ n. drop read (take n (drop at xs))) read_and_left
    ∙ drop-take read (filled - (at + read)) (drop at xs)
    ∙ ap (take (filled - (at + read))) (drop-drop read at xs)

pub chunk_can_decode : {d : DecoderState} (filled at : ℕ) (xs : List ℕ) {ended : Bool} {room : ℕ}
    → has_finished d ≡ false → at ≤ filled → filled ≤ length xs
    → (nat_eq at filled && not ended) ≡ false → 4 ≤ room
    → CanDecode (record {
      decoder = d;
      unread = take (filled - at) (drop at xs);
      ended = ended;
    }) room
chunk_can_decode filled at xs {ended = ended} going decoded within tested roomy = record {
  going = going;
  some = λ not_ended.
      let more : nat_eq at filled ≡ false = grind (arith, tested, not_ended) in
      omega (
        arith,
        eqb-false at filled more,
        length-take (filled - at) (drop at xs),
        length-drop at xs,
      );
  roomy = roomy;
}

-- a reader with a part of the buffer to decode
abbrev chunk : DecoderState → Bool → ℕ → ℕ → List ℕ → ReaderState
chunk d ended filled at xs =
    record { decoder = d; unread = take (filled - at) (drop at xs); ended = ended }

-- after a call with it, by the places in the buffer
module _ {d new : DecoderState} {mode : ErrorMode} {room : ℕ} {result : DecoderResult}
    {read : ℕ} {wrote : List ℕ} {replaced ended : Bool} where
  module _ (filled at : ℕ) (xs : List ℕ)
      (decodes : DecodesChunk encode_utf8 d new
      (unread_call (chunk d ended filled at xs) mode room result read wrote replaced))
      (decoded : at ≤ filled) (within : filled ≤ length xs) where
    abbrev made : Call
    made = unread_call (chunk d ended filled at xs) mode room result read wrote replaced

    -- bytes all of which are decoded determine nothing more
    pub chunk_settles : CanDecode (chunk d ended filled at xs) room → at + read ≡ filled
        → ended ≡ false → IsUndetermined (remaining_sequences new)
    chunk_settles can_decode all_read not_ended =
        call_settles made decodes not_ended
        (omega (
          arith,
          decoded,
          within,
          all_read,
          length-take (filled - at) (drop at xs),
          length-drop at xs,
        ))
        (can_decode.some not_ended)

    pub chunk_fills_room : (n : ℕ) → length wrote ≡ n → lens_of_result result ≡ None
        → FillsRoom room n (record {
          decoder = new;
          unread = take (filled - (at + read)) (drop (at + read) xs);
          ended = ended;
        })
    chunk_fills_room n is_length unreported next determined =
        subst (λ k. room < k + length (units_of_text encode_utf8 next.text)) is_length
        (call_fills_room made decodes unreported next
        (subst (λ x. AreDetermined ended (remaining_sequences new) x (next ∷ []))
        (sym (left_of filled at read xs decoded decodes.call.within)) determined))

pub some_text : (n : ℕ) (xs : List ℕ) → 0 < n → n ≤ length xs → take n xs ≡ [] → ⊥
some_text n xs h w e = omega (arith, h, w, ap length e, length-take n xs)

-- Where all bytes are decoded the buffer has room.
pub room_left : (filled at : ℕ) (xs : List ℕ) → at ≤ filled → filled ≤ length xs → 0 < length xs
    → take (filled - at) (drop at xs) ≡ [] → filled - at < length xs
room_left filled at xs h w some none = omega (
  arith,
  some,
  ap length none,
  length-take (filled - at) (drop at xs),
  length-drop at xs,
)

-- a call reads no more than the chunk has, and only the end of the source ends its decoder

pub all_read : (filled at read : ℕ) (xs : List ℕ) → at ≤ filled
    → read ≤ length (take (filled - at) (drop at xs)) → at + read ≤ filled
all_read filled at read xs h r = omega (arith, h, r, length-take (filled - at) (drop at xs))

pub only_at_end : {old new : DecoderState} {src : List ℕ} {last : Bool} {room read : ℕ}
    (result : CoderResult) {wrote : List ℕ} {replaced : Bool}
    → DecodesChunk encode_utf8 old new (replacing_call src last room result read wrote replaced)
    → has_finished new ≡ true → last ≡ true
only_at_end {src = src} {last} {room} {read} result {wrote} {replaced} decodes finished =
    (ends_read (record {
      src = src;
      last = last;
      mode = Replacement;
      room = room;
      result = decoder_result_of result;
      read = read;
      wrote = wrote;
      replaced = replaced;
    }) decodes finished).0

-- The bytes decoded last end with those pending after a call, and are the last ones of the buffer.

pub SameEnd-call : {old new : DecoderState} {c : Call} (front : List ℕ) {recent : List ℕ}
    → DecodesChunk encode_utf8 old new c → SameEnd old.pending front
    → front ++ take c.read c.src ≡ recent → SameEnd new.pending recent
SameEnd-call {old = old} {new = new} {c = c} front decodes same recent_is =
    rw (← recent_is) (SameEnd-left (sequence_bytes decodes.call.done) new.pending
    (front ++ take c.read c.src)
    (subst (λ xs. SameEnd xs (front ++ take c.read c.src)) decodes.accounted
    (SameEnd-append old.pending front (take c.read c.src) same)))

pub decoded_end : (recent : List ℕ) (filled at read : ℕ) (xs : List ℕ)
    → read ≤ length (take (filled - at) (drop at xs))
    → (recent ++ take at xs) ++ take read (take (filled - at) (drop at xs))
    ≡ recent ++ take (at + read) xs
decoded_end recent filled at read xs within =
    let few : read ≤ filled - at = omega (arith, within, length-take (filled - at) (drop at xs)) in
    append_assoc recent (take at xs) (take read (take (filled - at) (drop at xs)))
    ∙ ap (λ l. recent ++ (take at xs ++ l)) (take-take read (filled - at) (drop at xs) few)
    ∙ ap (λ l. recent ++ l) (sym (take-add at read xs))
