-- How large a room is enough for a decoder, whether or not a byte order mark may come.
use Rattle.std.proofs.Common.{◌≡◌, ◌⊎◌, ℕ, ◌+◌, ◌^◌, ◌<◌, ◌≤◌, max, Bool, true, false, cond}
use Rattle.std.proofs.Common.{nat_lt, Option, Some, None, IfSome, List, [], ◌∷◌, ◌++◌, length, drop, refl, ap}
use Rattle.std.proofs.Common.{◌∙◌, sym, arith, inl, inr}
use Rattle.std.proofs.lemmas.List.{append-nil, length-append}
use Rattle.std.proofs.Math.ListN.{length-drop}
use Rattle.std.specs.Char.{encode_utf8}
use Rattle.std.specs.Char.Escape.{encode_utf16}
use Rattle.enc_utf8.specs.Checked.{checked_add, checked_max}
use Rattle.enc_decoder.specs.declared.text_lengths.TextLengths.{TextLengths}
use Rattle.enc_decoder.specs.Sequence.{Sequence}
use Rattle.enc_decoder.specs.Segmentation.{sequences_of}
use Rattle.enc_decoder.specs.CodecState.{CodecState}
use Rattle.enc_decoder.specs.Remainder.{Remainder, AreBytes, AreFirstSequences}
use Rattle.enc_decoder.specs.declared.error_mode.ErrorMode.{ErrorMode}
use Rattle.enc_decoder.specs.declared.error_mode.ErrorMode.TheVariants.{Replacement, Fatal}
use Rattle.enc_decoder.specs.Need.{needed_units, NeedExceeds, IsEnoughForCodec, AreEnoughForCodec}
use Rattle.enc_decoder.proofs.NeedLemmas.{at_end}
use Rattle.enc_decoder.proofs.EnoughLemmas.{same_some}
use Rattle.enc_codec.specs.Codecs.{codec_lengths, initial_state}
use Rattle.enc_stream.specs.declared.encoding.Encoding.{Encoding}
use Rattle.enc_stream.specs.declared.lengths.Query.{Query}
use Rattle.enc_stream.specs.declared.lengths.Query.TheVariants as query
use Rattle.enc_names.specs.EncodingTable.{codec_by_id}
use Rattle.enc_stream.specs.Encodings.{rule_of}
use Rattle.enc_stream.specs.declared.life_cycle.LifeCycle.{LifeCycle}
use Rattle.enc_stream.specs.declared.life_cycle.LifeCycle.TheVariants.{ConvertingWithPendingBb, Converting, Finished}
use Rattle.std.proofs.lemmas.Bool.{false≢true}
use Rattle.enc_decoder.proofs.FirstSequenceLemmas.{true_or_false}
use Rattle.enc_stream.specs.Bom.{Mark, find_mark, mark_sequence, sequences_by_mark}
use Rattle.enc_stream.specs.LifeCycle.{marks_of, awaits_mark, held_mark_bytes, holds_bytes, held_or_pending_bytes}
use Rattle.enc_stream.specs.LifeCycle.{decoder_state_of, unread_bytes, HeldBytesMatchCodec}
use Rattle.enc_stream.specs.Decoding.{remaining_sequences}
use Rattle.enc_stream.specs.Lengths.{formula_length, max_length, idle_length, length_with_marks, length_by_marks}
use Rattle.enc_stream.specs.Lengths.{length_at, IsForMode, query_units, IsEnoughRoom}
use Rattle.enc_stream.proofs.EncodingLemmas.{laws_of}
use Rattle.enc_decoder.proofs.ByteLemmas.{bytes-append, bytes-drop}
use Rattle.enc_decoder.proofs.SegmentationLemmas.{first_of, rest_of}
use Rattle.enc_stream.proofs.PendingBytesLemmas.{none_unread, pending_of_held}
use Rattle.enc_stream.proofs.FormulaLemmas.{no_more}
use Rattle.enc_stream.proofs.FoundMarkLemmas.{EachMark, found_has}
use Rattle.enc_stream.proofs.LifeCycleLemmas.{held_are_bytes, held_are_few, awaiting_goes_on}

-- there is a length, and it is no more than the bound
abbrev IsAtMost : Option ℕ → ℕ → Type 0
IsAtMost length bound = (few : ℕ) × (few ≤ bound) × (length ≡ Some few)

-- each of two lengths is no more than the greater
each_at_most : (a b : Option ℕ) (bound : ℕ) → IsAtMost (checked_max a b) bound
    → IsAtMost a bound × IsAtMost b bound
each_at_most None b bound most = absurd (let none = most.2 in cc)
each_at_most (Some a) None bound most = absurd (let none = most.2 in cc)
each_at_most (Some a) (Some b) bound most =
    let max_is = same_some (max a b) most.0 most.2 in
    ((a, omega (arith, max_is, most.1), refl), (b, omega (arith, max_is, most.1), refl))

summed : (f : ℕ → Option ℕ) (n q : ℕ) → length_at f (checked_add (Some n) 2) ≡ Some q
    → f (n + 2) ≡ Some q
summed f n q answer_is =
    elim (nat_lt (n + 2) (2 ^ 64)) as
    (λ fits. length_at f (cond fits (Some (n + 2)) None) ≡ Some q → f (n + 2) ≡ Some q)
    [ true ↦ λ same. same | false ↦ λ none. absurd (cc) ] answer_is

-- which of the lengths that are enough a query asks
asked : (q : Query) (f : TextLengths) (v : CodecState) (mode : ErrorMode) → IsForMode q mode
    → AreEnoughForCodec f v → IsEnoughForCodec (query_units q) mode (formula_length q f) v
asked query.Utf8 f v Replacement fits_mode enough = enough.utf_8
asked query.Utf8 f v Fatal fits_mode enough = absurd fits_mode
asked query.Utf8Reporting f v Replacement fits_mode enough = absurd fits_mode
asked query.Utf8Reporting f v Fatal fits_mode enough = enough.reporting
asked query.Utf16 f v mode fits_mode enough = enough.utf_16 mode

-- The sequences in front need more than the answer of a query for calls of this mode.
record NeedMore (q : Query) (mode : ErrorMode) (front : List Sequence) (answer : ℕ) : Type 0
  where
    asks : IsForMode q mode
    passes : answer < needed_units (query_units q) mode front

none_begins : (front : List Sequence) → AreFirstSequences front [] → front ≡ []
none_begins [] begins = refl
none_begins (s ∷ ss) begins = absurd (let same = begins.1 in cc)

none_needs : (units_of : ℕ → List ℕ) (mode : ErrorMode) → needed_units units_of mode [] ≡ 0
none_needs units_of Replacement = refl
none_needs units_of Fatal = refl

module _ {q : Query} {mode : ErrorMode} {front : List Sequence} {answer : ℕ}
    (need : NeedMore q mode front answer) where
  -- The first sequences of a codec need no more than its formula gives, for as many bytes or more.
  never_more : (f : TextLengths) (w : CodecState) → AreEnoughForCodec f w → (src : List ℕ)
      → AreBytes src → (n k : ℕ) → length src ≤ n → length src + length w.pending ≤ n + k
      → IsAtMost (formula_length q f n k) answer
      → AreFirstSequences front (sequences_of w.rule w.set (w.pending ++ src)) → ⊥
  never_more f w enough src bytes n k fits sum_fits most first =
      let fewer =
      no_more q f (length src) (length w.pending) n k fits sum_fits most.0 most.2 in
      asked q f w mode need.asks enough src true fewer.0 bytes fewer.1 (record {
        sequences = front;
        determined = first;
        more = omega (arith, fewer.2, most.1, need.passes);
      })

  -- an encoding's formula for n bytes gives no more
  abbrev GivesNoMore : ℕ → Encoding → Type 0
  GivesNoMore n e = IsAtMost (idle_length q (codec_lengths (codec_by_id e.id)) n) answer

  in_text : (e : Encoding) (bytes : List ℕ) (n : ℕ) → AreBytes bytes → length bytes ≤ n
      → GivesNoMore n e → AreFirstSequences front (sequences_of (rule_of e) 0 bytes) → ⊥
  in_text e bytes n are_bytes fits most =
      never_more (codec_lengths (codec_by_id e.id)) (initial_state (rule_of e)) (laws_of e).enough
      bytes are_bytes n 0 fits (omega (arith, fits)) most

  -- what a codec has pending, and a BB
  module _ (e : Encoding) (v : CodecState) (rule : rule_of e ≡ v.rule)
      (enough : AreEnoughForCodec (codec_lengths (codec_by_id e.id)) v) where
    abbrev formulas : TextLengths
    formulas = codec_lengths (codec_by_id e.id)

    converting : (src : List ℕ) → AreBytes src
        → formula_length q formulas (length src) (length v.pending) ≡ Some answer
        → AreFirstSequences front (sequences_of (rule_of e) v.set (v.pending ++ src)) → ⊥
    converting src are_bytes length_is first =
        never_more formulas v enough src are_bytes (length src) (length v.pending) (omega arith)
        (omega arith) (answer, omega arith, length_is) (rw rule at first)

    with_bb : (src : List ℕ) → AreBytes src
        → length_at (idle_length q formulas) (checked_add (Some (length src)) 2) ≡ Some answer
        → (v.pending ≡ []) ⊎ (v.pending ≡ 0xBB ∷ [])
        → AreFirstSequences front (sequences_of (rule_of e) v.set (0xBB ∷ src)) → ⊥
    with_bb src are_bytes length_is pending first =
        let most : GivesNoMore (length src + 2) e = (
          answer,
          omega arith,
          summed (idle_length q formulas) (length src) answer length_is,
        ) in
        let by_codec : AreFirstSequences front (sequences_of v.rule v.set (0xBB ∷ src)) =
        rw rule at first in
        elim pending [
          | inl none ↦ never_more formulas v enough (0xBB ∷ src) (omega arith, are_bytes)
              (length src + 2) 0 (omega arith) (omega (arith, ap length none)) most
              (rw none by_codec)
          | inr is_bb ↦ never_more formulas v enough src are_bytes (length src + 2) 0
              (omega arith) (omega (arith, ap length is_bb)) most (rw is_bb by_codec)
        ]

-- A byte order mark needs no room: what needs more stands after it.

mark_needs_none : (units_of : ℕ → List ℕ) (mode : ErrorMode) (m : Mark)
    (ss : List Sequence)
    → needed_units units_of mode (mark_sequence m ∷ ss) ≡ needed_units units_of mode ss
mark_needs_none units_of Replacement m ss = refl
mark_needs_none units_of Fatal m ss = refl

after_mark : {q : Query} {mode : ErrorMode} {answer : ℕ} (m : Mark)
    (front all : List Sequence) → NeedMore q mode front answer
    → AreFirstSequences front (mark_sequence m ∷ all)
    → (rest : List Sequence) × NeedMore q mode rest answer × AreFirstSequences rest all
after_mark {q} {mode} m [] all need first =
    absurd (omega (arith, need.passes, none_needs (query_units q) mode))
after_mark {q} {mode} {answer} m (s ∷ rest) all need first = (
  rest,
  record {
    asks = need.asks;
    passes = omega (
      arith,
      need.passes,
      ap (λ t. needed_units (query_units q) mode (t ∷ rest))
          (first_of (mark_sequence m) s _ _ first.1),
      mark_needs_none (query_units q) mode m rest,
    );
  },
  (first.0, rest_of (mark_sequence m) s _ _ first.1),
)

-- where one of these byte order marks may be in front
by_marks : {q : Query} {mode : ErrorMode} {front : List Sequence} {answer : ℕ}
    (need : NeedMore q mode front answer) (looked_for : List Mark) (e : Encoding)
    (bytes : List ℕ) (n : ℕ) → AreBytes bytes → length bytes ≤ n
    → GivesNoMore need n e × EachMark (λ m. GivesNoMore need n m.encoding) looked_for
    → AreFirstSequences front (sequences_by_mark (find_mark looked_for bytes) e 0 bytes) → ⊥
by_marks {front = front} need looked_for e bytes n are_bytes fits most =
    by_found (find_mark looked_for bytes) refl
  where
    by_found : (found : Option Mark) → find_mark looked_for bytes ≡ found
        → AreFirstSequences front (sequences_by_mark found e 0 bytes) → ⊥
    by_found None found_is first = in_text need e bytes n are_bytes fits most.0 first
    by_found (Some m) found_is first =
        let after = after_mark m front _ need first in
        in_text after.1 m.encoding (drop (length m.bytes) bytes) n
        (bytes-drop (length m.bytes) bytes are_bytes)
        (omega (arith, fits, length-drop (length m.bytes) bytes))
        (found_has (λ k. GivesNoMore need n k.encoding) looked_for bytes m most.1 found_is) after.2

-- the greatest of some lengths is no less than each
each_most : {q : Query} {mode : ErrorMode} {front : List Sequence} {answer : ℕ}
    (need : NeedMore q mode front answer) (marks : List Mark) (own : Option ℕ) (n : ℕ)
    → IsAtMost (length_with_marks q marks own n) answer
    → IsAtMost own answer × EachMark (λ m. GivesNoMore need n m.encoding) marks
each_most need [] own n most = (most, tt)
each_most {q = q} {answer = answer} need (m ∷ marks) own n most =
    let both = each_at_most (idle_length q (codec_lengths (codec_by_id m.encoding.id)) n)
    (length_with_marks q marks own n) answer most in
    let others = each_most need marks own n both.1 in (others.0, (both.0, others.1))

bb_pending : (pending : List ℕ) → held_or_pending_bytes (0xBB ∷ []) pending ≡ pending
    ++ unread_bytes ConvertingWithPendingBb (length pending) → (pending ≡ [])
    ⊎ (pending ≡ 0xBB ∷ [])
bb_pending [] held = inl refl
bb_pending (c ∷ z) held =
    inr (sym (held ∙ ap (λ y. (c ∷ z) ++ y)
    (none_unread ConvertingWithPendingBb (length (c ∷ z)) (omega arith))
    ∙ append-nil (c ∷ z)))

-- The length that a query answers is enough, by the decoder's own state.
module _ (e : Encoding) (v : CodecState) (rule : rule_of e ≡ v.rule)
    (enough : AreEnoughForCodec (codec_lengths (codec_by_id e.id)) v)
    {q : Query} {mode : ErrorMode} {front : List Sequence} {answer : ℕ}
    (need : NeedMore q mode front answer) where
  abbrev own : TextLengths
  own = codec_lengths (codec_by_id e.id)

  -- where a byte order mark may come: the bytes held, and those offered
  in_front : (src : List ℕ) → AreBytes src → (life : LifeCycle) → awaits_mark life ≡ true
      → HeldBytesMatchCodec life v → (held : List ℕ) → held ≡ held_mark_bytes life
      → length_by_marks q (marks_of life) (holds_bytes held) own (length src)
      (length (held_or_pending_bytes held v.pending)) ≡ Some answer
      → AreFirstSequences front (remaining_sequences (decoder_state_of e life v) src) → ⊥
  in_front src are_bytes life awaits holds held is_held length_is first =
      by_held held is_held length_is
    where
      at_hand : List ℕ
      at_hand = held_mark_bytes life ++ src

      all_bytes : AreBytes at_hand
      all_bytes = bytes-append (held_mark_bytes life) src (held_are_bytes life) are_bytes

      all_first : AreFirstSequences front
          (sequences_by_mark (find_mark (marks_of life) at_hand) e 0 at_hand)
      all_first = rw (
        awaiting_goes_on life awaits,
        pending_of_held (held_mark_bytes life) v.pending
            (holds.unread awaits).1,
        (holds.unread awaits).0,
      ) at first

      for_length : (n : ℕ) → length at_hand ≤ n
          → length_with_marks q (marks_of life) (idle_length q own n) n ≡ Some answer → ⊥
      for_length n fits is =
          by_marks need (marks_of life) e at_hand n all_bytes fits
          (each_most need (marks_of life) (idle_length q own n) n (answer, omega arith, is))
          all_first

      by_held : (held : List ℕ) → held ≡ held_mark_bytes life
          → length_by_marks q (marks_of life) (holds_bytes held) own (length src)
          (length (held_or_pending_bytes held v.pending)) ≡ Some answer → ⊥
      by_held [] none is =
          for_length (length src)
          (omega (arith, ap length none, length-append (held_mark_bytes life) src))
          (rw (holds.unread awaits).1 at is)
      by_held (b ∷ held) some is =
          for_length (length src + 2)
          (omega (arith, held_are_few life, length-append (held_mark_bytes life) src))
          (summed (λ n. length_with_marks q (marks_of life) (idle_length q own n) n) (length src)
          answer is)

  -- and where none may
  in_codec : (src : List ℕ) → AreBytes src → (life : LifeCycle) → awaits_mark life ≡ false
      → HeldBytesMatchCodec life v
      → max_length q (decoder_state_of e life v) (length src) ≡ Some answer
      → AreFirstSequences front (remaining_sequences (decoder_state_of e life v) src) → ⊥
  in_codec src are_bytes ConvertingWithPendingBb none holds length_is first =
      with_bb need e v rule enough src are_bytes length_is (bb_pending v.pending holds.held) first
  in_codec src are_bytes Converting none holds length_is first =
      converting need e v rule enough src are_bytes length_is first
  in_codec src are_bytes Finished none holds length_is first = omega (
    arith,
    need.passes,
    ap (needed_units (query_units q) mode) (none_begins front first),
    none_needs (query_units q) mode,
  )
  in_codec src are_bytes _ none holds length_is first = absurd (false≢true (sym none))

  by_life : (src : List ℕ) → AreBytes src → (life : LifeCycle) → HeldBytesMatchCodec life v
      → max_length q (decoder_state_of e life v) (length src) ≡ Some answer
      → AreFirstSequences front (remaining_sequences (decoder_state_of e life v) src) → ⊥
  by_life src are_bytes life holds length_is first = elim (true_or_false (awaits_mark life)) [
    | inl awaits ↦ in_front src are_bytes life awaits holds (held_mark_bytes life) refl
        length_is first
    | inr none ↦ in_codec src are_bytes life none holds length_is first
  ]

-- so each query answers a room that is enough for its calls
pub room_is_enough : (q : Query) (e : Encoding) (life : LifeCycle) (v : CodecState)
    → rule_of e ≡ v.rule
    → HeldBytesMatchCodec life v → AreEnoughForCodec (codec_lengths (codec_by_id e.id)) v
    → (n : ℕ) (result : Option ℕ) → result ≡ max_length q (decoder_state_of e life v) n
    → IfSome result (λ room. (mode : ErrorMode) → IsForMode q mode
    → IsEnoughRoom (query_units q) mode (decoder_state_of e life v) n room)
room_is_enough q e life v rule holds enough n None answer_is = tt
room_is_enough q e life v rule holds enough n (Some room) answer_is =
    λ mode asks src last are_bytes len_is exceeds.
    by_life e v rule enough (record { asks = asks; passes = exceeds.more }) src are_bytes life holds
    (ap (max_length q (decoder_state_of e life v)) len_is ∙ sym answer_is)
    (at_end last (remaining_sequences (decoder_state_of e life v)) src exceeds.sequences
    exceeds.determined)

-- the same of each query

-- no need of n bytes exceeds the room
abbrev pub IsEnough : (ℕ → List ℕ) → ErrorMode → Remainder → ℕ → ℕ → Type 0
IsEnough units_of mode remainder n room =
    (src : List ℕ) (last : Bool) → AreBytes src → length src ≡ n
    → NeedExceeds units_of mode remainder src last room → ⊥

abbrev ReportsRoom : Query → Remainder → ℕ → Option ℕ → Type 0
ReportsRoom q remainder n result = IfSome result (λ room. (mode : ErrorMode)
    → IsForMode q mode → IsEnough (query_units q) mode remainder n room)

pub room_with_replacement : (remainder : Remainder) (n : ℕ) (result : Option ℕ)
    → ReportsRoom query.Utf8 remainder n result
    → IfSome result (IsEnough encode_utf8 Replacement remainder n)
room_with_replacement remainder n None h = tt
room_with_replacement remainder n (Some room) h = h Replacement tt

pub room_to_report : (remainder : Remainder) (n : ℕ) (result : Option ℕ)
    → ReportsRoom query.Utf8Reporting remainder n result
    → IfSome result (IsEnough encode_utf8 Fatal remainder n)
room_to_report remainder n None h = tt
room_to_report remainder n (Some room) h = h Fatal tt

pub room_in_utf_16 : (remainder : Remainder) (n : ℕ) (result : Option ℕ)
    → ReportsRoom query.Utf16 remainder n result
    → IfSome result (λ room. (mode : ErrorMode) → IsEnough encode_utf16 mode remainder n room)
room_in_utf_16 remainder n None h = tt
room_in_utf_16 remainder n (Some room) h = λ mode. h mode tt
