-- Text that is handed out where it was read, and a read after a chunk was pulled.
use Rattle.std.proofs.Common.{◌≡◌, ℕ, ◌+◌, ◌-◌, ◌^◌, ◌≤◌, min, inl, inr, Bool, true, false, List, [], ◌∷◌, ◌++◌}
use Rattle.std.proofs.Common.{length, take, drop, Option, refl, ap, ◌∙◌, sym, subst, arith, append_assoc}
use Rattle.std.proofs.Common.{length-append, IsUtf8}
use Rattle.std.proofs.Math.ListN.{length-drop}
use Rattle.std.proofs.lemmas.List.{length-take, take-append-drop, take-take}
use Rattle.std.proofs.lemmas.Str.{chars_from_encodes, scalars-chars}
use Rattle.std.specs.Char.{encode_utf8}
use Rattle.enc_utf8.specs.Text.{AreScalars, units_of_text}
use Rattle.enc_utf8.proofs.UnitsLemmas.{their_units}
use Rattle.enc_decoder.specs.Remainder.{AreDetermined}
use Rattle.enc_decoder.specs.Segmentation.{sequences_of}
use Rattle.enc_utf8.specs.Utf8Sequences.{is_incomplete_sequence}
use Rattle.enc_decoder_utf.specs.Utf8.{utf_8_rule}
use Rattle.enc_decoder_utf.proofs.Utf8Incomplete.{undetermined, incomplete_begun}
use Rattle.enc_stream.specs.declared.constants.TheConstants.{UTF_8}
use Rattle.enc_decoder.proofs.SequenceLemmas.{or_false}
use Rattle.enc_stream.specs.Bom.{find_mark, encoding_of_mark_or}
use Rattle.enc_stream.specs.Encodings.{rule_of}
use Rattle.enc_stream.specs.Decoding.{DecoderState, has_finished, remaining_sequences}
use Rattle.enc_stream.specs.Latin1.{DecoderMayBeLatin1}
use Rattle.enc_stream.specs.OwnText.{AreTheirOwnText}
use Rattle.enc_stream.proofs.PropertyLemmas.{shows_ascii_compatible}
use Rattle.enc_stream.proofs.RemainingRuleLemmas.{unmarked_remaining}
use Rattle.enc_stream.proofs.OwnTextLemmas.{HasOwnText, has_own_text, own, own_first, own_text, own_utf_8, own_valid}
use Rattle.enc_reader.specs.Source.{IsExhausted}
use Rattle.enc_reader.specs.Reading.{ReaderState, ReadsOwed, HandsOut, FailsToRead, owed_sequences}
use Rattle.enc_reader.specs.Reading.{NoneDetermined, NoTextDetermined}
use Rattle.enc_reader.proofs.NextSequenceLemmas.{none_determined_is_no_text}
use Rattle.enc_reader.specs.Turn.{AreOwnBytes, FillsBuffer, IsOwnText}
use Rattle.enc_reader.specs.Counting.{HasGiven, CountsBytes, FillsCounted, HandsOutCounted}
use Rattle.std.proofs.KnownBytes.{Consumes-nil}
use Rattle.enc_reader.proofs.ReadingLemmas.{reader_at, ReadsOwed-none, ReadsOwed-then, before_end}
use Rattle.enc_reader.proofs.ReadingLemmas.{FailsToRead-kept}
use Rattle.std.specs.Io.KnownBytes.{Keeps}
use Rattle.enc_reader.proofs.TurnLemmas.{left_of}
use Rattle.enc_reader.proofs.CountingLemmas.{HasGiven-then, HandsOutCounted-by}

-- bytes that are their own text to a decoder are those of its encoding
own_bytes : (d : DecoderState) {bytes : List ℕ} → AreOwnBytes d bytes
    → AreTheirOwnText d.encoding bytes
own_bytes d (inl utf_8) = inl utf_8
own_bytes d (inr ascii) = inr (inl ((shows_ascii_compatible d.encoding).1 ascii.0, ascii.1))

-- They are well-formed.
pub own_is_utf_8 : (d : DecoderState) {bytes : List ℕ} → AreOwnBytes d bytes → IsUtf8 bytes
own_is_utf_8 d {bytes = bytes} are_own = own_utf_8 d.encoding bytes (own_bytes d are_own)

module _ (d : DecoderState) (may_be_latin1 : DecoderMayBeLatin1 d) where
  pub between_sequences : (y : List ℕ)
      → remaining_sequences d y ≡ sequences_of (rule_of d.encoding) 0 y
  between_sequences y =
      unmarked_remaining d y may_be_latin1.going (rw may_be_latin1.no_mark refl)
      ∙ ap (λ p. sequences_of (rule_of d.encoding) d.set (p ++ y)) may_be_latin1.none_pending
      ∙ ap (λ s. sequences_of (rule_of d.encoding) s y) may_be_latin1.at_start

  no_mark : (y : List ℕ) → encoding_of_mark_or (find_mark d.marks y) d.encoding ≡ d.encoding
  no_mark y = rw may_be_latin1.no_mark refl

  unfinished : has_finished d ≡ false
  unfinished = may_be_latin1.going

-- Unread bytes that are an incomplete sequence of UTF-8 determine nothing.
pub incomplete_determines_none : (s : ReaderState) → DecoderMayBeLatin1 s.decoder
    → s.decoder.encoding ≡ UTF_8 → is_incomplete_sequence s.unread ≡ true → s.ended ≡ false
    → NoneDetermined s
incomplete_determines_none s between is_utf_8 incomplete not_ended next determined =
    let by_rule : (y : List ℕ) → remaining_sequences s.decoder y ≡ sequences_of utf_8_rule 0 y =
    λ y. between_sequences s.decoder between y
    ∙ ap (λ e. sequences_of (rule_of e) 0 y) is_utf_8 in
    let from_unread = subst
    (λ l. AreDetermined l (remaining_sequences s.decoder) s.unread (next ∷ [])) not_ended
    determined in
    undetermined s.unread (incomplete_begun s.unread incomplete) next
    (λ z bytes. let first = from_unread z bytes in
    (first.0, sym (by_rule (s.unread ++ z)) ∙ first.1))

-- the part of a chunk that is lent
module _ (d : DecoderState) (src : List ℕ) (ended : Bool) (n : ℕ) (within : n ≤ length src)
    (is_own : IsOwnText d (take n src)) where
  abbrev before : ReaderState
  before = record { decoder = d; unread = src; ended = ended }

  abbrev after : ReaderState
  after = record { decoder = d; unread = drop n src; ended = ended }

  abbrev has : HasOwnText (rule_of d.encoding) (take n src)
  has = has_own_text d.encoding (take n src) (own_bytes d is_own.own)

  comes_first : (z : List ℕ) → owed_sequences before z ≡ own has.text ++ owed_sequences after z
  comes_first z =
      between_sequences d is_own.between (src ++ z)
      ∙ ap (λ x. sequences_of (rule_of d.encoding) 0 (x ++ z)) (sym (take-append-drop n src))
      ∙ ap (sequences_of (rule_of d.encoding) 0) (append_assoc (take n src) (drop n src) z)
      ∙ ap (λ x. sequences_of (rule_of d.encoding) 0 (x ++ (drop n src ++ z))) (sym has.encoded)
      ∙ own_first (rule_of d.encoding) has.text (drop n src ++ z) has.each
      ∙ ap (λ ss. own has.text ++ ss) (sym (between_sequences d is_own.between (drop n src ++ z)))

  scalars : AreScalars has.text
  scalars =
      let utf_8 = own_utf_8 d.encoding (take n src) (own_bytes d is_own.own) in
      subst AreScalars (sym (chars_from_encodes has.text (take n src) utf_8 has.encoded))
      (scalars-chars (take n src) utf_8)

  pub ReadsOwed-lent : (source : Option (List ℕ))
      → ReadsOwed source source before after [] (take n src) false
  ReadsOwed-lent source = record {
    given = Consumes-nil source;
    none_after = λ e. (refl, e);
    done = own has.text;
    residual = λ z h. comes_first z;
    encoding = λ z h. no_mark d is_own.between (d.pending ++ (drop n src ++ z))
        ∙ sym (no_mark d is_own.between (d.pending ++ (src ++ z)));
    scalars = subst AreScalars (sym (own_text has.text)) scalars;
    text = sym has.encoded ∙ sym (their_units has.text)
        ∙ ap (units_of_text encode_utf8) (sym (own_text has.text));
    flag = sym (own_valid has.text);
    nearer =
        let going = unfinished d is_own.between in
        omega (
          arith,
          before_end before going,
          before_end after going,
          length-drop n src,
          length-take n src,
        );
  }

-- a reader, by its decoder and the bytes that are not decoded
abbrev reader_with : DecoderState → Bool → List ℕ → ReaderState
reader_with d ended unread = record { decoder = d; unread = unread; ended = ended }

-- the same, by places in the buffer
abbrev pub HandsOut-chunk : (source : Option (List ℕ)) (d : DecoderState) (filled at n : ℕ)
    (xs : List ℕ) (ended had : Bool)
    → at ≤ filled → filled ≤ length xs
    → n ≤ filled - at → IsOwnText d (take n (take (filled - at) (drop at xs)))
    → (ended ≡ true → IsExhausted source)
    → HandsOut source source (reader_with d ended (take (filled - at) (drop at xs)))
    (reader_with d ended (take (filled - (at + n)) (drop (at + n) xs)))
    (take n (drop (at + n - n) xs)) had had
HandsOut-chunk source d filled at n xs ended had within_filled w within o none =
    let src : List ℕ = take (filled - at) (drop at xs) in
    let few : n ≤ length src = omega (
      arith,
      length-take (filled - at) (drop at xs),
      length-drop at xs,
    ) in
    let place : at ≡ at + n - n = omega arith in
    let text : take n src ≡ take n (drop (at + n - n) xs) =
    take-take n (filled - at) (drop at xs) within ∙ ap (λ k. take n (drop k xs)) place in
    rw (← text, ← left_of filled at n xs within_filled few) (record {
      bytes = [];
      malformed = false;
      reads = ReadsOwed-lent d src ended n few o source;
      flag = sym (or_false had);
      exhausted = none;
      needed = inl refl;
    })

-- a chunk that can't be pulled
pub FailsToRead-pull : {t₀ t₁ : Option (List ℕ)} {failed_before failed_after : Bool}
    {a b : ReaderState}
    → Keeps t₀ t₁ → failed_after ≡ true → b ≡ a
    → a.ended ≡ false → failed_before ≡ false → NoneDetermined a
    → FailsToRead t₀ t₁ failed_before failed_after a b
FailsToRead-pull {t₀ = t₀} {t₁ = t₁} {a = a} kept failed stays unended going none =
    rw stays
    (FailsToRead-kept t₀ t₀ t₁ kept record {
      bytes = [];
      reads = ReadsOwed-none t₀ a;
      none_determined = none;
      not_ended = unended;
      not_before = going;
      why = inl failed;
    })

-- a read after a chunk was pulled
module _ {t₀ t₁ t₂ : Option (List ℕ)} {a b c : ReaderState} (fills_buffer : FillsBuffer t₀ t₁ a b)
  where
    abbrev pub HandsOut-filled : {wrote : List ℕ} {had_before had_after : Bool}
        → HandsOut t₁ t₂ b c wrote had_before had_after
        → HandsOut t₀ t₂ a c wrote had_before had_after
    HandsOut-filled hands_out = record {
      bytes = fills_buffer.bytes ++ hands_out.bytes;
      malformed = hands_out.malformed;
      reads = ReadsOwed-then (reader_at t₀ a) (reader_at t₁ b) (reader_at t₂ c)
          fills_buffer.reads hands_out.reads;
      flag = hands_out.flag;
      exhausted = hands_out.exhausted;
      needed = elim fills_buffer.needed [
        | inl none ↦ elim hands_out.needed [
          | inl none_given ↦ inl (ap (λ x. x ++ hands_out.bytes) none.0 ∙ none_given)
          | inr no_text ↦ inr (subst NoTextDetermined none.1 no_text)
        ]
        | inr none ↦ inr (none_determined_is_no_text a none)
      ];
    }

    pub FailsToRead-filled : {failed_before failed_between failed_after : Bool}
        → failed_between ≡ failed_before
        → FailsToRead t₁ t₂ failed_between failed_after b c
        → FailsToRead t₀ t₂ failed_before failed_after a c
    FailsToRead-filled e fails = record {
      bytes = fills_buffer.bytes ++ fails.bytes;
      reads = ReadsOwed-then (reader_at t₀ a) (reader_at t₁ b) (reader_at t₂ c)
          fills_buffer.reads fails.reads;
      none_determined = fails.none_determined;
      not_ended = fails.not_ended;
      not_before = sym e ∙ fails.not_before;
      why = elim fails.why [
        | inl t ↦ inl t
        | inr l ↦ inr (omega (arith, l, length-append fills_buffer.bytes fails.bytes))
      ];
    }

-- The count does not change while text is lent, and counts on after a chunk was pulled.

pub CountsBytes-lent : (d : DecoderState) (ended : Bool) (filled at n count : ℕ) (xs : List ℕ)
    → CountsBytes (reader_with d ended (take (filled - at) (drop at xs)))
    (reader_with d ended (take (filled - (at + n)) (drop (at + n) xs))) count count []
CountsBytes-lent d ended filled at n count xs = record {
  counted = λ given counted. let same : given ≡ given + 0 = omega arith in
      counted ∙ ap (λ m. min m (2 ^ 64 - 1)) same;
  among = omega (
    arith,
    length-take (filled - at) (drop at xs),
    length-take (filled - (at + n)) (drop (at + n) xs),
    length-drop at xs,
    length-drop (at + n) xs,
  );
}

module _ {t₀ t₁ : Option (List ℕ)} {a b c : ReaderState} {n₀ n₁ n₂ : ℕ}
    (filled : FillsCounted t₀ t₁ a b n₀ n₁) where
  counts_on : (bytes : List ℕ)
      → ((given : ℕ) → HasGiven n₁ b given → HasGiven n₂ c (given + length bytes)) → (given : ℕ)
      → HasGiven n₀ a given → HasGiven n₂ c (given + length (filled.fills.bytes ++ bytes))
  counts_on bytes counts given were =
      let same : given + length filled.fills.bytes + length bytes
      ≡ given + length (filled.fills.bytes ++ bytes) =
      omega (arith, length-append filled.fills.bytes bytes) in
      subst (HasGiven n₂ c) same
      (counts (given + length filled.fills.bytes) (HasGiven-then filled.counts given were))

  pub HandsOutCounted-filled : {t₂ : Option (List ℕ)} {wrote : List ℕ} {had_before had_after : Bool}
      → HandsOutCounted t₁ t₂ b c n₁ n₂ wrote had_before had_after
      → HandsOutCounted t₀ t₂ a c n₀ n₂ wrote had_before had_after
  HandsOutCounted-filled counted =
      HandsOutCounted-by (HandsOut-filled filled.fills counted.hands_out)
      (counts_on counted.hands_out.bytes counted.counts)

  pub HandsOutCounted-lent : {t₂ : Option (List ℕ)} {wrote : List ℕ} {had_before had_after : Bool}
      (hands_out : HandsOut t₁ t₂ b c wrote had_before had_after)
      → CountsBytes b c n₁ n₂ hands_out.bytes
      → HandsOutCounted t₀ t₂ a c n₀ n₂ wrote had_before had_after
  HandsOutCounted-lent hands_out counts =
      HandsOutCounted-by (HandsOut-filled filled.fills hands_out)
      (counts_on hands_out.bytes (HasGiven-then counts))
