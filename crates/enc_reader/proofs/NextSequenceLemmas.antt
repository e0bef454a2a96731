-- What is determined next: after a call of the decoder, and after some reads.
use Rattle.std.proofs.Common.{◌≡◌, ℕ, ◌+◌, ◌<◌, inl, inr, Bool, true, false, List, [], ◌∷◌, ◌++◌}
use Rattle.std.proofs.Common.{length, take, drop, Option, None, refl, ap, ◌∙◌, sym, subst, arith}
use Rattle.std.proofs.Math.Seq.{take-length, drop-length}
use Rattle.std.proofs.lemmas.Bool.{false≢true, false_from_ne_true}
use Rattle.std.proofs.lemmas.List.{length-append, nil_from_length}
use Rattle.std.specs.Char.{encode_utf8}
use Rattle.enc_utf8.specs.Text.{units_of_text}
use Rattle.enc_output.specs.declared.decoder_result.DecoderResult.{DecoderResult}
use Rattle.enc_output.specs.declared.decoder_result.DecoderResult.TheVariants.{InputEmpty, OutputFull, Malformed}
use Rattle.enc_decoder.specs.Sequence.{Sequence, sequence_text, any_malformed}
use Rattle.enc_decoder.specs.Remainder.{AreBytes, AreFirstSequences, Determines, AreDetermined, IsUndetermined}
use Rattle.enc_decoder.specs.CallRecord.{Call}
use Rattle.enc_decoder.proofs.DeterminedLemmas.{determined_after}
use Rattle.enc_decoder.proofs.RuleLemmas.{none_malformed}
use Rattle.enc_decoder.proofs.SequenceLemmas.{sequence_text-append}
use Rattle.enc_utf8.proofs.UnitsLemmas.{utf_8_determines}
use Rattle.enc_stream.specs.Decoding.{DecoderState, DecodesChunk, remaining_sequences}
use Rattle.enc_stream.specs.Encodings.{rule_of}
use Rattle.enc_stream.proofs.EncodingLemmas.{replacements}
use Rattle.enc_stream.proofs.RemainingRuleLemmas.{remaining_have}
use Rattle.enc_reader.specs.Reading.{ReaderState, ReadsOwed, NoneDetermined, NoTextDetermined, owed_sequences}
use Rattle.enc_reader.specs.Turn.{IsWaiting}
use Rattle.enc_reader.specs.Reporting.{lens_of_result}

-- two that come first in the same list
same_first : (all : List Sequence) (a b : Sequence) → AreFirstSequences (a ∷ []) all
    → AreFirstSequences (b ∷ []) all → a ≡ b
same_first all a b first other = let same = sym first.1 ∙ other.1 in cc

same_after : (done all : List Sequence) (a b : Sequence) → AreFirstSequences (done ++ a ∷ []) all
    → AreFirstSequences (done ++ b ∷ []) all → a ≡ b
same_after [] all a b first other = same_first all a b first other
same_after (d ∷ done) [] a b first other = let no = first.1 in absurd (cc)
same_after (d ∷ done) (e ∷ all) a b first other =
    let one = first.1 in
    let two = other.1 in
    same_after done all a b (first.0, cc) (other.0, cc)

-- what the same bytes determine
same_next : (last : Bool) (remaining : List ℕ → List Sequence) (x : List ℕ) (done : List Sequence)
    (a b : Sequence) → AreDetermined last remaining x (done ++ a ∷ [])
    → AreDetermined last remaining x (done ++ b ∷ []) → a ≡ b
same_next true remaining x done a b first other = same_after done (remaining x) a b first other
same_next false remaining x done a b first other =
    same_after done (remaining (x ++ [])) a b (first [] tt) (other [] tt)

none_first : (s : Sequence) (all : List Sequence) → all ≡ [] → AreFirstSequences (s ∷ []) all → ⊥
none_first s all none first = let is = sym none ∙ first.1 in cc

none_at_end : (last : Bool) (remaining : List ℕ → List Sequence) (s : Sequence) → last ≡ true
    → remaining [] ≡ [] → AreDetermined last remaining [] (s ∷ []) → ⊥
none_at_end true remaining s is_last none first = none_first s (remaining []) none first
none_at_end false remaining s is_last none first = absurd (false≢true is_last)

-- The sequence that is determined next after a call: it follows those done, by the bytes before.
module _ {old new : DecoderState} where
  module _ (c : Call) (decodes : DecodesChunk encode_utf8 old new c) where
    next_after : (next : Sequence)
        → AreDetermined c.last (remaining_sequences new) (drop c.read c.src) (next ∷ [])
        → AreDetermined c.last (remaining_sequences old) c.src (decodes.call.done ++ next ∷ [])
    next_after next determined =
        determined_after (remaining_sequences old) (remaining_sequences new) c.src
        (drop c.read c.src) decodes.call.done c.last decodes.call.residual (next ∷ []) determined

  -- With its text more is written than there is room for.
  pub call_fills_room : (c : Call) → DecodesChunk encode_utf8 old new c
      → lens_of_result c.result ≡ None → (next : Sequence)
      → AreDetermined c.last (remaining_sequences new) (drop c.read c.src) (next ∷ [])
      → c.room < length c.wrote + length (units_of_text encode_utf8 next.text)
  call_fills_room c decodes = by_result c.result decodes
    where
      by_last : (last : Bool)
          → (decodes : DecodesChunk encode_utf8 old new
          (record c { last = last; result = InputEmpty })) → (next : Sequence)
          → AreDetermined last (remaining_sequences new) (drop c.read c.src) (next ∷ [])
          → AreDetermined last (remaining_sequences old) c.src (decodes.call.done ++ next ∷ [])
          → ⊥
      by_last true made next determined from_before =
          let stops = made.call.stops in
          let none_left : drop c.read c.src ≡ [] =
          ap (λ n. drop n c.src) stops.all_read ∙ drop-length c.src in
          none_first next (remaining_sequences new (drop c.read c.src))
          (ap (remaining_sequences new) none_left ∙ stops.none_left refl) determined
      by_last false made next determined from_before =
          made.call.stops.none_determined refl next from_before

      by_result : (r : DecoderResult)
          → DecodesChunk encode_utf8 old new (record c { result = r })
          → lens_of_result r ≡ None → (next : Sequence)
          → AreDetermined c.last (remaining_sequences new) (drop c.read c.src) (next ∷ [])
          → c.room < length c.wrote + length (units_of_text encode_utf8 next.text)
      by_result InputEmpty made said next determined =
          absurd (by_last c.last made next determined
          (next_after (record c { result = InputEmpty }) made next determined))
      by_result OutputFull made said next determined =
          let stops = made.call.stops in
          let is_next : stops.next ≡ next =
          same_next c.last (remaining_sequences old) c.src made.call.done stops.next next
          stops.determined
          (next_after (record c { result = OutputFull }) made next determined) in
          let wrote : length c.wrote
          ≡ length (units_of_text encode_utf8 (sequence_text made.call.done)) =
          ap length made.call.text
          ∙ ap (λ ss. length (units_of_text encode_utf8 (sequence_text ss))) (sym stops.only_put) in
          omega (
            arith,
            stops.full,
            wrote,
            ap (λ (s : Sequence). length (units_of_text encode_utf8 s.text)) is_next,
          )
      by_result (Malformed l a) made said next determined = absurd (let no : ⊥ = cc in no)

  -- A call that has read all bytes, of which there was one at least, leaves none that determine
  -- anything.
  pub call_settles : (c : Call) → DecodesChunk encode_utf8 old new c → c.last ≡ false
      → c.read ≡ length c.src → 0 < length c.src → IsUndetermined (remaining_sequences new)
  call_settles c decodes not_last all_read some next determined = by_result c.result decodes
    where
      whole : take c.read c.src ≡ c.src
      whole = ap (λ n. take n c.src) all_read ∙ take-length c.src

      none_left : drop c.read c.src ≡ []
      none_left = ap (λ n. drop n c.src) all_read ∙ drop-length c.src

      from_before : (r : DecoderResult)
          → (made : DecodesChunk encode_utf8 old new (record c { result = r }))
          → AreDetermined c.last (remaining_sequences old) c.src (made.call.done ++ next ∷ [])
      from_before r made =
          next_after (record c { result = r }) made next
          (subst (λ x. AreDetermined c.last (remaining_sequences new) x (next ∷ []))
          (sym none_left)
          (subst (λ l. AreDetermined l (remaining_sequences new) [] (next ∷ [])) (sym not_last)
          determined))

      read_determines : (ss : List Sequence)
          → AreDetermined c.last (remaining_sequences old) c.src ss
          → Determines (remaining_sequences old) (take c.read c.src) ss
      read_determines ss from_all =
          subst (λ x. Determines (remaining_sequences old) x ss) (sym whole)
          (subst (λ l. AreDetermined l (remaining_sequences old) c.src ss) not_last from_all)

      some_read : c.read ≡ 0 → ⊥
      some_read none = omega (arith, none, all_read, some)

      by_result : (r : DecoderResult)
          → DecodesChunk encode_utf8 old new (record c { result = r }) → ⊥
      by_result InputEmpty made = made.call.stops.none_determined not_last next
          (subst (λ l. AreDetermined l (remaining_sequences old) c.src
          (made.call.done ++ next ∷ [])) not_last (from_before InputEmpty made))
      by_result OutputFull made = elim made.call.stops.reads.not_shown [
        | inl none ↦ some_read none
        | inr not_shown ↦ not_shown (read_determines _ made.call.stops.determined)
      ]
      by_result (Malformed l a) made = elim made.call.stops.none_after [
        | inl none ↦ some_read none
        | inr none_after ↦ none_after next
            (read_determines _ (from_before (Malformed l a) made))
      ]

-- A reader that waits for more bytes.

pub none_by_pending : (s : ReaderState) → s.unread ≡ [] → s.ended ≡ false
    → IsUndetermined (remaining_sequences s.decoder) → NoneDetermined s
none_by_pending s none_unread not_ended undetermined next determined =
    undetermined next
    (subst (λ x. AreDetermined false (remaining_sequences s.decoder) x (next ∷ [])) none_unread
    (subst (λ l. AreDetermined l (remaining_sequences s.decoder) s.unread (next ∷ [])) not_ended
    determined))

pub waiting_determines_none : {s : ReaderState} → IsWaiting s → NoneDetermined s
waiting_determines_none {s = s} waiting =
    none_by_pending s waiting.unread waiting.not_ended waiting.undetermined

pub none_determined_is_no_text : (s : ReaderState) → NoneDetermined s → NoTextDetermined s
none_determined_is_no_text s none [] determined = refl
none_determined_is_no_text s none (next ∷ ss) determined =
    absurd (none next (begins s.ended determined))
  where
    begins : (last : Bool) → AreDetermined last (remaining_sequences s.decoder) s.unread (next ∷ ss)
        → AreDetermined last (remaining_sequences s.decoder) s.unread (next ∷ [])
    begins true first = (ss ++ first.0, first.1)
    begins false first = λ z bytes. let at = first z bytes in (ss ++ at.0, at.1)

-- Sequences that come first are among those done, if the ones after these are undetermined.
among_done : (done ss : List Sequence) (rest : List ℕ → List Sequence)
    → ((z : List ℕ) → AreBytes z → AreFirstSequences ss (done ++ rest z)) → IsUndetermined rest
    → (more : List Sequence) × (done ≡ ss ++ more)
among_done done [] rest first undetermined = (done, refl)
among_done [] (s ∷ ss) rest first undetermined =
    absurd (undetermined s (λ z bytes. let at = first z bytes in (ss ++ at.0, at.1)))
among_done (d ∷ done) (s ∷ ss) rest first undetermined =
    let start = first [] tt in
    let same : d ≡ s = let is = start.1 in cc in
    let others = among_done done ss rest
    (λ z bytes. let at = first z bytes in let is = at.1 in (at.0, cc)) undetermined in
    (others.0, let is = others.1 in cc)

-- Text is only in sequences that are done.

no_text_handed : {t₀ t₁ : Option (List ℕ)} {a b : ReaderState} {bytes : List ℕ} {m : Bool}
    → (reads : ReadsOwed t₀ t₁ a b bytes [] m) → sequence_text reads.done ≡ []
no_text_handed reads = utf_8_determines (sequence_text reads.done) [] reads.scalars refl
    (sym reads.text)

no_text_of_part : (ss more done : List Sequence) → done ≡ ss ++ more → sequence_text done ≡ []
    → sequence_text ss ≡ []
no_text_of_part ss more done parts none = nil_from_length (sequence_text ss) (omega (
  arith,
  ap length none,
  ap (λ all. length (sequence_text all)) parts,
  ap length (sequence_text-append ss more),
  length-append (sequence_text ss) (sequence_text more),
))

-- Without a byte of the source a read has come to where it waits: no text was determined.
pub no_text_before : {t₀ t₁ : Option (List ℕ)} {a b : ReaderState} {bytes : List ℕ} {m : Bool}
    → ReadsOwed t₀ t₁ a b bytes [] m → bytes ≡ [] → IsWaiting b → NoTextDetermined a
no_text_before {a = a} {b = b} {bytes = bytes} reads none_given waiting ss determined =
    let going : a.ended ≡ false = not_ended_before in
    let from_start = subst (λ l. AreDetermined l (remaining_sequences a.decoder) a.unread ss) going
    determined in
    let parts = among_done reads.done ss (remaining_sequences b.decoder)
    (λ z are_bytes. let first = from_start z are_bytes in (first.0, sym (follows z) ∙ first.1))
    waiting.undetermined in
    no_text_of_part ss parts.0 reads.done parts.1 (no_text_handed reads)
  where
    not_ended_before : a.ended ≡ false
    not_ended_before = false_from_ne_true a.ended
        (λ ended. false≢true (sym waiting.not_ended ∙ (reads.none_after ended).1))

    follows : (z : List ℕ) → remaining_sequences a.decoder (a.unread ++ z)
        ≡ reads.done ++ remaining_sequences b.decoder z
    follows z =
        ap (λ x. remaining_sequences a.decoder (a.unread ++ (x ++ z))) (sym none_given)
        ∙ reads.residual z (λ ended. absurd (false≢true (sym waiting.not_ended ∙ ended)))
        ∙ ap (λ x. reads.done ++ remaining_sequences b.decoder (x ++ z)) waiting.unread

-- Without a text nothing malformed is passed.
abbrev NoneMalformedIfNoText : List Sequence → Type 0
NoneMalformedIfNoText ss = sequence_text ss ≡ [] → any_malformed ss ≡ false

pub unreplaced : {t₀ t₁ : Option (List ℕ)} {a b : ReaderState} {bytes : List ℕ} {m : Bool}
    → ReadsOwed t₀ t₁ a b bytes [] m → m ≡ false
unreplaced {a = a} {b = b} {bytes = bytes} reads =
    reads.flag
    ∙ remaining_have NoneMalformedIfNoText (λ no_text. refl)
    (λ e set x. none_malformed (rule_of e) (replacements e) set x) (λ m ss none. none) a.decoder
    (a.unread ++ (bytes ++ [])) reads.done (owed_sequences b [])
    (reads.residual [] (λ _. refl)) (no_text_handed reads)
