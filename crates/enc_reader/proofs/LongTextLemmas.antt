-- Long text is lent whole: bytes at hand that begin their own text determine some of it, so that a
-- read pulls nothing more.
use Rattle.std.proofs.Common.{◌≡◌, ℕ, ◌+◌, ◌-◌, ◌<◌, ◌≤◌, zero, suc, ◌⊎◌, inl, inr, true, false, List, [], ◌∷◌}
use Rattle.std.proofs.Common.{◌++◌, length, take, drop, Option, ap, ◌∙◌, sym, subst, arith}
use Rattle.std.proofs.Common.{append_assoc, append-nil}
use Rattle.std.proofs.lemmas.Bool.{cases_lt}
use Rattle.std.proofs.Math.ListN.{length-drop}
use Rattle.std.proofs.lemmas.List.{length-take, take-append-le}
use Rattle.enc_utf8.specs.Validity.{AreAscii}
use Rattle.enc_decoder.specs.declared.byte_codec.Kind.TheVariants.{Valid}
use Rattle.enc_decoder.specs.Sequence.{Sequence}
use Rattle.enc_decoder.specs.Segmentation.{Rule, head_sequence, sequences_of}
use Rattle.enc_decoder.specs.Remainder.{AreFirstSequences, AreDetermined}
use Rattle.enc_decoder.proofs.FirstSequenceLemmas.{true_or_false}
use Rattle.enc_decoder.proofs.SegmentationLemmas.{sequences_of-head}
use Rattle.enc_utf8.specs.Utf8Sequences.{is_incomplete_sequence}
use Rattle.enc_decoder_utf.specs.Utf8.{utf_8_rule}
use Rattle.enc_decoder_utf.proofs.Utf8Incomplete.{determined_head}
use Rattle.enc_decoder_utf.proofs.Utf8Rule.{within}
use Rattle.enc_decoder_utf.proofs.Utf8Rule.{utf_8_has_texts}
use Rattle.enc_codec.specs.Properties.{IsAsciiCompatible}
use Rattle.enc_stream.specs.declared.constants.TheConstants.{UTF_8}
use Rattle.enc_stream.specs.declared.encoding.Encoding.{Encoding}
use Rattle.enc_stream.specs.Encodings.{rule_of}
use Rattle.enc_stream.specs.Decoding.{DecoderState, remaining_sequences}
use Rattle.enc_reader.specs.Reading.{ReaderState, NoTextDetermined}
use Rattle.enc_reader.specs.Turn.{AreOwnBytes, FillsBuffer, HasBytesAtHand, IsOwnText}
use Rattle.enc_reader.proofs.LendingLemmas.{between_sequences}

-- A sequence with a text comes first, whatever follows these bytes.
record BeginsText (rule : Rule) (bytes : List ℕ) : Type 0 where
  first : Sequence
  begins : (y : List ℕ) → AreFirstSequences (first ∷ []) (sequences_of rule 0 (bytes ++ y))
  some : first.text ≡ [] → ⊥

-- UTF-8: bytes that are no incomplete sequence determine the first sequence

utf_8_begins : (bytes : List ℕ) → 0 < length bytes → is_incomplete_sequence bytes ≡ false
    → BeginsText utf_8_rule bytes
utf_8_begins [] some whole = absurd (omega arith)
utf_8_begins (b ∷ z) some whole = record {
  first = head_sequence (utf_8_rule 0 b z) b z;
  begins = λ y. (
    _,
    sequences_of-head utf_8_rule 0 b (z ++ y) (utf_8_rule 0 b z) (determined_head b z y whole)
        ∙ ap (λ x. record {
          bytes = b ∷ x;
          text = (utf_8_rule 0 b z).text;
          kind = (utf_8_rule 0 b z).kind;
          set = (utf_8_rule 0 b z).set;
        } ∷ sequences_of utf_8_rule (utf_8_rule 0 b z).set (drop (utf_8_rule 0 b z).more (z ++ y)))
        (take-append-le (utf_8_rule 0 b z).more z y (within 0 b z)),
  );
  some = utf_8_has_texts 0 b z;
}

-- ASCII

ascii_begins : (rule : Rule) (bytes more : List ℕ) (n : ℕ) → 0 < n → 0 < length bytes
    → IsAsciiCompatible rule → AreAscii (take n (bytes ++ more)) → BeginsText rule bytes
ascii_begins rule [] more n one some compatible ascii = absurd (omega arith)
ascii_begins rule (b ∷ z) more zero one some compatible ascii = absurd (omega arith)
ascii_begins rule (b ∷ z) more (suc n) one some compatible ascii =
    let low : b < 0x80 = ascii 0 0 (omega arith) in
    record {
      first = record { bytes = b ∷ []; text = b ∷ []; kind = Valid; set = 0 };
      begins = λ y. (sequences_of rule 0 (z ++ y), compatible b low (z ++ y));
      some = λ none. cc;
    }

own_begins : (d : DecoderState) (bytes more : List ℕ) (n : ℕ) → 0 < n → 0 < length bytes
    → (d.encoding ≡ UTF_8 → is_incomplete_sequence bytes ≡ false)
    → AreOwnBytes d (take n (bytes ++ more)) → BeginsText (rule_of d.encoding) bytes
own_begins d bytes more n one some whole (inl utf_8) =
    subst (λ (e : Encoding). BeginsText (rule_of e) bytes) (sym utf_8.0)
    (utf_8_begins bytes some (whole utf_8.0))
own_begins d bytes more n one some whole (inr ascii) =
    ascii_begins (rule_of d.encoding) bytes more n one some ascii.0 ascii.1

-- Bytes at hand that begin their own text determine some.
text_determined : (s : ReaderState) {room : ℕ} (more : List ℕ) (n : ℕ) → s.ended ≡ false
    → HasBytesAtHand room s → 4 ≤ room → 0 < n
    → IsOwnText s.decoder (take n (s.unread ++ more)) → NoTextDetermined s → ⊥
text_determined s more n not_ended at_hand roomy one is_own none =
    let text = own_begins s.decoder s.unread more n one at_hand.some
    (λ is_utf_8. at_hand.whole roomy is_utf_8 is_own.between) is_own.own in
    let determined : AreDetermined s.ended (remaining_sequences s.decoder) s.unread
    (text.first ∷ []) =
    subst (λ l. AreDetermined l (remaining_sequences s.decoder) s.unread (text.first ∷ []))
    (sym not_ended)
    (λ z bytes. let first = text.begins z in (
      first.0,
      between_sequences s.decoder is_own.between (s.unread ++ z) ∙ first.1,
    )) in
    text.some (sym (append-nil text.first.text) ∙ none (text.first ∷ []) determined)

-- So the source gives nothing more.
none_more : (s : ReaderState) {room : ℕ} (more : List ℕ) (n : ℕ)
    → (s.ended ≡ true → more ≡ []) → (s.ended ≡ false → HasBytesAtHand room s) → 4 ≤ room → 0 < n
    → IsOwnText s.decoder (take n (s.unread ++ more)) → (more ≡ []) ⊎ NoTextDetermined s
    → more ≡ []
none_more s more n at_end at_hand roomy one is_own needed = elim (true_or_false s.ended) [
  | inl ends ↦ at_end ends
  | inr goes_on ↦ elim needed [
    | inl none ↦ none
    | inr no_text ↦
        absurd (text_determined s more n goes_on (at_hand goes_on) roomy one is_own no_text)
  ]
]

-- Some bytes at the front are their own text.
pub record BeginsOwnText (d : DecoderState) (bytes : List ℕ) (n : ℕ) : Type 0 where
  pub some : 0 < n
  pub among : n ≤ length bytes
  pub own : IsOwnText d (take n bytes)

-- After a fill the bytes at hand have all own text that comes next.
pub own_text_at_hand : {t₀ t₁ : Option (List ℕ)} {a b : ReaderState} {room len : ℕ}
    (fills : FillsBuffer t₀ t₁ a b) (more : List ℕ)
    → (b.ended ≡ true → more ≡ []) → (more ≡ []) ⊎ NoTextDetermined b
    → (b.ended ≡ false → HasBytesAtHand room b) → 4 ≤ room
    → ((n : ℕ) → len < n → n ≤ length b.unread → ¬ (IsOwnText b.decoder (take n b.unread)))
    → (n : ℕ) → BeginsOwnText a.decoder (a.unread ++ (fills.bytes ++ more)) n → n ≤ len
own_text_at_hand {a = a} {b = b} {len = len} fills more at_end needed at_hand roomy longest n own =
    let all : a.unread ++ (fills.bytes ++ more) ≡ b.unread ++ more =
    sym (append_assoc a.unread fills.bytes more) ∙ ap (λ u. u ++ more) (sym fills.unread) in
    let own_after : IsOwnText b.decoder (take n (b.unread ++ more)) =
    subst (λ (d : DecoderState). IsOwnText d (take n (b.unread ++ more))) (sym fills.decoder)
    (subst (λ u. IsOwnText a.decoder (take n u)) all own.own) in
    let none : more ≡ [] =
    none_more b more n at_end at_hand roomy own.some own_after needed in
    let at_hand_only : b.unread ++ more ≡ b.unread =
    ap (λ u. b.unread ++ u) none ∙ append-nil b.unread in
    elim (cases_lt len n) [
      | inl longer ↦ absurd (longest n longer
          (omega (arith, own.among, ap length all, ap length at_hand_only))
          (subst (λ u. IsOwnText b.decoder (take n u)) at_hand_only own_after))
      | inr within_len ↦ within_len
    ]

-- lent text, by places in the buffer
pub lent_len : (filled at n : ℕ) (xs : List ℕ) → filled ≤ length xs → n ≤ filled - at
    → length (take n (drop (at + n - n) xs)) ≡ n
lent_len filled at n xs within among = omega (
  arith,
  length-take n (drop (at + n - n) xs),
  length-drop (at + n - n) xs,
)
