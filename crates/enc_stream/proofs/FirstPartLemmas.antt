-- Inputs that are divided after a byte, of which the first part alone may have a byte order mark.
use Rattle.std.proofs.Common.{◌≡◌, ℕ, ◌<◌, ◌≤◌, List, [], ◌∷◌, ◌++◌, length, drop, refl, ap, ◌∙◌, sym}
use Rattle.std.proofs.Common.{arith, append_assoc, append-nil, inl, inr, Option, Some, None}
use Rattle.std.proofs.lemmas.List.{length-append, drop-append-le}
use Rattle.enc_utf8.proofs.LengthLemmas.{lengths}
use Rattle.enc_decoder.specs.Sequence.{Sequence}
use Rattle.enc_decoder.specs.Segmentation.{sequences_of}
use Rattle.enc_stream.specs.declared.bom.BomHandling.{BomHandling}
use Rattle.enc_stream.specs.declared.bom.BomHandling.TheVariants.{Off}
use Rattle.enc_stream.specs.declared.encoding.Encoding.{Encoding}
use Rattle.enc_stream.specs.Bom.{Mark, find_mark, marks_looked_for}
use Rattle.enc_stream.specs.Decoding.{whole_sequences, whole_encoding}
use Rattle.enc_stream.specs.Division.{ByteDivides}
use Rattle.enc_stream.specs.Encodings.{rule_of}
use Rattle.enc_stream.specs.Bom.{mark_sequences}
use Rattle.enc_stream.specs.MarkLaws.{MayBeginMark, bytes_after_mark}
use Rattle.enc_stream.proofs.FoundMarkLemmas.{EachMark, looked_for_have, found_is, found_has, by_mark}
use Rattle.enc_stream.proofs.MarkFirstLemmas.{same_sequences}

-- none of these bytes is an ASCII digit, or below
abbrev AreHigh : List ℕ → Type 0
AreHigh [] = Unit {0}
AreHigh (b ∷ bytes) = (0x30 ≤ b) × AreHigh bytes

abbrev HasHighBytes : Mark → Type 0
HasHighBytes m = AreHigh m.bytes

marks_are_high : (handling : BomHandling) (e : Encoding)
    → EachMark HasHighBytes (marks_looked_for handling e)
marks_are_high =
    let utf_8 : AreHigh (0xEF ∷ 0xBB ∷ 0xBF ∷ []) =
    (omega arith, (omega arith, (omega arith, tt))) in
    let big_endian : AreHigh (0xFE ∷ 0xFF ∷ []) = (omega arith, (omega arith, tt)) in
    let little_endian : AreHigh (0xFF ∷ 0xFE ∷ []) = (omega arith, (omega arith, tt)) in
    looked_for_have (EachMark HasHighBytes) tt
    (utf_8, (big_endian, (little_endian, tt))) (utf_8, tt) (big_endian, tt) (little_endian, tt)

none_below : (bytes front rest : List ℕ) (c : ℕ) → AreHigh bytes → c < 0x30
    → bytes ≡ front ++ c ∷ rest → ⊥
none_below [] [] rest c high low bytes_are = absurd (let no : ⊥ = cc in no)
none_below [] (a ∷ front) rest c high low bytes_are = absurd (let no : ⊥ = cc in no)
none_below (b ∷ bytes) [] rest c high low bytes_are =
    let same : b ≡ c = cc in omega (arith, high.0, low, same)
none_below (b ∷ bytes) (a ∷ front) rest c high low bytes_are =
    none_below bytes front rest c high.1 low (let tail : bytes ≡ front ++ c ∷ rest = cc in tail)

-- no byte order mark goes on after such a byte
none_goes_on : (looked_for : List Mark) (front : List ℕ) (c : ℕ) → EachMark HasHighBytes looked_for
    → c < 0x30 → MayBeginMark looked_for (front ++ c ∷ []) → ⊥
none_goes_on [] front c high low begins = begins
none_goes_on (m ∷ others) front c high low begins = elim begins [
  | inl prefix ↦ none_below m.bytes front (prefix.0 ∷ prefix.1) c high.0 low
      (prefix.2 ∙ append_assoc front (c ∷ []) (prefix.0 ∷ prefix.1))
  | inr other ↦ none_goes_on others front c high.1 low other
]

-- nor has it one
within_front : (mark rest front : List ℕ) (c : ℕ) → AreHigh mark → c < 0x30
    → mark ++ rest ≡ front ++ c ∷ [] → length mark ≤ length front
within_front mark [] front c high low same =
    absurd (none_below mark front [] c high low (sym (append-nil mark) ∙ same))
within_front mark (b ∷ rest) front c high low same =
    omega (
      arith,
      lengths,
      ap length same,
      length-append mark (b ∷ rest),
      length-append front (c ∷ []),
    )

rest_of_first : (found : Option Mark) (front : List ℕ) (c : ℕ)
    → ((m : Mark) → found ≡ Some m → length m.bytes ≤ length front)
    → bytes_after_mark found (front ++ c ∷ []) ≡ bytes_after_mark found front ++ c ∷ []
rest_of_first None front c fits = refl
rest_of_first (Some m) front c fits = drop-append-le (length m.bytes) front (c ∷ []) (fits m refl)

module _ (handling : BomHandling) (e : Encoding) (c : ℕ) (low : c < 0x30) (front : List ℕ) where
  abbrev first : List ℕ
  first = front ++ c ∷ []

  abbrev found : Option Mark
  found = find_mark (marks_looked_for handling e) first

  high : EachMark HasHighBytes (marks_looked_for handling e)
  high = marks_are_high handling e

  mark_fits : (m : Mark) → found ≡ Some m → length m.bytes ≤ length front
  mark_fits m is_found =
      within_front m.bytes (drop (length m.bytes) first) front c
      (found_has HasHighBytes (marks_looked_for handling e) first m high is_found) low
      (found_is (marks_looked_for handling e) first m is_found)

  rest_is : bytes_after_mark found first ≡ bytes_after_mark found front ++ c ∷ []
  rest_is = rest_of_first found front c mark_fits

  pub first_part_divides : ByteDivides c (whole_encoding handling e first) → (back : List ℕ)
      → whole_sequences handling e (front ++ c ∷ back)
      ≡ whole_sequences handling e first
      ++ whole_sequences Off (whole_encoding handling e first) back
  first_part_divides divides back =
      let sequences = sequences_of (rule_of (whole_encoding handling e first)) 0 in
      let rest = bytes_after_mark found front in
      let mark = mark_sequences found in
      ap (whole_sequences handling e) (sym (append_assoc front (c ∷ []) back))
      ∙ same_sequences (marks_looked_for handling e) e first back
      (none_goes_on (marks_looked_for handling e) front c high low)
      ∙ ap (λ ss. mark ++ ss)
      (ap sequences (ap (λ x. x ++ back) rest_is ∙ append_assoc rest (c ∷ []) back)
      ∙ divides rest back)
      ∙ sym (append_assoc mark (sequences (rest ++ c ∷ [])) (sequences back))
      ∙ ap (λ (ss : List Sequence). ss ++ sequences back)
      (ap (λ x. mark ++ sequences x) (sym rest_is) ∙ sym (by_mark found e first))
