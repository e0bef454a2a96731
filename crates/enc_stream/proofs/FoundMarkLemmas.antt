-- The byte order mark that is found at the start of bytes: they begin with it, and it is one of
-- those looked for.
use Rattle.std.proofs.Common.{◌≡◌, ℕ, ◌≤◌, Bool, true, false, List, [], ◌∷◌, ◌++◌, length, drop, refl, ap}
use Rattle.std.proofs.Common.{subst, arith, inl, inr, ◌⊎◌, Option, Some, if◌then◌else◌}
use Rattle.std.specs.Prelude.{nat_eq}
use Rattle.std.specs.List.{starts_with}
use Rattle.std.proofs.lemmas.List.{length-append}
use Rattle.std.proofs.lemmas.Slice.Eq.{starts_is}
use Rattle.std.proofs.lemmas.Bool.Decides.{Decides-eqb}
use Rattle.std.proofs.lemmas.List.{take-append-le}
use Rattle.enc_names.specs.declared.encoding_id.EncodingId.{EncodingId}
use Rattle.enc_names.specs.declared.encoding_id.EncodingId.TheVariants.{Utf8, Utf16be, Utf16le}
use Rattle.enc_stream.specs.declared.bom.BomHandling.{BomHandling}
use Rattle.enc_stream.specs.declared.bom.BomHandling.TheVariants.{Off, Sniff, Remove}
use Rattle.enc_stream.specs.declared.encoding.Encoding.{Encoding}
use Rattle.enc_stream.specs.Bom.{Mark, find_mark, marks, marks_of_encoding, marks_looked_for}
use Rattle.enc_stream.specs.Bom.{utf_8_mark, utf_16be_mark, utf_16le_mark}
use Rattle.std.proofs.Common.{sym}
use Rattle.enc_stream.specs.Encodings.{rule_of}
use Rattle.enc_stream.specs.Bom.{sequences_by_mark, encoding_of_mark_or}
use Rattle.enc_stream.specs.Bom.{mark_sequences}
use Rattle.enc_stream.specs.MarkLaws.{bytes_after_mark}
use Rattle.enc_decoder.specs.Segmentation.{sequences_of}
use Rattle.enc_decoder.specs.Sequence.{sequence_bytes, sequence_text, any_malformed}
use Rattle.enc_decoder.proofs.SegmentationLemmas.{all_bytes}
use Rattle.std.proofs.Common.{None, ◌∙◌}

-- these byte order marks all have a property
abbrev pub EachMark : (Mark → Type 0) → List Mark → Type 0
EachMark Has [] = Unit {0}
EachMark Has (m ∷ others) = Has m × EachMark Has others

first_or_other : (starts : Bool) (m n : Mark) (other : Option Mark)
    → (if starts then Some m else other) ≡ Some n → ((starts ≡ true) × (m ≡ n)) ⊎ (other ≡ Some n)
first_or_other true m n other found = inl (refl, (let same : m ≡ n = cc in same))
first_or_other false m n other found = inr found

pub found_starts : (looked_for : List Mark) (x : List ℕ) (m : Mark)
    → find_mark looked_for x ≡ Some m → starts_with nat_eq x m.bytes ≡ true
found_starts [] x m found = absurd (let none : ⊥ = cc in none)
found_starts (n ∷ others) x m found =
    elim (first_or_other (starts_with nat_eq x n.bytes) n m _ found) [
      | inl first ↦ subst (λ (k : Mark). starts_with nat_eq x k.bytes ≡ true) first.1 first.0
      | inr other ↦ found_starts others x m other
    ]

pub found_has : (Has : Mark → Type 0) (looked_for : List Mark) (x : List ℕ) (m : Mark)
    → EachMark Has looked_for → find_mark looked_for x ≡ Some m → Has m
found_has Has [] x m each found = absurd (let none : ⊥ = cc in none)
found_has Has (n ∷ others) x m each found =
    elim (first_or_other (starts_with nat_eq x n.bytes) n m _ found) [
      | inl first ↦ subst Has first.1 each.0
      | inr other ↦ found_has Has others x m each.1 other
    ]

-- bytes that begin with p are p and the rest
start_is : (p x : List ℕ) → starts_with nat_eq x p ≡ true → p ++ drop (length p) x ≡ x
start_is p x starts = sym ((starts_is Decides-eqb x p (starts_with nat_eq x p) refl).0 starts)

pub start_fits : (p x : List ℕ) → starts_with nat_eq x p ≡ true → length p ≤ length x
start_fits p x starts =
    omega (arith, ap length (start_is p x starts), length-append p (drop (length p) x))

-- whether bytes begin with p, their first ones say, if they are as many
pub same_front : (p x y : List ℕ) → length p ≤ length x
    → starts_with nat_eq (x ++ y) p ≡ starts_with nat_eq x p
same_front p x y fits = rw (take-append-le (length p) x y fits) refl

-- and so do those with a byte order mark that is found
pub found_is : (looked_for : List Mark) (x : List ℕ) (m : Mark) → find_mark looked_for x ≡ Some m
    → m.bytes ++ drop (length m.bytes) x ≡ x
found_is looked_for x m found = start_is m.bytes x (found_starts looked_for x m found)

pub found_fits : (looked_for : List Mark) (x : List ℕ) (m : Mark) → find_mark looked_for x ≡ Some m
    → length m.bytes ≤ length x
found_fits looked_for x m found = start_fits m.bytes x (found_starts looked_for x m found)

-- What holds of each of these lists of byte order marks holds of those that a decoder looks for.
pub looked_for_have : (Has : List Mark → Type 0) → Has [] → Has marks → Has (utf_8_mark ∷ [])
    → Has (utf_16be_mark ∷ []) → Has (utf_16le_mark ∷ []) → (handling : BomHandling) (e : Encoding)
    → Has (marks_looked_for handling e)
looked_for_have Has none all utf_8 utf_16be utf_16le Off e = none
looked_for_have Has none all utf_8 utf_16be utf_16le Sniff e = all
looked_for_have Has none all utf_8 utf_16be utf_16le Remove e = by_id e.id
  where
    by_id : (id : EncodingId) → Has (marks_of_encoding id)
    by_id Utf8 = utf_8
    by_id Utf16be = utf_16be
    by_id Utf16le = utf_16le
    by_id _ = none

-- The sequences: a mark, if there is one, and those of its encoding after it.
pub by_mark : (found : Option Mark) (e : Encoding) (bytes : List ℕ)
    → sequences_by_mark found e 0 bytes
    ≡ mark_sequences found
    ++ sequences_of (rule_of (encoding_of_mark_or found e)) 0 (bytes_after_mark found bytes)
by_mark None e bytes = refl
by_mark (Some m) e bytes = refl

-- A mark has no text, and is not malformed.
pub unmarked_text : (found : Option Mark) (e : Encoding) (bytes : List ℕ)
    → sequence_text (sequences_by_mark found e 0 bytes)
    ≡ sequence_text (sequences_of (rule_of (encoding_of_mark_or found e)) 0
    (bytes_after_mark found bytes))
unmarked_text None e bytes = refl
unmarked_text (Some m) e bytes = refl

pub unmarked_flag : (found : Option Mark) (e : Encoding) (bytes : List ℕ)
    → any_malformed (sequences_by_mark found e 0 bytes)
    ≡ any_malformed (sequences_of (rule_of (encoding_of_mark_or found e)) 0
    (bytes_after_mark found bytes))
unmarked_flag None e bytes = refl
unmarked_flag (Some m) e bytes = refl

-- Joined, they are the bytes.
joined_by : (found : Option Mark) (e : Encoding) (set : ℕ) (x : List ℕ)
    → ((m : Mark) → found ≡ Some m → m.bytes ++ drop (length m.bytes) x ≡ x)
    → sequence_bytes (sequences_by_mark found e set x) ≡ x
joined_by None e set x starts = all_bytes (rule_of e) set x
joined_by (Some m) e set x starts =
    ap (λ z. m.bytes ++ z) (all_bytes (rule_of m.encoding) 0 (drop (length m.bytes) x))
    ∙ starts m refl

pub joined_marked : (looked_for : List Mark) (e : Encoding) (set : ℕ) (x : List ℕ)
    → sequence_bytes (sequences_by_mark (find_mark looked_for x) e set x) ≡ x
joined_marked looked_for e set x =
    joined_by (find_mark looked_for x) e set x (found_is looked_for x)
