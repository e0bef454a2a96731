-- Which first bytes of an input decide its byte order mark.
use Rattle.std.proofs.Common.{◌≡◌, ℕ, ◌<◌, ◌≤◌, if◌then◌else◌, ◌↔◌, List, [], ◌∷◌, ◌++◌, Option, Some}
use Rattle.std.proofs.Common.{None, length, refl, ap, sym, ◌∙◌, subst, inl, inr, eqb, eqb-true, arith}
use Rattle.std.proofs.Common.{append_assoc, append-nil}
use Rattle.std.specs.Prelude.{nat_eq}
use Rattle.std.specs.List.{starts_with}
use Rattle.std.proofs.lemmas.List.{drop-append-le, length-append}
use Rattle.enc_decoder.specs.Sequence.{Sequence, sequence_bytes}
use Rattle.enc_decoder.specs.Segmentation.{sequences_of}
use Rattle.enc_decoder.specs.Remainder.{AreBytes, AreFirstSequences, Determines}
use Rattle.enc_decoder.proofs.SegmentationLemmas.{first_of}
use Rattle.enc_decoder.proofs.DeterminedLemmas.{begins_after}
use Rattle.enc_decoder.proofs.FirstSequenceLemmas.{true_or_false}
use Rattle.enc_stream.specs.declared.encoding.Encoding.{Encoding}
use Rattle.enc_stream.specs.declared.bom.BomHandling.{BomHandling}
use Rattle.enc_stream.specs.Encodings.{rule_of}
use Rattle.enc_stream.specs.Bom.{Mark, marks, utf_8_mark, utf_16be_mark, utf_16le_mark, find_mark, marks_looked_for}
use Rattle.enc_stream.specs.Bom.{mark_sequence, sequences_by_mark, encoding_of_mark_or}
use Rattle.enc_stream.specs.Decoding.{whole_sequences}
use Rattle.enc_stream.proofs.FoundMarkLemmas.{EachMark, found_fits, looked_for_have, joined_marked}
use Rattle.enc_stream.specs.Bom.{mark_sequences}
use Rattle.enc_stream.specs.MarkLaws.{IsProperPrefix, MayBeginMark, bytes_after_mark}

-- bytes that are no proper prefix of p decide whether p is in front
pub same_start : (p x y : List ℕ) → (IsProperPrefix x p → ⊥)
    → starts_with nat_eq (x ++ y) p ≡ starts_with nat_eq x p
same_start [] x y no_prefix = refl
same_start (a ∷ p) [] y no_prefix = absurd (no_prefix (a, p, refl))
same_start (a ∷ p) (b ∷ x) y no_prefix = elim (true_or_false (eqb a b)) [
  | inl same_byte ↦ rw same_byte
      (same_start p x y (λ is_prefix. no_prefix (
        is_prefix.0,
        is_prefix.1,
        (let rest_is : p ≡ x ++ is_prefix.0 ∷ is_prefix.1 = is_prefix.2 in
            let same : a ≡ b = eqb-true a b same_byte in cc),
      )))
  | inr differs ↦ rw differs refl
]

-- and so which of these marks is
pub mark_is_decided : (looked_for : List Mark) (x y : List ℕ) → (MayBeginMark looked_for x → ⊥)
    → find_mark looked_for (x ++ y) ≡ find_mark looked_for x
mark_is_decided [] x y mark_decided = refl
mark_is_decided (m ∷ others) x y mark_decided =
    ap (λ t. if t then Some m else find_mark others (x ++ y))
    (same_start m.bytes x y (λ i. mark_decided (inl i)))
    ∙ ap (λ t. if starts_with nat_eq x m.bytes then Some m else t)
    (mark_is_decided others x y (λ i. mark_decided (inr i)))

-- the sequences of a mark that is known
pub sequences_after_mark : (found : Option Mark) (e : Encoding) (x z : List ℕ)
    → ((m : Mark) → found ≡ Some m → length m.bytes ≤ length x)
    → sequences_by_mark found e 0 (x ++ z) ≡ mark_sequences found
    ++ sequences_of (rule_of (encoding_of_mark_or found e)) 0 (bytes_after_mark found x ++ z)
sequences_after_mark None e x z fits = refl
sequences_after_mark (Some m) e x z fits =
    ap (λ y. mark_sequence m ∷ sequences_of (rule_of m.encoding) 0 y)
    (drop-append-le (length m.bytes) x z (fits m refl))

pub same_sequences : (looked_for : List Mark) (e : Encoding) (x z : List ℕ)
    → (MayBeginMark looked_for x → ⊥)
    → sequences_by_mark (find_mark looked_for (x ++ z)) e 0 (x ++ z)
    ≡ mark_sequences (find_mark looked_for x)
    ++ sequences_of (rule_of (encoding_of_mark_or (find_mark looked_for x) e)) 0
    (bytes_after_mark (find_mark looked_for x) x ++ z)
same_sequences looked_for e x z decided =
    ap (λ found. sequences_by_mark found e 0 (x ++ z)) (mark_is_decided looked_for x z decided)
    ∙ sequences_after_mark (find_mark looked_for x) e x z (found_fits looked_for x)

-- Each of these marks is made of bytes, and is found where it stands alone.
abbrev pub AreFound : List Mark → List Mark → Type 0
AreFound all looked_for = EachMark (λ m. AreBytes m.bytes × (find_mark all m.bytes ≡ Some m))
    looked_for

two_bytes : (a b : ℕ) → a < 256 → b < 256 → AreBytes (a ∷ b ∷ [])
two_bytes a b first second = (first, (second, tt))

utf_8_bytes : AreBytes utf_8_mark.bytes
utf_8_bytes = (omega arith, two_bytes 0xBB 0xBF (omega arith) (omega arith))

utf_16be_bytes : AreBytes utf_16be_mark.bytes
utf_16be_bytes = two_bytes 0xFE 0xFF (omega arith) (omega arith)

utf_16le_bytes : AreBytes utf_16le_mark.bytes
utf_16le_bytes = two_bytes 0xFF 0xFE (omega arith) (omega arith)

pub found_all : AreFound marks marks
found_all = ((utf_8_bytes, refl), ((utf_16be_bytes, refl), ((utf_16le_bytes, refl), tt)))

pub found_utf_8 : AreFound (utf_8_mark ∷ []) (utf_8_mark ∷ [])
found_utf_8 = ((utf_8_bytes, refl), tt)

pub found_utf_16be : AreFound (utf_16be_mark ∷ []) (utf_16be_mark ∷ [])
found_utf_16be = ((utf_16be_bytes, refl), tt)

pub found_utf_16le : AreFound (utf_16le_mark ∷ []) (utf_16le_mark ∷ [])
found_utf_16le = ((utf_16le_bytes, refl), tt)

found_looked_for : (handling : BomHandling) (e : Encoding)
    → AreFound (marks_looked_for handling e) (marks_looked_for handling e)
found_looked_for handling e =
    looked_for_have (λ looked_for. AreFound looked_for looked_for) tt found_all found_utf_8
    found_utf_16be found_utf_16le handling e

bytes_after : (x y : List ℕ) → AreBytes (x ++ y) → AreBytes y
bytes_after [] y are_bytes = are_bytes
bytes_after (a ∷ x) y are_bytes = bytes_after x y are_bytes.1

-- The mark is the first sequence of its own bytes. Fewer of them have another, or none.
other_first : (looked_for : List Mark) (e : Encoding) (set : ℕ) (m : Mark) (x : List ℕ)
    (s : Sequence) (ss : List Sequence)
    → find_mark looked_for m.bytes ≡ Some m → length x < length m.bytes
    → AreFirstSequences (s ∷ ss)
    (sequences_by_mark (find_mark looked_for m.bytes) e set m.bytes)
    → AreFirstSequences (s ∷ ss) (sequences_by_mark (find_mark looked_for x) e set x) → ⊥
other_first looked_for e set m x s ss alone fewer of_mark of_fewer =
    let is_mark : mark_sequence m ≡ s = first_of (mark_sequence m) s _ _ (rw alone at of_mark.1) in
    let joined =
    ap length (sym (ap sequence_bytes of_fewer.1) ∙ joined_marked looked_for e set x) in
    omega (
      arith,
      fewer,
      joined,
      ap (λ (t : Sequence). length t.bytes) is_mark,
      length-append s.bytes (sequence_bytes (ss ++ of_fewer.0)),
    )

-- so what may begin one determines nothing
pub undetermined_in : (all looked_for : List Mark) (e : Encoding) (set : ℕ) (x : List ℕ)
    (s : Sequence) (ss : List Sequence)
    → AreFound all looked_for
    → MayBeginMark looked_for x
    → Determines (λ bytes. sequences_by_mark (find_mark all bytes) e set bytes) x (s ∷ ss) → ⊥
undetermined_in all [] e set x s ss are_found may_begin determines = may_begin
undetermined_in all (m ∷ others) e set x s ss are_found (inl is_prefix) determines =
    let more : List ℕ = is_prefix.0 ∷ is_prefix.1 in
    let whole : m.bytes ≡ x ++ more = is_prefix.2 in
    other_first all e set m x s ss are_found.0.1
    (omega (arith, ap length whole, length-append x more))
    (subst (λ y. AreFirstSequences (s ∷ ss) (sequences_by_mark (find_mark all y) e set y))
    (sym whole)
    (determines more (bytes_after x more (subst AreBytes whole are_found.0.0))))
    (subst (λ y. AreFirstSequences (s ∷ ss) (sequences_by_mark (find_mark all y) e set y))
    (append-nil x) (determines [] tt))
undetermined_in all (m ∷ others) e set x s ss are_found (inr may_begin) determines =
    undetermined_in all others e set x s ss are_found.1 may_begin determines

pub undetermined : (handling : BomHandling) (e : Encoding) (x : List ℕ) (s : Sequence)
    (ss : List Sequence)
    → MayBeginMark (marks_looked_for handling e) x
    → Determines (whole_sequences handling e) x (s ∷ ss) → ⊥
undetermined handling e x s ss may_begin determines =
    undetermined_in (marks_looked_for handling e) (marks_looked_for handling e) e 0 x s ss
    (found_looked_for handling e) may_begin determines

-- Once the mark in front is decided, the bytes after it determine the same after it, both ways.
pub by_rule : (handling : BomHandling) (e : Encoding) (x : List ℕ) (ss : List Sequence)
    (found : Option Mark)
    → found ≡ find_mark (marks_looked_for handling e) x
    → (MayBeginMark (marks_looked_for handling e) x → ⊥)
    → Determines (whole_sequences handling e) x (mark_sequences found ++ ss)
    ↔ Determines (sequences_of (rule_of (encoding_of_mark_or found e)) 0) (bytes_after_mark found x)
    ss
by_rule handling e x ss found found_is decided =
    let sequences = sequences_of (rule_of (encoding_of_mark_or found e)) 0 in
    let rest = bytes_after_mark found x in
    let front = mark_sequences found in
    let same : (z : List ℕ) → whole_sequences handling e (x ++ z)
    ≡ front ++ sequences (rest ++ z) =
    rw found_is (λ z. same_sequences (marks_looked_for handling e) e x z decided) in (
      λ determines z are_bytes. begins_after front ss (sequences (rest ++ z))
          (whole_sequences handling e (x ++ z)) (same z) (determines z are_bytes),
      λ determines z are_bytes. let first = determines z are_bytes in (
        first.0,
        same z ∙ ap (λ ts. front ++ ts) first.1 ∙ sym (append_assoc front ss first.0),
      ),
    )
