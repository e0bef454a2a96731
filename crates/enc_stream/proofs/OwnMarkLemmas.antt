-- The byte order mark of one encoding, by the one of all three that is found.
use Rattle.std.proofs.Common.{◌≡◌, ℕ, List, [], ◌∷◌, refl, ap}
use Rattle.std.proofs.Common.{Option, Some, None}
use Rattle.enc_names.specs.declared.encoding_id.EncodingId.{EncodingId}
use Rattle.enc_names.specs.declared.encoding_id.EncodingId.TheVariants.{Utf8, Utf16be, Utf16le}
use Rattle.enc_stream.specs.declared.bom.BomHandling.TheVariants.{Sniff, Remove}
use Rattle.enc_stream.specs.declared.encoding.Encoding.{Encoding}
use Rattle.enc_stream.specs.Bom.{Mark, marks, marks_of_encoding, find_mark}
use Rattle.enc_stream.specs.Bom.{sequences_by_mark, encoding_of_mark_or}
use Rattle.enc_stream.specs.Decoding.{whole_sequences, whole_encoding}
use Rattle.enc_stream.proofs.FoundMarkLemmas.{EachMark, found_has, found_is, found_starts}
use Rattle.std.proofs.Common.{◌++◌}

-- A byte order mark of this encoding, which is found among all three where it is in front.
abbrev IsOwn : EncodingId → Mark → Type 0
IsOwn id m = (m.encoding.id ≡ id) × ((y : List ℕ) → find_mark marks (m.bytes ++ y) ≡ Some m)

own_marks : (id : EncodingId) → EachMark (IsOwn id) (marks_of_encoding id)
own_marks Utf8 = ((refl, λ y. refl), tt)
own_marks Utf16be = ((refl, λ y. refl), tt)
own_marks Utf16le = ((refl, λ y. refl), tt)
own_marks _ = tt

-- If the one found among all three is of this encoding, it is found, and else none is.
found_if_own : (id : EncodingId) (bytes : List ℕ) (m : Mark) → find_mark marks bytes ≡ Some m
    → m.encoding ≡ record { id = id } → find_mark (marks_of_encoding id) bytes ≡ Some m
found_if_own id bytes m found is_own =
    let alone : marks_of_encoding m.encoding.id ≡ m ∷ [] =
    found_has (λ n. marks_of_encoding n.encoding.id ≡ n ∷ []) marks bytes m
    (refl, (refl, (refl, tt))) found in
    rw (← ap (λ (o : Encoding). o.id) is_own, alone, found_starts marks bytes m found) refl

none_unless_own : (id : EncodingId) (bytes : List ℕ)
    → ((m : Mark) → find_mark marks bytes ≡ Some m → m.encoding.id ≡ id → ⊥)
    → find_mark (marks_of_encoding id) bytes ≡ None
none_unless_own id bytes other = by_found (find_mark (marks_of_encoding id) bytes) refl
  where
    by_found : (found : Option Mark) → find_mark (marks_of_encoding id) bytes ≡ found
        → found ≡ None
    by_found None at_front = refl
    by_found (Some m) at_front =
        let own = found_has (IsOwn id) (marks_of_encoding id) bytes m (own_marks id) at_front in
        absurd (other m (rw (← found_is (marks_of_encoding id) bytes m at_front) (own.1 _)) own.0)

-- The one found among all three is that of the encoding that sniffing finds.
pub sniffed_is_removed : (e : Encoding) (bytes : List ℕ)
    → whole_sequences Sniff e bytes
    ≡ whole_sequences Remove (whole_encoding Sniff e bytes) bytes
sniffed_is_removed e bytes = by_found (find_mark marks bytes) refl
  where
    by_found : (found : Option Mark) → find_mark marks bytes ≡ found
        → sequences_by_mark found e 0 bytes
        ≡ whole_sequences Remove (encoding_of_mark_or found e) bytes
    by_found None at_front =
        let none : find_mark (marks_of_encoding e.id) bytes ≡ None =
        none_unless_own e.id bytes (λ m is_found own. absurd (let no : ⊥ = cc in no)) in
        rw none refl
    by_found (Some m) at_front =
        rw (found_if_own m.encoding.id bytes m at_front refl) refl

-- Removal keeps the encoding.
pub removal_keeps : (e : Encoding) (bytes : List ℕ) → whole_encoding Remove e bytes ≡ e
removal_keeps e bytes = by_found (find_mark (marks_of_encoding e.id) bytes) refl
  where
    by_found : (found : Option Mark) → find_mark (marks_of_encoding e.id) bytes ≡ found
        → encoding_of_mark_or found e ≡ e
    by_found None at_front = refl
    by_found (Some m) at_front =
        let own =
        found_has (IsOwn e.id) (marks_of_encoding e.id) bytes m (own_marks e.id) at_front in
        ap (λ (i : EncodingId). record { id = i }) own.0
