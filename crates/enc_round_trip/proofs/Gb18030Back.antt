-- gb18030 and GBK give each character back, except those of private use whose bytes others have.
use Rattle.std.proofs.Common.{◌≡◌, ℕ, ◌+◌, ◌-◌, ◌/◌, ◌%◌, ◌<◌, ◌≤◌, Bool, true, false, cond, nat_lt, ◌&&◌, ◌==◌, Option}
use Rattle.std.proofs.Common.{Some, None, List, [], ◌∷◌, map, refl, ap, sym, subst, ◌∙◌, arith, if◌then◌else◌, not}
use Rattle.std.proofs.Common.{nat_le, IfSome, inl, inr}
use Rattle.std.proofs.lemmas.Bool.{cond-true, cond-false, lt-ltb, not-true, or_parts}
use Rattle.std.proofs.lemmas.Bool.Decides.{nat_tests}
use Rattle.std.specs.Cmp.{first_so, second_so}
use Rattle.enc_index.specs.Runs.{runs_of, gb18030_at, gb18030_ranges_at}
use Rattle.enc_index_pointers.specs.Pointers.{gb18030_pointer, gb18030_ranges_pointer, is_ranges_pointer, pointer_of}
use Rattle.enc_index_pointers.specs.Pointers.{any_pointer, no_character, is_character}
use Rattle.enc_decoder.specs.declared.byte_codec.Kind.TheVariants.{Valid}
use Rattle.enc_decoder.specs.declared.byte_codec.Text.TheVariants.{One}
use Rattle.enc_decoder.specs.Taking.{IsWholeChar}
use Rattle.enc_decoder.specs.declared.prefix.Prefix.TheVariants.{Complete, Incomplete}
use Rattle.enc_decoder_multi_byte.specs.DoubleByte.{text_of_char, first_prefix, trail_prefix}
use Rattle.enc_decoder.specs.Prefixes.{single_prefix, prefix_rule}
use Rattle.enc_decoder_multi_byte.specs.Gb18030 as decoder
use Rattle.enc_decoder.proofs.PrefixLemmas.{settled_first, settles_complete}
use Rattle.enc_decoder.proofs.PrefixLemmas.{complete_one, complete_two}
use Rattle.enc_encode.specs.Gb18030.{gb18030_trail_byte, gb18030_pair_bytes, gb18030_four_bytes, two_or_four_bytes}
use Rattle.enc_encode.specs.PrivateUse.{private_use_rows}
use Rattle.enc_encode.specs.Gb18030.{row_bytes, row_or_index_bytes, gb18030_other, gb18030_bytes}
use Rattle.enc_encode.proofs.PrivateUseLemmas.{no_private_use_row}
use Rattle.enc_round_trip.specs.Replaced.{replaced_characters}
use Rattle.enc_round_trip.specs.RoundTrip.{char_by_rows, has_row, any_read_as_other}
use Rattle.enc_decoder.proofs.FirstSequenceLemmas.{true_or_false}
use Rattle.enc_round_trip.proofs.ReadBackLemmas.{IsReadBack, with_ascii_is_read}
use Rattle.enc_round_trip.proofs.PointerLemmas.{IsPointer, is_pointer, by_pointer, has_character}
use Rattle.enc_round_trip.proofs.DoubleByteBack.{within}

abbrev Piece : List ℕ → ℕ → Type 0
Piece b c = IsWholeChar (prefix_rule decoder.gb18030_prefix) 0 b c

low_piece : (b : ℕ) → b < 0x80 → Piece (b ∷ []) b
low_piece b l =
    let no_lead : decoder.is_gb18030_lead b ≡ false = grind (arith, nat_tests) in
    complete_one decoder.gb18030_prefix b b
    (ap (λ t. first_prefix t (decoder.gb18030_single_char b)) no_lead
    ∙ ap single_prefix (cond-true _ _ _ (lt-ltb b 0x80 l)))

euro_piece : Piece (0x80 ∷ []) 0x20AC
euro_piece = complete_one decoder.gb18030_prefix 0x80 0x20AC refl

leads : (a : ℕ) → 0x81 ≤ a → a ≤ 0xFE → decoder.gb18030_prefix (a ∷ []) ≡ Incomplete
leads a l h = ap (λ t. first_prefix t (decoder.gb18030_single_char a)) (within 0x81 0xFE a l h)

-- two bytes

is_trail : (cell : ℕ) → cell < 190 → decoder.is_gb18030_trail (gb18030_trail_byte cell) ≡ true
is_trail cell l = grind (arith, nat_tests)

no_digit : (cell : ℕ) → cell < 190 → decoder.is_digit (gb18030_trail_byte cell) ≡ false
no_digit cell l = grind (arith, nat_tests)

cell_of : (cell : ℕ) → cell < 190
    → gb18030_trail_byte cell - (if nat_lt (gb18030_trail_byte cell) 0x7F then 0x40 else 0x41)
    ≡ cell
cell_of cell l = grind (arith, nat_tests)

two_pointer : (p : ℕ) →
    decoder.gb18030_pair_pointer (p / 190 + 0x81) (gb18030_trail_byte (p % 190)) ≡ p
two_pointer p = omega (arith, cell_of (p % 190) (omega arith))

two_read : (c p : ℕ) → IsPointer gb18030_at any_pointer 23940 c p
    → decoder.gb18030_prefix (gb18030_pair_bytes p) ≡ Complete (One c)
two_read c p h =
    let cell : p % 190 < 190 = omega arith in
    cond-false _ _ _ (no_digit (p % 190) cell)
    ∙ ap (λ o. trail_prefix 1 (gb18030_trail_byte (p % 190)) (text_of_char o))
    (cond-true _ _ _ (is_trail (p % 190) cell) ∙ ap gb18030_at (two_pointer p) ∙ h.has)

two_piece : (c p : ℕ) → gb18030_pointer c ≡ Some p → Piece (gb18030_pair_bytes p) c
unfolding gb18030_pointer
two_piece c p found =
    let has_pointer = is_pointer gb18030_at any_pointer no_character 23940 c p found in
    let below = has_pointer.below in
    complete_two decoder.gb18030_prefix (p / 190 + 0x81) (gb18030_trail_byte (p % 190)) c
    (leads (p / 190 + 0x81) (omega arith) (omega arith)) (two_read c p has_pointer)

-- four bytes

four_pointer : (p : ℕ)
    → decoder.four_byte_pointer (p / 12600 + 0x81) (p % 12600 / 1260 + 0x30) (p % 1260 / 10 + 0x81)
    (p % 10 + 0x30) ≡ p
four_pointer p = omega arith

four_piece : (c p : ℕ) → p < 1237576 → decoder.ranges_code_point p ≡ Some c
    → Piece (gb18030_four_bytes p) c
four_piece c p below has y =
    let first = p / 12600 + 0x81 in
    let second = p % 12600 / 1260 + 0x30 in
    let third = p % 1260 / 10 + 0x81 in
    let fourth = p % 10 + 0x30 in
    settled_first decoder.gb18030_prefix 0 (first ∷ second ∷ third ∷ []) fourth y 4 (One c) Valid (
      leads first (omega arith) (omega arith),
      (
        cond-true _ _ _ (within 0x30 0x39 second (omega arith) (omega arith)),
        (cond-true _ _ _ (within 0x81 0xFE third (omega arith) (omega arith)), tt),
      ),
    )
    (settles_complete decoder.gb18030_prefix (gb18030_four_bytes p) (One c) (omega arith)
    (cond-true _ _ _ (within 0x30 0x39 fourth (omega arith) (omega arith))
    ∙ ap decoder.four_byte_prefix (ap decoder.ranges_code_point (four_pointer p) ∙ has)))

in_ranges : (c p : ℕ) → IsPointer gb18030_ranges_at is_ranges_pointer 1237576 c p
    → decoder.ranges_code_point p ≡ Some c
in_ranges c p has_pointer =
    let below = has_pointer.below in
    let counted = has_pointer.counted in
    cond-false _ _ _ (not_beyond p below counted) ∙ cond-false _ _ _ (not_alone p counted)
    ∙ has_pointer.has
  where
    not_beyond : (p : ℕ) → p < 1237576 → is_ranges_pointer p ≡ true
        → decoder.is_beyond_ranges p ≡ false
    not_beyond p l n = grind (arith, nat_tests)

    not_alone : (p : ℕ) → is_ranges_pointer p ≡ true → (p == 7457) ≡ false
    not_alone p n = grind (arith, nat_tests)

-- the pointer 7457 has U+E7C7
four_at : (c p : ℕ) (t : Bool) → (c == 0xE7C7) ≡ t
    → cond t (Some 7457) (pointer_of gb18030_ranges_at is_ranges_pointer no_character 1237576 c)
    ≡ Some p
    → Piece (gb18030_four_bytes p) c
four_at c p true t e =
    let same : 7457 ≡ p = cc in
    let char : 0xE7C7 ≡ c = grind (arith, nat_tests) in
    subst (λ q. Piece (gb18030_four_bytes q) c) same
    (four_piece c 7457 (omega arith) (ap Some char))
four_at c p false t e =
    let has_pointer = is_pointer gb18030_ranges_at is_ranges_pointer no_character 1237576 c p e in
    four_piece c p has_pointer.below (in_ranges c p has_pointer)

four : (c p : ℕ) → gb18030_ranges_pointer c ≡ Some p → Piece (gb18030_four_bytes p) c
unfolding gb18030_ranges_pointer
four c p e = four_at c p (c == 0xE7C7) refl e

-- rows of private use, whose bytes the index gives to other characters

abbrev is_read_as : ℕ × ℕ × ℕ → ℕ × ℕ → Bool
is_read_as row read =
    (row.0 == read.0 && not (decoder.is_digit row.2))
    && (decoder.is_gb18030_lead row.1
    && is_character read.1 (decoder.gb18030_pair_char row.1 row.2))

abbrev are_read_as : List (ℕ × ℕ × ℕ) → List (ℕ × ℕ) → Bool
are_read_as [] [] = true
are_read_as [] (read ∷ reads) = false
are_read_as (row ∷ rows) [] = false
are_read_as (row ∷ rows) (read ∷ reads) = is_read_as row read && are_read_as rows reads

rows_are_read : are_read_as private_use_rows replaced_characters ≡ true
unfolding runs_of
rows_are_read = refl

same_code : (row : ℕ × ℕ × ℕ) (read : ℕ × ℕ) → is_read_as row read ≡ true → row.0 ≡ read.0
same_code row read h =
    let same : (row.0 == read.0) ≡ true = first_so _ _ (first_so _ _ h) in grind (arith, nat_tests)

row_piece : (row : ℕ × ℕ × ℕ) (read : ℕ × ℕ) → is_read_as row read ≡ true
    → Piece (row.1 ∷ row.2 ∷ []) read.1
row_piece row read h =
    let code_and_trail : (row.0 == read.0 && not (decoder.is_digit row.2)) ≡ true =
    first_so _ _ h in
    let no_digit = not-true (decoder.is_digit row.2) (second_so _ _ code_and_trail) in
    let bytes_match : (decoder.is_gb18030_lead row.1
    && is_character read.1 (decoder.gb18030_pair_char row.1 row.2)) ≡ true = second_so _ _ h in
    complete_two decoder.gb18030_prefix row.1 row.2 read.1
    (ap (λ t. first_prefix t (decoder.gb18030_single_char row.1)) (first_so _ _ bytes_match))
    (cond-false (decoder.is_digit row.2) Incomplete _ no_digit
    ∙ ap (λ o. trail_prefix 1 row.2 (text_of_char o))
    (has_character read.1 _ (second_so _ _ bytes_match)))

row_is_read : (rows : List (ℕ × ℕ × ℕ)) (reads : List (ℕ × ℕ)) (c : ℕ)
    → are_read_as rows reads ≡ true
    → IfSome (row_bytes rows c) (λ b. Piece b (char_by_rows reads c))
row_is_read [] reads c rows_match = tt
row_is_read (row ∷ rows) [] c rows_match = cc
row_is_read (row ∷ rows) (read ∷ reads) c rows_match =
    rw (sym (same_code row read (first_so _ _ rows_match))) (elim (true_or_false (row.0 == c)) [
      | inl is_here ↦ rw is_here (row_piece row read (first_so _ _ rows_match))
      | inr is_later ↦ rw is_later (row_is_read rows reads c (second_so _ _ rows_match))
    ])

itself_if_none : (rows : List (ℕ × ℕ × ℕ)) (reads : List (ℕ × ℕ)) (c : ℕ)
    → are_read_as rows reads ≡ true → row_bytes rows c ≡ None → char_by_rows reads c ≡ c
itself_if_none [] [] c rows_match none = refl
itself_if_none [] (read ∷ reads) c rows_match none = cc
itself_if_none (row ∷ rows) [] c rows_match none = cc
itself_if_none (row ∷ rows) (read ∷ reads) c rows_match none =
    rw (sym (same_code row read (first_so _ _ rows_match))) (elim (true_or_false (row.0 == c)) [
      | inl is_here ↦ let no : ⊥ = (let impossible = rw is_here at none in cc) in absurd no
      | inr is_later ↦ rw is_later
          (itself_if_none rows reads c (second_so _ _ rows_match) (rw is_later at none))
    ])

-- all characters

two_or_four_read : (is_gbk : Bool) (c : ℕ) (o : Option ℕ) → gb18030_pointer c ≡ o
    → IfSome (two_or_four_bytes is_gbk c o) (λ b. Piece b c)
two_or_four_read is_gbk c (Some p) found = two_piece c p found
two_or_four_read true c None found = tt
two_or_four_read false c None found =
    by_pointer (λ x. Piece x c) gb18030_four_bytes (gb18030_ranges_pointer c) (four c)

row_or_index_read : (is_gbk : Bool) (c : ℕ) (o : Option (List ℕ)) → row_bytes private_use_rows c ≡ o
    → IfSome (row_or_index_bytes is_gbk c o) (λ b. Piece b (char_by_rows replaced_characters c))
row_or_index_read is_gbk c (Some x) found =
    rw found at (row_is_read private_use_rows replaced_characters c rows_are_read)
row_or_index_read is_gbk c None found =
    rw (itself_if_none private_use_rows replaced_characters c rows_are_read found)
    (two_or_four_read is_gbk c (gb18030_pointer c) refl)

beyond : (is_gbk : Bool) (c : ℕ)
    → IfSome (gb18030_other is_gbk c) (λ b. Piece b (char_by_rows replaced_characters c))
beyond is_gbk c = elim (true_or_false (c == 0xE5E5)) [
  | inl is_missing ↦ rw is_missing tt
  | inr not_missing ↦ elim (true_or_false (is_gbk && c == 0x20AC)) [
    | inl is_euro ↦
        let euro : (c == 0x20AC) ≡ true = second_so is_gbk (c == 0x20AC) is_euro in
        let same : c ≡ 0x20AC = grind (arith, nat_tests) in
        let char_is : char_by_rows replaced_characters c ≡ 0x20AC =
        ap (char_by_rows replaced_characters) same in
        rw (not_missing, is_euro, char_is) euro_piece
    | inr not_euro ↦ rw (not_missing, not_euro)
        (row_or_index_read is_gbk c (row_bytes private_use_rows c) refl)
  ]
]

low_itself : (c : ℕ) → c < 0x80 → char_by_rows replaced_characters c ≡ c
low_itself c low =
    let out : (nat_le 0xE5E5 c && nat_le c 0xE864) ≡ false = grind (arith, nat_tests) in
    itself_if_none private_use_rows replaced_characters c rows_are_read (no_private_use_row c out)

pub gb18030_is_read : (is_gbk : Bool)
    → IsReadBack (prefix_rule decoder.gb18030_prefix) (gb18030_bytes is_gbk)
    (char_by_rows replaced_characters)
gb18030_is_read is_gbk =
    with_ascii_is_read (prefix_rule decoder.gb18030_prefix) (gb18030_other is_gbk)
    (char_by_rows replaced_characters) (λ c low. rw (low_itself c low) (low_piece c low))
    (λ c high. beyond is_gbk c)

-- a text without the characters of rows

itself : (rows : List (ℕ × ℕ)) (c : ℕ) → has_row rows c ≡ false → char_by_rows rows c ≡ c
itself [] c none = refl
itself (row ∷ rows) c none =
    let both = or_parts (row.0 == c) (has_row rows c) none in
    cond-false _ _ _ both.0 ∙ itself rows c both.1

pub gb18030_keeps : (t : List ℕ) → not (any_read_as_other t) ≡ true
    → map (char_by_rows replaced_characters) t ≡ t
gb18030_keeps t h = all_itself t (not-true _ h)
  where
    all_itself : (t : List ℕ) → any_read_as_other t ≡ false
        → map (char_by_rows replaced_characters) t ≡ t
    all_itself [] none = refl
    all_itself (c ∷ t) none =
        let both = or_parts (has_row replaced_characters c) (any_read_as_other t) none in
        ap (λ x. x ∷ map (char_by_rows replaced_characters) t) (itself replaced_characters c both.0)
        ∙ ap (λ x. c ∷ x) (all_itself t both.1)
