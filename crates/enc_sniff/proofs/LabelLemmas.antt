-- The encoding of a label, by its bytes without the white space around them.
use Rattle.std.proofs.Common.{◌≡◌, ℕ, ◌+◌, ◌-◌, ◌<◌, ◌≤◌, true, false, List, [], ◌∷◌, ◌++◌, length}
use Rattle.std.proofs.Common.{map, take, drop, inl, inr, None, refl, sym, ap, ◌∙◌, arith, nat_le}
use Rattle.std.proofs.Common.{leb-true, Option}
use Rattle.std.specs.Prelude.{Bool, cond, ◌==◌, ◌&&◌, option_map, reverse}
use Rattle.std.specs.List.{prefix_len, suffix_len, list_all}
use Rattle.std.specs.Char.{is_ascii_whitespace, to_ascii_lowercase}
use Rattle.std.specs.Str.{bytes_eq}
use Rattle.std.proofs.lemmas.Bool.{cases_Bool, and_parts, cond-true, cond-false, eq-eqb, ne_eqb}
use Rattle.std.proofs.lemmas.Bool.{eqb-true, eqb-false, leb-false, cases_lt, true≢false}
use Rattle.std.proofs.lemmas.List.{reverse-append, length-reverse, length-append, length-take-le}
use Rattle.std.proofs.lemmas.List.{take-append-le, length-map}
use Rattle.std.proofs.lemmas.List.Sums.{prefix_len-le-length, prefix_len_stops, prefix_len-drop_no}
use Rattle.std.proofs.lemmas.List.Sums.{prefix_len-drop_all}
use Rattle.std.proofs.lemmas.List.Folds.{prefix_len-append}
use Rattle.enc_names.specs.declared.encoding_id.EncodingId.{EncodingId}
use Rattle.enc_names.specs.LabelIds.{id_pairs, id_paired_with, trim_start, trim_end}
use Rattle.enc_names.proofs.WordSearchLemmas.{differs}
use Rattle.enc_stream.specs.declared.encoding.Encoding.{Encoding}
use Rattle.enc_stream.specs.Labels.{encoding_of_label}
use Rattle.enc_sniff.specs.Positions.{past}

-- One more byte before others. They are n passed of len, or all; and with the byte p of l.
reversed_step :
    (white all : Bool) (n len p l : ℕ) → n ≤ len → (n == len) ≡ all
    → p ≡ cond (n == len) (len + cond white 1 0) n → l ≡ len + 1 → (p == l) ≡ (white && all)
reversed_step true true n len p l within same p_is l_is =
    let now : p ≡ len + 1 = p_is ∙ cond-true _ _ _ same in eq-eqb p l (omega arith)
reversed_step false true n len p l within same p_is l_is =
    let now : p ≡ len + 0 = p_is ∙ cond-true _ _ _ same in
    ne_eqb p l (λ equal. omega arith)
reversed_step true false n len p l within same p_is l_is =
    let now : p ≡ n = p_is ∙ cond-false _ _ _ same in ne_eqb p l (λ equal. omega arith)
reversed_step false false n len p l within same p_is l_is =
    let now : p ≡ n = p_is ∙ cond-false _ _ _ same in ne_eqb p l (λ equal. omega arith)

-- whether all bytes are white space, from the last to the first
all_reversed :
    (s : List ℕ)
    → (prefix_len is_ascii_whitespace (reverse s) == length (reverse s))
    ≡ list_all is_ascii_whitespace s
all_reversed [] = refl
all_reversed (b ∷ s) =
    reversed_step (is_ascii_whitespace b) (list_all is_ascii_whitespace s)
    (prefix_len is_ascii_whitespace (reverse s)) (length (reverse s)) _ _
    (prefix_len-le-length is_ascii_whitespace (reverse s)) (all_reversed s)
    (ap (prefix_len is_ascii_whitespace) (reverse-append (b ∷ []) s)
    ∙ prefix_len-append is_ascii_whitespace (reverse s) (b ∷ []))
    (ap length (reverse-append (b ∷ []) s) ∙ length-append (reverse s) (b ∷ []))

-- the white space at the end of two parts
trailing_all :
    (front rest : List ℕ) → list_all is_ascii_whitespace rest ≡ true
    → suffix_len is_ascii_whitespace (front ++ rest)
    ≡ length rest + suffix_len is_ascii_whitespace front
trailing_all front rest blank =
    ap (prefix_len is_ascii_whitespace) (reverse-append front rest)
    ∙ prefix_len-append is_ascii_whitespace (reverse rest) (reverse front)
    ∙ cond-true _ _ _ (all_reversed rest ∙ blank)
    ∙ ap (λ (n : ℕ). n + suffix_len is_ascii_whitespace front) (length-reverse rest)

trailing_some :
    (front rest : List ℕ) → list_all is_ascii_whitespace rest ≡ false
    → suffix_len is_ascii_whitespace (front ++ rest) < length rest
trailing_some front rest filled =
    let same : suffix_len is_ascii_whitespace (front ++ rest)
    ≡ prefix_len is_ascii_whitespace (reverse rest) =
    ap (prefix_len is_ascii_whitespace) (reverse-append front rest)
    ∙ prefix_len-append is_ascii_whitespace (reverse rest) (reverse front)
    ∙ cond-false _ _ _ (all_reversed rest ∙ filled) in
    let within = prefix_len-le-length is_ascii_whitespace (reverse rest) in
    let part = eqb-false (prefix_len is_ascii_whitespace (reverse rest)) (length (reverse rest))
    (all_reversed rest ∙ filled) in
    omega (arith, same, within, part, length-reverse rest)

-- white space after a word is trimmed
ends_trimmed :
    (front rest : List ℕ) → list_all is_ascii_whitespace rest ≡ true
    → trim_end (front ++ rest) ≡ trim_end front
ends_trimmed front rest blank =
    let count : length (front ++ rest) - suffix_len is_ascii_whitespace (front ++ rest)
    ≡ length front - suffix_len is_ascii_whitespace front =
    omega (arith, trailing_all front rest blank, length-append front rest) in
    ap (λ (n : ℕ). take n (front ++ rest)) count ∙ take-append-le _ front rest (omega arith)

-- a word with other bytes after it is longer than it
keeps_more :
    (front rest : List ℕ) → list_all is_ascii_whitespace rest ≡ false
    → length front < length (trim_end (front ++ rest))
keeps_more front rest filled =
    let whole = front ++ rest in
    let count = length-take-le (length whole - suffix_len is_ascii_whitespace whole) whole
    (omega arith) in
    omega (arith, count, trailing_some front rest filled, length-append front rest)

-- no label has more than 19 bytes

abbrev are_short : List (List ℕ × EncodingId) → Bool
are_short pairs = list_all (λ pair. nat_le (length pair.0) 19) pairs

all_short : are_short id_pairs ≡ true
unfolding id_pairs
all_short = refl

longer_than_pairs :
    (pairs : List (List ℕ × EncodingId)) (word : List ℕ) → are_short pairs ≡ true
    → 19 < length word → id_paired_with pairs word ≡ None
longer_than_pairs [] word short longer = refl
longer_than_pairs (pair ∷ pairs) word short longer =
    let both : (nat_le (length pair.0) 19 ≡ true) × (are_short pairs ≡ true) =
    and_parts _ _ short in
    let other : bytes_eq pair.0 word ≡ false = differs pair.0 word
    (λ same. absurd (omega (arith, ap length same, leb-true (length pair.0) 19 both.0))) in
    rw (other, longer_than_pairs pairs word both.1 longer) refl

-- the encoding of a trimmed word

abbrev encoding_of_id : Option EncodingId → Option Encoding
encoding_of_id found = option_map (λ id. record { id = id }) found

abbrev encoding_of_word : List ℕ → Option Encoding
encoding_of_word word = encoding_of_id (id_paired_with id_pairs (map to_ascii_lowercase word))

-- what is left after the white space at the front begins with none
no_more :
    (label : List ℕ) → prefix_len is_ascii_whitespace (past is_ascii_whitespace label) ≡ 0
no_more label =
    let len = prefix_len is_ascii_whitespace label in
    elim (cases_Bool (nat_le (length label) len)) [
      | inl ended ↦ prefix_len-drop_all is_ascii_whitespace label len (leb-true _ _ ended)
      | inr more ↦ prefix_len-drop_no is_ascii_whitespace label len 0 (leb-false _ _ more)
          (prefix_len_stops is_ascii_whitespace label 0 (leb-false _ _ more))
    ]

-- nor does its front
first_len : (n m len : ℕ) → cond (n == len) (len + m) n ≡ 0 → n ≡ 0
first_len n m len none = elim (cases_Bool (n == len)) [
  | inl same ↦
      (let now : len + m ≡ 0 = sym (cond-true _ _ _ same) ∙ none in
      omega (arith, eqb-true n len same))
  | inr other ↦ sym (cond-false _ _ _ other) ∙ none
]

bare :
    (label front rest : List ℕ) → front ++ rest ≡ past is_ascii_whitespace label
    → trim_start front ≡ front
bare label front rest split =
    let whole : prefix_len is_ascii_whitespace (front ++ rest) ≡ 0 =
    ap (prefix_len is_ascii_whitespace) split ∙ no_more label in
    let parts = prefix_len-append is_ascii_whitespace front rest in
    ap (λ (n : ℕ). drop n front) (first_len (prefix_len is_ascii_whitespace front)
    (prefix_len is_ascii_whitespace rest) (length front) (sym parts ∙ whole))

-- white space after the front of a label does not matter
pub label_is :
    (label front rest : List ℕ) → front ++ rest ≡ past is_ascii_whitespace label
    → list_all is_ascii_whitespace rest ≡ true → encoding_of_label front ≡ encoding_of_label label
label_is label front rest split blank =
    ap encoding_of_word
    (ap trim_end (bare label front rest split) ∙ sym (ends_trimmed front rest blank)
    ∙ ap trim_end split)

-- bytes that no label begins with, and others after them
longer_is_none :
    (label front rest : List ℕ) → front ++ rest ≡ past is_ascii_whitespace label
    → list_all is_ascii_whitespace rest ≡ false → 19 ≤ length front
    → None ≡ encoding_of_label label
longer_is_none label front rest split filled full =
    let more = keeps_more front rest filled in
    let same : trim_end (front ++ rest) ≡ trim_end (trim_start label) = ap trim_end split in
    let word : List ℕ = map to_ascii_lowercase (trim_end (trim_start label)) in
    let long : 19 < length word =
    omega (
      arith,
      more,
      ap length same,
      length-map (trim_end (trim_start label)) to_ascii_lowercase,
    ) in
    sym (ap encoding_of_id (longer_than_pairs id_pairs word all_short long))

-- other bytes after as many as there is room for
pub no_label :
    (label room rest : List ℕ) (len : ℕ) → take len room ++ rest ≡ past is_ascii_whitespace label
    → list_all is_ascii_whitespace rest ≡ false → (len < length room → rest ≡ [])
    → len ≤ length room → length room ≡ 19 → None ≡ encoding_of_label label
no_label label room rest len split filled ended within size = elim (cases_lt len (length room)) [
  | inl less ↦ absurd (true≢false (ap (list_all is_ascii_whitespace) (sym (ended less)) ∙ filled))
  | inr full ↦
      (let count = length-take-le len room within in
      longer_is_none label (take len room) rest split filled (omega (arith, count)))
]
