-- Texts in UTF-16, and their bytes.
use Rattle.std.proofs.Common.{◌≡◌, ℕ, suc, ◌+◌, ◌<◌, ◌≤◌, List, []}
use Rattle.std.proofs.Common.{◌∷◌, ◌++◌, length, take, refl, ap, ◌∙◌, sym}
use Rattle.std.proofs.Common.{append_assoc, arith, chars, IsUtf8, length-set, length-append, subst, drop, ◌-◌}
use Rattle.std.proofs.lemmas.Grind.{common_steps}
use Rattle.std.proofs.lemmas.List.{take_more, take_more_set}
use Rattle.std.proofs.Common.{cond, nat_lt, nat_le, true, false, Bool, get_or, append-nil, ◌*◌, set}
use Rattle.std.proofs.lemmas.Bool.Decides.{nat_tests}
use Rattle.std.proofs.lemmas.List.{take-append-le}
use Rattle.std.proofs.lemmas.Str.{chars-encodes, IsCharBoundary-from_take, length-encode, len_utf8_bounds}
use Rattle.std.specs.Str.{encode_utf8_all, IsCharBoundary}
use Rattle.std.specs.Char.{encode_utf8, IsScalar}
use Rattle.std.specs.Char.Escape.{encode_utf16}
use Rattle.enc_utf8.specs.Pieces.{Piece, piece_bytes, piece_chars, EachMeansChar, IsUtf8Char}
use Rattle.enc_utf8.specs.Text.{AreScalars, units_of_text}
use Rattle.enc_utf8.proofs.UnitsLemmas.{units-append}
use Rattle.enc_output.specs.Output.{Output, with_appended}
use Rattle.enc_output.specs.PieceRuns.{ReadsPieces, PutsPieces}
use Rattle.enc_output.proofs.PiecesLemmas.{then_rest, one_piece}
use Rattle.enc_writer.specs.declared.byte_order.ByteOrder.{ByteOrder}
use Rattle.enc_writer.specs.declared.byte_order.ByteOrder.TheVariants.{LittleEndian, BigEndian}
use Rattle.enc_writer.specs.Utf16.{unit_bytes, bytes_of_units, utf16_bytes}

pub bytes_of_units-append : (order : ByteOrder) (us vs : List ℕ)
    → bytes_of_units order (us ++ vs) ≡ bytes_of_units order us ++ bytes_of_units order vs
bytes_of_units-append order [] vs = refl
bytes_of_units-append order (u ∷ us) vs =
    ap (λ bytes. unit_bytes order u ++ bytes) (bytes_of_units-append order us vs)
    ∙ sym (append_assoc (unit_bytes order u) (bytes_of_units order us) (bytes_of_units order vs))

pub utf16_bytes-append : (order : ByteOrder) (t u : List ℕ)
    → utf16_bytes order (t ++ u) ≡ utf16_bytes order t ++ utf16_bytes order u
utf16_bytes-append order t u =
    ap (bytes_of_units order) (units-append encode_utf16 t u)
    ∙ bytes_of_units-append order (units_of_text encode_utf16 t) (units_of_text encode_utf16 u)

-- the first two bytes
abbrev pub pair_of : List ℕ → List ℕ
pair_of bytes = get_or bytes 0 0 ∷ get_or bytes 1 0 ∷ []

pair_is : (order : ByteOrder) (u : ℕ) (bytes : List ℕ) → bytes ≡ unit_bytes order u
    → pair_of bytes ≡ unit_bytes order u
pair_is LittleEndian u bytes bytes_are = ap pair_of bytes_are
pair_is BigEndian u bytes bytes_are = ap pair_of bytes_are

-- the bytes of one code unit more
pub bytes_of_units-more : (order : ByteOrder) (us : List ℕ) (i : ℕ) → i < length us
    → (front bytes : List ℕ) → bytes ≡ unit_bytes order (get_or us i 0)
    → (front ++ bytes_of_units order (take i us)) ++ pair_of bytes
    ≡ front ++ bytes_of_units order (take (i + 1) us)
bytes_of_units-more order us i within front bytes bytes_are =
    let unit = get_or us i 0 in
    append_assoc front (bytes_of_units order (take i us)) (pair_of bytes)
    ∙ ap (λ z. front ++ (bytes_of_units order (take i us) ++ z))
    (pair_is order unit bytes bytes_are ∙ sym (append-nil (unit_bytes order unit)))
    ∙ ap (λ z. front ++ z) (sym (bytes_of_units-append order (take i us) (unit ∷ [])))
    ∙ ap (λ z. front ++ bytes_of_units order z) (sym (take_more us i 0 within))

-- pieces of UTF-8 are a text in UTF-8
piece_bytes-utf8 : (pieces : List Piece) → EachMeansChar IsUtf8Char pieces
    → piece_bytes pieces ≡ encode_utf8_all (piece_chars pieces)
piece_bytes-utf8 [] mean = refl
piece_bytes-utf8 (p ∷ pieces) mean =
    ap (λ bytes. bytes ++ piece_bytes pieces) mean.0.1
    ∙ ap (λ bytes. encode_utf8 p.char ++ bytes) (piece_bytes-utf8 pieces mean.1)

-- The front of a text that is read is a text.
module _ {src : List ℕ} {n : ℕ} {text : List ℕ} (scalars : AreScalars text)
    (reads : ReadsPieces IsUtf8Char src n text) where
  front_bytes : encode_utf8_all text ≡ take n src
  front_bytes = ap encode_utf8_all (sym reads.chars)
      ∙ sym (piece_bytes-utf8 reads.pieces reads.mean) ∙ reads.bytes

  pub front_chars : chars (take n src) ≡ text
  front_chars = ap chars (sym front_bytes) ∙ chars-encodes text scalars

  pub front_boundary : IsUtf8 src → IsCharBoundary src n
  front_boundary is_utf_8 =
      IsCharBoundary-from_take src n is_utf_8 reads.within (text, (scalars, front_bytes))

-- the code units that are put out: those of the front that is read
pub units_written : {before after : Output} {src : List ℕ} {n : ℕ}
    → PutsPieces encode_utf16 IsUtf8Char before after src n → before.written ≡ []
    → after.written ≡ units_of_text encode_utf16 (chars (take n src))
units_written {before} puts none =
    ap (λ (o : Output). o.written) puts.written
    ∙ ap (λ units. units ++ units_of_text encode_utf16 puts.text) none
    ∙ ap (units_of_text encode_utf16) (sym (front_chars puts.scalars puts.reads))

units_at_most : (c : ℕ) → length (encode_utf16 c) ≤ 2
units_at_most c = by_plane _ _ _ (nat_lt c 0x1_0000)
  where
    by_plane : (a b d : ℕ) (t : Bool) → length (cond t (a ∷ []) (b ∷ d ∷ [])) ≤ 2
    by_plane a b d true = omega arith
    by_plane a b d false = omega arith

fits : (a b : ℕ) → a ≤ b → nat_le a b ≡ true
fits a b within = grind (arith, nat_tests)

take_front : (xs ys : List ℕ) → take (length xs) (xs ++ ys) ≡ xs
take_front xs ys = search (arith, common_steps)

-- The first character of a text is put out, after nothing was.
pub first_put : {before mid after : Output} {text : List ℕ} (rest : List ℕ) (none len c : ℕ)
    → PutsPieces encode_utf16 IsUtf8Char before mid text none → none ≡ 0 → 2 ≤ before.room
    → IsScalar c → text ≡ encode_utf8 c ++ rest → len ≡ length (encode_utf8 c)
    → (nat_le (length (encode_utf16 c)) mid.room ≡ true
    → after ≡ with_appended mid (encode_utf16 c))
    → PutsPieces encode_utf16 IsUtf8Char before after text len
first_put {before} {mid} {after} {text} rest none len c puts none_read room scalar text_is
    len_is put =
    let no_pieces = puts.reads.none none_read in
    let no_text : puts.text ≡ [] = sym puts.reads.chars ∙ ap piece_chars no_pieces in
    let room_is : mid.room ≡ before.room - 0 = ap (λ (o : Output). o.room) puts.written
    ∙ ap (λ t. before.room - length (units_of_text encode_utf16 t)) no_text in
    let test : nat_le (length (encode_utf16 c)) mid.room ≡ true =
    fits (length (encode_utf16 c)) mid.room (omega (arith, units_at_most c, room_is, room)) in
    let front : take len text ≡ encode_utf8 c =
    ap (take len) text_is ∙ ap (λ k. take k (encode_utf8 c ++ rest)) len_is
    ∙ take_front (encode_utf8 c) rest in
    let within : len ≤ length text =
    omega (arith, ap length text_is, length-append (encode_utf8 c) rest, len_is) in
    let some : 0 < len = omega (arith, len_is, length-encode c, len_utf8_bounds c) in
    let sum : none + len ≡ len = omega (arith, none_read) in
    subst (PutsPieces encode_utf16 IsUtf8Char before after text) sum
    (then_rest {rest = text} {a = none} {n = len} (sym (ap (λ k. drop k text) none_read)) puts
    (one_piece c some within scalar (scalar, front) test (put test)))

-- Two bytes are stored after the first `at`.
pub stored_pair : (output : List ℕ) (at b c : ℕ) → at + 1 < length output
    → take (at + 2) (set (set output at b) (at + 1) c) ≡ take at output ++ b ∷ c ∷ []
stored_pair output at b c within =
    let one = set output at b in
    let shorter : at + 2 ≡ (at + 1) + 1 = omega arith in
    let room : at + 1 < length one = rw (length-set output at b) within in
    ap (λ k. take k (set one (at + 1) c)) shorter
    ∙ take_more_set one (at + 1) c room
    ∙ ap (λ front. front ++ c ∷ []) (take_more_set output at b (omega arith))
    ∙ append_assoc (take at output) (b ∷ []) (c ∷ [])
