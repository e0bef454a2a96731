-- Each encoding without escape sequences keeps the law of a repertoire. Those of PlainRepertoires
-- do by `two_bytes`.
use Rattle.std.proofs.Common.{ℕ, ◌-◌, ◌+◌, ◌*◌, ◌≤◌, Bool, true, false, ◌&&◌, ◌==◌, nat_le, Option, Some, None, List}
use Rattle.std.proofs.Common.{[], ◌∷◌, ap, arith}
use Rattle.std.proofs.lemmas.Str.{encode_ascii, length-encode, len_utf8_bounds}
use Rattle.enc_index.specs.declared.single_byte_index.SingleByteIndex.{SingleByteIndex}
use Rattle.enc_index_pointers.specs.Pointers.{single_byte_pointer, big5_pointer, jis0208_pointer}
use Rattle.enc_index_pointers.specs.Pointers.{shift_jis_pointer, gb18030_pointer, gb18030_ranges_pointer}
use Rattle.enc_encoder.specs.declared.byte_lengths.ByteLengths.{ByteLengths}
use Rattle.enc_encoder.specs.declared.byte_lengths.ByteLengths.TheVariants.{Utf8, OneByte, TwoBytes, Gb18030}
use Rattle.enc_encoder.specs.Lengths.{max_bytes_per_utf_8_unit, max_bytes_per_utf_16_unit}
use Rattle.enc_encoder.specs.Stateless.{with_ascii, IsLawfulRepertoire}
use Rattle.enc_encoder.proofs.SizeLemmas.{size, up_to_if, up_to_by, up_to_ascii, are_few}
use Rattle.enc_encoder.proofs.StatelessLemmas.{with_ascii_writes_ascii}
use Rattle.enc_encoder.proofs.EnoughLemmas.{keeps, from_utf_16_to_8}
use Rattle.enc_encode.specs.Utf8.{utf_8_bytes}
use Rattle.enc_encode.specs.SingleByte.{single_byte_of_pointer, single_byte_bytes, x_user_defined_bytes}
use Rattle.enc_encode.specs.Big5.{big5_pair_bytes, big5_bytes}
use Rattle.enc_encode.specs.Japanese.{is_halfwidth_katakana, katakana_byte, with_fullwidth_minus}
use Rattle.enc_encode.specs.ShiftJis.{shift_jis_pair_bytes, shift_jis_bytes}
use Rattle.enc_encode.specs.EucJp.{euc_jp_pair_bytes, euc_jp_bytes}
use Rattle.enc_encode.specs.PrivateUse.{private_use_rows}
use Rattle.enc_encode.specs.Gb18030.{gb18030_four_bytes, two_or_four_bytes, row_bytes, row_or_index_bytes}
use Rattle.enc_encode.specs.Gb18030.{gb18030_other, gb18030_bytes, gb18030_lengths}

-- where the characters beyond ASCII have at most n bytes, for which the formulas have room
lawful_up_to : (n : ℕ) (formulas : ByteLengths) (others : ℕ → Option (List ℕ)) → 1 ≤ n → n ≤ 4
    → 1 ≤ max_bytes_per_utf_8_unit formulas → n ≤ 2 * max_bytes_per_utf_8_unit formulas
    → n ≤ max_bytes_per_utf_16_unit formulas → ((c : ℕ) → size (others c) ≤ n)
    → IsLawfulRepertoire formulas (with_ascii others)
lawful_up_to n formulas others some few in_ascii in_utf_8 in_utf_16 most =
    let ascii = with_ascii_writes_ascii others in
    let of_all : (c : ℕ) → size (with_ascii others c) ≤ n =
    λ c. up_to_ascii n others c some (most c) in
    record {
      ascii = ascii;
      few = are_few n (with_ascii others) few of_all;
      lengths = keeps n formulas (with_ascii others) ascii of_all in_ascii in_utf_8 in_utf_16;
    }

-- by family: at most one byte, two, or four

one_byte : (others : ℕ → Option (List ℕ)) → ((c : ℕ) → size (others c) ≤ 1)
    → IsLawfulRepertoire OneByte (with_ascii others)
one_byte others =
    lawful_up_to 1 OneByte others (omega arith) (omega arith) (omega arith) (omega arith)
    (omega arith)

pub two_bytes : (others : ℕ → Option (List ℕ)) → ((c : ℕ) → size (others c) ≤ 2)
    → IsLawfulRepertoire TwoBytes (with_ascii others)
two_bytes others =
    lawful_up_to 2 TwoBytes others (omega arith) (omega arith) (omega arith) (omega arith)
    (omega arith)

four_bytes : (others : ℕ → Option (List ℕ)) → ((c : ℕ) → size (others c) ≤ 4)
    → IsLawfulRepertoire Gb18030 (with_ascii others)
four_bytes others =
    lawful_up_to 4 Gb18030 others (omega arith) (omega arith) (omega arith) (omega arith)
    (omega arith)

-- each encoding

pub utf_8 : IsLawfulRepertoire Utf8 utf_8_bytes
utf_8 = record {
  ascii = λ c is_ascii. ap Some (encode_ascii c is_ascii);
  few = record {
    few = λ c. let bounds = len_utf8_bounds c in omega (arith, length-encode c, bounds.1);
  };
  lengths = record { by_utf_8 = λ c. omega arith; by_utf_16 = from_utf_16_to_8 };
}

pub single_byte : (index : SingleByteIndex) → IsLawfulRepertoire OneByte (single_byte_bytes index)
single_byte index =
    one_byte _ (λ c. up_to_by 1 single_byte_of_pointer (single_byte_pointer index c)
    (λ n. omega arith))

pub x_user_defined : IsLawfulRepertoire OneByte x_user_defined_bytes
x_user_defined =
    one_byte _ (λ c. up_to_if 1 (nat_le 0xF780 c && nat_le c 0xF7FF)
    (Some ((c - 0xF780 + 0x80) ∷ [])) None (omega arith) (omega arith))

pub big5 : IsLawfulRepertoire TwoBytes big5_bytes
big5 = two_bytes _ (λ c. up_to_by 2 big5_pair_bytes (big5_pointer c) (λ n. omega arith))

pub shift_jis : IsLawfulRepertoire TwoBytes shift_jis_bytes
shift_jis =
    two_bytes _ (λ c. up_to_if 2 (c == 0x80) (Some (0x80 ∷ [])) _ (omega arith)
    (up_to_if 2 (c == 0xA5) (Some (0x5C ∷ [])) _ (omega arith)
    (up_to_if 2 (c == 0x203E) (Some (0x7E ∷ [])) _ (omega arith)
    (up_to_if 2 (is_halfwidth_katakana c) (Some (katakana_byte c ∷ [])) _ (omega arith)
    (up_to_by 2 shift_jis_pair_bytes (shift_jis_pointer (with_fullwidth_minus c))
    (λ n. omega arith))))))

pub euc_jp : IsLawfulRepertoire TwoBytes euc_jp_bytes
euc_jp =
    two_bytes _ (λ c. up_to_if 2 (c == 0xA5) (Some (0x5C ∷ [])) _ (omega arith)
    (up_to_if 2 (c == 0x203E) (Some (0x7E ∷ [])) _ (omega arith)
    (up_to_if 2 (is_halfwidth_katakana c) (Some (0x8E ∷ katakana_byte c ∷ [])) _ (omega arith)
    (up_to_by 2 euc_jp_pair_bytes (jis0208_pointer (with_fullwidth_minus c)) (λ n. omega arith)))))

-- a row has two bytes, and a pointer two, or in gb18030 four

two_of_row : (rows : List (ℕ × ℕ × ℕ)) (c : ℕ) → size (row_bytes rows c) ≤ 2
two_of_row [] c = omega arith
two_of_row (row ∷ rows) c =
    up_to_if 2 (row.0 == c) (Some (row.1 ∷ row.2 ∷ [])) (row_bytes rows c) (omega arith)
    (two_of_row rows c)

two_by_index : (c : ℕ) (pointer : Option ℕ) → size (two_or_four_bytes true c pointer) ≤ 2
two_by_index c (Some pointer) = omega arith
two_by_index c None = omega arith

four_by_index : (c : ℕ) (pointer : Option ℕ) → size (two_or_four_bytes false c pointer) ≤ 4
four_by_index c (Some pointer) = omega arith
four_by_index c None = up_to_by 4 gb18030_four_bytes (gb18030_ranges_pointer c) (λ n. omega arith)

two_in_gbk : (c : ℕ) (row : Option (List ℕ)) → size row ≤ 2
    → size (row_or_index_bytes true c row) ≤ 2
two_in_gbk c (Some bytes) two = two
two_in_gbk c None two = two_by_index c (gb18030_pointer c)

four_in_gb18030 : (c : ℕ) (row : Option (List ℕ)) → size row ≤ 2
    → size (row_or_index_bytes false c row) ≤ 4
four_in_gb18030 c (Some bytes) two = omega (arith, two)
four_in_gb18030 c None two = four_by_index c (gb18030_pointer c)

pub gb18030 : (is_gbk : Bool) → IsLawfulRepertoire (gb18030_lengths is_gbk) (gb18030_bytes is_gbk)
gb18030 true =
    two_bytes (gb18030_other true) (λ c. up_to_if 2 (c == 0xE5E5) None _ (omega arith)
    (up_to_if 2 (c == 0x20AC) (Some (0x80 ∷ [])) _ (omega arith)
    (two_in_gbk c (row_bytes private_use_rows c) (two_of_row private_use_rows c))))
gb18030 false =
    four_bytes (gb18030_other false) (λ c. up_to_if 4 (c == 0xE5E5) None _ (omega arith)
    (four_in_gb18030 c (row_bytes private_use_rows c) (two_of_row private_use_rows c)))
