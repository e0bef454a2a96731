-- What the bytes in front can be in Big5.
use Rattle.std.proofs.Common.{◌≡◌, ℕ, Bool, true, false, cond, Option, Some, None, [], ◌++◌, length, ◌==◌, refl, arith}
use Rattle.std.proofs.Common.{subst}
use Rattle.std.proofs.lemmas.List.{length-append}
use Rattle.std.specs.Char.{encode_utf8}
use Rattle.std.specs.Char.Escape.{encode_utf16}
use Rattle.enc_decoder.specs.declared.byte_codec.Text.{Text}
use Rattle.enc_decoder.specs.declared.byte_codec.Text.TheVariants.{Two}
use Rattle.enc_decoder.specs.Prefixes.{IsPrefixText}
use Rattle.enc_decoder_multi_byte.specs.DoubleByte.{ArePairs}
use Rattle.enc_decoder_multi_byte.specs.Big5.{is_big5_lead, big5_single_char, is_big5_trail, big5_pair_pointer}
use Rattle.enc_decoder_multi_byte.specs.Big5.{big5_pointer_text, big5_pair_text, big5_prefix}
use Rattle.enc_decoder_multi_byte.proofs.DoubleByteLemmas.{char_is_text, ascii_is_basic, double_byte_laws}
use Rattle.std.proofs.lemmas.Bool.{cond-true, lt-ltb}
use Rattle.std.proofs.lemmas.Bool.Decides.{nat_tests}
use Rattle.enc_decoder_multi_byte.specs.MultiByte.{AreMultiBytePrefixes}

abbrev IsTextOf : Option Text → Type 0
IsTextOf t = (text : Text) → t ≡ Some text → IsPrefixText text

either : (t : Bool) (x y : Option Text) → IsTextOf x → IsTextOf y → IsTextOf (cond t x y)
either true x y p q = p
either false x y p q = q

-- two characters of two code units each in UTF-8, and one in UTF-16
two_are_text : (a b : ℕ) → length (encode_utf8 a) ≡ 2 → length (encode_utf8 b) ≡ 2
    → length (encode_utf16 a) ≡ 1 → length (encode_utf16 b) ≡ 1 → IsPrefixText (Two a b)
two_are_text a b e f g h = record {
  some = λ x. cc;
  small = record {
    utf_8 = omega (
      arith,
      e,
      f,
      length-append (encode_utf8 a) (encode_utf8 b ++ []),
      length-append
          (encode_utf8 b) [],
    );
    utf_16 = omega (
      arith,
      g,
      h,
      length-append (encode_utf16 a) (encode_utf16 b ++ []),
      length-append (encode_utf16 b) [],
    );
  };
}

two : (a b : ℕ) → IsPrefixText (Two a b) → IsTextOf (Some (Two a b))
two a b h text e = subst IsPrefixText (let text_is : Two a b ≡ text = cc in text_is) h

pair_is_text : (a b : ℕ) (text : Text) → big5_pair_text a b ≡ Some text → IsPrefixText text
unfolding encode_utf8
pair_is_text a b =
    let pointer = big5_pair_pointer a b in
    either (is_big5_trail b) (big5_pointer_text pointer) None
    (either (pointer == 1133) _ _ (two 0xCA 0x304 (two_are_text 0xCA 0x304 refl refl refl refl))
    (either (pointer == 1135) _ _ (two 0xCA 0x30C (two_are_text 0xCA 0x30C refl refl refl refl))
    (either (pointer == 1164) _ _ (two 0xEA 0x304 (two_are_text 0xEA 0x304 refl refl refl refl))
    (either (pointer == 1166) _ _ (two 0xEA 0x30C (two_are_text 0xEA 0x30C refl refl refl refl))
    (char_is_text _)))))
    (λ text e. cc)

pub pairs : ArePairs is_big5_lead big5_single_char big5_pair_text
pairs = record {
  ascii = λ b l. (grind (arith, nat_tests), cond-true _ _ _ (lt-ltb b 0x80 l));
  lead = 0x81;
  is_byte = omega arith;
  leads = refl;
  basic = ascii_is_basic;
  texts = pair_is_text;
  no_trail = λ a. refl;
}

pub laws : AreMultiBytePrefixes big5_prefix
laws = double_byte_laws _ _ _ pairs
