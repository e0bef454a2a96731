-- Encodings in which each byte stands alone: the laws of their prefixes, and of their characters.
use Rattle.std.proofs.Common.{◌≡◌, ℕ, ◌+◌, ◌-◌, ◌<◌, Bool, true, false, cond, ◌&&◌, nat_lt, nat_le, Option, Some}
use Rattle.std.proofs.Common.{None, List, [], ◌∷◌, length, refl, ap, ◌∙◌, subst, arith, inl, inr}
use Rattle.std.proofs.lemmas.Bool.{cond-true, cond-false, lt-ltb, le-ltb}
use Rattle.std.proofs.lemmas.Bool.Decides.{nat_tests}
use Rattle.enc_decoder.specs.declared.prefix.Prefix.TheVariants.{Incomplete}
use Rattle.enc_decoder.specs.Segmentation.{one_byte_head}
use Rattle.enc_decoder.specs.Taking.{IsWholeChar}
use Rattle.enc_decoder.specs.Prefixes.{single_prefix, prefix_head, prefix_rule}
use Rattle.enc_decoder.specs.Prefixes.{CanBeOther, ArePrefixes, HasAscii, AreSettledBelowDigits}
use Rattle.enc_decoder.proofs.PrefixLaws.{IsLawfulPrefix, single_lawful, single_finished, prefixes_by}
use Rattle.enc_decoder.proofs.PrefixLemmas.{complete_one}
use Rattle.enc_decoder.proofs.PrefixRule.{prefixes_have_bytes}
use Rattle.enc_decoder.specs.Latin1.{HasNoByteSequences}
use Rattle.enc_decoder.proofs.EnoughLemmas.{same_some}
use Rattle.enc_utf8.specs.declared.letters.Letters.{Letters}
use Rattle.enc_utf8.specs.Letters.{AreLetters}
use Rattle.enc_utf8.specs.Pieces.{KeepsAscii}
use Rattle.enc_output.specs.Letters.{IsPlain}
use Rattle.enc_index.specs.Letters.{HasLetters}
use Rattle.enc_index.specs.Index.{Run, index_at, entry_character, is_entry_code_point}
use Rattle.enc_index.specs.declared.table.Planes.TheVariants.{Basic}
use Rattle.enc_decoder_single_byte.specs.OneByte.{one_byte_prefix, one_byte_rule, AreOneByteChars}
use Rattle.enc_decoder_single_byte.specs.OneByte.{single_byte_char, x_user_defined_char, FollowOneByOne}

-- a byte has no more bytes after it
pub no_more : (set : ℕ) (found : Option ℕ) → (one_byte_head set found).more ≡ 0
no_more set None = refl
no_more set (Some c) = refl

module _ (character : ℕ → Option ℕ) where
  -- the laws of prefixes

  lawful : (front : List ℕ)
      → IsLawfulPrefix 0 (length front) (one_byte_prefix character front)
  unfolding one_byte_prefix
  lawful [] = omega arith
  lawful (b ∷ z) = single_lawful 0 (length (b ∷ z)) (character b) (omega arith)

  pub one_byte_prefixes : ArePrefixes (one_byte_prefix character)
  unfolding one_byte_prefix
  one_byte_prefixes = prefixes_by (one_byte_prefix character) 0 (omega arith) refl lawful finished
    where
      finished : (front : List ℕ) → 0 < length front
          → one_byte_prefix character front ≡ Incomplete
          → CanBeOther (one_byte_prefix character) front
      finished [] some incomplete = absurd (omega arith)
      finished (b ∷ z) some incomplete = absurd (single_finished (character b) incomplete)

  pub one_byte_settled : AreSettledBelowDigits (one_byte_prefix character)
  unfolding one_byte_prefix
  one_byte_settled c low a front incomplete = single_finished (character a) incomplete

  -- a byte that has a character
  pub one_byte_piece : (b c : ℕ) → character b ≡ Some c
      → IsWholeChar (one_byte_rule character) 0 (b ∷ []) c
  unfolding one_byte_prefix
  one_byte_piece b c is_char =
      complete_one (one_byte_prefix character) b c (ap single_prefix is_char)

  -- each byte by itself
  pub one_byte_heads : (λ set b z. one_byte_head set (character b)) ≡ one_byte_rule character
  unfolding prefix_rule one_byte_prefix
  one_byte_heads = λ i set b z. alone set b z (character b) i
    where
      alone : (set b : ℕ) (z : List ℕ) (found : Option ℕ) → one_byte_head set found
          ≡ prefix_head (one_byte_prefix character) set (b ∷ []) (single_prefix found) z
      alone set b z None = refl
      alone set b z (Some c) = refl

-- an ASCII byte is a character by itself

pub one_byte_ascii : (character : ℕ → Option ℕ) → AreOneByteChars character
    → HasAscii (one_byte_prefix character)
unfolding one_byte_prefix
one_byte_ascii character laws b low = ap single_prefix (laws.ascii b low)

pub one_byte_has_bytes : (character : ℕ → Option ℕ) → AreOneByteChars character
    → ¬ (HasNoByteSequences (one_byte_rule character))
one_byte_has_bytes character laws =
    prefixes_have_bytes (one_byte_prefix character) 0x61 _
    (one_byte_ascii character laws 0x61 (omega arith))

-- the laws of characters: those of indexes are of the Basic Multilingual Plane

entry_is_basic : (n c : ℕ) → entry_character Basic n ≡ Some c → c < 0x1_0000
entry_is_basic n c e = by_test (is_entry_code_point Basic n) refl e
  where
    by_test : (t : Bool) → is_entry_code_point Basic n ≡ t → cond t (Some n) None ≡ Some c
        → c < 0x1_0000
    by_test true f is_char =
        let in_basic_plane : n < 0x1_0000 = grind (arith, nat_tests) in
        omega (arith, in_basic_plane, same_some n c is_char)
    by_test false f is_char = absurd (cc)

either_is_basic : (t : Bool) (x y : Option ℕ) (c : ℕ) → (x ≡ Some c → c < 0x1_0000)
    → (y ≡ Some c → c < 0x1_0000) → cond t x y ≡ Some c → c < 0x1_0000
either_is_basic true x y c first second is_char = first is_char
either_is_basic false x y c first second is_char = second is_char

index_is_basic : (runs : List Run) (p c : ℕ) → index_at Basic runs p ≡ Some c → c < 0x1_0000
index_is_basic [] p c = λ is_char. absurd (cc)
index_is_basic (run ∷ runs) p c = either_is_basic (nat_le run.0 p && nat_le p run.1) _ _ c
    (entry_is_basic (run.2 + (p - run.0)) c) (index_is_basic runs p c)

pub single_byte_laws : (runs : List Run) → AreOneByteChars (single_byte_char runs)
single_byte_laws runs = record {
  ascii = λ b low. cond-true _ _ _ (lt-ltb b 0x80 low);
  basic = λ b c is_byte. either_is_basic (nat_lt b 0x80) _ _ c
      (λ is_char. omega (arith, is_byte, same_some b c is_char)) (index_is_basic runs (b - 0x80) c);
}

pub x_user_defined_laws : AreOneByteChars x_user_defined_char
x_user_defined_laws = record {
  ascii = λ b low. cond-true _ _ _ (lt-ltb b 0x80 low);
  basic = λ b c is_byte is_char. grind (arith, nat_tests);
}

-- letters

pub single_byte_letters : (runs : List Run) (l : ℕ × ℕ × ℕ) → HasLetters runs l
    → FollowOneByOne (single_byte_char runs) (record { first = l.0; last = l.1; shift = l.2 })
single_byte_letters runs l letters b low high =
    let is = letters b low high in
    (cond-false _ _ _ (le-ltb b 0x80 is.0) ∙ is.1, is.2, is.3)

pub x_user_defined_letters : FollowOneByOne x_user_defined_char
    (record { first = 0x80; last = 0xFF; shift = 0xF700 })
x_user_defined_letters b low high =
    let shifted : 0xF780 + (b - 0x80) ≡ b + 0xF700 = omega (arith, low) in (
      cond-false _ _ _ (le-ltb b 0x80 low) ∙ ap Some shifted,
      grind (arith, nat_tests, low, high),
      omega (arith, high),
    )

-- bytes with their own numbers

pub plain_own : {Means : List ℕ → ℕ → Type 0} (letters : Letters) → letters.shift ≡ 0
    → KeepsAscii Means → AreLetters Means letters → (b : ℕ) → IsPlain letters b → Means (b ∷ []) b
plain_own letters none keeps are b (inl low) = keeps b low
plain_own {Means} letters none keeps are b (inr letter) =
    let same : b + letters.shift ≡ b = omega (arith, none) in
    subst (Means (b ∷ [])) same (are b letter.1 letter.2).0.means
