-- The characters that EUC-JP gives back.
use Rattle.std.proofs.Common.{◌≡◌, ℕ, ◌+◌, ◌-◌, ◌*◌, ◌/◌, ◌%◌, ◌<◌, ◌≤◌, true, false, ◌==◌, Some, List, [], ◌∷◌, refl}
use Rattle.std.proofs.Common.{ap, ◌∙◌, arith, IfSome, inl, inr}
use Rattle.std.proofs.lemmas.Bool.{cond-true, cond-false, and_from, and_left, lt-ltb}
use Rattle.std.proofs.lemmas.Bool.Decides.{nat_tests}
use Rattle.enc_index.specs.Runs.{jis0208_at}
use Rattle.enc_index_pointers.specs.Pointers.{jis0208_pointer, any_pointer}
use Rattle.enc_decoder.specs.Taking.{IsWholeChar}
use Rattle.enc_decoder_multi_byte.specs.DoubleByte.{text_of_char, first_prefix, trail_prefix}
use Rattle.enc_decoder.specs.Prefixes.{single_prefix, prefix_rule}
use Rattle.enc_decoder_multi_byte.specs.EucJp.{euc_pair_pointer, is_euc_jp_lead, euc_jp_single_char}
use Rattle.enc_decoder_multi_byte.specs.EucJp.{euc_jp_pair_char as read_pair, euc_jp_prefix}
use Rattle.enc_decoder.proofs.PrefixLemmas.{complete_one, complete_two}
use Rattle.enc_encode.specs.Japanese.{is_halfwidth_katakana, katakana_byte, with_fullwidth_minus}
use Rattle.enc_encode.specs.EucJp.{euc_jp_pair_bytes, euc_jp_other, euc_jp_bytes}
use Rattle.enc_decoder.proofs.FirstSequenceLemmas.{true_or_false}
use Rattle.enc_round_trip.specs.RoundTrip.{ascii_twin_or}
use Rattle.enc_round_trip.proofs.ReadBackLemmas.{IsReadBack, with_ascii_is_read}
use Rattle.enc_round_trip.proofs.PointerLemmas.{IsPointer, by_pointer}
use Rattle.enc_round_trip.proofs.DoubleByteBack.{within}
use Rattle.enc_round_trip.proofs.JapaneseBack.{at_jis0208_pointer, katakana_byte_is_read, low_not_latin, latin_is_read}

abbrev Piece : List ℕ → ℕ → Type 0
Piece b c = IsWholeChar (prefix_rule euc_jp_prefix) 0 b c

low_piece : (b : ℕ) → b < 0x80 → Piece (b ∷ []) b
low_piece b l =
    let no_lead : is_euc_jp_lead b ≡ false = grind (arith, nat_tests) in
    complete_one euc_jp_prefix b b
    (ap (λ t. first_prefix t (euc_jp_single_char b)) no_lead
    ∙ ap single_prefix (cond-true _ _ _ (lt-ltb b 0x80 l)))

pair_piece : (a b c : ℕ) → is_euc_jp_lead a ≡ true → (a == 0x8F) ≡ false → read_pair a b ≡ Some c
    → Piece (a ∷ b ∷ []) c
pair_piece a b c l n e =
    complete_two euc_jp_prefix a b c (ap (λ t. first_prefix t (euc_jp_single_char a)) l)
    (cond-false _ _ _ (and_left _ _ n) ∙ ap (λ o. trail_prefix 1 b (text_of_char o)) e)

-- half-width katakana after 8E
katakana_piece : (c : ℕ) → is_halfwidth_katakana c ≡ true → Piece (0x8E ∷ katakana_byte c ∷ []) c
katakana_piece c k = pair_piece 0x8E (katakana_byte c) c refl refl (katakana_byte_is_read c k)

-- pairs of jis0208

is_lead : (a : ℕ) → 0xA1 ≤ a → a ≤ 0xFE → is_euc_jp_lead a ≡ true
is_lead a l h = grind (arith, nat_tests)

two_read : (a b c : ℕ) → 0xA1 ≤ a → a ≤ 0xFE → 0xA1 ≤ b → b ≤ 0xFE
    → jis0208_at (euc_pair_pointer a b) ≡ Some c → read_pair a b ≡ Some c
two_read a b c k l m n e =
    let other : (a == 0x8E) ≡ false = grind (arith, nat_tests) in
    cond-false _ _ _ other
    ∙ cond-true _ _ _ (and_from _ _ (within 0xA1 0xFE a k l) (within 0xA1 0xFE b m n)) ∙ e

two_piece : (c p : ℕ) → IsPointer jis0208_at any_pointer 8836 c p → Piece (euc_jp_pair_bytes p) c
two_piece c p has_pointer =
    let below = has_pointer.below in
    let same : (p / 94 + 0xA1 - 0xA1) * 94 + (p % 94 + 0xA1 - 0xA1) ≡ p = omega arith in
    let other : (p / 94 + 0xA1 == 0x8F) ≡ false = differs (p / 94) in
    pair_piece (p / 94 + 0xA1) (p % 94 + 0xA1) c
    (is_lead (p / 94 + 0xA1) (omega arith) (omega arith)) other
    (two_read (p / 94 + 0xA1) (p % 94 + 0xA1) c (omega arith) (omega arith) (omega arith)
    (omega arith)
    (ap jis0208_at same ∙ has_pointer.has))
  where
    differs : (n : ℕ) → (n + 0xA1 == 0x8F) ≡ false
    differs n = grind (arith, nat_tests)

-- all characters

itself : (c : ℕ) → (c == 0x2212) ≡ false → with_fullwidth_minus c ≡ c
itself c no_minus = cond-false _ _ _ no_minus

beyond : (c : ℕ) → IfSome (euc_jp_other c) (λ b. Piece b (ascii_twin_or with_fullwidth_minus c))
beyond c = latin_is_read (prefix_rule euc_jp_prefix) _ with_fullwidth_minus c low_piece
    (λ not_yen not_line. elim (true_or_false (is_halfwidth_katakana c)) [
      | inl is_katakana ↦ rw (itself c (grind (arith, nat_tests)), is_katakana)
          (katakana_piece c is_katakana)
      | inr no_katakana ↦ rw no_katakana (by_pointer (λ x. Piece x (with_fullwidth_minus c))
          euc_jp_pair_bytes (jis0208_pointer (with_fullwidth_minus c))
          (λ p found. two_piece (with_fullwidth_minus c) p
          (at_jis0208_pointer (with_fullwidth_minus c) p found)))
    ])

pub euc_jp_is_read : IsReadBack (prefix_rule euc_jp_prefix) euc_jp_bytes
    (ascii_twin_or with_fullwidth_minus)
euc_jp_is_read =
    with_ascii_is_read (prefix_rule euc_jp_prefix) euc_jp_other
    (ascii_twin_or with_fullwidth_minus)
    (λ c low. rw (
      low_not_latin with_fullwidth_minus c (omega arith),
      itself c (grind (arith, nat_tests)),
    ) (low_piece c low)) (λ c high. beyond c)
