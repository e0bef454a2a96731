-- The words and the code units of bytes that stand alone.
use Rattle.std.proofs.Common.{◌≡◌, ℕ, ◌+◌, ◌-◌, ◌<◌, Bool, true, false, cond, nat_lt, Some, None}
use Rattle.std.proofs.Common.{length}
use Rattle.std.proofs.Common.{get_or, refl, arith}
use Rattle.std.specs.Char.{IsScalar}
use Rattle.enc_index.specs.Grid.{HasWord}
use Rattle.enc_index.proofs.ByteEntries.{fits, bytes_fit, word_at, unit_at}
use Rattle.enc_index.proofs.GridEntries.{grid_tests, is_word, is_unit}
use Rattle.enc_decoder_single_byte.specs.declared.user_defined_words.TheConstants.{USER_DEFINED_WORDS}
use Rattle.enc_decoder_single_byte.specs.declared.user_defined_words.TheConstants.{USER_DEFINED_UNITS}
use Rattle.enc_decoder_single_byte.specs.OneByte.{x_user_defined_char}

-- x-user-defined: the entries of all bytes, by a test

always_some : (test : Bool) (x y : ℕ) → cond test (Some x) (Some y) ≡ None → ⊥
always_some true x y none = cc
always_some false x y none = cc

words_fit : bytes_fit is_word x_user_defined_char 0 USER_DEFINED_WORDS ≡ true
unfolding bytes_fit fits grid_tests
words_fit = refl

units_fit : bytes_fit is_unit x_user_defined_char 0 USER_DEFINED_UNITS ≡ true
unfolding bytes_fit fits grid_tests
units_fit = refl

words_count : length USER_DEFINED_WORDS ≡ 256
words_count = refl

units_count : length USER_DEFINED_UNITS ≡ 256
units_count = refl

pub x_user_defined_word : (b : ℕ) → b < 256
    → HasWord (x_user_defined_char b) (get_or USER_DEFINED_WORDS b 0)
x_user_defined_word b is_byte =
    word_at x_user_defined_char USER_DEFINED_WORDS b (omega (arith, words_count, is_byte))
    (λ none. absurd (always_some (nat_lt b 0x80) b (0xF780 + (b - 0x80)) none)) words_fit

pub x_user_defined_unit : (b : ℕ) → b < 256
    → (x_user_defined_char b ≡ Some (get_or USER_DEFINED_UNITS b 0))
    × IsScalar (get_or USER_DEFINED_UNITS b 0)
x_user_defined_unit b is_byte =
    unit_at x_user_defined_char USER_DEFINED_UNITS b (omega (arith, units_count, is_byte))
    (λ none. absurd (always_some (nat_lt b 0x80) b (0xF780 + (b - 0x80)) none)) units_fit
