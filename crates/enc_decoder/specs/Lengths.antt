-- The lengths to allocate for a decoder's text: checked formulas, by the kind of codec.
use Rattle.std.specs.Prelude.{ℕ, Option, Some}
use Rattle.enc_utf8.specs.Checked.{checked_add, checked_mul, checked_half}
use Rattle.enc_decoder.specs.declared.text_lengths.TextLengths.{TextLengths}
use Rattle.enc_decoder.specs.declared.text_lengths.TextLengths.TheVariants.{Utf8, Utf16, OneByte, Replacement}
use Rattle.enc_decoder.specs.declared.text_lengths.TextLengths.TheVariants.{MultiByte}

-- For n more bytes, if h are pending: into UTF-8 with replacement,
abbrev pub utf_8_length : TextLengths → ℕ → ℕ → Option ℕ
utf_8_length Utf8 n h = checked_add (checked_mul (checked_add (Some n) h) 3) 3
utf_8_length Utf16 n h =
    checked_add (checked_mul (checked_half (checked_add (checked_add (Some n) h) 1)) 3) 1
utf_8_length OneByte n h = checked_mul (Some n) 3
utf_8_length Replacement n h = Some 3
utf_8_length MultiByte n h = checked_mul (checked_add (Some n) h) 3

-- into UTF-8 without replacement,
abbrev pub reporting_length : TextLengths → ℕ → ℕ → Option ℕ
reporting_length Utf8 n h = checked_add (checked_add (Some n) h) 3
reporting_length Utf16 n h =
    checked_add (checked_mul (checked_half (checked_add (checked_add (Some n) h) 1)) 3) 1
reporting_length OneByte n h = checked_mul (Some n) 3
reporting_length Replacement n h = Some 3
reporting_length MultiByte n h = checked_mul (checked_add (Some n) h) 3

-- and into UTF-16.
abbrev pub utf_16_length : TextLengths → ℕ → ℕ → Option ℕ
utf_16_length Utf8 n h = checked_add (checked_add (Some n) h) 1
utf_16_length Utf16 n h = checked_add (checked_half (checked_add (checked_add (Some n) h) 1)) 1
utf_16_length OneByte n h = Some n
utf_16_length Replacement n h = Some 1
utf_16_length MultiByte n h = checked_add (Some n) h
