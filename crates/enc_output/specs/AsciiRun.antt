-- Runs of ASCII bytes that are written to an output.
use Rattle.std.specs.Prelude.{◌≡◌, ℕ, ◌+◌, ◌<◌, ◌≤◌, List, length, take, slice_index}
use Rattle.enc_output.specs.Output.{Output, with_appended}
use Rattle.enc_utf8.specs.Text.{units_of_text}
use Rattle.enc_utf8.specs.Validity.{AreAscii}

-- The first n bytes are ASCII, fit, and are written as characters. The next byte is not ASCII or
-- does not fit.
pub record PutsAscii (units_of : ℕ → List ℕ) (before after : Output) (src : List ℕ)
    (n : ℕ) : Type 0 where
  pub within : n ≤ length src
  pub ascii : AreAscii (take n src)
  pub fits : length (units_of_text units_of (take n src)) ≤ before.room
  pub written : after ≡ with_appended before (units_of_text units_of (take n src))
  pub longest : n < length src → slice_index src n < 0x80
      → before.room < length (units_of_text units_of (take (n + 1) src))
