-- ASCII that is copied from one slice to another.
use Rattle.std.specs.Prelude.{◌≡◌, ℕ, ◌≤◌, List, ◌++◌, take, drop}
use Rattle.enc_utf8.specs.Validity.{AreAscii}

-- The first n elements, at most `most`, are ASCII and are copied to the front of a slice. All
-- others of the slice are unchanged.
pub record CopiesAscii (src before after : List ℕ) (most n : ℕ) : Type 0 where
  pub within : n ≤ most
  pub ascii : AreAscii (take n src)
  pub copied : after ≡ take n src ++ drop n before
