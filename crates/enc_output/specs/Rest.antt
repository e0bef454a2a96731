-- The rest of a character whose first bytes are overwritten (Unicode Standard 3.9, table 3-7: the
-- bytes after the first are 80 to BF).
use Rattle.std.specs.Prelude.{ℕ, ◌&&◌, nat_le, nat_lt, List, [], ◌∷◌, if◌then◌else◌}

-- the bytes, with 00 for those from 80 to BF that come first
abbrev pub without_continuations : List ℕ → List ℕ
without_continuations [] = []
without_continuations (b ∷ z) =
    if nat_le 0x80 b && nat_lt b 0xC0 then 0 ∷ without_continuations z else b ∷ z
