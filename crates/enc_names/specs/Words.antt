-- Lists of words, written as a line with spaces.
use Rattle.std.specs.Prelude.{ℕ, ◌==◌, List, codes}
use Rattle.std.specs.List.{slice_split}
use Prim.Native.String.{String}

-- the words of a line, separated by spaces
abbrev pub words : String → List (List ℕ)
words line = slice_split (λ b. b == 0x20) (codes line)
