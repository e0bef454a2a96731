-- The number of malformed sequences (Encoding Standard 4.1, "handler").
use Rattle.std.specs.Prelude.{ℕ, ◌+◌, List, [], ◌∷◌, if◌then◌else◌}
use Rattle.enc_decoder.specs.Sequence.{Sequence, is_malformed}

-- how many of these sequences are malformed
abbrev pub malformed_count : List Sequence → ℕ
malformed_count [] = 0
malformed_count (s ∷ ss) = (if is_malformed s.kind then 1 else 0) + malformed_count ss
