-- The offsets and lengths of malformed sequences (Encoding Standard 4.1, "handler").
use Rattle.std.specs.Prelude.{ℕ, ◌+◌, List, [], ◌∷◌, length, if◌then◌else◌}
use Rattle.enc_stream.specs.declared.encoding.Encoding.{Encoding}
use Rattle.enc_stream.specs.declared.bom.BomHandling.{BomHandling}
use Rattle.enc_decoder.specs.Sequence.{Sequence, is_malformed}
use Rattle.enc_stream.specs.Decoding.{whole_sequences}

-- the offset and length of each malformed sequence, if the first sequence has the offset `at`
abbrev pub faults_from : ℕ → List Sequence → List (ℕ × ℕ)
faults_from at [] = []
faults_from at (s ∷ ss) =
    if is_malformed s.kind then (at, length s.bytes) ∷ faults_from (at + length s.bytes) ss
    else faults_from (at + length s.bytes) ss

-- the offset and length of each malformed sequence of a whole input
abbrev pub whole_faults : BomHandling → Encoding → List ℕ → List (ℕ × ℕ)
whole_faults handling e bytes = faults_from 0 (whole_sequences handling e bytes)
