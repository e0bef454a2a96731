-- The offsets and lengths of the malformed sequences that the parts of a run report.
use Rattle.std.proofs.Common.{◌≡◌, ℕ, ◌+◌, Option, Some, None, List, length}
use Rattle.std.proofs.Common.{drop, refl, ap, arith}
use Rattle.enc_decoder.specs.Segmentation.{sequences_of}
use Rattle.enc_stream.specs.declared.encoding.Encoding.{Encoding}
use Rattle.enc_stream.specs.Bom.{Mark, mark_bytes, sequences_by_mark, encoding_of_mark_or}
use Rattle.enc_stream.specs.Encodings.{rule_of}
use Rattle.enc_stream.specs.Faults.{faults_from}
use Rattle.enc_stream.specs.MarkLaws.{bytes_after_mark}

-- A byte order mark is no fault: those after it have the offsets of all bytes.
pub unmarked_faults : (found : Option Mark) (e : Encoding) (bytes : List ℕ)
    → faults_from 0 (sequences_by_mark found e 0 bytes)
    ≡ faults_from (length (mark_bytes found)) (sequences_of
    (rule_of (encoding_of_mark_or found e)) 0 (bytes_after_mark found bytes))
unmarked_faults None e bytes = refl
unmarked_faults (Some m) e bytes =
    ap (λ n. faults_from n (sequences_of (rule_of m.encoding) 0 (drop (length m.bytes) bytes)))
    (let at_start : 0 + length m.bytes ≡ length m.bytes = omega arith in at_start)
