-- The sequences of a whole input are its bytes, and no others are.
use Rattle.std.proofs.Common.{◌≡◌, ℕ, false, List, ◌++◌, ap, ◌∙◌, sym, Option}
use Rattle.std.proofs.lemmas.List.{append_cancel_left}
use Rattle.enc_stream.specs.declared.encoding.Encoding.{Encoding}
use Rattle.enc_stream.specs.declared.bom.BomHandling.{BomHandling}
use Rattle.enc_decoder.specs.Sequence.{Sequence, sequence_bytes}
use Rattle.enc_decoder.specs.Segmentation.{IsSegmentation}
use Rattle.enc_decoder.proofs.SegmentationLemmas.{sequences_are_segmentation, is_one}
use Rattle.enc_stream.specs.Encodings.{rule_of}
use Rattle.enc_stream.specs.Bom.{Mark, find_mark, marks_looked_for, encoding_of_mark_or}
use Rattle.enc_stream.specs.Bom.{mark_sequences}
use Rattle.enc_stream.specs.MarkLaws.{bytes_after_mark}
use Rattle.enc_stream.specs.Decoding.{DecoderState, has_finished, remaining_sequences, whole_sequences}
use Rattle.enc_stream.proofs.FoundMarkLemmas.{by_mark, joined_marked}

pub joined : (handling : BomHandling) (e : Encoding) (bytes : List ℕ)
    → sequence_bytes (whole_sequences handling e bytes) ≡ bytes
joined handling e bytes = joined_marked (marks_looked_for handling e) e 0 bytes

-- The sequences still to come are the bytes pending and those that follow.
pub remaining_bytes : (d : DecoderState) (y : List ℕ) → has_finished d ≡ false
    → sequence_bytes (remaining_sequences d y) ≡ d.pending ++ y
remaining_bytes d y going = rw going (joined_marked d.marks d.encoding d.set (d.pending ++ y))

-- After the byte order mark they are segmented by its rule, each at its place.

module _ (handling : BomHandling) (e : Encoding) (bytes : List ℕ) where
  abbrev found : Option Mark
  found = find_mark (marks_looked_for handling e) bytes

  pub is_segmented : (ss : List Sequence)
      → whole_sequences handling e bytes ≡ mark_sequences found ++ ss
      → IsSegmentation (rule_of (encoding_of_mark_or found e)) 0 (bytes_after_mark found bytes) ss
  is_segmented ss is_whole =
      rw (append_cancel_left (mark_sequences found) ss _ (sym is_whole ∙ by_mark found e bytes))
      (sequences_are_segmentation (rule_of (encoding_of_mark_or found e)) 0
      (bytes_after_mark found bytes))

  pub one : (ss : List Sequence)
      → IsSegmentation (rule_of (encoding_of_mark_or found e)) 0 (bytes_after_mark found bytes) ss
      → mark_sequences found ++ ss ≡ whole_sequences handling e bytes
  one ss segmented =
      ap (λ ts. mark_sequences found ++ ts)
      (is_one (rule_of (encoding_of_mark_or found e)) 0 (bytes_after_mark found bytes) ss segmented)
      ∙ sym (by_mark found e bytes)
