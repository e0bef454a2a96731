-- A run whose source has failed has written all text that is determined.
use Rattle.std.proofs.Common.{◌≡◌, Bool, false, ◌||◌, [], ◌∷◌, ◌++◌, ap, ◌∙◌, sym, subst}
use Rattle.std.proofs.Common.{append-nil, chars}
use Rattle.std.proofs.lemmas.Bool.{false≢true}
use Rattle.enc_decoder.specs.Sequence.{Sequence, sequence_text}
use Rattle.enc_decoder.specs.Remainder.{Determines, AreDetermined}
use Rattle.enc_decoder.proofs.DeterminedLemmas.{LeavesOff, determined_past}
use Rattle.enc_stream.specs.Decoding.{whole_sequences, remaining_sequences}
use Rattle.enc_reader.specs.Reading.{ReadsOwed, FailsToRead, fresh_reader, owed_sequences}
use Rattle.enc_reader.proofs.ReadingLemmas.{ReaderPlace, reader_at, ReadsOwed-then}
use Rattle.enc_writer.specs.EncodedText.{bytes_from_state}
use Rattle.enc_writer.specs.Writing.{fresh_writer, owed_bytes}
use Rattle.recode_engine.specs.Run.{WritesDetermined}
use Rattle.recode_engine.proofs.RunLemmas.{RunStart, RunState, HasRun, handed_is, whole_is_owed}

module _ {start : RunStart} {now : RunState} (so_far : HasRun start now) (next : ReaderPlace)
    {failed_before failed_after : Bool}
    (fails : FailsToRead now.source.remaining next.remaining failed_before failed_after
    now.source.state next.state) where
  reads_to_fault : ReadsOwed start.remaining next.remaining
      (fresh_reader start.handling start.from) next.state (so_far.bytes ++ fails.bytes)
      (so_far.wrote ++ []) (now.malformed || false)
  reads_to_fault =
      ReadsOwed-then (reader_at start.remaining (fresh_reader start.handling start.from))
      now.source next so_far.reads fails.reads

  leaves_off : LeavesOff (whole_sequences start.handling start.from)
      (remaining_sequences next.state.decoder) (so_far.bytes ++ fails.bytes) next.state.unread
      reads_to_fault.done next.state.ended
  leaves_off z ends = reads_to_fault.residual z ends

  none_determined : (next_one : Sequence)
      → Determines (whole_sequences start.handling start.from) (so_far.bytes ++ fails.bytes)
      (reads_to_fault.done ++ next_one ∷ []) → ⊥
  none_determined next_one determined =
      fails.none_determined next_one
      (determined_past (whole_sequences start.handling start.from)
      (remaining_sequences next.state.decoder) (so_far.bytes ++ fails.bytes) next.state.unread
      reads_to_fault.done next.state.ended leaves_off (next_one ∷ [])
      (subst (λ l. AreDetermined l (whole_sequences start.handling start.from)
      (so_far.bytes ++ fails.bytes) (reads_to_fault.done ++ next_one ∷ []))
      (sym fails.not_ended) determined))

  pub WritesDetermined-reading : WritesDetermined start.handling start.from start.to
      start.remaining next.remaining start.taken now.taken
  WritesDetermined-reading =
      let text_is : chars so_far.wrote ≡ sequence_text reads_to_fault.done =
      ap chars (sym (append-nil so_far.wrote)) ∙ handed_is reads_to_fault in
      record {
        bytes = so_far.bytes ++ fails.bytes;
        given = reads_to_fault.given;
        done = reads_to_fault.done;
        determined = λ z are_bytes. (
          owed_sequences next.state z,
          leaves_off z (λ e. absurd (false≢true (sym fails.not_ended ∙ e))),
        );
        most = none_determined;
        wrote = so_far.written.pushed;
        written = so_far.written.taken;
        encoder = now.writer.encoder;
        encoding = so_far.written.encoding;
        barred = so_far.written.barred;
        text = λ z.
            whole_is_owed start.to (sequence_text reads_to_fault.done ++ z)
            ∙ ap (λ t. owed_bytes (fresh_writer start.to) (t ++ z)) (sym text_is)
            ∙ so_far.written.owed z
            ∙ ap (λ h. so_far.written.pushed
            ++ (h ++ bytes_from_state now.writer.encoder z)) so_far.none_held;
      }
