-- The report of an encoder's run, compared with the bytes of the whole text.
use Rattle.std.specs.Prelude.{◌≡◌, ℕ, ◌+◌, ◌*◌, ◌≤◌, ◌⊎◌, true, List, length, take}
use Rattle.std.specs.List.{All}
use Rattle.enc_encoder.specs.Unmappable.{any_unmappable, reports_of}
use Rattle.enc_stream.specs.declared.encoding.Encoding.{Encoding}
use Rattle.encoding_rs.specs.declared.encode_run.EncodeCall.{EncodeCall}
use Rattle.encoding_rs.specs.declared.encode_run.EncodeReport.{EncodeReport}
use Rattle.enc_stream.specs.Encodings.{output_rule}
use Rattle.enc_stream.specs.Encoder.{EncoderState, whole_bytes}
use Rattle.encoding_rs.specs.EncodeRun.{IsEncodeRun, HasRunEncoding, encode_run_start, all_report_unmappable}
use Rattle.encoding_rs.specs.EncodeEnd.{CanEncodeMore}

-- The report of a run of these calls, into the output encoding of e, with the characters b barred.
pub record IsReportOf (b : List ℕ) (e : Encoding) (text : List ℕ) (given : List EncodeCall)
    (report : EncodeReport) : Type 0 where
  -- It is that of the calls made, one after another.
  pub run : (encoder : EncoderState)
      × IsEncodeRun text (take report.calls given) (encode_run_start b e) (record {
        encoder = encoder;
        read = report.read;
        bytes = report.bytes.items;
        unmappables = report.unmappables.items;
        had_unmappables = report.had_unmappables;
        finished = report.finished;
      })
  -- All calls are made, unless the end is reached first.
  pub made : (report.finished ≡ true) ⊎ (report.calls ≡ length given)
  pub calls : report.calls ≤ length given
  -- If every call gets a character and has `least_room`, the end is reached within 2n + 2 calls for
  -- n characters.
  pub end : All (CanEncodeMore b e) given → (report.calls ≤ 2 * length text + 2)
      × (2 * length text + 2 ≤ length given → report.finished ≡ true)
  -- The bytes are always a prefix of those of the whole text.
  pub beginning : HasRunEncoding b e text (take report.calls given) report.bytes.items report.read
      report.unmappables.items report.had_unmappables
  -- At the end they are all of them.
  pub bytes : report.finished ≡ true → report.bytes.items ≡ whole_bytes b e text
  pub flag : report.finished ≡ true → report.had_unmappables ≡ any_unmappable (output_rule b e) text
  pub unmappables : report.finished ≡ true → all_report_unmappable (take report.calls given) ≡ true
      → report.unmappables.items ≡ reports_of (output_rule b e) text
  pub read : report.finished ≡ true → report.read ≡ length text
