use denote.Shadow.{shadow}
use denote.Text.{Utf8}
use Rattle.std.proofs.Common.{◌≡◌, chars, take, drop}
use Rattle.encoding_rs.specs.EncodeRun.{EncodeRunState, EncodeRunAdvances, encode_run_start}
use Rattle.encoding_rs.proofs.EncodeRunLemmas.{IsInText}
use Rattle.encoding_rs.specs.Runs.{IsRun}
use Rattle.encoding_rs.proofs.encode_run.encode_run_barring.Given as goal

abbrev pub invariant-loop-call : goal.invariant-loop-call
invariant-loop-call l =
    let state : EncodeRunState =
    record {
      encoder = l.encoder;
      read = l.read;
      bytes = l.bytes.items;
      unmappables = l.unmappables.items;
      had_unmappables = l.had_unmappables;
      finished = l.finished;
    } in
    record {
      run : IsRun (EncodeRunAdvances (chars l.text)) (take l.made l.calls)
          (encode_run_start l.fn.barred l.fn.encoding) state;
      in_text : IsInText l.fn.barred l.fn.encoding (chars l.text) state;
      unread : chars l.unread ≡ drop l.read (chars l.text);
      made : l.made ≡ l.call-index;
      utf8 : shadow (Utf8 l.unread);
    }
