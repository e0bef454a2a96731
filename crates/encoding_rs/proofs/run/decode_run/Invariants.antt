use Rattle.std.proofs.Common.{◌≡◌, ◌≤◌, length, take}
use Rattle.std.specs.String.{string_bytes}
use Rattle.encoding_rs.specs.Run.{DecodeRunState, DecodeRunAdvances, decode_run_start}
use Rattle.encoding_rs.specs.Runs.{IsRun}
use Rattle.encoding_rs.proofs.DecodeRunLemmas.{IsInInput}
use Rattle.encoding_rs.proofs.run.decode_run.Given as goal

abbrev pub invariant-loop-call : goal.invariant-loop-call
invariant-loop-call l =
    let state : DecodeRunState =
    record {
      decoder = l.decoder;
      read = l.read;
      text = string_bytes l.text;
      faults = l.faults.items;
      had_errors = l.had_errors;
    } in
    record {
      run : IsRun (DecodeRunAdvances l.bytes) (take l.made l.calls)
          (decode_run_start l.fn.handling l.fn.encoding) state;
      in_input : IsInInput l.fn.handling l.fn.encoding l.bytes state;
      within : l.read ≤ length l.bytes;
      made : l.made ≡ l.call-index;
    }
