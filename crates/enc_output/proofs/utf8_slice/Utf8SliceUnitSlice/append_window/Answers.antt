use Rattle.enc_output.proofs.PiecesLemmas.{start, same_then}
use Rattle.enc_output.proofs.utf8_slice.Utf8SliceUnitSlice.append_window.Goals as goal

pub returns-then-read-eq0 : goal.returns-then-read-eq0
returns-then-read-eq0 g c =
    elim c.then-read-eq0.branch [
      | goal.then-read-eq0-via-then-read-eq0 w ↦ rw w.self-is start
      | goal.then-read-eq0-via-else-read-eq0+then-not-append w ↦
          rw w.self-is (same_then (w.append.ensures.unchanged w.if-not-append.true) start)
    ]
