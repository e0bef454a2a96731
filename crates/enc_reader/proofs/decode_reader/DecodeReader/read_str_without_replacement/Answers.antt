use Rattle.std.proofs.Common.{◌++◌, take, ap, sym, ◌∙◌}
use Rattle.enc_reader.specs.Reporting.{replacement_if, written_of}
use Rattle.enc_reader.proofs.ReportedFaultLemmas.{ReportsFaults-items}
use Rattle.enc_reader.proofs.decode_reader.DecodeReader.read_str_without_replacement.Goals as goal

pub returns-clause-ok : goal.returns-clause-ok
returns-clause-ok g c =
    let stop = c.stop_of-stop.ensures in
    let dst = c.read_reporting.new.dst in
    let reported = c.in_ok-reported.reported in
    ReportsFaults-items c.in_ok-reported.ensures.ok
    (ap (λ n. take n dst ++ replacement_if reported.malformed) (sym stop.written)
    ∙ ap (λ l. take (written_of c.stop_of-stop.result) dst ++ l) (sym stop.replacement))
    (sym stop.faults)
