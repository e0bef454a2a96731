use Rattle.std.proofs.Common.{ap}
use Rattle.std.specs.Char.{encode_utf8}
use Rattle.enc_utf8.specs.Text.{units_of_text}
use Rattle.enc_stream.proofs.FoundMarkLemmas.{unmarked_text, unmarked_flag}
use Rattle.encoding_rs.specs.Lookahead.{mark_found}
use Rattle.encoding_rs.proofs.FaultPlaceLemmas.{unmarked_faults}
use Rattle.encoding_rs.proofs.laws.mark_is_skipped.Goals as goal

pub returns : goal.returns
returns c = record {
  text = λ bytes. ap (units_of_text encode_utf8)
      (unmarked_text (mark_found c.args.handling c.args.encoding bytes) c.args.encoding bytes);
  flag = λ bytes.
      unmarked_flag (mark_found c.args.handling c.args.encoding bytes) c.args.encoding bytes;
  faults = λ bytes.
      unmarked_faults (mark_found c.args.handling c.args.encoding bytes) c.args.encoding bytes;
}
