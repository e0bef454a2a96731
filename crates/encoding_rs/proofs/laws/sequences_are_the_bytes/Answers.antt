use Rattle.enc_stream.proofs.WholeInputLemmas.{joined, one, is_segmented}
use Rattle.encoding_rs.proofs.laws.sequences_are_the_bytes.Goals as goal

pub returns : goal.returns
returns c = record {
  joined = joined c.args.handling c.args.encoding;
  segmentation = is_segmented c.args.handling c.args.encoding;
  one = one c.args.handling c.args.encoding;
}
