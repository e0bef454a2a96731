use Rattle.enc_output.proofs.PiecesLemmas.{start}
use Rattle.enc_decoder_iso_2022_jp.proofs.runs.put_before_escape.Goals as goal

pub returns-then-src-eq27 : goal.returns-then-src-eq27
returns-then-src-eq27 g c = start
