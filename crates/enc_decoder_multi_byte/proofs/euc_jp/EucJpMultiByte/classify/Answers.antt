use Rattle.std.proofs.Common.{[], subst}
use Rattle.enc_decoder.specs.Pending.{bytes_of_pending}
use Rattle.enc_decoder.specs.Prefixes.{AreIncomplete}
use Rattle.enc_decoder_multi_byte.specs.EucJp.{euc_jp_prefix}
use Rattle.enc_decoder_multi_byte.proofs.DoubleByteLemmas.{trail_finished}
use Rattle.enc_decoder_multi_byte.proofs.euc_jp.EucJpMultiByte.classify.Goals as goal

pub unreachable-requires : goal.unreachable-requires
unreachable-requires c =
    let incomplete = subst (λ p. AreIncomplete euc_jp_prefix [] (bytes_of_pending p)) c.in-Three.is
    c.requires.incomplete in
    trail_finished 2 _ _ incomplete.1.1.0
