-- The encodings of ASCII and of pairs by an index keep the law of a repertoire.
-- Written by scripts/make-sources from data/templates: change the text there, and not this file.
use Rattle.std.proofs.Common.{arith}
use Rattle.enc_encoder.specs.declared.byte_lengths.ByteLengths.TheVariants.{TwoBytes}
use Rattle.enc_encoder.specs.Stateless.{IsLawfulRepertoire}
use Rattle.enc_encoder.proofs.SizeLemmas.{up_to_by}
use Rattle.enc_encode.proofs.RepertoireLaws.{two_bytes}
use Rattle.enc_index_pointers.specs.Pointers.{euc_kr_pointer}
use Rattle.enc_encode.specs.EucKr.{euc_kr_pair_bytes, euc_kr_bytes}

pub euc_kr : IsLawfulRepertoire TwoBytes euc_kr_bytes
euc_kr = two_bytes _ (λ c. up_to_by 2 euc_kr_pair_bytes (euc_kr_pointer c) (λ n. omega arith))
