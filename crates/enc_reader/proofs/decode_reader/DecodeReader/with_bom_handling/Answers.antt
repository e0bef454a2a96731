use Rattle.std.proofs.Common.{refl, replicate, take, ◌++◌}
use Rattle.enc_stream.specs.Decoding.{fresh_decoder}
use Rattle.enc_reader.proofs.CountingLemmas.{HasGiven-fresh, fresh_faults, fresh_items, nothing_undetermined}
use Rattle.enc_reader.proofs.CountingLemmas.{none_found_at_start}
use Rattle.enc_reader.proofs.RecentLemmas.{SameEnd-nil}
use Rattle.enc_reader.proofs.decode_reader.DecodeReader.with_bom_handling.Goals as goal

pub returns-clause-given : goal.returns-clause-given
returns-clause-given g c =
    rw c.new_decoder_with_bom_handling.ensures (HasGiven-fresh c.args.handling c.args.encoding)

pub returns-clause-faults : goal.returns-clause-faults
returns-clause-faults g c =
    λ z. rw c.new_decoder_with_bom_handling.ensures (fresh_faults c.args.handling c.args.encoding z)

pub returns-clause-items : goal.returns-clause-items
returns-clause-items g c =
    λ z. rw c.new_decoder_with_bom_handling.ensures (fresh_items c.args.handling c.args.encoding z)

pub invariant_of-result-clause-settled : goal.invariant_of-result-clause-settled
invariant_of-result-clause-settled g c =
    λ _ _. rw c.new_decoder_with_bom_handling.ensures (nothing_undetermined
    (fresh_decoder c.args.handling c.args.encoding) refl
    (none_found_at_start c.args.handling c.args.encoding))

pub invariant_of-result-clause-same_end : goal.invariant_of-result-clause-same_end
invariant_of-result-clause-same_end g c =
    rw c.new_decoder_with_bom_handling.ensures (SameEnd-nil
    (replicate 8 0 ++ take 0 c.args.input.now))
