use Rattle.enc_writer.specs.Policies.{policy_bytes}
use Rattle.enc_writer.proofs.PolicyBytesLemmas.{held_is_put}
use Rattle.enc_writer.proofs.PolicyStepLemmas.{PushesBytes-put}
use Rattle.enc_writer.proofs.encode_writer.EncodeWriter.put_unmappable.Goals as goal

pub returns-clause-ok : goal.returns-clause-ok
returns-clause-ok g c =
    let put = c.put_for_unmappable in
    let now = c.make_room.new.self in
    let bytes = policy_bytes c.args.policy c.args.c in
    PushesBytes-put bytes c.in_ok-make_room.ensures.ok
    (held_is_put now.filled put.result now.output.now bytes now.within put.ensures.len
    put.ensures.onto)
