use Rattle.enc_output.proofs.single_bytes.store_turn.Goals as goal

pub returns-clause-puts : goal.returns-clause-puts
returns-clause-puts g c = rw c.split_at.ensures.back at c.store_hops.ensures.puts
