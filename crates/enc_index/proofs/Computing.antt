-- One name to unfold where a proof computes with tables.
use Rattle.enc_index.specs.Search.{are_ascending_runs}
use Rattle.enc_index.specs.Runs.{runs_of, single_byte_runs}
use Rattle.enc_index.proofs.TableLemmas.{table_ok}

-- `unfolding tests` opens the tests of tables, and the runs that they compare with
unfoldable pub tests : Unit {0}
unfolding are_ascending_runs runs_of single_byte_runs table_ok
tests = tt
