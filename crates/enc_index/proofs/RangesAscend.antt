-- The runs of index gb18030 ranges ascend.
use Rattle.std.proofs.Common.{◌≡◌, true, refl}
use Rattle.enc_index.specs.declared.list.List.TheVariants.{Gb18030Ranges}
use Rattle.enc_index.specs.Runs.{runs_of}
use Rattle.enc_index.specs.Search.{are_ascending_runs}
use Rattle.enc_index.proofs.Computing.{tests}

pub gb18030_ranges_ascends : are_ascending_runs 0 (runs_of Gb18030Ranges) ≡ true
unfolding tests
gb18030_ranges_ascends = refl
