-- A run of a task, from a source to a sink.
use Rattle.std.specs.Prelude.{ℕ, Bool, Option}
use Rattle.std.specs.declared.result.Result.{Result}
use Rattle.recode_engine.specs.declared.engine.RecodeFault.{RecodeFault}
use Rattle.recode_engine.specs.Run.{Side, side, IsRecodeRun}
use Rattle.recode_part.specs.declared.task.Task.{Task}
use Rattle.recode_part.specs.Bound.{bytes_within}

-- The bytes of the source, up to the bound of the task, are recoded by its encodings and its byte
-- order marks: the sink takes their text, or a prefix of it after a fault. A fault names a side
-- that has failed. After the run a bound may keep bytes of the source back.
abbrev pub IsPartRun : Task → Side → Side → Side → Side → Result Bool RecodeFault → Type 0
IsPartRun task source_before source_after sink_before sink_after result = (left : Option ℕ)
    × IsRecodeRun task.handling task.from task.to
    (side (bytes_within task.length source_before.bytes) source_before.has_failed)
    (side (bytes_within left source_after.bytes) source_after.has_failed)
    sink_before sink_after result
