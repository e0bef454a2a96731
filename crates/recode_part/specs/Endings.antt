-- The exit status of the program, and what it prints to standard error.
use Rattle.std.specs.Prelude.{ℕ, List, [], ◌++◌, codes, Ok, Err, Option, Some, option_map}
use Rattle.recode_engine.specs.Status.{status_of}
use Rattle.recode_engine.specs.Fault.{recode_error_text}
use Rattle.recode_part.specs.declared.ending.Ending.{Ending}
use Rattle.recode_part.specs.declared.ending.Ending.TheVariants.{Refused, Ran, Failed}
use Rattle.recode_part.specs.Refusals.{refusal_text}

-- 2 if the arguments are refused, and otherwise that of the run: 0, 1 or 3
abbrev pub status_of_ending : Ending → ℕ
status_of_ending (Refused refusal) = 2
status_of_ending (Ran replaced) = status_of (Ok replaced)
status_of_ending (Failed error) = status_of (Err error.fault)

-- a line with the name of the program
abbrev pub line_of : List ℕ → List ℕ
line_of text = codes "recode_part: " ++ text ++ codes "\n"

-- A line says why there was nothing to run, or which side failed and why. The text of a cause is
-- not modelled.
abbrev pub printed_text : Ending → Option (List ℕ)
printed_text (Refused refusal) = Some (line_of (refusal_text refusal))
printed_text (Ran replaced) = Some []
printed_text (Failed error) = option_map line_of (recode_error_text error.fault error.cause)
