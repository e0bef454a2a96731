-- What is printed of the error of a one-shot call, and its kind as an I/O error.
use Rattle.std.specs.Prelude.{ℕ, List, codes}
use Rattle.std.specs.declared.io.ErrorKind.{ErrorKind}
use Rattle.std.specs.declared.io.ErrorKind.TheVariants.{OutOfMemory, InvalidInput}
use Rattle.enc_stream.specs.declared.one_shot_error.OneShotError.{OneShotError}
use Rattle.enc_stream.specs.declared.one_shot_error.OneShotError.TheVariants.{Memory, TooLong}

abbrev pub one_shot_error_text : OneShotError → List ℕ
one_shot_error_text Memory = codes "out of memory"
one_shot_error_text TooLong = codes "a length to allocate overflows usize"

-- An input that is too long stays so with any memory: the caller has to pass another.
abbrev pub one_shot_error_kind : OneShotError → ErrorKind
one_shot_error_kind Memory = OutOfMemory
one_shot_error_kind TooLong = InvalidInput
