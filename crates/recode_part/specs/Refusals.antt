-- What is printed of a refusal, after the name of the program.
use Rattle.std.specs.Prelude.{ℕ, List, ◌++◌, codes}
use Rattle.enc_stream.specs.Names.{name_of}
use Rattle.recode_part.specs.declared.task.Refusal.{Refusal}
use Rattle.recode_part.specs.declared.task.Refusal.TheVariants.{Usage, Label, Part, Length, Whole}

abbrev pub refusal_text : Refusal → List ℕ
refusal_text Usage = codes "usage: recode_part FROM TO PART [LENGTH]"
refusal_text Label = codes "unknown label"
refusal_text Part = codes "PART is not a number from 1"
refusal_text Length = codes "LENGTH is not a number"
refusal_text (Whole encoding) =
    codes "a part in " ++ name_of encoding ++ codes " may depend on the bytes before it"
