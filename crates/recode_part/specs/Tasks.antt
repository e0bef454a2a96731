-- What the arguments ask for, and the refusals of arguments, in the order in which they are given.
use Rattle.std.specs.Prelude.{◌≡◌, ◌≢◌, ◌⊎◌}
use Rattle.std.specs.String.{string_bytes}
use Rattle.enc_stream.specs.declared.bom.BomHandling.{BomHandling}
use Rattle.enc_stream.specs.declared.encoding.Encoding.{Encoding}
use Rattle.enc_stream.specs.declared.constants.TheConstants.{ISO_2022_JP}
use Rattle.enc_stream.specs.Division.{LineFeedsDivide}
use Rattle.recode_engine.specs.Labels.{NamesEncoding, AreUnknown}
use Rattle.recode_part.specs.declared.task.Arguments.{Arguments}
use Rattle.recode_part.specs.declared.task.Task.{Task}
use Rattle.recode_part.specs.declared.task.Refusal.{Refusal}
use Rattle.recode_part.specs.declared.task.Refusal.TheVariants.{Usage, Label, Part, Length, Whole}
use Rattle.recode_part.specs.Parts.{NamesPart, NamesNoPart, IsBound, HasNoBound}

-- FROM and TO are labels of these encodings.
abbrev pub HaveLabels : Arguments → Encoding → Encoding → Type 0
HaveLabels words from to =
    NamesEncoding (string_bytes words.from) from × NamesEncoding (string_bytes words.to) to

-- Each argument says what this task has.
pub record AreRead (words : Arguments) (task : Task) : Type 0 where
  pub labels : HaveLabels words task.from task.to
  pub part : NamesPart (string_bytes words.part) task.handling
  pub length : IsBound words.length task.length

-- The arguments ask for this task, and a file can be recoded in parts from and to its encodings.
pub record IsTask (words : Arguments) (task : Task) : Type 0 where
  pub read : AreRead words task
  -- The text of an input is that of its parts, if they end after line feeds.
  pub divided : LineFeedsDivide task.from
  -- A part may end in another character set of ISO-2022-JP than the one that the next begins in.
  pub same_set : task.to ≢ ISO_2022_JP

-- The first of these reasons against the arguments is given. That of the usage is none of them.
abbrev pub IsRefused : Arguments → Refusal → Type 0
IsRefused words Usage = ⊥
IsRefused words Label = AreUnknown (string_bytes words.from) (string_bytes words.to)
IsRefused words Part =
    (from to : Encoding) × HaveLabels words from to × NamesNoPart (string_bytes words.part)
IsRefused words Length = (from to : Encoding) × HaveLabels words from to
    × (handling : BomHandling) × NamesPart (string_bytes words.part) handling
    × HasNoBound words.length
IsRefused words (Whole e) = (task : Task) × AreRead words task
    × (((e ≡ task.from) × ¬ (LineFeedsDivide task.from))
    ⊎ ((e ≡ task.to) × LineFeedsDivide task.from × (task.to ≡ ISO_2022_JP)))
