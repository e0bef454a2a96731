-- The double-byte indexes by their rows, and their code points by pointer.
-- Written by scripts/make-sources from data/templates: change the text there, and not this file.
use Rattle.std.specs.Prelude.{ℕ, List}
use Rattle.enc_index.specs.declared.table.Planes.TheVariants.{Basic, All}
use Rattle.enc_index.specs.declared.list.List.TheVariants as index
use Rattle.enc_index.specs.declared.data.big5.TheConstants.{BIG5_TABLE}
use Rattle.enc_index.specs.declared.data.euc_kr.TheConstants.{EUC_KR_TABLE}
use Rattle.enc_index.specs.declared.data.gb18030.TheConstants.{GB18030_TABLE}
use Rattle.enc_index.specs.declared.data.jis0208.TheConstants.{JIS0208_TABLE}
use Rattle.enc_index.specs.Grid.{Shape}
use Rattle.enc_index.specs.Runs.{runs_of}

-- index Big5
abbrev pub big5_shape : Shape
big5_shape = record { planes = All; runs = runs_of index.Big5; rows = 126; width = 157 }

-- its table, with which look-ups by character are compared
abbrev pub big5_entries : List ℕ
big5_entries = BIG5_TABLE

-- index EUC-KR
abbrev pub euc_kr_shape : Shape
euc_kr_shape = record { planes = Basic; runs = runs_of index.EucKr; rows = 126; width = 190 }

-- its table, with which look-ups by character are compared
abbrev pub euc_kr_entries : List ℕ
euc_kr_entries = EUC_KR_TABLE

-- index gb18030
abbrev pub gb18030_shape : Shape
gb18030_shape = record { planes = Basic; runs = runs_of index.Gb18030; rows = 126; width = 190 }

-- its table, with which look-ups by character are compared
abbrev pub gb18030_entries : List ℕ
gb18030_entries = GB18030_TABLE

-- index jis0208
abbrev pub jis0208_shape : Shape
jis0208_shape = record { planes = Basic; runs = runs_of index.Jis0208; rows = 120; width = 94 }

-- its table, with which look-ups by character are compared
abbrev pub jis0208_entries : List ℕ
jis0208_entries = JIS0208_TABLE
