-- The indexes by name (Encoding Standard 5). Their runs don't unfold: no proof of an encoding reads
-- an entry.
-- Written by scripts/make-sources from data/templates: change the text there, and not this file.
use Rattle.std.specs.Prelude.{ℕ, Option, List}
use Rattle.enc_index.specs.declared.table.Planes.{Planes}
use Rattle.enc_index.specs.declared.table.Planes.TheVariants.{Basic, All}
use Rattle.enc_index.specs.declared.list.List.{List as Index}
use Rattle.enc_index.specs.declared.list.List.TheVariants as index
use Rattle.enc_index.specs.declared.single_byte_index.SingleByteIndex.{SingleByteIndex}
use Rattle.enc_index.specs.declared.single_byte_index.SingleByteIndex.TheVariants as single_byte
use Rattle.enc_index.specs.declared.data.single_byte.TheConstants as single_byte_data
use Rattle.enc_index.specs.declared.data.big5.TheConstants.{BIG5_RUNS}
use Rattle.enc_index.specs.declared.data.euc_kr.TheConstants.{EUC_KR_RUNS}
use Rattle.enc_index.specs.declared.data.gb18030.TheConstants.{GB18030_RUNS}
use Rattle.enc_index.specs.declared.data.jis0208.TheConstants.{JIS0208_RUNS}
use Rattle.enc_index.specs.declared.data.jis0212.TheConstants.{JIS0212_RUNS}
use Rattle.enc_index.specs.declared.data.gb18030_ranges.TheConstants.{GB18030_RANGES_RUNS}
use Rattle.enc_index.specs.Index.{Run, index_at}

-- the runs of a single-byte index
unfoldable pub single_byte_runs : SingleByteIndex → List Run
single_byte_runs single_byte.Ibm866 = single_byte_data.IBM866_RUNS.now
single_byte_runs single_byte.Iso88592 = single_byte_data.ISO_8859_2_RUNS.now
single_byte_runs single_byte.Iso88593 = single_byte_data.ISO_8859_3_RUNS.now
single_byte_runs single_byte.Iso88594 = single_byte_data.ISO_8859_4_RUNS.now
single_byte_runs single_byte.Iso88595 = single_byte_data.ISO_8859_5_RUNS.now
single_byte_runs single_byte.Iso88596 = single_byte_data.ISO_8859_6_RUNS.now
single_byte_runs single_byte.Iso88597 = single_byte_data.ISO_8859_7_RUNS.now
single_byte_runs single_byte.Iso88598 = single_byte_data.ISO_8859_8_RUNS.now
single_byte_runs single_byte.Iso885910 = single_byte_data.ISO_8859_10_RUNS.now
single_byte_runs single_byte.Iso885913 = single_byte_data.ISO_8859_13_RUNS.now
single_byte_runs single_byte.Iso885914 = single_byte_data.ISO_8859_14_RUNS.now
single_byte_runs single_byte.Iso885915 = single_byte_data.ISO_8859_15_RUNS.now
single_byte_runs single_byte.Iso885916 = single_byte_data.ISO_8859_16_RUNS.now
single_byte_runs single_byte.Koi8R = single_byte_data.KOI8_R_RUNS.now
single_byte_runs single_byte.Koi8U = single_byte_data.KOI8_U_RUNS.now
single_byte_runs single_byte.Macintosh = single_byte_data.MACINTOSH_RUNS.now
single_byte_runs single_byte.Windows874 = single_byte_data.WINDOWS_874_RUNS.now
single_byte_runs single_byte.Windows1250 = single_byte_data.WINDOWS_1250_RUNS.now
single_byte_runs single_byte.Windows1251 = single_byte_data.WINDOWS_1251_RUNS.now
single_byte_runs single_byte.Windows1252 = single_byte_data.WINDOWS_1252_RUNS.now
single_byte_runs single_byte.Windows1253 = single_byte_data.WINDOWS_1253_RUNS.now
single_byte_runs single_byte.Windows1254 = single_byte_data.WINDOWS_1254_RUNS.now
single_byte_runs single_byte.Windows1255 = single_byte_data.WINDOWS_1255_RUNS.now
single_byte_runs single_byte.Windows1256 = single_byte_data.WINDOWS_1256_RUNS.now
single_byte_runs single_byte.Windows1257 = single_byte_data.WINDOWS_1257_RUNS.now
single_byte_runs single_byte.Windows1258 = single_byte_data.WINDOWS_1258_RUNS.now
single_byte_runs single_byte.XMacCyrillic = single_byte_data.X_MAC_CYRILLIC_RUNS.now

-- the runs of an index
unfoldable pub runs_of : Index → List Run
runs_of (index.SingleByte it) = single_byte_runs it
runs_of index.Big5 = BIG5_RUNS.now
runs_of index.EucKr = EUC_KR_RUNS.now
runs_of index.Gb18030 = GB18030_RUNS.now
runs_of index.Jis0208 = JIS0208_RUNS.now
runs_of index.Jis0212 = JIS0212_RUNS.now
runs_of index.Gb18030Ranges = GB18030_RANGES_RUNS.now

-- the planes that contain its characters
abbrev pub planes_of : Index → Planes
planes_of (index.SingleByte it) = Basic
planes_of index.Big5 = All
planes_of index.EucKr = Basic
planes_of index.Gb18030 = Basic
planes_of index.Jis0208 = Basic
planes_of index.Jis0212 = Basic
planes_of index.Gb18030Ranges = All

-- the character of a pointer in each index ("index code point")
abbrev pub big5_at : ℕ → Option ℕ
big5_at pointer = index_at All (runs_of index.Big5) pointer

abbrev pub euc_kr_at : ℕ → Option ℕ
euc_kr_at pointer = index_at Basic (runs_of index.EucKr) pointer

abbrev pub gb18030_at : ℕ → Option ℕ
gb18030_at pointer = index_at Basic (runs_of index.Gb18030) pointer

abbrev pub jis0208_at : ℕ → Option ℕ
jis0208_at pointer = index_at Basic (runs_of index.Jis0208) pointer

abbrev pub jis0212_at : ℕ → Option ℕ
jis0212_at pointer = index_at Basic (runs_of index.Jis0212) pointer

abbrev pub gb18030_ranges_at : ℕ → Option ℕ
gb18030_ranges_at pointer = index_at All (runs_of index.Gb18030Ranges) pointer
