-- Written by scripts/make-sources from data/templates: change the text there, and not this file.
pub mod Big5
pub mod EucKr
pub mod ShiftJis
pub mod EucJp
pub mod Gb18030
