-- Written by scripts/make-sources from data/templates: change the text there, and not this file.
use Rattle.std.proofs.Common.{◌∙◌, ap, sym}
use Rattle.enc_index.specs.Runs.{runs_of}
use Rattle.enc_index.proofs.list.List.runs.Goals as goal

pub returns-in-SingleByte : goal.returns-in-SingleByte
unfolding runs_of
returns-in-SingleByte c = c.runs.ensures ∙ sym (ap runs_of c.in-SingleByte.is)

pub returns-in-Big5 : goal.returns-in-Big5
unfolding runs_of
returns-in-Big5 c = sym (ap runs_of c.in-Big5.is)

pub returns-in-EucKr : goal.returns-in-EucKr
unfolding runs_of
returns-in-EucKr c = sym (ap runs_of c.in-EucKr.is)

pub returns-in-Gb18030 : goal.returns-in-Gb18030
unfolding runs_of
returns-in-Gb18030 c = sym (ap runs_of c.in-Gb18030.is)

pub returns-in-Jis0208 : goal.returns-in-Jis0208
unfolding runs_of
returns-in-Jis0208 c = sym (ap runs_of c.in-Jis0208.is)

pub returns-in-Jis0212 : goal.returns-in-Jis0212
unfolding runs_of
returns-in-Jis0212 c = sym (ap runs_of c.in-Jis0212.is)

pub returns-in-Gb18030Ranges : goal.returns-in-Gb18030Ranges
unfolding runs_of
returns-in-Gb18030Ranges c = sym (ap runs_of c.in-Gb18030Ranges.is)
