-- No answer reads an entry. (Search would, for more than a minute.)
-- Written by scripts/make-sources from data/templates: change the text there, and not this file.
use Rattle.std.proofs.Common.{ap, sym}
use Rattle.enc_index.specs.Runs.{single_byte_runs}
use Rattle.enc_index.proofs.single_byte_index.SingleByteIndex.runs.Goals as goal

pub returns-in-Ibm866 : goal.returns-in-Ibm866
unfolding single_byte_runs
returns-in-Ibm866 c = sym (ap single_byte_runs c.in-Ibm866.is)

pub returns-in-Iso88592 : goal.returns-in-Iso88592
unfolding single_byte_runs
returns-in-Iso88592 c = sym (ap single_byte_runs c.in-Iso88592.is)

pub returns-in-Iso88593 : goal.returns-in-Iso88593
unfolding single_byte_runs
returns-in-Iso88593 c = sym (ap single_byte_runs c.in-Iso88593.is)

pub returns-in-Iso88594 : goal.returns-in-Iso88594
unfolding single_byte_runs
returns-in-Iso88594 c = sym (ap single_byte_runs c.in-Iso88594.is)

pub returns-in-Iso88595 : goal.returns-in-Iso88595
unfolding single_byte_runs
returns-in-Iso88595 c = sym (ap single_byte_runs c.in-Iso88595.is)

pub returns-in-Iso88596 : goal.returns-in-Iso88596
unfolding single_byte_runs
returns-in-Iso88596 c = sym (ap single_byte_runs c.in-Iso88596.is)

pub returns-in-Iso88597 : goal.returns-in-Iso88597
unfolding single_byte_runs
returns-in-Iso88597 c = sym (ap single_byte_runs c.in-Iso88597.is)

pub returns-in-Iso88598 : goal.returns-in-Iso88598
unfolding single_byte_runs
returns-in-Iso88598 c = sym (ap single_byte_runs c.in-Iso88598.is)

pub returns-in-Iso885910 : goal.returns-in-Iso885910
unfolding single_byte_runs
returns-in-Iso885910 c = sym (ap single_byte_runs c.in-Iso885910.is)

pub returns-in-Iso885913 : goal.returns-in-Iso885913
unfolding single_byte_runs
returns-in-Iso885913 c = sym (ap single_byte_runs c.in-Iso885913.is)

pub returns-in-Iso885914 : goal.returns-in-Iso885914
unfolding single_byte_runs
returns-in-Iso885914 c = sym (ap single_byte_runs c.in-Iso885914.is)

pub returns-in-Iso885915 : goal.returns-in-Iso885915
unfolding single_byte_runs
returns-in-Iso885915 c = sym (ap single_byte_runs c.in-Iso885915.is)

pub returns-in-Iso885916 : goal.returns-in-Iso885916
unfolding single_byte_runs
returns-in-Iso885916 c = sym (ap single_byte_runs c.in-Iso885916.is)

pub returns-in-Koi8R : goal.returns-in-Koi8R
unfolding single_byte_runs
returns-in-Koi8R c = sym (ap single_byte_runs c.in-Koi8R.is)

pub returns-in-Koi8U : goal.returns-in-Koi8U
unfolding single_byte_runs
returns-in-Koi8U c = sym (ap single_byte_runs c.in-Koi8U.is)

pub returns-in-Macintosh : goal.returns-in-Macintosh
unfolding single_byte_runs
returns-in-Macintosh c = sym (ap single_byte_runs c.in-Macintosh.is)

pub returns-in-Windows874 : goal.returns-in-Windows874
unfolding single_byte_runs
returns-in-Windows874 c = sym (ap single_byte_runs c.in-Windows874.is)

pub returns-in-Windows1250 : goal.returns-in-Windows1250
unfolding single_byte_runs
returns-in-Windows1250 c = sym (ap single_byte_runs c.in-Windows1250.is)

pub returns-in-Windows1251 : goal.returns-in-Windows1251
unfolding single_byte_runs
returns-in-Windows1251 c = sym (ap single_byte_runs c.in-Windows1251.is)

pub returns-in-Windows1252 : goal.returns-in-Windows1252
unfolding single_byte_runs
returns-in-Windows1252 c = sym (ap single_byte_runs c.in-Windows1252.is)

pub returns-in-Windows1253 : goal.returns-in-Windows1253
unfolding single_byte_runs
returns-in-Windows1253 c = sym (ap single_byte_runs c.in-Windows1253.is)

pub returns-in-Windows1254 : goal.returns-in-Windows1254
unfolding single_byte_runs
returns-in-Windows1254 c = sym (ap single_byte_runs c.in-Windows1254.is)

pub returns-in-Windows1255 : goal.returns-in-Windows1255
unfolding single_byte_runs
returns-in-Windows1255 c = sym (ap single_byte_runs c.in-Windows1255.is)

pub returns-in-Windows1256 : goal.returns-in-Windows1256
unfolding single_byte_runs
returns-in-Windows1256 c = sym (ap single_byte_runs c.in-Windows1256.is)

pub returns-in-Windows1257 : goal.returns-in-Windows1257
unfolding single_byte_runs
returns-in-Windows1257 c = sym (ap single_byte_runs c.in-Windows1257.is)

pub returns-in-Windows1258 : goal.returns-in-Windows1258
unfolding single_byte_runs
returns-in-Windows1258 c = sym (ap single_byte_runs c.in-Windows1258.is)

pub returns-in-XMacCyrillic : goal.returns-in-XMacCyrillic
unfolding single_byte_runs
returns-in-XMacCyrillic c = sym (ap single_byte_runs c.in-XMacCyrillic.is)
