-- Written by scripts/make-sources from data/templates: change the text there, and not this file.
use Rattle.enc_codec.proofs.variant.VariantDecoderRawDecoder.text_lengths.Goals as goal

pub returns-in-Big5-clause-enough : goal.returns-in-Big5-clause-enough
returns-in-Big5-clause-enough c = rw c.in-Big5.is c.text_lengths-in-Big5.ensures.enough

pub returns-in-EucKr-clause-enough : goal.returns-in-EucKr-clause-enough
returns-in-EucKr-clause-enough c = rw c.in-EucKr.is c.text_lengths-in-EucKr.ensures.enough

pub returns-in-ShiftJis-clause-enough : goal.returns-in-ShiftJis-clause-enough
returns-in-ShiftJis-clause-enough c = rw c.in-ShiftJis.is c.text_lengths-in-ShiftJis.ensures.enough

pub returns-in-Utf16-clause-enough : goal.returns-in-Utf16-clause-enough
returns-in-Utf16-clause-enough c = rw c.in-Utf16.is c.text_lengths-in-Utf16.ensures.enough
