-- Written by scripts/make-sources from data/templates: change the text there, and not this file.
use Rattle.enc_codec.proofs.variant.VariantDecoderRawDecoder.decode.Goals as goal

pub returns-in-Big5-clause-lawful : goal.returns-in-Big5-clause-lawful
returns-in-Big5-clause-lawful g c = rw c.in-Big5.is c.decode-in-Big5.ensures.lawful

pub returns-in-EucKr-clause-lawful : goal.returns-in-EucKr-clause-lawful
returns-in-EucKr-clause-lawful g c = rw c.in-EucKr.is c.decode-in-EucKr.ensures.lawful

pub returns-in-ShiftJis-clause-lawful : goal.returns-in-ShiftJis-clause-lawful
returns-in-ShiftJis-clause-lawful g c = rw c.in-ShiftJis.is c.decode-in-ShiftJis.ensures.lawful

pub returns-in-Utf16-clause-call : goal.returns-in-Utf16-clause-call
returns-in-Utf16-clause-call g c = rw c.in-Utf16.is c.decode-in-Utf16.ensures.call

pub returns-in-Utf16-clause-lawful : goal.returns-in-Utf16-clause-lawful
returns-in-Utf16-clause-lawful g c = rw c.in-Utf16.is c.decode-in-Utf16.ensures.lawful
