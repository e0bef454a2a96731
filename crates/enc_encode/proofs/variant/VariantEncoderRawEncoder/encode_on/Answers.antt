use Rattle.enc_encode.proofs.variant.VariantEncoderRawEncoder.encode_on.Goals as goal

pub returns-in-Utf8-clause-call : goal.returns-in-Utf8-clause-call
returns-in-Utf8-clause-call g c = rw c.in-Utf8.is c.encode_on.ensures.call

pub returns-in-SingleByte-clause-call : goal.returns-in-SingleByte-clause-call
returns-in-SingleByte-clause-call g c = rw c.in-SingleByte.is c.encode_on-in-SingleByte.ensures.call

pub returns-in-Big5-clause-call : goal.returns-in-Big5-clause-call
returns-in-Big5-clause-call g c = rw c.in-Big5.is c.encode_on-in-Big5.ensures.call

pub returns-in-EucKr-clause-call : goal.returns-in-EucKr-clause-call
returns-in-EucKr-clause-call g c = rw c.in-EucKr.is c.encode_on-in-EucKr.ensures.call

pub returns-in-ShiftJis-clause-call : goal.returns-in-ShiftJis-clause-call
returns-in-ShiftJis-clause-call g c = rw c.in-ShiftJis.is c.encode_on-in-ShiftJis.ensures.call

pub returns-in-EucJp-clause-call : goal.returns-in-EucJp-clause-call
returns-in-EucJp-clause-call g c = rw c.in-EucJp.is c.encode_on-in-EucJp.ensures.call

pub returns-in-Gb18030-clause-call : goal.returns-in-Gb18030-clause-call
returns-in-Gb18030-clause-call g c = rw c.in-Gb18030.is c.encode_on-in-Gb18030.ensures.call

pub returns-in-XUserDefined-clause-call : goal.returns-in-XUserDefined-clause-call
returns-in-XUserDefined-clause-call g c =
    rw c.in-XUserDefined.is c.encode_on-in-XUserDefined.ensures.call

pub returns-in-Iso2022Jp-clause-call : goal.returns-in-Iso2022Jp-clause-call
returns-in-Iso2022Jp-clause-call g c = rw c.in-Iso2022Jp.is c.encode_on-in-Iso2022Jp.ensures.call
