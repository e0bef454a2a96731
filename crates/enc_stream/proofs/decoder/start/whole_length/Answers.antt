use Rattle.std.proofs.Common.{◌∙◌, refl}
use Rattle.enc_stream.proofs.LifeCycleLemmas.{starts}
use Rattle.enc_stream.proofs.decoder.start.whole_length.Goals as goal

pub returns : goal.returns
returns c =
    let is = starts c.args.handling c.args.encoding in
    c.max_length.ensures
    ∙ rw (
      c.first_life.ensures,
      is.marks,
      is.none_held,
      c.text_lengths-formulas.ensures,
      c.codec_of.ensures,
    ) refl
