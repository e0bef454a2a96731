use Rattle.std.proofs.Common.{refl, []}
use Rattle.enc_reader.specs.HeldText.{text_state_of}
use Rattle.enc_reader.proofs.HeldTextLemmas.{takes_known, keeps_known, known_front, known_none}
use Rattle.enc_reader.proofs.decoded_text.DecodedText.fill_text.Goals as goal

pub returns : goal.returns
returns g c =
    let new = c.fill_whole.new.self in
    let value = c.held_text.ensures in
    let state = text_state_of new in
    let source = g.R.Source.remaining new.reader.reader.now in
    let kept = keeps_known _ _
    (takes_known _ source _ state [] c.fill_whole.ensures.takes new.reader.exhausted) in (
      (
        refl,
        λ _. tt,
        record {
          takes = c.fill_whole.ensures.takes;
          shown = value;
          end = c.in_default.ensures.end;
        },
      ),
      record {
        shown = known_front _ source state c.held_text.result.now kept value;
        end = known_none _ source state c.held_text.result.now kept value c.in_default.ensures.end;
        cut = tt;
        failed_before = tt;
        after_borrow = tt;
      },
    )
