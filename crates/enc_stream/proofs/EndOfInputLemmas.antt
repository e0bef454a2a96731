-- Where a decoder has come to the end.
use Rattle.std.proofs.Common.{◌≡◌, ℕ, Bool, true, false, List, [], ◌++◌, refl, ap, ◌∙◌, sym, append-nil}
use Rattle.std.proofs.lemmas.Bool.{false≢true}
use Rattle.std.specs.Char.{encode_utf8}
use Rattle.enc_stream.specs.declared.bom.BomHandling.{BomHandling}
use Rattle.enc_stream.specs.declared.encoding.Encoding.{Encoding}
use Rattle.enc_output.specs.declared.decoder_result.DecoderResult.{DecoderResult}
use Rattle.enc_output.specs.declared.decoder_result.DecoderResult.TheVariants.{Malformed}
use Rattle.enc_output.specs.declared.decoder_result.DecoderResult.TheVariants as decoder
use Rattle.enc_utf8.specs.Text.{units_of_text}
use Rattle.enc_decoder.specs.Call.{shifted_result}
use Rattle.enc_decoder.specs.Sequence.{sequence_text, any_malformed}
use Rattle.enc_decoder.specs.Call.{reaches_end}
use Rattle.enc_stream.specs.Decoding.{DecoderState, has_finished, remaining_sequences, whole_sequences, whole_utf_8}
use Rattle.enc_stream.specs.Decoding.{whole_malformed, HasDecoded}

-- Whether a call reaches the end.

-- a stop reaches the end exactly if the shifted stop does
pub end_placed : (last : Bool) (stop : DecoderResult) (n : ℕ)
    → reaches_end last (shifted_result stop n) ≡ reaches_end last stop
end_placed last decoder.InputEmpty n = refl
end_placed last decoder.OutputFull n = refl
end_placed last (Malformed l a) n = refl

pub at_end : (last : Bool) (stop : DecoderResult) → reaches_end last stop ≡ true → (last ≡ true)
    × (stop ≡ decoder.InputEmpty)
at_end last decoder.InputEmpty ends = (ends, refl)
at_end last decoder.OutputFull ends = absurd (false≢true ends)
at_end last (Malformed l a) ends = absurd (false≢true ends)

pub not_at_end : (last : Bool) (stop : DecoderResult) → reaches_end last stop ≡ false → last ≡ true
    → stop ≡ decoder.InputEmpty → ⊥
not_at_end last stop goes_on is_last is_empty =
    false≢true (sym goes_on ∙ ap (reaches_end last) is_empty ∙ is_last)

-- at the end nothing is still to come
pub none_left : (d : DecoderState) (y : List ℕ) → has_finished d ≡ true
    → remaining_sequences d y ≡ []
none_left d y finished = rw finished refl

-- so the text is that of the whole input
module _ {handling : BomHandling} {e : Encoding} {bytes unread : List ℕ} {state : DecoderState}
    {text : List ℕ}
    {had : Bool} (decoded : HasDecoded handling e bytes unread true state text had)
    (finished : has_finished state ≡ true) where
  finished_sequences : whole_sequences handling e bytes ≡ decoded.done
  finished_sequences =
      ap (whole_sequences handling e) (sym (append-nil bytes)) ∙ decoded.whole [] (λ _. refl)
      ∙ ap (λ ss. decoded.done ++ ss) (none_left state (unread ++ []) finished)
      ∙ append-nil decoded.done

  pub whole_text : text ≡ whole_utf_8 handling e bytes
  whole_text = decoded.text
      ∙ ap (λ ss. units_of_text encode_utf8 (sequence_text ss)) (sym finished_sequences)

  pub whole_flag : had ≡ whole_malformed handling e bytes
  whole_flag = decoded.flag ∙ ap any_malformed (sym finished_sequences)
