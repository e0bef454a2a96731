-- What was encoded is read back, whatever is barred.
use Rattle.std.proofs.Common.{◌≡◌, ℕ, true, false, Some, List, [], map, sym, subst, ◌∙◌}
use Rattle.std.proofs.lemmas.List.{map-id}
use Rattle.enc_utf8.specs.Text.{AreScalars}
use Rattle.enc_decoder.specs.Sequence.{sequence_text}
use Rattle.enc_decoder.specs.Segmentation.{sequences_of}
use Rattle.enc_index.specs.declared.codec.Codec.{Codec}
use Rattle.enc_index.specs.declared.codec.Codec.TheVariants.{ShiftJis, EucJp, Gbk, Gb18030, Iso2022Jp}
use Rattle.enc_codec.specs.Codecs.{codec_rule}
use Rattle.enc_encoder.specs.declared.character_set.CharacterSet.TheVariants.{Ascii}
use Rattle.enc_encoder.specs.EncoderRule.{EncoderRule}
use Rattle.enc_encoder.specs.Text.{bytes_of_text}
use Rattle.enc_encoder.specs.Barring.{barring_rule}
use Rattle.enc_encode.specs.Encoders.{encoder_rule}
use Rattle.enc_encoder.specs.Unmappable.{any_unmappable}
use Rattle.enc_round_trip.specs.RoundTrip.{char_read_back, keeps_characters}
use Rattle.enc_round_trip.proofs.ReadBackLemmas.{IsReadAs}
use Rattle.enc_round_trip.proofs.BarringBack.{still_mapped, same_bytes_after}
use Rattle.enc_round_trip.proofs.Gb18030Back.{gb18030_keeps}
use Rattle.enc_round_trip.proofs.CodecsBack.{IsReadIfAny, read_if_any}

-- by the rule that the codec has, whatever is barred
pub is_read : (c : Codec) (b : List ℕ) (e : EncoderRule) (t : List ℕ) → encoder_rule c ≡ Some e
    → AreScalars t → any_unmappable (barring_rule b e) t ≡ false
    → IsReadAs (codec_rule c) 0 (bytes_of_text (barring_rule b e) Ascii t)
    (map (char_read_back c) t)
is_read c b e t q s all_mapped =
    subst (λ y. IsReadAs (codec_rule c) 0 y (map (char_read_back c) t))
    (sym (same_bytes_after b e Ascii [] t all_mapped))
    ((subst (IsReadIfAny c) q (read_if_any c)) t s (still_mapped b e t all_mapped))

-- each character is read back as itself, where the codec keeps characters

keeps : (c : Codec) (t : List ℕ) → keeps_characters c t ≡ true → map (char_read_back c) t ≡ t
keeps ShiftJis t h = cc
keeps EucJp t h = cc
keeps Iso2022Jp t h = cc
keeps Gbk t h = gb18030_keeps t h
keeps Gb18030 t h = gb18030_keeps t h
keeps _ t h = map-id t

pub same_text : (c : Codec) (b : List ℕ) (e : EncoderRule) (t : List ℕ) → encoder_rule c ≡ Some e
    → AreScalars t → any_unmappable (barring_rule b e) t ≡ false → keeps_characters c t ≡ true
    → sequence_text (sequences_of (codec_rule c) 0 (bytes_of_text (barring_rule b e) Ascii t)) ≡ t
same_text c b e t q s m k = (is_read c b e t q s m).text ∙ keeps c t k
