-- Which characters are unmappable to an encoder that characters are barred from.
use Rattle.std.proofs.Common.{◌≡◌, ℕ, true, None, List, [], ap, if◌then◌else◌}
use Rattle.enc_encoder.specs.Barring.{contains_char, are_beyond_ascii}
use Rattle.enc_encoder.proofs.BarringLemmas.{barred_is}
use Rattle.enc_encode.specs.Encoders.{encoder_rule}
use Rattle.enc_stream.specs.declared.encoding.Encoding.{Encoding}
use Rattle.enc_names.specs.EncodingTable.{codec_by_id}
use Rattle.enc_stream.specs.Encodings.{rule_or_utf_8, output_rule}

pub unmappable_if_in : (b : List ℕ) (e : Encoding) (c : ℕ) → are_beyond_ascii b ≡ true
    → (output_rule b e).bytes c ≡ (if contains_char b c then None else (output_rule [] e).bytes c)
unmappable_if_in b e c h =
    ap (λ t. if t then None else (rule_or_utf_8 (encoder_rule (codec_by_id e.id))).bytes c)
    (barred_is b c h)
