-- Text encoded in an output encoding is decoded back.
use Rattle.std.proofs.Common.{◌≡◌, ◌≢◌, ℕ, true, false, is_some, Option, Some, None, List, [], ◌∷◌, map, refl, ap}
use Rattle.std.proofs.Common.{◌∙◌, arith, inl, not}
use Rattle.std.proofs.lemmas.Bool.{and_from}
use Rattle.std.proofs.Math.Utf8.{low_scalar}
use Rattle.std.specs.Char.{IsScalar}
use Rattle.std.specs.Cmp.{first_so, second_so}
use Rattle.enc_utf8.specs.Text.{AreScalars}
use Rattle.enc_utf8.proofs.ScalarLemmas.{scalars-append}
use Rattle.enc_decoder.specs.Sequence.{sequence_text, any_malformed}
use Rattle.enc_decoder.specs.Segmentation.{sequences_of}
use Rattle.enc_encoder.specs.declared.character_set.CharacterSet.TheVariants.{Ascii}
use Rattle.enc_encoder.specs.EncoderRule.{EncoderRule, IsReferenceCharacter}
use Rattle.enc_encoder.specs.Text.{reference, with_reference, with_references, bytes_of_text}
use Rattle.enc_encoder.proofs.TextLemmas.{AreOfReferences, reference_is}
use Rattle.enc_encode.specs.Encoders.{encoder_rule}
use Rattle.enc_encoder.specs.Unmappable.{any_unmappable}
use Rattle.enc_round_trip.specs.RoundTrip.{char_read_back, any_read_as_other, keeps_characters}
use Rattle.enc_round_trip.proofs.ReadBackLemmas.{IsReadAs}
use Rattle.enc_round_trip.proofs.RoundTripLemmas.{is_read, same_text}
use Rattle.enc_names.specs.declared.encoding_id.EncodingId.{EncodingId}
use Rattle.enc_names.specs.declared.encoding_id.EncodingId.TheVariants.{Gbk, Gb18030, EucJp, ShiftJis, Iso2022Jp}
use Rattle.enc_stream.specs.declared.encoding.Encoding.{Encoding}
use Rattle.enc_names.specs.EncodingTable.{codec_by_id}
use Rattle.enc_stream.specs.Encodings.{rule_or_utf_8, output_rule, rule_of}
use Rattle.enc_stream.specs.Properties.{output_encoding_of}
use Rattle.enc_stream.specs.Encoder.{whole_bytes}
use Rattle.enc_stream.proofs.EncoderLemmas.{has_encoder}
use Rattle.enc_stream.proofs.EncoderProgressLemmas.{same_rule}
use Rattle.enc_stream.proofs.ReferenceLemmas.{lawful_of, all_mapped}

-- the rule of the output encoding is that of its codec

found : (o : Option EncoderRule) → is_some o ≡ true → o ≡ Some (rule_or_utf_8 o)
found None h = cc
found (Some e) h = refl

encoder_is : (e : Encoding)
    → encoder_rule (codec_by_id (output_encoding_of e).id)
    ≡ Some (rule_or_utf_8 (encoder_rule (codec_by_id e.id)))
encoder_is e = found (encoder_rule (codec_by_id (output_encoding_of e).id)) (has_encoder e)
    ∙ ap Some (same_rule e.id)

pub decoded : (b : List ℕ) (e : Encoding) (t : List ℕ) → AreScalars t
    → any_unmappable (output_rule b e) t ≡ false
    → IsReadAs (rule_of (output_encoding_of e)) 0 (bytes_of_text (output_rule b e) Ascii t)
    (map (char_read_back (codec_by_id (output_encoding_of e).id)) t)
decoded b e t s m = is_read (codec_by_id (output_encoding_of e).id) b
    (rule_or_utf_8 (encoder_rule (codec_by_id e.id))) t (encoder_is e) s m

-- all but three give each character back, and two of them all but some

keeps : (id : EncodingId) (t : List ℕ) → (id ≡ EucJp → ⊥) → (id ≡ ShiftJis → ⊥)
    → (id ≡ Iso2022Jp → ⊥) → (id ≡ Gbk → any_read_as_other t ≡ false)
    → (id ≡ Gb18030 → any_read_as_other t ≡ false) → keeps_characters (codec_by_id id) t ≡ true
keeps EucJp t euc shift iso gbk gb18030 = absurd (euc refl)
keeps ShiftJis t euc shift iso gbk gb18030 = absurd (shift refl)
keeps Iso2022Jp t euc shift iso gbk gb18030 = absurd (iso refl)
keeps Gbk t euc shift iso gbk gb18030 = ap not (gbk refl)
keeps Gb18030 t euc shift iso gbk gb18030 = ap not (gb18030 refl)
keeps _ t euc shift iso gbk gb18030 = refl

of_id : EncodingId → Encoding
of_id id = record { id = id }

pub decoded_text : (b : List ℕ) (e : Encoding) (t : List ℕ) → AreScalars t
    → any_unmappable (output_rule b e) t ≡ false
    → output_encoding_of e ≢ record { id = EucJp } → output_encoding_of e ≢ record { id = ShiftJis }
    → output_encoding_of e ≢ record { id = Iso2022Jp }
    → (output_encoding_of e ≡ record { id = Gbk } → any_read_as_other t ≡ false)
    → (output_encoding_of e ≡ record { id = Gb18030 } → any_read_as_other t ≡ false)
    → sequence_text (sequences_of (rule_of (output_encoding_of e)) 0
    (bytes_of_text (output_rule b e) Ascii t)) ≡ t
unfolding of_id
decoded_text b e t s m euc shift iso gbk gb18030 =
    same_text (codec_by_id (output_encoding_of e).id) b
    (rule_or_utf_8 (encoder_rule (codec_by_id e.id))) t (encoder_is e) s m
    (keeps (output_encoding_of e).id t (λ q. euc (ap of_id q)) (λ q. shift (ap of_id q))
    (λ q. iso (ap of_id q)) (λ q. gbk (ap of_id q)) (λ q. gb18030 (ap of_id q)))

-- references are of scalar values

is_scalar : (c : ℕ) → IsReferenceCharacter c → IsScalar c
is_scalar c of_reference = low_scalar c (omega arith)

are_scalars : (t : List ℕ) → AreOfReferences t → AreScalars t
are_scalars [] of_references = refl
are_scalars (c ∷ t) of_references =
    and_from _ _ (is_scalar c of_references.0) (are_scalars t of_references.1)

reference_scalars : (c : ℕ) → AreScalars (reference c)
reference_scalars c = are_scalars (reference c) (inl refl, reference_is c)

one_scalars : (e : EncoderRule) (c : ℕ) (b : Option (List ℕ)) → IsScalar c
    → AreScalars (with_reference e c b)
one_scalars e c None s = reference_scalars (e.reported c)
one_scalars e c (Some b) s = and_from _ _ s refl

with_references_scalars : (e : EncoderRule) (t : List ℕ) → AreScalars t
    → AreScalars (with_references e t)
with_references_scalars e [] scalars = refl
with_references_scalars e (c ∷ t) scalars =
    scalars-append (with_reference e c (e.bytes c)) (with_references e t)
    (one_scalars e c (e.bytes c) (first_so _ _ scalars))
    (with_references_scalars e t (second_so _ _ scalars))

pub decoded_references : (b : List ℕ) (e : Encoding) (t : List ℕ) → AreScalars t
    → any_malformed (sequences_of (rule_of (output_encoding_of e)) 0 (whole_bytes b e t)) ≡ false
decoded_references b e t s =
    let mappable = with_references (output_rule b e) t in
    let scalars = with_references_scalars (output_rule b e) t s in
    (decoded b e mappable scalars (all_mapped (output_rule b e) (lawful_of b e) t)).none_malformed
