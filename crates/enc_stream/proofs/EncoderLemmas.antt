-- The encoders of the encodings.
use Rattle.std.proofs.Common.{◌≡◌, ◌≢◌, ℕ, ◌+◌, ◌≤◌, Bool, true, false, not, is_some, Option, Some, None, option_map}
use Rattle.std.proofs.Common.{List, [], ◌∷◌, ◌++◌, length, take, drop, refl, ap, sym, subst, ◌∙◌, append_assoc}
use Rattle.std.proofs.Common.{if◌then◌else◌}
use Rattle.std.proofs.lemmas.List.{drop-take, take-append-le}
use Rattle.std.proofs.Math.Seq.{drop-append_seam}
use Rattle.std.proofs.lemmas.Bool.{false≢true}
use Rattle.enc_encoder.specs.EncoderRule.{EncoderRule, RawEncoderState, is_escape_due}
use Rattle.enc_encoder.specs.Stateless.{WritesAscii}
use Rattle.enc_encoder.proofs.BarringLemmas.{except_writes_ascii}
use Rattle.enc_index.specs.declared.codec.Codec.{Codec}
use Rattle.enc_index.specs.declared.codec.Codec.TheVariants as codec
use Rattle.enc_codec.specs.Codecs.{codec_facts}
use Rattle.enc_encoder.specs.declared.character_set.CharacterSet.TheVariants.{Ascii, Roman, Jis0208}
use Rattle.enc_encoder.specs.declared.character_set.CharacterSet.{CharacterSet}
use Rattle.enc_input.specs.declared.encoder_result.EncoderResult.{EncoderResult}
use Rattle.enc_input.specs.declared.encoder_result.EncoderResult.TheVariants.{InputEmpty, OutputFull, Unmappable}
use Rattle.enc_encoder.specs.Steps.{Step}
use Rattle.enc_encoder.specs.ErrorMode.{EncodeErrorMode, Fatal, Html, MapsEveryCharacter, CallInMode, IsCallInMode}
use Rattle.enc_encoder.specs.ErrorMode.{mode_of}
use Rattle.enc_encoder.specs.declared.error_mode.ErrorMode.{ErrorMode}
use Rattle.enc_encoder.specs.declared.error_mode.ErrorMode.TheVariants as code
use Rattle.enc_encoder.specs.ErrorMode.{StopsInMode, is_nothing_left}
use Rattle.enc_encode.specs.Encoders.{EncoderFacts, encoder_facts, encoder_rule, facts_or_utf_8, output_facts}
use Rattle.enc_encode.specs.EncoderLaws.{StaysInAscii}
use Rattle.enc_encode.proofs.EncoderLaws.{encoder_laws}
use Rattle.enc_names.specs.declared.encoding_id.EncodingId.{EncodingId}
use Rattle.enc_names.specs.declared.encoding_id.EncodingId.TheVariants.{Utf8}
use Rattle.enc_stream.specs.declared.encoding.Encoding.{Encoding}
use Rattle.enc_names.specs.EncodingTable.{codec_by_id, output_by_id}
use Rattle.enc_stream.specs.Encodings.{rule_or_utf_8, output_rule}
use Rattle.enc_stream.specs.Properties.{output_encoding_of, is_ascii_compatible}
use Rattle.enc_stream.specs.Encoder.{EncoderState, EncodesChunk, is_utf_8, maps_every_character, raw_state}
use Rattle.enc_stream.proofs.PropertyLemmas.{listed_ascii}
use Rattle.std.proofs.lemmas.List.{take-take}

has_encoder_by_id : (id : EncodingId)
    → is_some (encoder_rule (codec_by_id (output_by_id id))) ≡ true
has_encoder_by_id Utf8 = refl
has_encoder_by_id _ = refl

-- the output encoding has an encoder
pub has_encoder : (e : Encoding)
    → is_some (encoder_rule (codec_by_id (output_encoding_of e).id)) ≡ true
has_encoder e = has_encoder_by_id e.id

-- the error mode of calls that write references, where every character is mappable and elsewhere
pub html_mode_is : (every : Bool)
    → mode_of (if every then code.HtmlOfMappable else code.Html) ≡ Html (if every then 0 else 10)
html_mode_is true = refl
html_mode_is false = refl

rule_by_id : EncodingId → EncoderRule
rule_by_id id = rule_or_utf_8 (encoder_rule (codec_by_id id))

utf_8_has : (id : EncodingId) → is_utf_8 id ≡ true → id ≡ Utf8
utf_8_has Utf8 h = refl
utf_8_has _ h = cc

-- UTF-8 has every character, where none is barred
maps_all : (b : List ℕ) (e : Encoding) → maps_every_character b e ≡ true
    → MapsEveryCharacter (output_rule b e)
unfolding rule_by_id
maps_all [] e every =
    subst MapsEveryCharacter (sym (ap rule_by_id (utf_8_has e.id every))) (λ c. refl)
maps_all (x ∷ b) e every = cc

is_every : (every : Bool)
    → (if every then code.HtmlOfMappable else code.Html) ≡ code.HtmlOfMappable → every ≡ true
is_every true mode_is = refl
is_every false mode_is = cc

-- so calls that write references may keep no bytes free
pub may_keep_none : (b : List ℕ) (e : Encoding) {rule : EncoderRule} {mode : ErrorMode}
    → rule ≡ output_rule b e
    → mode ≡ (if maps_every_character b e then code.HtmlOfMappable else code.Html)
    → mode ≡ code.HtmlOfMappable → MapsEveryCharacter rule
may_keep_none b e rule_is mode_is is_mappable =
    subst MapsEveryCharacter (sym rule_is)
    (maps_all b e (is_every _ (sym mode_is ∙ is_mappable)))

-- such a call reports no character
pub never_reported : {units_of : ℕ → List ℕ} {old new : RawEncoderState} {rest : List ℕ}
    {c : CallInMode}
    → IsCallInMode units_of old new rest c → {kept : ℕ} → c.mode ≡ Html kept
    → (k : ℕ) → c.result ≡ Unmappable k → ⊥
never_reported {new = new} {c = c} call is_html k is_report =
    rw (is_html, is_report) at call.stops

-- An encoding writes by the rule of its facts.

rule_of_found : (found : Option EncoderFacts)
    → (facts_or_utf_8 found).rule
    ≡ rule_or_utf_8 (option_map (λ (facts : EncoderFacts). facts.rule) found)
rule_of_found None = refl
rule_of_found (Some facts) = refl

pub rule_of_facts : (c : Codec) → (output_facts c).rule ≡ rule_or_utf_8 (encoder_rule c)
rule_of_facts c = rule_of_found (encoder_facts c)

-- ISO-2022-JP alone has escape sequences.
pub stays_in_ascii : (c : Codec) → c ≢ codec.Iso2022Jp → StaysInAscii (output_facts c).rule
stays_in_ascii codec.Iso2022Jp is_not = absurd (is_not refl)
stays_in_ascii _ is_not = λ c. refl

-- An ASCII-compatible encoding has no escape sequence, and writes each ASCII character as itself.

is_not_iso_2022_jp : (c : Codec) → (codec_facts c).ascii_compatible ≡ true → c ≢ codec.Iso2022Jp
is_not_iso_2022_jp c compatible is_iso =
    false≢true (sym (ap (λ d. (codec_facts d).ascii_compatible) is_iso) ∙ compatible)

module _ (encoding : Encoding) (compatible : is_ascii_compatible encoding ≡ true) where
  stays : StaysInAscii (output_facts (codec_by_id encoding.id)).rule
  stays =
      let of_encoding = codec_by_id encoding.id in
      stays_in_ascii of_encoding
      (is_not_iso_2022_jp of_encoding (listed_ascii encoding.id ∙ compatible))

  pub ascii_bytes : (b : List ℕ) → WritesAscii (output_rule b encoding).bytes
  ascii_bytes b =
      let of_encoding = codec_by_id encoding.id in
      except_writes_ascii b (rule_or_utf_8 (encoder_rule of_encoding)).bytes
      (subst (λ (rule : EncoderRule). WritesAscii rule.bytes) (rule_of_facts of_encoding)
      ((encoder_laws of_encoding).ascii stays))

  pub ascii_set : (b : List ℕ) (c : ℕ) → (output_rule b encoding).has Ascii c ≡ true
  ascii_set b c =
      subst (λ (rule : EncoderRule). rule.has Ascii c ≡ true)
      (rule_of_facts (codec_by_id encoding.id)) (stays c)

-- a call that has ended the text leaves ASCII designated

ascii_left : (s : CharacterSet) → not (is_escape_due s) ≡ true → s ≡ Ascii
ascii_left Ascii h = refl
ascii_left Roman h = cc
ascii_left Jis0208 h = cc

nothing_pending : (v : RawEncoderState) (rest : List ℕ) → is_nothing_left v rest true ≡ true
    → v.set ≡ Ascii
nothing_pending v [] none_left = ascii_left v.set none_left
nothing_pending v (c ∷ t) none_left = cc

ends_in_ascii : (mode : EncodeErrorMode) (new : RawEncoderState) (rest : List ℕ) (last : Bool)
    (room : ℕ)
    (done : List Step) (result : EncoderResult) → StopsInMode mode new rest last room done result
    → result ≡ InputEmpty → last ≡ true → new.set ≡ Ascii
ends_in_ascii Fatal new rest last room done InputEmpty s q l = s.ended l
ends_in_ascii (Html kept) new rest last room done InputEmpty s q l =
    nothing_pending new rest (rw l at s)
ends_in_ascii mode new rest last room done OutputFull s q l = cc
ends_in_ascii mode new rest last room done (Unmappable k) s q l = cc

-- A call of the raw encoder is one of the encoder.
module _ {units_of : ℕ → List ℕ} (barred : List ℕ) (encoding : Encoding) {old new : RawEncoderState}
    (keeps : old.rule ≡ output_rule barred encoding) {rest : List ℕ} {c : CallInMode}
    (call : IsCallInMode units_of old new rest c) where
  abbrev with_set : CharacterSet → EncoderState
  with_set set = record { encoding = encoding; barred = barred; set = set }

  same : (state : RawEncoderState) → state.rule ≡ output_rule barred encoding
      → state ≡ raw_state (with_set state.set)
  same state rule_is =
      let with_rule : EncoderRule → RawEncoderState = λ r. record { rule = r; set = state.set } in
      ap with_rule rule_is

  pub encodes_by : {mode : EncodeErrorMode} → c.mode ≡ mode
      → EncodesChunk units_of (with_set old.set) (with_set new.set) (record c { mode = mode })
  encodes_by is_mode = rw (sym is_mode) (record {
    encoding = refl;
    barred = refl;
    rest = rest;
    call =
        subst (λ (state : RawEncoderState). IsCallInMode units_of state
        (raw_state (with_set new.set)) rest c) (same old keeps)
        (subst (λ (state : RawEncoderState). IsCallInMode units_of old state rest c)
        (same new (call.rule ∙ keeps)) call);
    ended =
        λ at_end is_last. ap with_set
        (ends_in_ascii c.mode new rest c.last c.room call.done c.result call.stops at_end
        is_last);
  })

-- a call whose bytes are at the end of another list than the one that it wrote into
pub in_tail : {units_of : ℕ → List ℕ} {old new : EncoderState} {c : CallInMode} {room : ℕ}
    {tail : List ℕ} → c.room ≡ room → c.wrote ≡ tail → EncodesChunk units_of old new c
    → EncodesChunk units_of old new (record c { room = room; wrote = tail })
in_tail {units_of} {old} {new} {c} {tail = tail} room_is wrote_is encodes =
    subst (λ n. EncodesChunk units_of old new (record c { room = n; wrote = tail })) room_is
    (subst (λ bytes. EncodesChunk units_of old new (record c { wrote = bytes })) wrote_is encodes)

-- The rest of a list after its front, if it was cut after the bytes written there.
pub tail_of : (front slice post junk : List ℕ) {final : List ℕ} {len : ℕ} (written n : ℕ)
    → length front ≡ len
    → written ≤ length slice → len + written ≤ n
    → final ≡ take (len + written) (take n ((front ++ (slice ++ post)) ++ junk))
    → take written slice ≡ drop len final
tail_of front slice post junk {final} {len} written n front_is written_fits room_fits final_is =
    let following = slice ++ (post ++ junk) in
    let cut : final ≡ take (len + written) (front ++ following) =
    final_is ∙ take-take (len + written) n ((front ++ (slice ++ post)) ++ junk) room_fits
    ∙ ap (take (len + written)) (append_assoc front (slice ++ post) junk
    ∙ ap (λ x. front ++ x) (append_assoc slice post junk)) in
    rw (
      cut,
      drop-take len written (front ++ following),
      ← front_is,
      drop-append_seam front following,
    )
    (sym (take-append-le written slice (post ++ junk) written_fits))
