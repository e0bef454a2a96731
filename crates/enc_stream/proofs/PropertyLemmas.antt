-- Properties of each encoding's rule: ASCII-compatible, single-byte, after which bytes inputs are
-- divided, and that a pending BB needs no lookahead.
use Rattle.std.proofs.Common.{◌≡◌, ◌↔◌, Bool, true, false, refl, subst, arith}
use Rattle.enc_decoder.specs.Segmentation.{Rule}
use Rattle.enc_decoder.specs.Division.{IsDividedAfter, IsDividedBelowDigits}
use Rattle.enc_codec.specs.Codecs.{codec_facts}
use Rattle.enc_codec.specs.CodecLaws.{Decides, DecidesDivision}
use Rattle.enc_codec.specs.Properties.{IsAsciiCompatible, IsSingleByte, DeterminesBbByItself}
use Rattle.enc_names.specs.declared.encoding_id.EncodingId.{EncodingId}
use Rattle.enc_names.specs.declared.encoding_id.EncodingId.TheVariants.{Utf8}
use Rattle.enc_names.specs.EncodingTable.{codec_by_id, ascii_compatible_by_id, single_byte_by_id}
use Rattle.enc_stream.specs.declared.encoding.Encoding.{Encoding}
use Rattle.enc_stream.specs.Division.{LineFeedsDivide}
use Rattle.enc_stream.specs.Encodings.{rule_of}
use Rattle.enc_stream.specs.Properties.{is_ascii_compatible, is_single_byte}
use Rattle.enc_stream.proofs.EncodingLemmas.{laws_of}

-- The table has the properties of the codecs: by computation, encoding by encoding.

pub listed_ascii : (id : EncodingId)
    → (codec_facts (codec_by_id id)).ascii_compatible ≡ ascii_compatible_by_id id
listed_ascii Utf8 = refl
listed_ascii _ = refl

listed_single_byte : (id : EncodingId)
    → (codec_facts (codec_by_id id)).single_byte ≡ single_byte_by_id id
listed_single_byte Utf8 = refl
listed_single_byte _ = refl

list_shows : (t : Bool) (p : Type 0) → Decides t p → (t ≡ true) ↔ p
list_shows true p h = (λ _. h, λ _. refl)
list_shows false p h = (λ e. cc, λ x. absurd (h x))

pub shows_ascii_compatible : (e : Encoding) → (is_ascii_compatible e ≡ true)
    ↔ IsAsciiCompatible (rule_of e)
shows_ascii_compatible e =
    let has : Bool → Type 0 = λ t. Decides t (IsAsciiCompatible (rule_of e)) in
    list_shows _ _ (subst has (listed_ascii e.id) (laws_of e).ascii)

pub shows_single_byte : (e : Encoding) → (is_single_byte e ≡ true) ↔ IsSingleByte (rule_of e)
shows_single_byte e =
    let has : Bool → Type 0 = λ t. Decides t (IsSingleByte (rule_of e)) in
    list_shows _ _ (subst has (listed_single_byte e.id) (laws_of e).single)

division_of : (e : Encoding) → DecidesDivision (is_ascii_compatible e) (rule_of e)
division_of e =
    let divides : Bool → Type 0 = λ t. DecidesDivision t (rule_of e) in
    subst divides (listed_ascii e.id) (laws_of e).divided

division_shows : (t : Bool) (rule : Rule) → DecidesDivision t rule
    → (t ≡ true) ↔ IsDividedAfter 0x0A rule
division_shows true rule divided = (λ _. divided 0x0A (omega arith), λ _. refl)
division_shows false rule undivided = (λ e. cc, λ divided. absurd (undivided divided))

pub shows_line_feeds_divide : (e : Encoding) → (is_ascii_compatible e ≡ true) ↔ LineFeedsDivide e
shows_line_feeds_divide e = division_shows (is_ascii_compatible e) (rule_of e) (division_of e)

pub divided_below_digits : (e : Encoding) → is_ascii_compatible e ≡ true
    → IsDividedBelowDigits (rule_of e)
divided_below_digits e compatible =
    subst (λ (t : Bool). DecidesDivision t (rule_of e)) compatible (division_of e)

pub shows_bb : (e : Encoding) → DeterminesBbByItself (rule_of e)
shows_bb e = (laws_of e).bb
