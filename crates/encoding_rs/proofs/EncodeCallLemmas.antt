-- What one call of a run of an encoder reports, and what it leaves.
use Rattle.std.proofs.Common.{◌≡◌, ℕ, ◌≤◌, Bool, true, false, true≢false, ◌==◌, ◌↔◌, chars, List, [], ◌∷◌}
use Rattle.std.proofs.Common.{length, refl, ap, ◌∙◌, sym, arith, ◌||◌, ◌&&◌, nat_le}
use Rattle.std.proofs.Common.{if◌then◌else◌}
use Rattle.std.proofs.lemmas.Bool.{leb-true, le-leb}
use Rattle.std.proofs.lemmas.Bool.Decides.{same_from_decides, Decides-eqb}
use Rattle.std.proofs.lemmas.List.{length-append}
use Rattle.std.proofs.Math.ListN.{drop_of_length-le}
use Rattle.std.proofs.lemmas.Str.{encodes-chars}
use Rattle.enc_encoder.proofs.EnoughLemmas.{some_of_utf_8}
use Rattle.std.specs.Prelude.{drop}
use Rattle.std.specs.Char.{encode_utf8}
use Rattle.std.specs.Str.{IsUtf8, encode_utf8_all}
use Rattle.enc_input.specs.declared.encoder_result.EncoderResult.{EncoderResult}
use Rattle.enc_input.specs.declared.encoder_result.EncoderResult.TheVariants.{InputEmpty, OutputFull, Unmappable}
use Rattle.enc_encoder.specs.EncoderRule.{RawEncoderState}
use Rattle.enc_encoder.specs.Steps.{Step, any_reported}
use Rattle.enc_encoder.specs.Call.{EncoderStops}
use Rattle.enc_encoder.specs.ErrorMode.{EncodeErrorMode, Fatal, Html, is_html_mode, StopsInMode}
use Rattle.enc_encoder.proofs.UnmappableLemmas.{any_in, none_in, one_in, reports_in, some_in}
use Rattle.enc_stream.specs.Encoder.{EncoderState}
use Rattle.enc_decoder.proofs.SequenceLemmas.{or_false}
use Rattle.encoding_rs.specs.EncodeRun.{encode_error_mode, reported_character, is_unmappable_result}
use Rattle.encoding_rs.specs.EncodeRun.{is_input_empty_result}

-- the reports of a call without replacement, by its steps
report_is : (new : RawEncoderState) (rest : List ℕ) (last : Bool) (room : ℕ) (done : List Step)
    (result : EncoderResult) → EncoderStops new rest last room done result
    → (reported_character result ≡ reports_in done)
    × (is_unmappable_result result ≡ any_reported done)
report_is new rest last room done InputEmpty stops =
    (sym (none_in done stops.none_reported), sym stops.none_reported)
report_is new rest last room done OutputFull stops =
    (sym (none_in done stops.none_reported), sym stops.none_reported)
report_is new rest last room done (Unmappable c) stops =
    let one = one_in new rest last room stops in (sym one, sym (any_in done ∙ ap some_in one))

-- the character that a call reports and its flag, by its steps
pub report_of_call : (replace : Bool) (v : EncoderState) (new : RawEncoderState) (rest : List ℕ)
    (last : Bool) (room : ℕ) (done : List Step) (result : EncoderResult) (replaced : Bool)
    → replaced ≡ (is_html_mode (encode_error_mode replace v) && any_reported done)
    → StopsInMode (encode_error_mode replace v) new rest last room done result
    → (reported_character result ≡ (if replace then [] else reports_in done))
    × ((replaced || is_unmappable_result result) ≡ any_reported done)
report_of_call true v new rest last room done InputEmpty replaced flag stops =
    (refl, or_false replaced ∙ flag)
report_of_call true v new rest last room done OutputFull replaced flag stops =
    (refl, or_false replaced ∙ flag)
report_of_call true v new rest last room done (Unmappable c) replaced flag stops = absurd stops
report_of_call false v new rest last room done result replaced flag stops =
    let report_holds = report_is new rest last room done result stops in
    (report_holds.0, ap (λ b. b || is_unmappable_result result) flag ∙ report_holds.1)

-- after a call that ends the text, nothing is left
pub left_nothing : (mode : EncodeErrorMode) (new : RawEncoderState) (rest : List ℕ) (last : Bool)
    (room : ℕ) (done : List Step) (result : EncoderResult)
    → StopsInMode mode new rest last room done result
    → is_input_empty_result result ≡ true → rest ≡ []
left_nothing Fatal new rest last room done InputEmpty s e = s.all_read
left_nothing (Html kept) new [] last room done InputEmpty s e = refl
left_nothing (Html kept) new (c ∷ t) last room done InputEmpty s e = absurd (true≢false (sym s))
left_nothing mode new rest last room done OutputFull s e = absurd (true≢false (sym e))
left_nothing mode new rest last room done (Unmappable c) s e = absurd (true≢false (sym e))

pub is_empty_is : (result : EncoderResult) → is_input_empty_result result ≡ true
    → result ≡ InputEmpty
is_empty_is InputEmpty e = refl
is_empty_is OutputFull e = absurd (true≢false (sym e))
is_empty_is (Unmappable c) e = absurd (true≢false (sym e))

-- no characters follow the offer of a call that reaches the end
pub nothing_later : (unread : List ℕ) (offer : ℕ) → nat_le (length unread) offer ≡ true
    → drop offer unread ≡ []
nothing_later unread offer l = drop_of_length-le unread (leb-true (length unread) offer l)

-- a text has no more characters than bytes
pub few_chars : (text : List ℕ) → IsUtf8 text → length (chars text) ≤ length text
few_chars text u = omega (arith, few (chars text), ap length (encodes-chars text u))
  where
    few : (t : List ℕ) → length t ≤ length (encode_utf8_all t)
    few [] = omega arith
    few (c ∷ t) = omega (
      arith,
      few t,
      length-append (encode_utf8 c) (encode_utf8_all t),
      some_of_utf_8 c,
    )

-- the offer is all of the rest
pub is_last : (n m offer : ℕ) (last : Bool) → last ≡ (n == 0) → (n ≡ 0) ↔ (m ≤ offer)
    → last ≡ nat_le m offer
is_last n m offer last last_is ends =
    let none = Decides-eqb n 0 in
    last_is ∙ same_from_decides {P = m ≤ offer} (n == 0) (nat_le m offer)
    (λ is_zero. ends.0 (none.0 is_zero), λ few. none.1 (ends.1 few))
    (leb-true m offer, le-leb m offer)
