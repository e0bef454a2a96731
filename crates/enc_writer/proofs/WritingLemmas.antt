-- Successive steps of a writer are one, and what they say of the whole text.
use Rattle.std.proofs.Common.{◌≡◌, ℕ, ◌+◌, Bool, true, false, ◌||◌, Option, List, [], ◌++◌, take, drop}
use Rattle.std.proofs.Common.{refl, ap, ◌∙◌, sym, subst, append_assoc, append-nil, arith, ◌≤◌}
use Rattle.std.proofs.Common.{length, length-append, length-drop}
use Rattle.std.proofs.lemmas.List.{length-take-le}
use Rattle.std.proofs.Math.Seq.{take-add}
use Rattle.std.proofs.Math.Bool.{or_assoc}
use Rattle.enc_utf8.specs.declared.coder_result.CoderResult.{CoderResult}
use Rattle.enc_input.specs.Results.{encoder_result_of}
use Rattle.enc_encoder.specs.declared.character_set.CharacterSet.TheVariants.{Ascii}
use Rattle.enc_encoder.specs.ErrorMode.{CallInMode}
use Rattle.enc_encoder.specs.Text.{reference_after}
use Rattle.enc_encoder.specs.Unmappable.{any_unmappable}
use Rattle.enc_encoder.proofs.UnmappableLemmas.{any_unmappable-append}
use Rattle.enc_stream.specs.Encodings.{output_rule}
use Rattle.enc_stream.specs.Encoder.{EncoderState, EncodesChunk, raw_state, html_mode}
use Rattle.std.specs.Io.KnownBytes.{Keeps}
use Rattle.enc_writer.specs.Sink.{AppendsContents}
use Rattle.enc_writer.specs.EncodedText.{EncodesText, bytes_from_state, text_to_encode}
use Rattle.enc_writer.specs.Writing.{WriterState, PushesBytes, HasEncoded, HasWrittenText}
use Rattle.enc_writer.specs.Writing.{WritesText, EndsText, ended_writer, owed_bytes}
use Rattle.enc_writer.proofs.SinkLemmas.{AppendsContents-none, AppendsContents-then}
use Rattle.enc_writer.proofs.SinkLemmas.{AppendsContents-keeps}
use Rattle.enc_writer.proofs.EncodingLemmas.{not_ended, none_owed, EncodesText-none, EncodesText-call}
use Rattle.enc_writer.proofs.EncodingLemmas.{EncodesText-then}

pub or_false : (x : Bool) → x ≡ (x || false)
or_false true = refl
or_false false = refl

-- encoders of one encoding have one rule
pub same_rule : (a b : EncoderState) → b.encoding ≡ a.encoding → b.barred ≡ a.barred
    → (raw_state b).rule ≡ (raw_state a).rule
same_rule a b encoding barred =
    ap (λ e. output_rule b.barred e) encoding ∙ ap (λ l. output_rule l a.encoding) barred

-- Steps

-- nothing is pushed
pub PushesBytes-none : (k : Option (List ℕ)) (w : WriterState) → PushesBytes k k w w []
PushesBytes-none k w = record {
  encoder = refl;
  flag = refl;
  pushed = [];
  taken = AppendsContents-none k;
  bytes_kept = append-nil w.held;
}

-- all is pushed
pub PushesBytes-all : {k₀ k₁ : Option (List ℕ)} (encoder : EncoderState) (had : Bool)
    (held bytes : List ℕ) → AppendsContents k₀ k₁ (held ++ bytes)
    → PushesBytes k₀ k₁ (record { encoder = encoder; held = held; had_unmappables = had })
    (record { encoder = encoder; held = []; had_unmappables = had }) bytes
PushesBytes-all encoder had held bytes taken = record {
  encoder = refl;
  flag = refl;
  pushed = held ++ bytes;
  taken = taken;
  bytes_kept = sym (append-nil (held ++ bytes));
}

-- these bytes are those of the text that is read
pub HasEncoded-pushed : {k₀ k₁ : Option (List ℕ)} {a b : WriterState} {t left bytes : List ℕ}
    {last : Bool} → EncodesText (text_to_encode a.encoder t) (text_to_encode a.encoder left) last
    bytes false → PushesBytes k₀ k₁ a b bytes → HasEncoded k₀ k₁ a b t left last
HasEncoded-pushed {a = a} {t = t} {left = left} {bytes = bytes} {last = last} encodes
    pushes = record {
      wrote = bytes;
      replaced = false;
      encoded = subst (λ (e : EncoderState).
          EncodesText (text_to_encode a.encoder t) (text_to_encode e left) last bytes false)
          (sym pushes.encoder) encodes;
      flag = pushes.flag ∙ or_false a.had_unmappables;
      pushed = pushes.pushed;
      taken = pushes.taken;
      bytes_kept = pushes.bytes_kept;
    }

-- no text is read
pub HasEncoded-push : {k₀ k₁ : Option (List ℕ)} {a b : WriterState} (t : List ℕ) (last : Bool)
    → PushesBytes k₀ k₁ a b [] → HasEncoded k₀ k₁ a b t t last
HasEncoded-push {a = a} t last pushes =
    HasEncoded-pushed (EncodesText-none (text_to_encode a.encoder t) last) pushes

pub HasEncoded-none : (k : Option (List ℕ)) (w : WriterState) (t : List ℕ) (last : Bool)
    → HasEncoded k k w w t t last
HasEncoded-none k w t last = HasEncoded-push t last (PushesBytes-none k w)

-- one call of the encoder, which writes after the bytes held
module _ (k : Option (List ℕ)) {old new : EncoderState} (had : Bool) (held written : ℕ)
    (before after : List ℕ) where
  pub HasEncoded-call : (result : CoderResult) {units_of : ℕ → List ℕ} {c : CallInMode}
      {left : List ℕ} → c.mode ≡ html_mode old → c.result ≡ encoder_result_of result
      → (encodes : EncodesChunk units_of old new c) → c.wrote ≡ take written (drop held after)
      → take held after ≡ take held before → left ≡ encodes.rest
      → HasEncoded k k
      (record { encoder = old; held = take held before; had_unmappables = had })
      (record {
        encoder = new;
        held = take (held + written) after;
        had_unmappables = had || c.replaced;
      }) c.src left c.last
  HasEncoded-call result {c = c} is_html result_is encodes wrote_is held_stay left_is = record {
    wrote = c.wrote;
    replaced = c.replaced;
    encoded = subst (λ rest. EncodesText (text_to_encode old c.src) (text_to_encode new rest)
        c.last c.wrote c.replaced) (sym left_is)
        (EncodesText-call (text_to_encode old c.src) result is_html result_is refl encodes);
    flag = refl;
    pushed = [];
    taken = AppendsContents-none k;
    bytes_kept = ap (λ w. take held before ++ w) wrote_is
        ∙ ap (λ h. h ++ take written (drop held after)) (sym held_stay)
        ∙ sym (take-add held written after);
  }

-- The bytes in the buffer and those still to write are as many as before the call.
pub bytes_left : (old new : EncoderState) (result : CoderResult) {units_of : ℕ → List ℕ}
    {c : CallInMode} {left : List ℕ} (held written : ℕ) (after : List ℕ) → c.mode ≡ html_mode old
    → c.result ≡ encoder_result_of result → (encodes : EncodesChunk units_of old new c)
    → c.wrote ≡ take written (drop held after) → held + written ≤ length after
    → left ≡ encodes.rest
    → (held + written) + length (bytes_from_state new left)
    ≡ held + length (bytes_from_state old c.src)
bytes_left old new result {c = c} held written after is_html result_is encodes wrote_is within
    left_is =
    let residual = (EncodesText-call (text_to_encode old c.src) result is_html result_is refl
    encodes).residual [] (λ _. refl) in
    let all : bytes_from_state old c.src ≡ c.wrote ++ bytes_from_state new encodes.rest =
    ap (bytes_from_state old) (sym (append-nil c.src)) ∙ residual
    ∙ ap (λ t. c.wrote ++ bytes_from_state new t) (append-nil encodes.rest) in
    let lengths = ap length all ∙ length-append c.wrote (bytes_from_state new encodes.rest) in
    let count : length c.wrote ≡ written =
    ap length wrote_is ∙ length-take-le written (drop held after)
    (omega (arith, length-drop held after)) in
    let rest_is = ap (λ t. length (bytes_from_state new t)) left_is in
    omega (arith, lengths, count, rest_is)

-- the same, if a reference may be left to the caller
pub bytes_left_reported : (old new : EncoderState) {units_of : ℕ → List ℕ} {c : CallInMode}
    {left : List ℕ} (held written : ℕ) (after : List ℕ)
    → (encodes : EncodesChunk units_of old new c) → c.wrote ≡ take written (drop held after)
    → held + written ≤ length after → left ≡ encodes.rest
    → (held + written) + length (bytes_from_state new left)
    ≤ held + length (bytes_from_state old c.src)
bytes_left_reported old new {c = c} held written after encodes wrote_is within left_is =
    let later = bytes_from_state new encodes.rest in
    let all : bytes_from_state old c.src ≡ c.wrote ++ (reference_after c.result ++ later) =
    ap (bytes_from_state old) (sym (append-nil c.src)) ∙ encodes.call.text [] (λ _. refl)
    ∙ ap (λ t. c.wrote ++ (reference_after c.result ++ bytes_from_state new t))
    (append-nil encodes.rest) in
    let lengths = ap length all ∙ length-append c.wrote (reference_after c.result ++ later) in
    let lengths_after = length-append (reference_after c.result) later in
    let count : length c.wrote ≡ written =
    ap length wrote_is ∙ length-take-le written (drop held after)
    (omega (arith, length-drop held after)) in
    let rest_is = ap (λ t. length (bytes_from_state new t)) left_is in
    omega (arith, lengths, lengths_after, count, rest_is)

-- Where bytes fit into the buffer, 14 of its bytes stay free while they are put there.
pub room_for_next : (filled : ℕ) (output bytes : List ℕ) (filled_now : ℕ) {len_now : ℕ}
    → filled ≤ length output → length (take filled output ++ bytes) + 14 ≤ length output
    → len_now ≡ length output → filled_now ≤ filled + length bytes → filled_now + 14 ≤ len_now
room_for_next filled output bytes filled_now within fits room sum = omega (
  arith,
  length-append (take filled output) bytes,
  length-take-le filled output within,
  room,
  sum,
)

module _ {k₀ k₁ k₂ : Option (List ℕ)} {a b c : WriterState} where
  pub HasEncoded-then : {t u v : List ℕ} {last : Bool} → HasEncoded k₀ k₁ a b t u last
      → HasEncoded k₁ k₂ b c u v last → HasEncoded k₀ k₂ a c t v last
  HasEncoded-then first next = record {
    wrote = first.wrote ++ next.wrote;
    replaced = first.replaced || next.replaced;
    encoded = EncodesText-then first.encoded next.encoded;
    flag = next.flag ∙ ap (λ x. x || next.replaced) first.flag
        ∙ or_assoc a.had_unmappables first.replaced next.replaced;
    pushed = first.pushed ++ next.pushed;
    taken = AppendsContents-then k₀ k₁ k₂ first.pushed next.pushed first.taken next.taken;
    bytes_kept = sym (append_assoc a.held first.wrote next.wrote)
        ∙ ap (λ x. x ++ next.wrote) first.bytes_kept
        ∙ append_assoc first.pushed b.held next.wrote
        ∙ ap (λ x. first.pushed ++ x) next.bytes_kept
        ∙ sym (append_assoc first.pushed next.pushed c.held);
  }

-- The bytes owed before are those pushed and those owed now.
pub owed_by : {k₀ k₁ : Option (List ℕ)} {a b : WriterState} {t left : List ℕ} {last : Bool}
    (encoded : HasEncoded k₀ k₁ a b t left last) (z : List ℕ) → (last ≡ true → z ≡ [])
    → owed_bytes a (t ++ z) ≡ encoded.pushed ++ owed_bytes b (left ++ z)
owed_by {a = a} {b = b} {left = left} encoded z ends =
    let later = bytes_from_state b.encoder (left ++ z) in
    ap (λ x. a.held ++ x) (encoded.encoded.residual z ends)
    ∙ sym (append_assoc a.held encoded.wrote later)
    ∙ ap (λ x. x ++ later) encoded.bytes_kept
    ∙ append_assoc encoded.pushed b.held later

-- Calls

pub HasWrittenText-by : {k₀ k₁ : Option (List ℕ)} {a b : WriterState} {t : List ℕ}
    → HasEncoded k₀ k₁ a b t [] false → HasWrittenText k₀ k₁ a b t
HasWrittenText-by {a = a} {b = b} {t = t} encoded =
    let all_read : encoded.encoded.front ≡ t =
    sym (append-nil encoded.encoded.front) ∙ sym encoded.encoded.reads in
    record {
      encoding = encoded.encoded.encoding;
      barred = encoded.encoded.barred;
      pushed = encoded.pushed;
      taken = encoded.taken;
      owed = λ z. owed_by encoded z (λ e. not_ended e);
      flag = encoded.flag ∙ ap (λ r. a.had_unmappables || r) (encoded.encoded.flag
          ∙ ap (any_unmappable (raw_state a.encoder).rule) all_read);
    }

-- nothing is written
pub HasWrittenText-none : (k : Option (List ℕ)) (w : WriterState) → HasWrittenText k k w w []
HasWrittenText-none k w = HasWrittenText-by (HasEncoded-none k w [] false)

pub HasWrittenText-then : {k₀ k₁ k₂ : Option (List ℕ)} {a b c : WriterState} {t u : List ℕ}
    → HasWrittenText k₀ k₁ a b t → HasWrittenText k₁ k₂ b c u → HasWrittenText k₀ k₂ a c (t ++ u)
HasWrittenText-then {k₀} {k₁} {k₂} {a} {b} {c} {t} {u} first next = record {
  encoding = next.encoding ∙ first.encoding;
  barred = next.barred ∙ first.barred;
  pushed = first.pushed ++ next.pushed;
  taken = AppendsContents-then k₀ k₁ k₂ first.pushed next.pushed first.taken next.taken;
  owed = λ z. ap (owed_bytes a) (append_assoc t u z) ∙ first.owed (u ++ z)
      ∙ ap (λ x. first.pushed ++ x) (next.owed z)
      ∙ sym (append_assoc first.pushed next.pushed (owed_bytes c z));
  flag =
      let rule = (raw_state a.encoder).rule in
      next.flag
      ∙ ap (λ e. b.had_unmappables || any_unmappable (output_rule b.encoder.barred e) u)
      first.encoding
      ∙ ap (λ l. b.had_unmappables || any_unmappable (output_rule l a.encoder.encoding) u)
      first.barred
      ∙ ap (λ h. h || any_unmappable rule u) first.flag
      ∙ or_assoc a.had_unmappables (any_unmappable rule t) (any_unmappable rule u)
      ∙ ap (λ r. a.had_unmappables || r) (sym (any_unmappable-append rule t u));
}

-- the sink keeps its bytes after that
pub HasWrittenText-keeps : {k₀ k₁ k₂ : Option (List ℕ)} {a b c : WriterState} {t : List ℕ}
    → HasWrittenText k₀ k₁ a b t → Keeps k₁ k₂ → c ≡ b → HasWrittenText k₀ k₂ a c t
HasWrittenText-keeps {k₀} {k₁} {k₂} {a} {t = t} written keeps same =
    subst (λ w. HasWrittenText k₀ k₂ a w t) (sym same) (record {
      encoding = written.encoding;
      barred = written.barred;
      pushed = written.pushed;
      taken = AppendsContents-keeps k₀ k₁ k₂ written.pushed written.taken keeps;
      owed = written.owed;
      flag = written.flag;
    })

pub WritesText-alone : {k₀ k₁ : Option (List ℕ)} {a b : WriterState} {t : List ℕ}
    → HasWrittenText k₀ k₁ a b t → WritesText k₀ k₁ a b t
WritesText-alone alone =
    record { alone = alone; after = λ k start before first. HasWrittenText-then first alone }

pub WritesText-by : {k₀ k₁ : Option (List ℕ)} {a b : WriterState} {t : List ℕ}
    → HasEncoded k₀ k₁ a b t [] false → WritesText k₀ k₁ a b t
WritesText-by encoded = WritesText-alone (HasWrittenText-by encoded)

-- The end: all is encoded, and all bytes are pushed.
module _ {k₀ k₁ k₂ : Option (List ℕ)} {a b c : WriterState}
    (encoded : HasEncoded k₀ k₁ a b [] [] true) (in_ascii : b.encoder.set ≡ Ascii)
    (pushes : PushesBytes k₁ k₂ b c []) where
  held_is : c.held ≡ [] → owed_bytes b [] ≡ pushes.pushed
  held_is none_held = ap (λ x. b.held ++ x) (none_owed b.encoder in_ascii) ∙ pushes.bytes_kept
      ∙ ap (λ x. pushes.pushed ++ x) none_held ∙ append-nil pushes.pushed

  pub EndsText-by : c.held ≡ [] → EndsText k₀ k₂ a
  EndsText-by none_held k start text first =
      let pushed = encoded.pushed ++ pushes.pushed in
      let all : owed_bytes start text ≡ first.pushed ++ pushed =
      ap (owed_bytes start) (sym (append-nil text)) ∙ first.owed []
      ∙ ap (λ x. first.pushed ++ x) (owed_by encoded [] (λ _. refl)
      ∙ ap (λ x. encoded.pushed ++ x) (held_is none_held)) in
      subst (AppendsContents k k₂) (sym all)
      (AppendsContents-then k k₀ k₂ first.pushed pushed first.taken
      (AppendsContents-then k₀ k₁ k₂ encoded.pushed pushes.pushed encoded.taken pushes.taken))

  none_replaced : encoded.replaced ≡ false
  none_replaced = encoded.encoded.flag ∙ ap (any_unmappable (raw_state a.encoder).rule)
      (sym (append-nil encoded.encoded.front) ∙ sym encoded.encoded.reads)

  pub flag_stays : c.had_unmappables ≡ a.had_unmappables
  flag_stays = pushes.flag ∙ encoded.flag ∙ ap (λ r. a.had_unmappables || r) none_replaced
      ∙ sym (or_false a.had_unmappables)

  encoder_is : c.encoder ≡ record a.encoder { set = Ascii }
  encoder_is =
      let first = a.encoder in
      pushes.encoder
      ∙ ap (λ x. record b.encoder { encoding = x }) encoded.encoded.encoding
      ∙ ap (λ x. record b.encoder { encoding = first.encoding; barred = x })
      encoded.encoded.barred
      ∙ ap (λ x. record { encoding = first.encoding; barred = first.barred; set = x }) in_ascii

  pub writer_ends : c.held ≡ [] → c ≡ ended_writer a
  writer_ends none_held =
      ap (λ x. record c { encoder = x }) encoder_is
      ∙ ap (λ x. record c { encoder = record a.encoder { set = Ascii }; held = x }) none_held
      ∙ ap (λ x. record (ended_writer a) { had_unmappables = x }) flag_stays
