-- Bytes of UTF-8 that are written as text: successive chunks are one.
use Rattle.std.proofs.Common.{◌≡◌, ℕ, Bool, true, false, List, [], ◌++◌, Option, length, take}
use Rattle.std.proofs.Common.{drop, refl, ap, ◌∙◌, sym, subst}
use Rattle.std.proofs.Common.{append_assoc, append-nil, arith, chars}
use Rattle.std.proofs.lemmas.List.{drop_all}
use Rattle.std.proofs.lemmas.Str.{chars-encodes}
use Rattle.std.specs.Char.{encode_utf8}
use Rattle.enc_utf8.specs.declared.coder_result.CoderResult.{CoderResult}
use Rattle.enc_utf8.specs.declared.coder_result.CoderResult.TheVariants.{InputEmpty}
use Rattle.enc_utf8.specs.Text.{units_of_text}
use Rattle.enc_utf8.proofs.UnitsLemmas.{their_units}
use Rattle.enc_decoder.specs.Sequence.{Sequence, sequence_text}
use Rattle.enc_decoder.proofs.SequenceLemmas.{sequence_text-append}
use Rattle.enc_stream.specs.Decoding.{DecoderState, DecodesChunk, remaining_sequences, replacing_call}
use Rattle.enc_stream.proofs.DecoderCallLemmas.{only_put}
use Rattle.std.specs.Io.KnownBytes.{Keeps}
use Rattle.enc_writer.specs.Sink.{AppendsContents, BeginsWithBytes}
use Rattle.enc_writer.specs.Writing.{WriterState, HasWrittenText, StopsWithin, EndsText, owed_bytes}
use Rattle.enc_writer.specs.Utf8Writing.{Utf8State, utf8_state, text_to_come, owed_for_utf8}
use Rattle.enc_writer.specs.Utf8Writing.{HasWrittenUtf8, WritesUtf8, TakesUtf8Prefix, StopsUtf8, EndsUtf8}
use Rattle.enc_writer.proofs.EncodingLemmas.{not_ended}
use Rattle.enc_writer.proofs.WritingLemmas.{HasWrittenText-none, HasWrittenText-then, HasWrittenText-keeps}

-- A writer has taken `bytes` up to those left.
pub record HasReadUtf8 (taken_before taken_after : Option (List ℕ)) (start now : Utf8State)
    (bytes left : List ℕ) (last : Bool) : Type 0 where
  pub text : List ℕ
  pub decoded : (z : List ℕ) → (last ≡ true → z ≡ [])
      → text_to_come start.decoder (bytes ++ z) ≡ text ++ text_to_come now.decoder (left ++ z)
  pub written : HasWrittenText taken_before taken_after start.writer now.writer text

-- nothing is taken
pub read_none : (k : Option (List ℕ)) (s : Utf8State) (bytes : List ℕ) (last : Bool)
    → HasReadUtf8 k k s s bytes bytes last
read_none k s bytes last = record {
  text = [];
  decoded = λ z ends. refl;
  written = HasWrittenText-none k s.writer;
}

module _ {k₀ k₁ k₂ : Option (List ℕ)} {a b c : Utf8State} where
  pub read_then : {bytes left rest : List ℕ} {last : Bool}
      → HasReadUtf8 k₀ k₁ a b bytes left last → HasReadUtf8 k₁ k₂ b c left rest last
      → HasReadUtf8 k₀ k₂ a c bytes rest last
  read_then {rest = rest} first next = record {
    text = first.text ++ next.text;
    decoded = λ z ends.
        first.decoded z ends ∙ ap (λ t. first.text ++ t) (next.decoded z ends)
        ∙ sym (append_assoc first.text next.text (text_to_come c.decoder (rest ++ z)));
    written = HasWrittenText-then first.written next.written;
  }

-- all is taken
pub written_all : {k₀ k₁ : Option (List ℕ)} {a b : Utf8State} {bytes left : List ℕ} {last : Bool}
    → HasReadUtf8 k₀ k₁ a b bytes left last → left ≡ [] → HasWrittenUtf8 k₀ k₁ a b bytes last
written_all {b = b} reads none = record {
  text = reads.text;
  decoded = λ z ends. reads.decoded z ends
      ∙ ap (λ l. reads.text ++ text_to_come b.decoder (l ++ z)) none;
  written = reads.written;
}

-- A call of the decoder.
module _ {old new : DecoderState} where
  module _ (src : List ℕ) (last : Bool) (room : ℕ) (result : CoderResult)
      (read : ℕ) {wrote : List ℕ} {replaced : Bool}
      (decodes : DecodesChunk encode_utf8 old new
      (replacing_call src last room result read wrote replaced)) where
    put_all : decodes.call.put ≡ decodes.call.done
    put_all = only_put (replacing_call src last room result read wrote replaced) decodes refl

    text_is : chars wrote ≡ sequence_text decodes.call.done
    text_is =
        let text = sequence_text decodes.call.put in
        ap chars (decodes.call.text ∙ their_units text) ∙ chars-encodes text decodes.call.scalars
        ∙ ap sequence_text put_all

    -- Its text is that of the bytes that it has read.
    pub decoded_call : {piece : List ℕ} → piece ≡ wrote → (z : List ℕ) → (last ≡ true → z ≡ [])
        → text_to_come old (src ++ z) ≡ chars piece ++ text_to_come new (drop read src ++ z)
    decoded_call same z ends =
        ap sequence_text (decodes.call.residual z ends)
        ∙ sequence_text-append decodes.call.done (remaining_sequences new (drop read src ++ z))
        ∙ ap (λ t. t ++ text_to_come new (drop read src ++ z)) (sym (ap chars same ∙ text_is))

    pub read_call : {k₀ k₁ : Option (List ℕ)} {v w : WriterState} {piece : List ℕ} → piece ≡ wrote
        → HasWrittenText k₀ k₁ v w (chars piece)
        → HasReadUtf8 k₀ k₁ (utf8_state old v) (utf8_state new w) src (drop read src) last
    read_call {piece = piece} same written =
        record { text = chars piece; decoded = decoded_call same; written = written }

  -- Where the input is empty, all of it is read.
  pub none_left : (result : CoderResult) → result ≡ InputEmpty → {src : List ℕ}
      {last : Bool} {room read : ℕ} {wrote : List ℕ} {replaced : Bool}
      → DecodesChunk encode_utf8 old new (replacing_call src last room result read wrote replaced)
      → drop read src ≡ []
  none_left result at_end {src = src} decodes =
      let all : _ ≡ length src = (rw at_end at decodes).call.stops.all_read in
      ap (λ n. drop n src) all ∙ drop_all (length src) src (omega arith)

-- chunks

pub utf8_then : {k₀ k₁ k₂ : Option (List ℕ)} {a b c : Utf8State} {x y : List ℕ} {last : Bool}
    → HasWrittenUtf8 k₀ k₁ a b x false → HasWrittenUtf8 k₁ k₂ b c y last
    → HasWrittenUtf8 k₀ k₂ a c (x ++ y) last
utf8_then {a = a} {c = c} {x} {y} first next = record {
  text = first.text ++ next.text;
  decoded = λ z ends.
      ap (text_to_come a.decoder) (append_assoc x y z)
      ∙ first.decoded (y ++ z) (λ e. not_ended e)
      ∙ ap (λ t. first.text ++ t) (next.decoded z ends)
      ∙ sym (append_assoc first.text next.text (text_to_come c.decoder z));
  written = HasWrittenText-then first.written next.written;
}

pub utf8_by : {k₀ k₁ : Option (List ℕ)} {a b : Utf8State} {x : List ℕ}
    → HasWrittenUtf8 k₀ k₁ a b x false → WritesUtf8 k₀ k₁ a b x
utf8_by alone = record { alone = alone; after = λ k start before first. utf8_then first alone }

-- no bytes are taken, and text is written: none
pub utf8_flushed : {k₀ k₁ : Option (List ℕ)} {d : DecoderState} {v w : WriterState}
    → HasWrittenText k₀ k₁ v w [] → HasWrittenUtf8 k₀ k₁ (utf8_state d v) (utf8_state d w) [] false
utf8_flushed written = record { text = []; decoded = λ z ends. refl; written = written }

regroup : (a b c d : List ℕ) → a ++ (b ++ (c ++ d)) ≡ ((a ++ b) ++ c) ++ d
regroup a b c d = sym (append_assoc (a ++ b) c d ∙ append_assoc a b (c ++ d))

-- The text of some bytes is written, and the text after it fails.
module _ {k₀ k₁ k₂ : Option (List ℕ)} {a b : Utf8State} where
  pub utf8_stops : {bytes left : List ℕ} {last : Bool} (text : List ℕ) (rest : List ℕ → List ℕ)
      → HasReadUtf8 k₀ k₁ a b bytes left last
      → ((z : List ℕ) → (last ≡ true → z ≡ [])
      → text_to_come b.decoder (left ++ z) ≡ text ++ rest z)
      → StopsWithin k₁ k₂ b.writer text false → StopsUtf8 k₀ k₂ a bytes last
  utf8_stops {bytes} {left} text rest reads next stops k start before first =
      let all = HasWrittenText-then first.written reads.written in
      let takes = stops k start.writer (first.text ++ reads.text) all in
      record {
        pushed = takes.pushed;
        taken = takes.taken;
        prefix = λ z ends.
            subst (λ t. BeginsWithBytes (owed_bytes start.writer t) takes.pushed)
            (sym (ap (text_to_come start.decoder) (append_assoc before bytes z)
            ∙ first.decoded (bytes ++ z) (λ e. not_ended e)
            ∙ ap (λ t. first.text ++ t) (reads.decoded z ends
            ∙ ap (λ t. reads.text ++ t) (next z ends))
            ∙ regroup first.text reads.text text (rest z)))
            (takes.prefix (rest z) (λ e. not_ended e));
      }

-- the sink keeps its bytes after that
pub utf8_keeps : {k₀ k₁ k₂ : Option (List ℕ)} {a b : Utf8State} {x : List ℕ} {last : Bool}
    → HasWrittenUtf8 k₀ k₁ a b x last → Keeps k₁ k₂ → HasWrittenUtf8 k₀ k₂ a b x last
utf8_keeps {k₂ = k₂} written keeps = record {
  text = written.text;
  decoded = written.decoded;
  written = HasWrittenText-keeps written.written keeps refl;
}

-- The last chunk is written, and then the end of its text.
pub utf8_ends : {k₀ k₁ k₂ : Option (List ℕ)} {a b : Utf8State} → HasWrittenUtf8 k₀ k₁ a b [] true
    → b.decoder.finished ≡ true → EndsText k₁ k₂ b.writer → EndsUtf8 k₀ k₂ a
utf8_ends {k₂ = k₂} {b = b} written finished ends k start bytes first =
    let all = utf8_then first written in
    let none : text_to_come b.decoder [] ≡ [] = rw finished refl in
    let text : text_to_come start.decoder bytes ≡ all.text =
    ap (text_to_come start.decoder) (sym (append-nil (bytes ++ []) ∙ append-nil bytes))
    ∙ all.decoded [] (λ _. refl) ∙ ap (λ t. all.text ++ t) none ∙ append-nil all.text in
    subst (λ t. AppendsContents k k₂ (owed_bytes start.writer t)) (sym text)
    (ends k start.writer all.text all.written)

-- The last chunk is written, and the end of its text fails.
pub utf8_end_stops : {k₀ k₁ k₂ : Option (List ℕ)} {a b : Utf8State}
    → HasWrittenUtf8 k₀ k₁ a b [] true → StopsWithin k₁ k₂ b.writer [] true
    → b.decoder.finished ≡ true → StopsUtf8 k₀ k₂ a [] true
utf8_end_stops {b = b} written stops finished k start before first =
    let all = utf8_then first written in
    let takes = stops k start.writer all.text all.written in
    let none : text_to_come b.decoder [] ≡ [] = rw finished refl in
    record {
      pushed = takes.pushed;
      taken = takes.taken;
      prefix = λ z ends.
          subst (λ t. BeginsWithBytes (owed_bytes start.writer t) takes.pushed)
          (append-nil (all.text ++ []) ∙ append-nil all.text
          ∙ sym (ap (λ y. text_to_come start.decoder ((before ++ []) ++ y)) (ends refl)
          ∙ all.decoded [] (λ _. refl)
          ∙ ap (λ t. all.text ++ t) none ∙ append-nil all.text))
          (takes.prefix [] (λ _. refl));
    }
