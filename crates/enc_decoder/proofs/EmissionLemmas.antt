-- What a codec shows, for every codec.
use Rattle.std.proofs.Common.{◌≡◌, ℕ, ◌+◌, ◌<◌, ◌≤◌, true, false, List, [], ◌∷◌, ◌++◌, length, ap, ◌∙◌, sym, arith}
use Rattle.std.proofs.Common.{append-nil, subst}
use Rattle.std.proofs.lemmas.List.{length-append}
use Rattle.std.proofs.lemmas.Bool.{false≢true}
use Rattle.enc_decoder.specs.declared.byte_codec.Kind.{Kind}
use Rattle.enc_decoder.specs.declared.byte_codec.Kind.TheVariants.{Valid, Skipped, Malformed, RepeatedEscape}
use Rattle.enc_decoder.specs.declared.byte_codec.Text.{Text}
use Rattle.enc_decoder.specs.declared.byte_codec.HandlerResult.TheVariants.{Emit}
use Rattle.enc_decoder.specs.Sequence.{Sequence, is_malformed, is_repeated_escape}
use Rattle.enc_decoder.specs.Segmentation.{sequences_of}
use Rattle.enc_decoder.specs.Remainder.{AreBytes, AreFirstSequences, IsUndetermined}
use Rattle.enc_decoder.specs.CodecState.{CodecState, remainder_of}
use Rattle.enc_decoder.specs.Call.{AreMalformedLens, AreReportedLens}
use Rattle.enc_decoder.specs.CodecLaw.{text_chars, IsNextSequence, HandlesByte, BeginsWithByte}
use Rattle.enc_decoder.proofs.SegmentationLemmas.{sequences_of-nil}

-- how long a sequence that is no repeated escape is at most, and how many bytes are pending after
-- it
are_bounded : (kind : Kind) (l a : ℕ) → is_repeated_escape kind ≡ false → AreMalformedLens l a
    → AreReportedLens kind l a
are_bounded Valid l a e lens = lens
are_bounded Skipped l a e lens = lens
are_bounded Malformed l a e lens = lens
are_bounded RepeatedEscape l a e lens = absurd (false≢true (sym e))

-- pending bytes that determine nothing

first_is : (s t : Sequence) (ss all : List Sequence) → all ≡ t ∷ ss → AreFirstSequences (s ∷ []) all
    → s ≡ t
first_is s t ss all e g = let begins_with_s = g.1 in cc

none_is_first : (s : Sequence) (all : List Sequence) → all ≡ [] → AreFirstSequences (s ∷ []) all → ⊥
none_is_first s all e g = let begins_with_s = g.1 in cc

-- two ways to go on that begin with two sequences
pub undetermined_by : (remaining : List ℕ → List Sequence) (y z : List ℕ) (s t : Sequence)
    (ss ts : List Sequence) → AreBytes y → AreBytes z
    → remaining y ≡ s ∷ ss → remaining z ≡ t ∷ ts → (s ≡ t → ⊥) → IsUndetermined remaining
undetermined_by remaining y z s t ss ts bytes also first other differ q determines =
    differ (sym (first_is q s ss (remaining y) first (determines y bytes))
    ∙ first_is q t ts (remaining z) other (determines z also))

-- no pending bytes
pub nothing_pending : (v : CodecState) → v.pending ≡ [] → IsUndetermined (remainder_of v).sequences
nothing_pending v e q d =
    none_is_first q ((remainder_of v).sequences [])
    (ap (λ x. sequences_of v.rule v.set (x ++ [])) e ∙ sequences_of-nil v.rule v.set) (d [] tt)

module _ {C : Type 0} (state : C → CodecState) (c next : C) (text : Text) (kind : Kind) (len : ℕ)
  where
    -- these bytes are the first sequence if y follows, and the next state goes on with z
    abbrev Shows : List ℕ → List ℕ → List ℕ → Type 0
    Shows bytes y z = (remainder_of (state c)).sequences y
        ≡ record { bytes = bytes; text = text_chars text; kind = kind; set = (state next).set }
        ∷ (remainder_of (state next)).sequences z

    -- a malformed one has U+FFFD for its text, and is not too long
    abbrev KeepsBounds : Type 0
    KeepsBounds = is_malformed kind ≡ true
        → (text_chars text ≡ 0xFFFD ∷ []) × (AreMalformedLens len (length (state next).pending))

    -- a byte is the last of a sequence, after which nothing is pending
    pub shows_with : (b : ℕ) → (state next).rule ≡ (state c).rule → (state next).pending ≡ []
        → len ≡ length (state c).pending + 1
        → is_repeated_escape kind ≡ false
        → (is_malformed kind ≡ true → (text_chars text ≡ 0xFFFD ∷ []) × (len ≤ 4))
        → ((z : List ℕ) → Shows ((state c).pending ++ b ∷ []) (b ∷ z) z)
        → HandlesByte state c b
        (Emit (record { text = text; kind = kind; len = len; takes_byte = true; next = next }))
    shows_with b same_rule none_pending is_len not_repeated malformed_text comes =
        let one_longer : length ((state c).pending ++ b ∷ []) ≡ length (state c).pending + 1 =
        length-append (state c).pending (b ∷ []) in
        let none_after : length (state next).pending ≡ 0 = ap length none_pending in (
          record {
            bytes = (state c).pending ++ b ∷ [];
            some = omega (arith, one_longer);
            len = is_len ∙ sym one_longer;
            parts = sym (append-nil ((state c).pending ++ b ∷ []))
                ∙ ap (λ x. ((state c).pending ++ b ∷ []) ++ x) (sym none_pending);
            first = λ y _. comes y;
            same_rule = same_rule;
            replacement = λ faulty. (malformed_text faulty).0;
            bounds = λ faulty.
                let at_most_four = (malformed_text faulty).1 in
                are_bounded kind len (length (state next).pending) not_repeated
                (at_most_four, omega (arith, none_after), omega (arith, none_after, at_most_four));
            late = λ repeated. absurd (false≢true (sym not_repeated ∙ repeated));
            clean = λ _ _. none_pending;
          },
          λ _. nothing_pending (state next) none_pending,
        )

    -- pending bytes are a sequence, and what shows it isn't read; others may stay pending after
    -- them
    pub shows_before : (may_follow : List ℕ → Type 0) (bytes : List ℕ)
        → (state next).rule ≡ (state c).rule → (state c).pending ≡ bytes ++ (state next).pending
        → len ≡ length bytes → 0 < len → is_repeated_escape kind ≡ false → KeepsBounds
        → ((y : List ℕ) → may_follow y → Shows bytes y y)
        → IsNextSequence state c may_follow []
        (record { text = text; kind = kind; len = len; takes_byte = false; next = next })
    shows_before may_follow bytes same_rule parts is_len some not_repeated faults first = record {
      bytes = bytes;
      some = omega arith;
      len = is_len;
      parts = append-nil (state c).pending ∙ parts;
      first = first;
      same_rule = same_rule;
      replacement = λ faulty. (faults faulty).0;
      bounds = λ faulty. are_bounded kind len (length (state next).pending) not_repeated
          (faults faulty).1;
      late = λ repeated. absurd (false≢true (sym not_repeated ∙ repeated));
      clean = λ takes. absurd (false≢true takes);
    }

    -- the next byte shows it
    pub shows_at : (b : ℕ) (bytes : List ℕ) → (state next).rule ≡ (state c).rule
        → (state c).pending ≡ bytes ++ (state next).pending
        → len ≡ length bytes → 0 < len → is_repeated_escape kind ≡ false → KeepsBounds
        → ((z : List ℕ) → Shows bytes (b ∷ z) (b ∷ z))
        → HandlesByte state c b
        (Emit (record { text = text; kind = kind; len = len; takes_byte = false; next = next }))
    shows_at b bytes same_rule parts is_len some not_repeated keeps_bounds comes = (
      shows_before (BeginsWithByte b) bytes same_rule parts is_len some not_repeated keeps_bounds
          (λ y begins. subst (λ x. Shows bytes x x) (sym begins.1) (comes begins.0)),
      λ takes. absurd (false≢true takes),
    )
