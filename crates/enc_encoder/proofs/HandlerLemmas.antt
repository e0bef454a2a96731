-- What a character leads to, in an encoding with sets.
use Rattle.std.proofs.Common.{◌≡◌, ℕ, Bool, true, false, Option, Some, None, List, [], ◌∷◌, refl, ap, sym}
use Rattle.enc_input.specs.declared.bytes.Bytes.{Bytes}
use Rattle.enc_encoder.specs.declared.character_set.CharacterSet.{CharacterSet}
use Rattle.enc_encoder.specs.declared.character_set.CharacterSet.TheVariants.{Ascii}
use Rattle.enc_encoder.specs.EncoderRule.{EncoderRule, RawEncoderState, is_escape_due}
use Rattle.enc_encoder.specs.Text.{escape_sequence}
use Rattle.enc_encoder.specs.Steps.{Step, steps_of, char_step, escape_step, first_written_char, steps_at_end}
use Rattle.enc_input.specs.Bytes.{byte_list}
use Rattle.enc_encoder.specs.CharLaw.{IsNextStep, HandlesCharacter, report_unless_mapped, bytes_or_empty, AreBytesOf}
use Rattle.enc_encoder.specs.CharLaw.{char_transition, escape_transition}
use Rattle.enc_encoder.specs.CharLaw.{IsEscapeAtEnd}

-- the bytes found for a character make its step
step_found : (e : EncoderRule) (set : CharacterSet) (c reported : ℕ) (wanted : Option (List ℕ))
    (found : Option Bytes) (b : Bytes) → AreBytesOf wanted found
    → byte_list b ≡ bytes_or_empty found
    → reported ≡ e.reported c
    → char_step e set c wanted
    ≡ record {
      bytes = byte_list b;
      reads = c ∷ [];
      report = report_unless_mapped reported found;
      set = set;
    }
step_found e set c reported wanted None b found_is bytes_are reported_is =
    rw (found_is, bytes_are, reported_is) refl
step_found e set c reported wanted (Some x) b found_is bytes_are reported_is =
    rw (found_is, bytes_are) refl

none_written : (reported : ℕ) (found : Option Bytes) (b : Bytes)
    → byte_list b ≡ bytes_or_empty found → (k : ℕ) → report_unless_mapped reported found ≡ Some k
    → byte_list b ≡ []
none_written reported None b bytes_are k is_report = bytes_are
none_written reported (Some x) b bytes_are k is_report = cc

module _ {E : Type 0} (state : E → RawEncoderState) (x : E) where
  abbrev e : EncoderRule
  e = (state x).rule

  abbrev s : CharacterSet
  s = (state x).set

  -- the step of a character c, for which d is the first that is written
  module _ (c : ℕ) {d : ℕ} (is_first : d ≡ first_written_char c (e.bytes c)) where
    -- the set in force has it
    pub acts_written : e.has s d ≡ true → (reported : ℕ) → reported ≡ e.reported c
        → (found : Option Bytes) (b : Bytes) → AreBytesOf (e.bytes c) found
        → byte_list b ≡ bytes_or_empty found
        → HandlesCharacter state x c (char_transition b x reported found)
    unfolding steps_of
    acts_written has reported reported_is found b found_is bytes_are last z = record {
      first = rw (sym is_first, has) (ap (λ (p : Step). p ∷ steps_of e last s z)
          (step_found e s c reported (e.bytes c) found b found_is bytes_are reported_is));
      same = refl;
      some = λ _ n. cc;
      reports = λ k m. (refl, none_written reported found b bytes_are k m);
    }

    -- it lacks it, and then an escape comes first
    escaped : e.has (e.designated d) d ≡ true → e.has s d ≡ false → (last : Bool) (z : List ℕ)
        → steps_of e last s (c ∷ z) ≡ escape_step (e.designated d)
        ∷ steps_of e last (e.designated d) (c ∷ z)
    unfolding steps_of
    escaped designated_has lacks last z = rw (sym is_first, lacks, designated_has) refl

    pub acts_escaped : e.has (e.designated d) d ≡ true → e.has s d ≡ false → (y : E)
        → state y ≡ record { rule = e; set = e.designated d } → (b : Bytes)
        → byte_list b ≡ escape_sequence (e.designated d)
        → HandlesCharacter state x c (escape_transition b y)
    acts_escaped designated_has lacks y next_is b bytes_are last z = record {
      first = rw (next_is, bytes_are) (escaped designated_has lacks last z);
      same = rw next_is refl;
      some = λ m. cc;
      reports = λ k m. cc;
    }

last_is : (s : CharacterSet) → is_escape_due s ≡ true → steps_at_end s ≡ escape_step Ascii ∷ []
last_is Ascii due = cc
last_is _ due = refl

-- the end of the text, where a set other than ASCII is in force
pub ends_pending : {E : Type 0} (state : E → RawEncoderState) (x n : E)
    → IsEscapeAtEnd state x (Some n) → (b : Bytes) → byte_list b ≡ escape_sequence Ascii
    → IsNextStep state x true [] (escape_transition b n)
unfolding steps_of
ends_pending state x n escape b bytes_are = record {
  first = rw (escape.1, bytes_are) (last_is (state x).set escape.0);
  same = rw escape.1 refl;
  some = λ m. cc;
  reports = λ k m. cc;
}
