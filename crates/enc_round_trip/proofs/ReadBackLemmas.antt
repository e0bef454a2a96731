-- Texts are read back where each character is, in encodings without escape sequences.
use Rattle.std.proofs.Common.{◌≡◌, ℕ, ◌<◌, ◌≤◌, true, false, nat_lt, not, is_some, Option, Some, None, List}
use Rattle.std.proofs.Common.{[], ◌∷◌, ◌++◌, map, ap, ◌∙◌, arith, IfSome, inl, inr}
use Rattle.std.proofs.lemmas.Bool.{not-false, or_parts}
use Rattle.std.proofs.lemmas.Bool.Decides.{nat_tests}
use Rattle.std.specs.Char.{IsScalar}
use Rattle.std.specs.Cmp.{first_so, second_so}
use Rattle.enc_utf8.specs.Text.{AreScalars}
use Rattle.enc_decoder.specs.Sequence.{sequence_text, any_malformed}
use Rattle.enc_decoder.specs.Segmentation.{Rule, sequences_of}
use Rattle.enc_decoder.specs.Taking.{IsWholeChar}
use Rattle.enc_decoder.proofs.FirstSequenceLemmas.{true_or_false}
use Rattle.enc_decoder.proofs.SegmentationLemmas.{sequences_of-nil}
use Rattle.enc_encoder.specs.declared.character_set.CharacterSet.TheVariants.{Ascii}
use Rattle.enc_encoder.specs.EncoderRule.{EncoderRule}
use Rattle.enc_encoder.specs.Stateless.{stateless_rule, with_ascii}
use Rattle.enc_encoder.specs.Text.{list_or_empty, bytes_after_text, bytes_of_text}
use Rattle.enc_encoder.specs.Unmappable.{any_unmappable}

-- no sequence of these bytes is malformed, and this is their text
pub record IsReadAs (rule : Rule) (set : ℕ) (bytes chars : List ℕ) : Type 0 where
  pub none_malformed : any_malformed (sequences_of rule set bytes) ≡ false
  pub text : sequence_text (sequences_of rule set bytes) ≡ chars

pub read_nothing : (rule : Rule) (set : ℕ) → IsReadAs rule set [] []
read_nothing rule set =
    record {
      none_malformed = ap any_malformed (sequences_of-nil rule set);
      text = ap sequence_text (sequences_of-nil rule set);
    }

-- a character, and the text after it
pub read_more : (rule : Rule) (set : ℕ) (b : List ℕ) (c : ℕ) (y t : List ℕ)
    → IsWholeChar rule set b c → IsReadAs rule set y t → IsReadAs rule set (b ++ y) (c ∷ t)
read_more rule set b c y t is_whole_char rest_is_read = record {
  none_malformed = ap any_malformed (is_whole_char y) ∙ rest_is_read.none_malformed;
  text = ap sequence_text (is_whole_char y) ∙ ap (λ x. c ∷ x) rest_is_read.text;
}

-- the first character of a text without an unmappable one has bytes, and no later one is unmappable

pub first_mapped : (e : EncoderRule) (c : ℕ) (t : List ℕ) → any_unmappable e (c ∷ t) ≡ false
    → (is_some (e.bytes c) ≡ true) × (any_unmappable e t ≡ false)
first_mapped e c t h =
    let both = or_parts (not (is_some (e.bytes c))) (any_unmappable e t) h in
    (not-false _ both.0, both.1)

-- the bytes of each character are read as one character, whatever follows them
pub record IsReadBack (rule : Rule) (bytes : ℕ → Option (List ℕ)) (back : ℕ → ℕ) : Type 0 where
  pub each : (c : ℕ) → IsScalar c → IfSome (bytes c) (λ b. IsWholeChar rule 0 b (back c))

-- what holds of the bytes of a character, if it has any, holds of those that it has
pub of_bytes : (P : List ℕ → Type 0) (b : Option (List ℕ)) → IfSome b P → is_some b ≡ true
    → P (list_or_empty b)
of_bytes P None holds some = cc
of_bytes P (Some b) holds some = holds

module _ (rule : Rule) (bytes : ℕ → Option (List ℕ)) (back : ℕ → ℕ) (h : IsReadBack rule bytes back)
  where
    suffix_is_read : (u t : List ℕ) → AreScalars t → any_unmappable (stateless_rule bytes) t ≡ false
        → IsReadAs rule 0 (bytes_after_text (stateless_rule bytes) Ascii u t) (map back t)
    suffix_is_read u [] scalars m = read_nothing rule 0
    suffix_is_read u (c ∷ t) scalars m =
        let both = first_mapped (stateless_rule bytes) c t m in
        read_more rule 0 (list_or_empty (bytes c)) (back c)
        (bytes_after_text (stateless_rule bytes) Ascii (u ++ c ∷ []) t) (map back t)
        (of_bytes (λ b. IsWholeChar rule 0 b (back c)) (bytes c)
        (h.each c (first_so _ _ scalars)) both.0)
        (suffix_is_read (u ++ c ∷ []) t (second_so _ _ scalars) both.1)

    -- and so is a text
    pub text_is_read : (t : List ℕ) → AreScalars t → any_unmappable (stateless_rule bytes) t ≡ false
        → IsReadAs rule 0 (bytes_of_text (stateless_rule bytes) Ascii t) (map back t)
    text_is_read t s m = suffix_is_read [] t s m

-- ASCII, and the characters beyond it
pub with_ascii_is_read : (rule : Rule) (others : ℕ → Option (List ℕ)) (back : ℕ → ℕ)
    → ((c : ℕ) → c < 0x80 → IsWholeChar rule 0 (c ∷ []) (back c))
    → ((c : ℕ) → 0x80 ≤ c → IfSome (others c) (λ b. IsWholeChar rule 0 b (back c)))
    → IsReadBack rule (with_ascii others) back
with_ascii_is_read rule others back ascii beyond = record {
  each = λ c scalar. elim (true_or_false (nat_lt c 0x80)) [
    | inl low ↦ rw low (ascii c (grind (arith, nat_tests)))
    | inr high ↦ rw high (beyond c (grind (arith, nat_tests)))
  ];
}
