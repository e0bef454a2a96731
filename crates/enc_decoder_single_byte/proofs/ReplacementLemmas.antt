-- The replacement encoding: what a byte shows, and the laws of its rule.
use Rattle.std.proofs.Common.{ℕ, zero, suc, true, false, List, refl, arith, inl}
use Rattle.std.proofs.lemmas.Bool.{false≢true}
use Rattle.enc_decoder.specs.declared.byte_codec.Kind.TheVariants.{Skipped, Malformed}
use Rattle.enc_decoder.specs.declared.byte_codec.Text.TheVariants.{Nothing, One}
use Rattle.enc_decoder.specs.declared.byte_codec.HandlerResult.TheVariants.{Emit}
use Rattle.enc_decoder.specs.CodecLaw.{HandlesByte, lone_fault}
use Rattle.enc_decoder.specs.Latin1.{HasNoByteSequences}
use Rattle.enc_decoder.specs.RuleLaws.{HasSmallTexts, ReplacesMalformed, IsDeterminedWithin, IsLawfulRule}
use Rattle.enc_decoder_single_byte.specs.Replacement.{replacement_rule, replacement_state}
use Rattle.enc_decoder.proofs.SegmentationLemmas.{sequences_of-cons}
use Rattle.enc_decoder.proofs.EmissionLemmas.{shows_with}
use Rattle.enc_decoder.proofs.FirstSequenceLemmas.{lookahead_by}
use Rattle.enc_decoder.proofs.RuleLemmas.{one_small, none_small}

-- the first byte
pub first_acts : (b : ℕ) → HandlesByte replacement_state false b (Emit (lone_fault true))
unfolding replacement_rule
first_acts b =
    shows_with replacement_state false true (One 0xFFFD) Malformed 1 b refl refl refl refl
    (λ _. (refl, omega arith))
    (λ z. sequences_of-cons replacement_rule 0 b z)

-- another byte
pub later_acts : (b : ℕ)
    → HandlesByte replacement_state true b
    (Emit (record { text = Nothing; kind = Skipped; len = 1; takes_byte = true; next = true }))
unfolding replacement_rule
later_acts b =
    shows_with replacement_state true true Nothing Skipped 1 b refl refl refl refl (λ m. cc)
    (λ z. sequences_of-cons replacement_rule 1 b z)

-- each byte determines its sequence by itself
pub determined_alone : (set b : ℕ) (z : List ℕ) → IsDeterminedWithin replacement_rule set b z 0
unfolding replacement_rule
determined_alone zero b z = record { there = omega arith; same = λ y. refl }
determined_alone (suc set) b z = record { there = omega arith; same = λ y. refl }

has_small_texts : HasSmallTexts replacement_rule
unfolding replacement_rule
has_small_texts zero b z = one_small 0xFFFD
has_small_texts (suc set) b z = none_small

replaces_malformed : ReplacesMalformed replacement_rule
unfolding replacement_rule
replaces_malformed zero b z malformed = refl
replaces_malformed (suc set) b z skipped = absurd (false≢true skipped)

pub replacement_is_lawful : IsLawfulRule replacement_rule
replacement_is_lawful = record {
  lookahead = lookahead_by replacement_rule (λ set b z. inl (determined_alone set b z));
  small_texts = has_small_texts;
  replacements = replaces_malformed;
}

-- no byte is valid
pub replacement_has_no_bytes : HasNoByteSequences replacement_rule
unfolding replacement_rule
replacement_has_no_bytes b z v = absurd (cc)
