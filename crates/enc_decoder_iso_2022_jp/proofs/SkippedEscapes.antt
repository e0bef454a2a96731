-- Its own bytes do not determine an escape sequence that is skipped: it is malformed if another
-- escape sequence follows. At most three bytes after it determine it, or the end.
use Rattle.std.proofs.Common.{◌≡◌, ℕ, ◌+◌, ◌≤◌, zero, suc, Bool, true, false, Option, Some, None, List, [], ◌∷◌, ◌++◌}
use Rattle.std.proofs.Common.{take, refl, ap, arith, subst, inl, inr}
use Rattle.std.specs.Option.{is_some}
use Rattle.enc_decoder.specs.declared.byte_codec.Kind.TheVariants.{Skipped}
use Rattle.enc_decoder_iso_2022_jp.specs.declared.character_set.CharacterSet.{CharacterSet}
use Rattle.enc_decoder.specs.Segmentation.{Head, one_byte_head}
use Rattle.enc_decoder.specs.RuleLaws.{IsDeterminedWithin}
use Rattle.enc_decoder_iso_2022_jp.specs.Iso2022Jp.{set_of, set_of_escape_bytes, designated_set, escape_head}
use Rattle.enc_decoder_iso_2022_jp.specs.Iso2022Jp.{one_byte_char, two_byte_char, two_byte_head}
use Rattle.enc_decoder_iso_2022_jp.specs.Iso2022Jp.{iso_2022_jp_rule as jp_rule}
use Rattle.enc_decoder_iso_2022_jp.specs.Iso2022JpLaws.{HasSkippedLookahead}
use Rattle.enc_decoder_iso_2022_jp.proofs.Iso2022JpForms.{holds_of_first}
use Rattle.enc_decoder_iso_2022_jp.proofs.Iso2022JpRule.{kind_differs, named_first, iso_2022_jp_is_lawful}

one_byte_not_skipped : (set : ℕ) (found : Option ℕ) → (one_byte_head set found).kind ≡ Skipped → ⊥
one_byte_not_skipped set None skipped = cc
one_byte_not_skipped set (Some c) skipped = cc

two_bytes_not_skipped : (set : ℕ) (found : Option ℕ) → (two_byte_head set found).kind ≡ Skipped → ⊥
two_bytes_not_skipped set None skipped = cc
two_bytes_not_skipped set (Some c) skipped = cc

escape_not_alone : (set b c : ℕ) (s : CharacterSet) (z : List ℕ) (another : Bool)
    → set_of_escape_bytes b c ≡ Some s → is_some (designated_set z) ≡ another
    → (escape_head set (Some s) another).kind ≡ Skipped
    → IsDeterminedWithin jp_rule set 0x1B (b ∷ c ∷ z) 0 → ⊥
escape_not_alone set b c s z true names_set followed skipped determined = cc
escape_not_alone set b c s z false names_set followed skipped determined =
    let first = named_first set s b c z false names_set followed in
    let two_more : (jp_rule set 0x1B (b ∷ c ∷ z)).more ≡ 2 = ap (λ (h : Head). h.more) first in
    let next_escape : List ℕ = 0x1B ∷ 0x28 ∷ 0x42 ∷ [] in
    let heads_agree =
    subst (λ m. jp_rule set 0x1B (take (m + 0) (b ∷ c ∷ z) ++ next_escape)
    ≡ jp_rule set 0x1B (b ∷ c ∷ z))
    two_more (determined.same next_escape) in
    kind_differs (named_first set s b c next_escape true names_set refl) first (λ same. cc)
    heads_agree

abbrev IsNotAlone : ℕ → ℕ → List ℕ → Head → Type 0
IsNotAlone set b z h = h.kind ≡ Skipped → IsDeterminedWithin jp_rule set b z 0 → ⊥

not_alone : (set b : ℕ) (z : List ℕ) → IsNotAlone set b z (jp_rule set b z)
not_alone set = holds_of_first {Holds = IsNotAlone set} (record {
  no_escape = λ z _ skipped _. cc;
  escape = λ b c s z names_set.
      escape_not_alone set b c s z (is_some (designated_set z)) names_set refl;
  lead = λ b z _ _ skipped _. cc;
  pair = λ b c z _ _ skipped _. two_bytes_not_skipped set (two_byte_char b c) skipped;
  alone = λ b z _ _ skipped _. one_byte_not_skipped set (one_byte_char (set_of set) b) skipped;
})

-- n bytes, and not none
some_more : (set b : ℕ) (z : List ℕ) (n : ℕ) → (IsDeterminedWithin jp_rule set b z 0 → ⊥)
    → IsDeterminedWithin jp_rule set b z n → 1 ≤ n
some_more set b z zero not_by_none determined = absurd (not_by_none determined)
some_more set b z (suc n) not_by_none determined = omega arith

pub looks_after_skipped : HasSkippedLookahead jp_rule
looks_after_skipped = record {
  not_alone = not_alone;
  soon = λ set b z skipped. elim (iso_2022_jp_is_lawful.lookahead.others set b z) [
    | inl lookahead ↦ inl (
      lookahead.0,
      some_more set b z lookahead.0 (not_alone set b z skipped) lookahead.2.determined,
      lookahead.1,
      lookahead.2,
    )
    | inr by_end ↦ inr by_end
  ];
}
