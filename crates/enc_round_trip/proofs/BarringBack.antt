-- Text is read back whatever is barred: a text without an unmappable character has none that is
-- barred.
use Rattle.std.proofs.Common.{◌≡◌, ℕ, Bool, true, false, is_some, not, ◌||◌, Option, None, List, [], ◌∷◌, ◌++◌}
use Rattle.std.proofs.Common.{refl, ap, sym, ◌∙◌, if◌then◌else◌}
use Rattle.enc_encoder.specs.declared.character_set.CharacterSet.{CharacterSet}
use Rattle.enc_encoder.specs.EncoderRule.{EncoderRule}
use Rattle.enc_encoder.specs.Text.{escape_before, list_or_empty, bytes_after_text}
use Rattle.enc_encoder.specs.Barring.{is_barred, barring_rule}
use Rattle.enc_encoder.specs.Unmappable.{any_unmappable}
use Rattle.enc_round_trip.proofs.ReadBackLemmas.{first_mapped}

-- a character that has bytes has those of the encoding without the list

not_barred : (t : Bool) (x : Option (List ℕ)) → is_some (if t then None else x) ≡ true
    → (if t then None else x) ≡ x
not_barred true x h = cc
not_barred false x h = refl

-- so a text has them

module _ (b : List ℕ) (e : EncoderRule) where
  pub still_mapped : (t : List ℕ) → any_unmappable (barring_rule b e) t ≡ false
      → any_unmappable e t ≡ false
  still_mapped [] m = refl
  still_mapped (c ∷ t) m =
      let both = first_mapped (barring_rule b e) c t m in
      let same = not_barred (is_barred b c) (e.bytes c) both.0 in
      ap (λ (x : Option (List ℕ)). not (is_some x) || any_unmappable e t) (sym same)
      ∙ ap (λ x. not x || any_unmappable e t) both.0 ∙ still_mapped t both.1

  pub same_bytes_after : (s : CharacterSet) (u t : List ℕ)
      → any_unmappable (barring_rule b e) t ≡ false
      → bytes_after_text (barring_rule b e) s u t ≡ bytes_after_text e s u t
  same_bytes_after s u [] m = refl
  same_bytes_after s u (c ∷ t) m =
      let both = first_mapped (barring_rule b e) c t m in
      let front = escape_before e (e.set_after s u) c in
      ap (λ (x : Option (List ℕ)). front
      ++ (list_or_empty x ++ bytes_after_text (barring_rule b e) s (u ++ c ∷ []) t))
      (not_barred (is_barred b c) (e.bytes c) both.0)
      ∙ ap (λ x. front ++ (list_or_empty (e.bytes c) ++ x))
      (same_bytes_after s (u ++ c ∷ []) t both.1)
