-- A pending BB needs no lookahead, by the rule of each codec.
use Rattle.std.proofs.Common.{◌≡◌, ℕ, Bool, true, false, Option, Some, None, List, [], ◌∷◌, refl, ap}
use Rattle.std.proofs.Common.{◌∙◌, sym, arith, subst}
use Rattle.enc_decoder.specs.declared.byte_codec.Text.{Text}
use Rattle.enc_decoder.specs.Segmentation.{one_byte_head}
use Rattle.enc_decoder_utf.specs.Utf8.{utf_8_rule}
use Rattle.enc_decoder_utf.proofs.Utf8Rule.{bb_goes_on}
use Rattle.enc_decoder_utf.specs.Utf16.{code_unit, is_lead_surrogate as is_lead_unit, is_trail_surrogate, utf_16_rule}
use Rattle.enc_decoder_single_byte.specs.OneByte.{one_byte_rule}
use Rattle.enc_decoder_single_byte.proofs.OneByteLemmas.{no_more, one_byte_heads}
use Rattle.enc_decoder_single_byte.specs.Replacement.{replacement_rule}
use Rattle.enc_decoder.specs.declared.prefix.Prefix.{Prefix}
use Rattle.enc_decoder.specs.declared.prefix.Prefix.TheVariants.{Incomplete}
use Rattle.enc_decoder_multi_byte.specs.DoubleByte.{trail_prefix}
use Rattle.enc_decoder.specs.Prefixes.{prefix_rule, prefix_head}
use Rattle.enc_decoder_iso_2022_jp.specs.Iso2022Jp.{iso_2022_jp_rule, is_lead_byte, one_byte_char}
use Rattle.enc_codec.specs.Properties.{DeterminesBbByItself}

-- in UTF-8 BB goes on with EF
pub utf_8_shows_bb : DeterminesBbByItself utf_8_rule
utf_8_shows_bb z ef_alone y = absurd (bb_goes_on z ef_alone)

-- in UTF-16 they are a code unit, and no surrogate
pub utf_16_shows_bb : (big : Bool) → DeterminesBbByItself (utf_16_rule big)
unfolding prefix_rule code_unit is_lead_unit is_trail_surrogate
utf_16_shows_bb true z e y = absurd (cc)
utf_16_shows_bb false z e y = absurd (cc)

pub one_byte_shows_bb : (character : ℕ → Option ℕ) → DeterminesBbByItself (one_byte_rule character)
one_byte_shows_bb character = subst DeterminesBbByItself (one_byte_heads character) (λ z e y.
    let none_more = no_more (one_byte_head 0 (character 0xEF)).set (character 0xBB) in
    (none_more, record { there = omega arith; same = λ x. refl }))

-- where EF leads, BB is its trail, or is malformed with it
pub multi_byte_shows_bb : (prefix : List ℕ → Prefix) (text : Option Text)
    → prefix (0xEF ∷ []) ≡ Incomplete → prefix (0xEF ∷ 0xBB ∷ []) ≡ trail_prefix 1 0xBB text
    → DeterminesBbByItself (prefix_rule prefix)
unfolding prefix_rule
multi_byte_shows_bb prefix text f g z e y = absurd (two text (sym first ∙ e))
  where
    first : (prefix_head prefix 0 (0xEF ∷ []) (prefix (0xEF ∷ [])) (0xBB ∷ z)).more
        ≡ (prefix_head prefix 0 (0xEF ∷ 0xBB ∷ []) (trail_prefix 1 0xBB text) z).more
    first =
        ap (λ r. (prefix_head prefix 0 (0xEF ∷ []) r (0xBB ∷ z)).more) f
        ∙ ap (λ r. (prefix_head prefix 0 (0xEF ∷ 0xBB ∷ []) r z).more) g

    two : (t : Option Text)
        → (prefix_head prefix 0 (0xEF ∷ 0xBB ∷ []) (trail_prefix 1 0xBB t) z).more ≡ 0 → ⊥
    two None h = cc
    two (Some t) h = cc

-- in ASCII both are malformed, each by itself
pub iso_2022_jp_shows_bb : DeterminesBbByItself iso_2022_jp_rule
unfolding iso_2022_jp_rule is_lead_byte one_byte_char
iso_2022_jp_shows_bb z e y = (refl, record { there = omega arith; same = λ x. refl })

-- the first byte is malformed, and all later ones are skipped
pub replacement_shows_bb : DeterminesBbByItself replacement_rule
unfolding replacement_rule
replacement_shows_bb z e y = (refl, record { there = omega arith; same = λ x. refl })
