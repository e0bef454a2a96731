-- What the ISO-2022-JP decoder's held bytes determine by themselves: nothing, but for a byte that
-- was given back.
use Rattle.std.proofs.Common.{◌≡◌, ℕ, Some, None, List, [], ◌∷◌, ◌++◌, refl, append-nil}
use Rattle.enc_decoder_iso_2022_jp.specs.declared.character_set.CharacterSet.{CharacterSet}
use Rattle.enc_decoder_iso_2022_jp.specs.declared.character_set.CharacterSet.TheVariants.{Ascii, Jis0208}
use Rattle.enc_decoder_iso_2022_jp.specs.declared.escape.Intermediate.{Intermediate}
use Rattle.enc_decoder_iso_2022_jp.specs.declared.escape.Intermediate.TheVariants.{Parenthesis, Dollar}
use Rattle.enc_decoder_iso_2022_jp.specs.declared.escape.Escape.{Escape}
use Rattle.enc_decoder_iso_2022_jp.specs.declared.iso_2022_jp.Held.{Held}
use Rattle.enc_decoder_iso_2022_jp.specs.declared.iso_2022_jp.Held.TheVariants.{GivenBack, Lead, Whole, Start, Started}
use Rattle.enc_decoder.specs.Segmentation.{sequences_of}
use Rattle.enc_decoder.specs.Remainder.{IsUndetermined}
use Rattle.enc_decoder.specs.CodecState.{remainder_of}
use Rattle.enc_decoder.specs.RuleLaws.{IsDeterminedByEnd}
use Rattle.enc_decoder_iso_2022_jp.specs.Iso2022Jp.{set_number, iso_2022_jp_rule as jp_rule}
use Rattle.enc_decoder_iso_2022_jp.specs.Iso2022JpState.{state_with_held, escape_bytes, escape_set}
use Rattle.enc_decoder_iso_2022_jp.specs.Iso2022JpState.{intermediate_byte, CanHold}
use Rattle.enc_decoder_iso_2022_jp.specs.Iso2022JpState.{iso_2022_jp_state as jp_state}
use Rattle.enc_decoder.proofs.FirstSequenceLemmas.{undetermined_by_end, within_by}
use Rattle.enc_decoder_iso_2022_jp.proofs.Iso2022JpLemmas.{set_of_number, has_escape_bytes}
use Rattle.enc_decoder_iso_2022_jp.proofs.EscapeLookahead.{MayBegin, nothing_begins, one_begins, two_begin}
use Rattle.enc_decoder_iso_2022_jp.proofs.Iso2022JpRule.{begun_by_end, escape_by_end, lead_by_end}
use Rattle.enc_decoder_iso_2022_jp.proofs.Iso2022JpRule.{iso_2022_jp_is_lawful}

-- bytes that only the end makes a sequence
by_end : (set b : ℕ) (z : List ℕ) → IsDeterminedByEnd jp_rule set b z
    → IsUndetermined (λ y. sequences_of jp_rule set (b ∷ (z ++ y)))
by_end set b z is_by_end =
    undetermined_by_end jp_rule set b z (within_by jp_rule iso_2022_jp_is_lawful.lookahead set b)
    is_by_end

-- an escape sequence, and what may begin another
after_escape : (set : ℕ) (e : Escape) (z : List ℕ) → MayBegin z
    → IsUndetermined (λ y. sequences_of jp_rule set ((escape_bytes e ++ z) ++ y))
after_escape set e z may_begin = let parts = has_escape_bytes e in
    rw parts.bytes (by_end set 0x1B (parts.second ∷ parts.third ∷ z)
    (escape_by_end set parts.second parts.third (escape_set e) z parts.names_set may_begin))

started : (i : Intermediate) → MayBegin (0x1B ∷ intermediate_byte i ∷ [])
started Parenthesis = two_begin 0x28 Ascii refl
started Dollar = two_begin 0x24 Jis0208 refl

pub undetermined : (set : CharacterSet) (held : Held) → CanHold set (Some held)
    → ((b : ℕ) → held ≡ GivenBack b → ⊥)
    → IsUndetermined (remainder_of (jp_state (state_with_held set (Some held)))).sequences
undetermined set (GivenBack b) can_hold not_restored = absurd (not_restored b refl)
undetermined set (Lead b) can_hold not_restored =
    by_end (set_number set) b [] (lead_by_end (set_number set) b (rw set_of_number can_hold))
undetermined set (Whole e) can_hold not_restored =
    rw (← append-nil (escape_bytes e)) (after_escape (set_number set) e [] nothing_begins)
undetermined set (Start None) can_hold not_restored =
    by_end (set_number set) 0x1B [] (begun_by_end (set_number set) [] one_begins)
undetermined set (Start (Some e)) can_hold not_restored =
    after_escape (set_number set) e (0x1B ∷ []) one_begins
undetermined set (Started None i) can_hold not_restored =
    by_end (set_number set) 0x1B (intermediate_byte i ∷ [])
    (begun_by_end (set_number set) (intermediate_byte i ∷ [])
    (started i))
undetermined set (Started (Some e) i) can_hold not_restored =
    after_escape (set_number set) e (0x1B ∷ intermediate_byte i ∷ []) (started i)
