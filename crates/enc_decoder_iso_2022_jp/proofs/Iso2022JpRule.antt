-- The laws of ISO-2022-JP's rule. Its own bytes determine a character. A sequence that is cut off,
-- and an escape sequence, are determined by the next bytes, which show whether an escape sequence
-- follows, or by the end.
use Rattle.std.proofs.Common.{◌≡◌, ℕ, ◌+◌, ◌≤◌, zero, suc, Bool, true, false, eqb, Option, Some, None, List, [], ◌∷◌}
use Rattle.std.proofs.Common.{◌++◌, length, take, drop, refl, ap, ◌∙◌, sym, arith, subst, ◌⊎◌, inl, inr}
use Rattle.std.specs.Option.{is_some}
use Rattle.enc_decoder.specs.declared.byte_codec.Kind.TheVariants.{Valid}
use Rattle.enc_decoder_iso_2022_jp.specs.declared.character_set.CharacterSet.{CharacterSet}
use Rattle.enc_decoder.specs.Segmentation.{Head, one_byte_head}
use Rattle.enc_decoder.specs.Latin1.{HasNoByteSequences}
use Rattle.enc_decoder.specs.RuleLaws.{IsDeterminedWithin, IsLookahead, IsDeterminedByEnd, HasBoundedLookahead}
use Rattle.enc_decoder.specs.RuleLaws.{IsLawfulRule}
use Rattle.enc_decoder_iso_2022_jp.specs.Iso2022Jp.{set_of, set_of_escape_bytes, designated_set, escape_head}
use Rattle.enc_decoder_iso_2022_jp.specs.Iso2022Jp.{is_lead_byte, one_byte_char, two_byte_char, two_byte_head}
use Rattle.enc_decoder_iso_2022_jp.specs.Iso2022Jp.{iso_2022_jp_rule as jp_rule}
use Rattle.enc_decoder_iso_2022_jp.specs.Iso2022JpState.{cuts_off_lead}
use Rattle.enc_decoder.proofs.Latin1Lemmas.{has_bytes_by}
use Rattle.enc_decoder.proofs.EndLemmas.{by_end_of}
use Rattle.enc_decoder.proofs.FirstSequenceLemmas.{determined_by_head, looks_at_none, looks_by, lookahead_by}
use Rattle.enc_decoder_iso_2022_jp.proofs.EscapeLookahead.{MayBegin, IsShownBy, shown_or_begun}
use Rattle.enc_decoder_iso_2022_jp.proofs.Iso2022JpForms.{holds_of_first, has_form}
use Rattle.enc_decoder_iso_2022_jp.proofs.Iso2022JpLemmas.{escape_first, no_escape_first, lead_first, alone_first}
use Rattle.enc_decoder_iso_2022_jp.proofs.Iso2022JpLemmas.{lead_alone, lead_and_trail}

-- heads that differ

pub kind_differs : {h k x y : Head} → x ≡ h → y ≡ k → (h.kind ≡ k.kind → ⊥) → x ≡ y → ⊥
kind_differs x_is y_is differ same = differ (ap (λ (t : Head). t.kind) (sym x_is ∙ same ∙ y_is))

-- the same head whatever follows k bytes
determined_at : (set b : ℕ) (z : List ℕ) (n k : ℕ) {h : Head} → k ≡ h.more + n → k ≤ length z
    → jp_rule set b z ≡ h
    → ((y : List ℕ) → jp_rule set b (take k z ++ y) ≡ h) → IsDeterminedWithin jp_rule set b z n
determined_at set b z n k {h} is_place within is_head stays =
    determined_by_head jp_rule set b z n h is_head (omega (arith, is_place, within))
    (λ y. subst (λ j. jp_rule set b (take j z ++ y) ≡ h) is_place (stays y))

escape_is_two_more : (set : ℕ) (s : CharacterSet) (another : Bool)
    → (escape_head set (Some s) another).more ≡ 2
escape_is_two_more set s true = refl
escape_is_two_more set s false = refl

escape_not_valid : (set : ℕ) (s : CharacterSet) (another : Bool)
    → (escape_head set (Some s) another).kind ≡ Valid → ⊥
escape_not_valid set s true valid = cc
escape_not_valid set s false valid = cc

-- 1B where no escape sequence begins

pub begun_by_end : (set : ℕ) (z : List ℕ) → MayBegin (0x1B ∷ z)
    → IsDeterminedByEnd jp_rule set 0x1B z
begun_by_end set z may_begin =
    let followed = z ++ may_begin.more in
    let another = is_some (designated_set (drop 2 followed)) in
    let two_more = escape_is_two_more set may_begin.set another in
    let is_short = may_begin.short in
    by_end_of jp_rule set 0x1B z may_begin.more (no_escape_first set z may_begin.none_yet)
    (escape_first set followed (Some may_begin.set) another may_begin.becomes refl)
    (λ same. let more_is = ap (λ (h : Head). h.more) same in omega arith) may_begin.bytes
    (omega arith) (omega arith)

none_looks : (set : ℕ) (z : List ℕ) (n : ℕ) → IsShownBy (0x1B ∷ z) n
    → designated_set (0x1B ∷ z) ≡ None
    → IsLookahead jp_rule set 0x1B z n
none_looks set z n is_shown none_begins =
    let malformed_first = no_escape_first set z none_begins in
    let bytes_are_there = is_shown.there in
    least n is_shown.before
    (determined_at set 0x1B z n n (omega arith) (omega arith) malformed_first
    (λ y. no_escape_first set (take n z ++ y) (is_shown.same y ∙ none_begins)))
  where
    least : (n : ℕ) → MayBegin (take n (0x1B ∷ z)) → IsDeterminedWithin jp_rule set 0x1B z n
        → IsLookahead jp_rule set 0x1B z n
    least zero may_begin determined = looks_at_none jp_rule set 0x1B z determined
    least (suc i) may_begin determined =
        looks_by jp_rule set 0x1B z i i determined
        (let more_is = ap (λ (h : Head). h.more) (no_escape_first set z none_begins) in
        omega (arith, more_is)) (begun_by_end set (take i z) may_begin)

none_is_bounded : (set : ℕ) (z : List ℕ) → designated_set (0x1B ∷ z) ≡ None
    → HasBoundedLookahead jp_rule set 0x1B z
none_is_bounded set z none_begins = elim (shown_or_begun (0x1B ∷ z)) [
  | inl shown ↦ (let at_most_two = shown.1.few in
      inl (shown.0, omega arith, none_looks set z shown.0 shown.1 none_begins))
  | inr may_begin ↦ inr (begun_by_end set z may_begin)
]

-- an escape sequence, by the bytes after it

pub named_first : (set : ℕ) (s : CharacterSet) (b c : ℕ) (z : List ℕ) (another : Bool)
    → set_of_escape_bytes b c ≡ Some s → is_some (designated_set z) ≡ another
    → jp_rule set 0x1B (b ∷ c ∷ z) ≡ escape_head set (Some s) another
named_first set s b c z another names_set followed =
    escape_first set (b ∷ c ∷ z) (Some s) another names_set followed

pub escape_by_end : (set b c : ℕ) (s : CharacterSet) (z : List ℕ) → set_of_escape_bytes b c ≡ Some s
    → MayBegin z
    → IsDeterminedByEnd jp_rule set 0x1B (b ∷ c ∷ z)
escape_by_end set b c s z names_set may_begin =
    let is_short = may_begin.short in
    by_end_of jp_rule set 0x1B (b ∷ c ∷ z) may_begin.more
    (named_first set s b c z false names_set (ap is_some may_begin.none_yet))
    (named_first set s b c (z ++ may_begin.more) true names_set (ap is_some may_begin.becomes))
    (λ same. let kinds_agree = ap (λ (h : Head). h.kind) same in cc) may_begin.bytes
    (omega arith) (omega arith)

escape_is_bounded : (set b c : ℕ) (s : CharacterSet) (z : List ℕ) → set_of_escape_bytes b c ≡ Some s
    → HasBoundedLookahead jp_rule set 0x1B (b ∷ c ∷ z)
escape_is_bounded set b c s z names_set = elim (shown_or_begun z) [
  | inl shown ↦ inl (
    suc shown.0,
    (let at_most_two = shown.1.few in omega arith),
    looks shown.0 shown.1,
  )
  | inr may_begin ↦ inr (escape_by_end set b c s z names_set may_begin)
]
  where
    looks : (n : ℕ) → IsShownBy z n → IsLookahead jp_rule set 0x1B (b ∷ c ∷ z) (suc n)
    looks n is_shown =
        let another = is_some (designated_set z) in
        let first = named_first set s b c z another names_set refl in
        let two_more = escape_is_two_more set s another in
        let bytes_are_there = is_shown.there in
        looks_by jp_rule set 0x1B (b ∷ c ∷ z) n (suc (suc n))
        (determined_at set 0x1B (b ∷ c ∷ z) (suc n) (suc (suc (suc n)))
        (omega (arith, two_more)) (omega arith) first
        (λ y. named_first set s b c (take (suc n) z ++ y) another names_set
        (ap is_some (is_shown.same y))))
        (let more_is = ap (λ (h : Head). h.more) first in omega (arith, more_is, two_more))
        (escape_by_end set b c s (take n z) names_set is_shown.before)

-- a lead byte that is cut off

-- 20 is no trail byte
not_a_trail : (b : ℕ) → two_byte_char b 0x20 ≡ None
unfolding two_byte_char
not_a_trail b = refl

pub lead_by_end : (set b : ℕ) → is_lead_byte (set_of set) b ≡ true
    → IsDeterminedByEnd jp_rule set b []
lead_by_end set b leads =
    by_end_of jp_rule set b [] (0x20 ∷ []) (lead_first set b [] leads)
    (lead_first set b (0x20 ∷ []) leads ∙ lead_and_trail set b 0x20 [] refl
    ∙ ap (two_byte_head set) (not_a_trail b))
    (λ same. let more_is = ap (λ (h : Head). h.more) same in omega arith) (omega arith, tt)
    (omega arith) (omega arith)

lead_is_bounded : (set b : ℕ) (z : List ℕ) → is_lead_byte (set_of set) b ≡ true
    → cuts_off_lead z ≡ true
    → HasBoundedLookahead jp_rule set b z
lead_is_bounded set b [] leads cut = inr (lead_by_end set b leads)
lead_is_bounded set b (c ∷ z) leads cut =
    let first = λ (y : List ℕ). lead_first set b (c ∷ y) leads ∙ lead_alone set b (c ∷ y) cut in
    inl (
      1,
      omega arith,
      looks_by jp_rule set b (c ∷ z) 0 0
          (determined_at set b (c ∷ z) 1 1 (omega arith) (omega arith) (first z) first)
          (let more_is = ap (λ (h : Head). h.more) (first z) in omega (arith, more_is))
          (lead_by_end set b leads),
    )

-- a pair, and a byte that stands alone

two_bytes_have_one_more : (set : ℕ) (found : Option ℕ) → (two_byte_head set found).more ≡ 1
two_bytes_have_one_more set None = refl
two_bytes_have_one_more set (Some c) = refl

pair_determined : (set b c : ℕ) (z : List ℕ) → is_lead_byte (set_of set) b ≡ true
    → eqb c 0x1B ≡ false → IsDeterminedWithin jp_rule set b (c ∷ z) 0
pair_determined set b c z leads trails =
    let first = λ (y : List ℕ). lead_first set b (c ∷ y) leads ∙ lead_and_trail set b c y trails in
    let one_more = two_bytes_have_one_more set (two_byte_char b c) in
    determined_at set b (c ∷ z) 0 1 (omega (arith, one_more)) (omega arith) (first z) first

one_byte_has_none_more : (set : ℕ) (found : Option ℕ) → (one_byte_head set found).more ≡ 0
one_byte_has_none_more set None = refl
one_byte_has_none_more set (Some c) = refl

alone_determined : (set b : ℕ) (z : List ℕ) → is_lead_byte (set_of set) b ≡ false
    → eqb b 0x1B ≡ false → IsDeterminedWithin jp_rule set b z 0
alone_determined set b z no_lead no_escape =
    let first = λ (y : List ℕ). alone_first set b y no_lead no_escape in
    let none_more = one_byte_has_none_more set (one_byte_char (set_of set) b) in
    determined_at set b z 0 0 (omega (arith, none_more)) (omega arith) (first z) first

-- every sequence

abbrev IsDeterminedSoonWith : ℕ → ℕ → List ℕ → Head → Type 0
IsDeterminedSoonWith set b z h = IsDeterminedWithin jp_rule set b z 0
    ⊎ ((h.kind ≡ Valid → ⊥) × HasBoundedLookahead jp_rule set b z)

determined : (set b : ℕ) (z : List ℕ) → IsDeterminedSoonWith set b z (jp_rule set b z)
determined set = holds_of_first {Holds = IsDeterminedSoonWith set} (record {
  no_escape = λ z none. inr (λ valid. cc, none_is_bounded set z none);
  escape = λ b c s z names_set.
      let another = is_some (designated_set z) in
      inr (escape_not_valid set s another, escape_is_bounded set b c s z names_set);
  lead = λ b z leads cut. inr (λ valid. cc, lead_is_bounded set b z leads cut);
  pair = λ b c z leads trails. inl (pair_determined set b c z leads trails);
  alone = λ b z no_lead no_escape. inl (alone_determined set b z no_lead no_escape);
})

pub iso_2022_jp_is_lawful : IsLawfulRule jp_rule
iso_2022_jp_is_lawful = record {
  lookahead = lookahead_by jp_rule determined;
  small_texts = λ set b z. (has_form set b z).small;
  replacements = λ set b z. (has_form set b z).replacement;
}

-- an ASCII byte is a character by itself at the start
pub iso_2022_jp_has_bytes : ¬ (HasNoByteSequences jp_rule)
unfolding jp_rule is_lead_byte one_byte_char
iso_2022_jp_has_bytes = has_bytes_by jp_rule 0x61 [] refl refl
