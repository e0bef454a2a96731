-- In ISO-2022-JP the set at a place is that of the last escape sequence before it.
use Rattle.std.proofs.Common.{◌≡◌, ℕ, Bool, true, false, eqb, Option, Some, None, List, [], ◌∷◌, ◌++◌, take, drop, refl}
use Rattle.std.proofs.Common.{ap, ◌∙◌, sym, subst, append_assoc, inl, inr}
use Rattle.std.proofs.lemmas.List.{take-append-drop}
use Rattle.std.specs.Option.{is_some}
use Rattle.enc_decoder_iso_2022_jp.specs.declared.character_set.CharacterSet.{CharacterSet}
use Rattle.enc_decoder.specs.Sequence.{Sequence, sequence_bytes, set_after}
use Rattle.enc_decoder.specs.Segmentation.{Head, head_sequence, sequences_of, one_byte_head, malformed_head}
use Rattle.enc_decoder_iso_2022_jp.specs.Iso2022Jp.{set_number, set_of, set_of_escape_bytes, designated_set}
use Rattle.enc_decoder_iso_2022_jp.specs.Iso2022Jp.{escape_head, one_byte_char, two_byte_char}
use Rattle.enc_decoder_iso_2022_jp.specs.Iso2022Jp.{two_byte_head, iso_2022_jp_rule as jp_rule}
use Rattle.enc_decoder_iso_2022_jp.specs.Iso2022JpLaws.{later_set_or, last_designated_set, set_number_or}
use Rattle.enc_decoder_iso_2022_jp.specs.Iso2022JpLaws.{SetsAreOfLastEscapes}
use Rattle.enc_decoder.proofs.SegmentationLemmas.{sequences_of-cons, sequences_of-nil, first_of, rest_of}
use Rattle.enc_decoder.proofs.FirstSequenceLemmas.{true_or_false}
use Rattle.enc_decoder_iso_2022_jp.proofs.Iso2022JpLemmas.{found_for_other, lead_is_no_escape}
use Rattle.enc_decoder_iso_2022_jp.proofs.EscapeLookahead.{other_front}
use Rattle.enc_decoder_iso_2022_jp.proofs.Iso2022JpForms.{holds_of_first}

-- the last escape sequence, by the first bytes

later_set_or-none : (o : Option CharacterSet) → later_set_or o None ≡ o
later_set_or-none None = refl
later_set_or-none (Some s) = refl

-- a byte where none begins
no_escape : (b : ℕ) (w : List ℕ) → designated_set (b ∷ w) ≡ None
    → last_designated_set (b ∷ w) ≡ last_designated_set w
unfolding last_designated_set
no_escape b w e = ap (later_set_or (last_designated_set w)) e
    ∙ later_set_or-none (last_designated_set w)

other_byte : (b : ℕ) (w : List ℕ) → eqb b 0x1B ≡ false
    → last_designated_set (b ∷ w) ≡ last_designated_set w
other_byte b w n = no_escape b w (other_front b w n)

-- 1B is neither the second byte of an escape sequence nor the third

no_third : (a : ℕ) → set_of_escape_bytes a 0x1B ≡ None
no_third a = elim (true_or_false (eqb a 0x28)) [
  | inl t ↦ rw t refl
  | inr not_28 ↦ elim (true_or_false (eqb a 0x24)) [
    | inl d ↦ rw (not_28, d) refl
    | inr d ↦
        rw (not_28, d) refl
  ]
]

whole_escape : (a c : ℕ) (s : CharacterSet) (w : List ℕ) → set_of_escape_bytes a c ≡ Some s
    → last_designated_set (0x1B ∷ a ∷ c ∷ w) ≡ later_set_or (last_designated_set w) (Some s)
unfolding last_designated_set
whole_escape a c s w names_set =
    ap (λ o. later_set_or o (set_of_escape_bytes a c))
    (other_byte a (c ∷ w) (found_for_other (λ x. set_of_escape_bytes x c) a s refl names_set)
    ∙ other_byte c w (found_for_other (set_of_escape_bytes a) c s (no_third a) names_set))
    ∙ ap (later_set_or (last_designated_set w)) names_set

number_after : (set : ℕ) (o : Option CharacterSet) (s : CharacterSet)
    → set_number_or set (later_set_or o (Some s)) ≡ set_number_or (set_number s) o
number_after set None s = refl
number_after set (Some t) s = refl

-- fewer bytes name no escape sequence that more bytes don't
fewer : (x y : List ℕ) → designated_set (x ++ y) ≡ None → designated_set x ≡ None
fewer [] y e = refl
fewer (a ∷ []) y e = refl
fewer (a ∷ b ∷ []) y e = refl
fewer (a ∷ b ∷ c ∷ x) y e = e

-- After the first sequence, the set is that of the last escape sequence, of those of its bytes and
-- of the bytes w after it.
abbrev HasSetAfter : ℕ → ℕ → List ℕ → Head → Type 0
HasSetAfter set b z h = (w v : List ℕ) → drop h.more z ≡ w ++ v
    → set_number_or h.set (last_designated_set w)
    ≡ set_number_or set (last_designated_set (b ∷ (take h.more z ++ w)))

lead_malformed : (set b : ℕ) (z : List ℕ) → eqb b 0x1B ≡ false
    → HasSetAfter set b z (malformed_head set 0)
lead_malformed set b z other w v parts = ap (set_number_or set) (sym (other_byte b w other))

one_byte : (set b : ℕ) (z : List ℕ) (found : Option ℕ) → eqb b 0x1B ≡ false
    → HasSetAfter set b z (one_byte_head set found)
one_byte set b z None other = lead_malformed set b z other
one_byte set b z (Some c) other = lead_malformed set b z other

two_bytes : (set b c : ℕ) (z : List ℕ) (found : Option ℕ) → eqb b 0x1B ≡ false → eqb c 0x1B ≡ false
    → HasSetAfter set b (c ∷ z) (two_byte_head set found)
two_bytes set b c z None first_other second_other w v parts =
    ap (set_number_or set) (sym (other_byte b (c ∷ w) first_other ∙ other_byte c w second_other))
two_bytes set b c z (Some d) first_other second_other w v parts =
    ap (set_number_or set) (sym (other_byte b (c ∷ w) first_other ∙ other_byte c w second_other))

escape_malformed : (set : ℕ) (z : List ℕ) → designated_set (0x1B ∷ z) ≡ None
    → HasSetAfter set 0x1B z (malformed_head set 0)
escape_malformed set z none w v parts =
    ap (set_number_or set)
    (sym (no_escape 0x1B w
    (fewer (0x1B ∷ w) v (ap (λ x. designated_set (0x1B ∷ x)) (sym parts) ∙ none))))

escape : (set a c : ℕ) (z : List ℕ) (s : CharacterSet) (another : Bool)
    → set_of_escape_bytes a c ≡ Some s
    → HasSetAfter set 0x1B (a ∷ c ∷ z) (escape_head set (Some s) another)
escape set a c z s true names_set w v parts =
    sym (ap (set_number_or set) (whole_escape a c s w names_set)
    ∙ number_after set (last_designated_set w) s)
escape set a c z s false names_set w v parts =
    sym (ap (set_number_or set) (whole_escape a c s w names_set)
    ∙ number_after set (last_designated_set w) s)

has_set_after : (set b : ℕ) (z : List ℕ) → HasSetAfter set b z (jp_rule set b z)
has_set_after set = holds_of_first {Holds = HasSetAfter set} (record {
  no_escape = escape_malformed set;
  escape = λ a c s z names_set. escape set a c z s (is_some (designated_set z)) names_set;
  lead = λ b z leads _. lead_malformed set b z (lead_is_no_escape (set_of set) b leads);
  pair = λ b c z leads trails.
      two_bytes set b c z (two_byte_char b c) (lead_is_no_escape (set_of set) b leads) trails;
  alone = λ b z _ other. one_byte set b z (one_byte_char (set_of set) b) other;
})

-- Sequences that come first: their bytes are in front, and the set after them is that of their last
-- escape sequence.
abbrev HasSet : ℕ → List ℕ → List Sequence → Type 0
HasSet set z before =
    ((v : List ℕ) × (z ≡ sequence_bytes before ++ v)) × (set_after set before
    ≡ set_number_or set (last_designated_set (sequence_bytes before)))

sets : (set : ℕ) (z : List ℕ) (before rest : List Sequence)
    → sequences_of jp_rule set z ≡ before ++ rest
    → HasSet set z before
unfolding last_designated_set
sets set z [] rest whole = ((z, refl), refl)
sets set [] (s ∷ before) rest whole =
    let none_is_some = sym (sequences_of-nil jp_rule set) ∙ whole in absurd (cc)
sets set (b ∷ z) (s ∷ before) rest whole =
    let head : Head = jp_rule set b z in
    let sequences = sym (sequences_of-cons jp_rule set b z) ∙ whole in
    let of_rest = sets head.set (drop head.more z) before rest
    (rest_of (head_sequence head b z) s _ (before ++ rest) sequences) in
    let bytes_before = sequence_bytes before in
    subst (λ (t : Sequence). HasSet set (b ∷ z) (t ∷ before))
    (first_of (head_sequence head b z) s _ (before ++ rest) sequences) (
      (
        of_rest.0.0,
        ap (λ x. b ∷ x) (sym (take-append-drop head.more z)
            ∙ ap (λ x. take head.more z ++ x) of_rest.0.1
            ∙ sym (append_assoc (take head.more z) bytes_before of_rest.0.0)),
      ),
      of_rest.1 ∙ has_set_after set b z bytes_before of_rest.0.0 of_rest.0.1,
    )

pub sets_are_of_last_escapes : SetsAreOfLastEscapes jp_rule
sets_are_of_last_escapes set z before rest e = (sets set z before rest e).1
