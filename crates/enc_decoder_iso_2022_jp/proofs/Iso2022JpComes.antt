-- What the ISO-2022-JP decoder shows comes first.
use Rattle.std.proofs.Common.{◌≡◌, ℕ, ◌≤◌, true, false, eqb, Option, Some, None, List, [], ◌∷◌, ◌++◌, length}
use Rattle.std.proofs.Common.{drop, refl, ap}
use Rattle.std.proofs.Common.{◌∙◌, sym, arith, append_assoc}
use Rattle.enc_decoder.specs.declared.byte_codec.Kind.TheVariants.{Valid, Skipped, Malformed, RepeatedEscape}
use Rattle.enc_decoder.specs.declared.byte_codec.Text.TheVariants.{Nothing, One}
use Rattle.enc_decoder.specs.declared.byte_codec.HandlerResult.TheVariants.{Emit}
use Rattle.enc_decoder_iso_2022_jp.specs.declared.character_set.CharacterSet.{CharacterSet}
use Rattle.enc_decoder_iso_2022_jp.specs.declared.escape.Intermediate.{Intermediate}
use Rattle.enc_decoder_iso_2022_jp.specs.declared.escape.Escape.{Escape}
use Rattle.enc_decoder_iso_2022_jp.specs.declared.iso_2022_jp.Held.{Held}
use Rattle.enc_decoder_iso_2022_jp.specs.declared.iso_2022_jp.Held.TheVariants.{GivenBack, Lead, Whole, Started}
use Rattle.enc_decoder.specs.Segmentation.{Head, head_sequence, malformed_head, sequences_of, one_byte_head}
use Rattle.enc_decoder.specs.CodecLaw.{IsNextSequence, HandlesByte, lone_fault}
use Rattle.enc_decoder_iso_2022_jp.specs.Iso2022Jp.{set_number, designated_set, is_lead_byte, one_byte_char}
use Rattle.enc_decoder_iso_2022_jp.specs.Iso2022Jp.{two_byte_char, two_byte_head, iso_2022_jp_rule as jp_rule}
use Rattle.enc_decoder_iso_2022_jp.specs.Iso2022JpState.{state_with_held, intermediate_byte, escape_bytes, escape_set}
use Rattle.enc_decoder_iso_2022_jp.specs.Iso2022JpState.{escape_and_bytes, bytes_of_held, CanHold, CutsOffHeld}
use Rattle.enc_decoder_iso_2022_jp.specs.Iso2022JpState.{Iso2022JpState, char_or_malformed}
use Rattle.enc_decoder_iso_2022_jp.specs.Iso2022JpState.{iso_2022_jp_state as jp_state}
use Rattle.enc_decoder.proofs.SegmentationLemmas.{sequences_of-head}
use Rattle.enc_decoder.proofs.EmissionLemmas.{shows_with, shows_before}
use Rattle.enc_decoder_iso_2022_jp.proofs.Iso2022JpLemmas.{set_of_number, lead_first, alone_first, lead_alone}
use Rattle.enc_decoder_iso_2022_jp.proofs.Iso2022JpLemmas.{lead_and_trail, skipped_escape, repeated_escape}
use Rattle.enc_decoder_iso_2022_jp.proofs.Iso2022JpLemmas.{designated_by, has_escape_bytes, high_is_none}
use Rattle.enc_decoder_iso_2022_jp.proofs.Iso2022JpLemmas.{high_leads_none}
use Rattle.enc_decoder_iso_2022_jp.proofs.Iso2022JpLemmas.{high_is_no_escape}
use Rattle.enc_decoder_iso_2022_jp.proofs.Iso2022JpUndetermined.{undetermined}

three : (e : Escape) → 3 ≡ length (escape_bytes e)
three e = rw (has_escape_bytes e).bytes refl

-- bytes after those that follow a whole escape sequence or none
pub escape_and_bytes-append : (before : Option Escape) (x y : List ℕ)
    → escape_and_bytes before (x ++ y) ≡ escape_and_bytes before x ++ y
escape_and_bytes-append None x y = refl
escape_and_bytes-append (Some e) x y = sym (append_assoc (escape_bytes e) x y)

module _ (s : CharacterSet) where
  abbrev at : Option Held → Iso2022JpState
  at = state_with_held s

  first : (b : ℕ) (z : List ℕ) (h : Head) → jp_rule (set_number s) b z ≡ h
      → sequences_of jp_rule (set_number s) (b ∷ z) ≡ head_sequence h b z
      ∷ sequences_of jp_rule h.set (drop h.more z)
  first = sequences_of-head jp_rule (set_number s)

  -- sequences that the following bytes cut off

  -- one malformed byte, after which others may be held
  pub shows_malformed : (held : Held) (b : ℕ) (next : Option Held)
      → bytes_of_held (Some held) ≡ b ∷ bytes_of_held next → length (bytes_of_held next) ≤ 3
      → ((y : List ℕ) → CutsOffHeld held y
      → jp_rule (set_number s) b (bytes_of_held next ++ y) ≡ malformed_head (set_number s) 0)
      → IsNextSequence jp_state (at (Some held)) (CutsOffHeld held) []
      (char_or_malformed None 1 false (at next))
  shows_malformed held b next parts few malformed =
      shows_before jp_state (at (Some held)) (at next) (One 0xFFFD) Malformed 1 (CutsOffHeld held)
      (b ∷ []) refl parts refl (omega arith) refl (λ _. (refl, (omega arith, few, omega arith)))
      (λ y cut_off. rw parts (first b (bytes_of_held next ++ y) _ (malformed y cut_off)))

  -- an escape sequence
  pub shows_skipped : (held : Held) (e : Escape) (next : Option Held)
      → bytes_of_held (Some held) ≡ escape_bytes e ++ bytes_of_held next
      → ((y : List ℕ) → CutsOffHeld held y → designated_set (bytes_of_held next ++ y) ≡ None)
      → IsNextSequence jp_state (at (Some held)) (CutsOffHeld held) []
      (record {
        text = Nothing;
        kind = Skipped;
        len = 3;
        takes_byte = false;
        next = state_with_held (escape_set e) next;
      })
  shows_skipped held e next parts none_follows =
      shows_before jp_state (at (Some held)) (state_with_held (escape_set e) next) Nothing Skipped 3
      (CutsOffHeld held) (escape_bytes e) refl parts (three e) (omega arith) refl (λ faulty. cc)
      (λ y cut_off. rw (parts, append_assoc)
      (skipped_escape (set_number s) e (bytes_of_held next ++ y) (none_follows y cut_off)))

  -- a byte that stands alone
  pub alone : (b : ℕ) (found : Option ℕ) → found ≡ one_byte_char s b → is_lead_byte s b ≡ false
      → eqb b 0x1B ≡ false
      → (y : List ℕ) → jp_rule (set_number s) b y ≡ one_byte_head (set_number s) found
  alone b found is_char no_lead no_escape y =
      alone_first (set_number s) b y (rw set_of_number no_lead) no_escape
      ∙ rw (set_of_number s, is_char) refl

  pub shows_given_back : (b : ℕ) (found : Option ℕ) → found ≡ one_byte_char s b
      → CanHold s (Some (GivenBack b))
      → IsNextSequence jp_state (at (Some (GivenBack b))) (CutsOffHeld (GivenBack b)) []
      (char_or_malformed found 1 false (at None))
  shows_given_back b None is_char can_hold =
      shows_malformed (GivenBack b) b None refl (omega arith)
      (λ y _. alone b None is_char can_hold.0 can_hold.1 y)
  shows_given_back b (Some d) is_char can_hold =
      shows_before jp_state (at (Some (GivenBack b))) (at None) (One d) Valid 1
      (CutsOffHeld (GivenBack b)) (b ∷ []) refl refl refl (omega arith) refl (λ faulty. cc)
      (λ y _. first b y _ (alone b (Some d) is_char can_hold.0 can_hold.1 y))

  pub shows_alone : (b : ℕ) (found : Option ℕ) → found ≡ one_byte_char s b
      → is_lead_byte s b ≡ false → eqb b 0x1B ≡ false
      → HandlesByte jp_state (at None) b (Emit (char_or_malformed found 1 true (at None)))
  shows_alone b None is_char no_lead no_escape =
      shows_with jp_state (at None) (at None) (One 0xFFFD) Malformed 1 b refl refl refl refl
      (λ _. (refl, omega arith)) (λ y. first b y _ (alone b None is_char no_lead no_escape y))
  shows_alone b (Some d) is_char no_lead no_escape =
      shows_with jp_state (at None) (at None) (One d) Valid 1 b refl refl refl refl (λ faulty. cc)
      (λ y. first b y _ (alone b (Some d) is_char no_lead no_escape y))

  -- a byte with the high bit set is malformed by itself
  pub shows_high : (b : ℕ) → 0x80 ≤ b
      → HandlesByte jp_state (at None) b (Emit (lone_fault (at None)))
  shows_high b is_high =
      shows_alone b None (sym (high_is_none s b is_high)) (high_leads_none s b is_high)
      (high_is_no_escape b is_high)

  -- a lead byte, and the byte after it

  pub shows_lead : (b : ℕ) → is_lead_byte s b ≡ true
      → IsNextSequence jp_state (at (Some (Lead b))) (CutsOffHeld (Lead b)) []
      (char_or_malformed None 1 false (at None))
  shows_lead b leads = shows_malformed (Lead b) b None refl (omega arith)
      (λ y cut_off. lead_first (set_number s) b y (rw set_of_number leads)
      ∙ lead_alone (set_number s) b y cut_off)

  pub pair : (lead b : ℕ) (found : Option ℕ) → found ≡ two_byte_char lead b
      → is_lead_byte s lead ≡ true → eqb b 0x1B ≡ false
      → (y : List ℕ) → jp_rule (set_number s) lead (b ∷ y) ≡ two_byte_head (set_number s) found
  pair lead b found is_char leads no_escape y =
      lead_first (set_number s) lead (b ∷ y) (rw set_of_number leads)
      ∙ lead_and_trail (set_number s) lead b y no_escape
      ∙ ap (two_byte_head (set_number s)) (sym is_char)

  pub shows_pair : (lead b : ℕ) (found : Option ℕ) → found ≡ two_byte_char lead b
      → is_lead_byte s lead ≡ true → eqb b 0x1B ≡ false
      → HandlesByte jp_state (at (Some (Lead lead))) b
      (Emit (char_or_malformed found 2 true (at None)))
  shows_pair lead b None is_char leads no_escape =
      shows_with jp_state (at (Some (Lead lead))) (at None) (One 0xFFFD) Malformed 2 b refl refl
      refl refl (λ _. (refl, omega arith))
      (λ y. first lead (b ∷ y) _ (pair lead b None is_char leads no_escape y))
  shows_pair lead b (Some d) is_char leads no_escape =
      shows_with jp_state (at (Some (Lead lead))) (at None) (One d) Valid 2 b refl refl refl refl
      (λ faulty. cc) (λ y. first lead (b ∷ y) _ (pair lead b (Some d) is_char leads no_escape y))

-- an escape sequence that another follows directly

another_designates : (f : Escape) (i : Intermediate) (b : ℕ)
    → escape_bytes f ≡ 0x1B ∷ intermediate_byte i ∷ b ∷ []
    → (y : List ℕ) → designated_set (0x1B ∷ intermediate_byte i ∷ b ∷ y) ≡ Some (escape_set f)
another_designates f i b is_escape y =
    ap (λ x. designated_set (x ++ y)) (sym is_escape) ∙ designated_by f y

pub shows_repeated : (s : CharacterSet) (e f : Escape) (i : Intermediate) (b : ℕ)
    → escape_bytes f ≡ 0x1B ∷ intermediate_byte i ∷ b ∷ []
    → HandlesByte jp_state (state_with_held s (Some (Started (Some e) i))) b
    (Emit (record {
      text = One 0xFFFD;
      kind = RepeatedEscape;
      len = 3;
      takes_byte = true;
      next = state_with_held (escape_set e) (Some (Whole f));
    }))
shows_repeated s e f i b is_escape = (
  record {
    bytes = escape_bytes e;
    some = (let three_bytes = three e in omega arith);
    len = three e;
    parts = append_assoc (escape_bytes e) (0x1B ∷ intermediate_byte i ∷ []) (b ∷ [])
        ∙ ap (λ x. escape_bytes e ++ x) (sym is_escape);
    first = λ y _. rw (
      append_assoc (escape_bytes e) (0x1B ∷ intermediate_byte i ∷ []) (b ∷ y),
      is_escape,
    ) (repeated_escape (set_number s) e (0x1B ∷ intermediate_byte i ∷ b ∷ y) (escape_set f)
        (another_designates f i b is_escape y));
    same_rule = refl;
    replacement = λ _. refl;
    bounds = λ _. (refl, sym (three f));
    late = λ _. refl;
    clean = λ _ n. cc;
  },
  λ _. undetermined (escape_set e) (Whole f) tt (λ g q. cc),
)
