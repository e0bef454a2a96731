-- Which bytes show whether an escape sequence begins.
use Rattle.std.proofs.Common.{◌≡◌, ℕ, ◌≤◌, suc, false, eqb, Some, None, List, [], ◌∷◌, ◌++◌, length, take, refl}
use Rattle.std.proofs.Common.{◌∙◌, sym, arith, subst, ◌⊎◌, inl, inr}
use Rattle.enc_decoder_iso_2022_jp.specs.declared.character_set.CharacterSet.{CharacterSet}
use Rattle.enc_decoder_iso_2022_jp.specs.declared.character_set.CharacterSet.TheVariants.{Ascii, Jis0208}
use Rattle.enc_decoder.specs.Remainder.{AreBytes}
use Rattle.enc_decoder_iso_2022_jp.specs.Iso2022Jp.{set_of_escape_bytes, designated_set}
use Rattle.enc_decoder.proofs.FirstSequenceLemmas.{true_or_false}
use Rattle.enc_decoder_iso_2022_jp.proofs.Iso2022JpLemmas.{is_escape_byte}

-- more bytes make an escape sequence of these
pub record MayBegin (w : List ℕ) : Type 0 where
  pub short : length w ≤ 2
  pub none_yet : designated_set w ≡ None
  pub more : List ℕ
  pub bytes : AreBytes more
  pub set : CharacterSet
  pub becomes : designated_set (w ++ more) ≡ Some set

-- n + 1 bytes show it, and n bytes may still begin one
pub record IsShownBy (w : List ℕ) (n : ℕ) : Type 0 where
  pub few : n ≤ 2
  pub there : suc n ≤ length w
  pub same : (y : List ℕ) → designated_set (take (suc n) w ++ y) ≡ designated_set w
  pub before : MayBegin (take n w)

pub other_front : (a : ℕ) (z : List ℕ) → eqb a 0x1B ≡ false → designated_set (a ∷ z) ≡ None
other_front a [] e = refl
other_front a (b ∷ []) e = refl
other_front a (b ∷ c ∷ z) e = rw e refl

other_second : (a b : ℕ) (z : List ℕ) → eqb b 0x28 ≡ false → eqb b 0x24 ≡ false
    → designated_set (a ∷ b ∷ z) ≡ None
other_second a b [] e f = refl
other_second a b (c ∷ z) e f =
    elim (true_or_false (eqb a 0x1B)) [ inl t ↦ rw (t, e, f) refl | inr t ↦ rw t refl ]

begins_with : (w more : List ℕ) (s : CharacterSet) → AreBytes more → length w ≤ 2
    → designated_set w ≡ None → designated_set (w ++ more) ≡ Some s → MayBegin w
begins_with w more s bytes short none_yet becomes = record {
  short = short;
  none_yet = none_yet;
  more = more;
  bytes = bytes;
  set = s;
  becomes = becomes;
}

pub nothing_begins : MayBegin []
nothing_begins = begins_with [] (0x1B ∷ 0x28 ∷ 0x42 ∷ []) Ascii
    (omega arith, (omega arith, (omega arith, tt))) (omega arith) refl refl

pub one_begins : MayBegin (0x1B ∷ [])
one_begins = begins_with (0x1B ∷ []) (0x28 ∷ 0x42 ∷ []) Ascii (omega arith, (omega arith, tt))
    (omega arith) refl refl

pub two_begin : (b : ℕ) (s : CharacterSet) → set_of_escape_bytes b 0x42 ≡ Some s
    → MayBegin (0x1B ∷ b ∷ [])
two_begin b s names_set =
    begins_with (0x1B ∷ b ∷ []) (0x42 ∷ []) s (omega arith, tt) (omega arith) refl names_set

-- (28 and 24 are the second bytes)
shown_by_second : (b : ℕ) (z : List ℕ) → eqb b 0x28 ≡ false → eqb b 0x24 ≡ false
    → IsShownBy (0x1B ∷ b ∷ z) 1
shown_by_second b z not_28 not_24 = record {
  few = omega arith;
  there = omega arith;
  same = λ y. other_second 0x1B b y not_28 not_24 ∙ sym (other_second 0x1B b z not_28 not_24);
  before = one_begins;
}

shown_by_third : (b c : ℕ) (z : List ℕ) → MayBegin (0x1B ∷ b ∷ []) → IsShownBy (0x1B ∷ b ∷ c ∷ z) 2
shown_by_third b c z m =
    record { few = omega arith; there = omega arith; same = λ y. refl; before = m }

shown_from_second : (b : ℕ) (z : List ℕ) → MayBegin (0x1B ∷ b ∷ [])
    → ((n : ℕ) × IsShownBy (0x1B ∷ b ∷ z) n)
    ⊎ MayBegin (0x1B ∷ b ∷ z)
shown_from_second b [] may_begin = inr may_begin
shown_from_second b (c ∷ z) may_begin = inl (2, shown_by_third b c z may_begin)

shown_after : (z : List ℕ) → ((n : ℕ) × IsShownBy (0x1B ∷ z) n) ⊎ MayBegin (0x1B ∷ z)
shown_after [] = inr one_begins
shown_after (b ∷ z) = elim (true_or_false (eqb b 0x28)) [
  | inl p ↦ shown_from_second b z (two_begin b Ascii (rw p refl))
  | inr not_28 ↦ elim (true_or_false (eqb b 0x24)) [
    | inl d ↦ shown_from_second b z (two_begin b Jis0208 (rw (not_28, d) refl))
    | inr d ↦ inl (1, shown_by_second b z not_28 d)
  ]
]

pub shown_or_begun : (w : List ℕ) → ((n : ℕ) × IsShownBy w n) ⊎ MayBegin w
shown_or_begun [] = inr nothing_begins
shown_or_begun (a ∷ z) = elim (true_or_false (eqb a 0x1B)) [
  | inl t ↦ subst (λ (e : ℕ). ((n : ℕ) × IsShownBy (e ∷ z) n) ⊎ MayBegin (e ∷ z))
      (sym (is_escape_byte a t))
      (shown_after z)
  | inr no_escape ↦ inl (
    0,
    record {
      few = omega arith;
      there = omega arith;
      same = λ y. other_front a y no_escape ∙ sym (other_front a z no_escape);
      before = nothing_begins;
    },
  )
]
