-- Characters of UTF-8 that are written as one byte each.
use Rattle.std.proofs.Common.{refl}
use Rattle.std.proofs.Common.{◌≡◌, ◌∙◌, ℕ, ◌+◌, ◌/◌, ◌%◌, ◌^◌, ◌<◌, ◌≤◌, cond, ltb, List, [], ◌∷◌, ◌++◌, map, length}
use Rattle.std.proofs.Common.{take, drop, get_or, ap, sym, subst, arith, drop-drop, chars, IsUtf8, min}
use Rattle.std.proofs.Math.ListN.{set}
use Rattle.std.proofs.lemmas.Bool.Decides.{nat_tests}
use Rattle.std.proofs.lemmas.List.{get_or-drop, get_or-take, take-take}
use Rattle.std.proofs.lemmas.Nat.{shr-shr}
use Rattle.enc_input.specs.Mappings.{IsFirstUtf8Char, WritesFront}
use Rattle.enc_utf8.specs.Pieces.{KeepsAscii}
use Rattle.enc_input.specs.Utf8Bytes.{short_unit, lead_bit, AreLanesOf}
use Rattle.enc_utf8.specs.Validity.{AreAscii}
use Rattle.enc_utf8.proofs.PutLemmas.{put_one}
use Rattle.enc_input.proofs.Utf16MappedLemmas.{clamped_at, unclamped}
use Rattle.enc_input.proofs.Utf8MappedLemmas.{short_at, own_written}
use Rattle.enc_utf8.proofs.ByteLanes.{two}
use Rattle.enc_input.proofs.WriteLoopLemmas.{writes_one, writes_then}

-- what sixteen bytes begin

abbrev short : ℕ → ℕ → ℕ
short a b = cond (ltb a 0x80) a (two a b)

pub short_is : (a b : ℕ) → a < 0x100 → b < 0x100 → short a b ≡ short_unit a b
short_is a b first_fits second_fits = grind (arith, nat_tests)

pub lanes_are : (src : List ℕ) (from : ℕ) (units clamped : List ℕ) (leads : ℕ)
    → ((k : ℕ) → k < 16 → get_or units k 0 ≡ short_unit (get_or (take 16 (drop from src)) k 0)
    (get_or (take 16 (drop (from + 1) src)) k 0))
    → clamped ≡ map (λ u. min u 0x7FF) units
    → ((k : ℕ) → k < 16 → leads / 2 ^ k % 2 ≡ lead_bit (get_or (take 16 (drop from src)) k 0))
    → AreLanesOf (drop from src) clamped leads
lanes_are src from units clamped leads are_units are_clamped are_leads = record {
  unit = λ k below.
      let first = get_or-take 16 (drop from src) k 0 below in
      let second : get_or (take 16 (drop (from + 1) src)) k 0 ≡ get_or (drop from src) (k + 1) 0 =
      get_or-take 16 (drop (from + 1) src) k 0 below ∙ get_or-drop (from + 1) src k 0
      ∙ ap (λ j. get_or src j 0) (omega arith) ∙ sym (get_or-drop from src (k + 1) 0) in
      rw (are_clamped, clamped_at units k, are_units k below, first, second) refl;
  lead = λ k below. are_leads k below ∙ ap lead_bit (get_or-take 16 (drop from src) k 0 below);
}

-- ASCII that is stored by lanes
pub ascii_written : (Means : List ℕ → ℕ → Type 0) {text before after : List ℕ} {at n : ℕ} →
    KeepsAscii Means → IsUtf8 text
    → n ≤ 64 → n ≤ length text → AreAscii (take n text) → at + n ≤ length before
    → after ≡ take at before ++ (take n (take 64 text) ++ drop (at + n) before)
    → WritesFront chars IsUtf8 Means text before after at n n
ascii_written Means {text} {before} {at = at} {n = n} keeps utf8 few within ascii room onto =
    own_written utf8 (record {
      within = within;
      ascii = λ k d inside. (ascii k d inside, keeps _ (ascii k d inside));
      fits = room;
      onto = onto ∙ ap (λ z. take at before ++ (z ++ drop (at + n) before))
          (take-take n 64 text few);
    })

-- characters one after another

module _ {Means : List ℕ → ℕ → Type 0} where
  -- one character
  pub short_written : (src : List ℕ) (from : ℕ) {before : List ℕ} {at unit : ℕ} (byte : ℕ)
      → IsUtf8 (drop from src) → from < length src
      → unit ≡ short_unit (get_or src from 0) (get_or src (from + 1) 0) → unit < 0x800
      → Means (byte ∷ []) unit → at < length before
      → WritesFront chars IsUtf8 Means (drop from src) before (set before at byte) at
      (1 + lead_bit (get_or src from 0)) 1
  short_written src from {before} {at} byte utf8 inside is below means room =
      let first = subst
      (λ c. IsFirstUtf8Char (drop from src) c (1 + lead_bit (get_or src from 0))) (sym is)
      (short_at src from utf8 inside (omega arith)) in
      writes_one means first.within first.utf8 first.chars (put_one at byte before room)

  -- the rest of a text, by its place in the whole input

  pub later_utf8 : (src : List ℕ) (from : ℕ) {before after : List ℕ} {at n m : ℕ}
      → WritesFront chars IsUtf8 Means (drop from src) before after at n m → IsUtf8
      (drop (from + n) src)
  later_utf8 src from {n = n} writes = subst IsUtf8 (drop-drop n from src) writes.rest

  pub of_rest : (src : List ℕ) (from n : ℕ) {before after : List ℕ} {at k j : ℕ}
      → WritesFront chars IsUtf8 Means (drop (from + n) src) before after at k j
      → WritesFront chars IsUtf8 Means (drop n (drop from src)) before after at k j
  of_rest src from n writes = rw (drop-drop n from src) writes

  -- four characters of lanes, one after another
  module _ {text units : List ℕ} {leads : ℕ} (lanes : AreLanesOf text units leads)
      (long : 16 ≤ length text) (place : ℕ) where
    pub four_further : {first dst : List ℕ} {read count at next : ℕ} (byte : ℕ)
        → place + read < 16 → next ≡ read + 1 + leads / 2 ^ place / 2 ^ read % 2
        → WritesFront chars IsUtf8 Means (drop place text) first dst at read count → 0 < byte
        → Means (byte ∷ []) (get_or units (place + read) 0)
        → (get_or units (place + read) 0 ≡ 0x7FF → byte ≡ 0) → at + count < length dst
        → WritesFront chars IsUtf8 Means (drop place text) first (set dst (at + count) byte) at next
        (count + 1)
    four_further {first} {dst} {read} {count} {at} byte here ends writes some means last room =
        let char_is = unclamped _ _ byte (lanes.unit (place + read) here) some last in
        let lead = ap (λ x. x % 2) (shr-shr leads place read) ∙ lanes.lead (place + read) here in
        let ends_at = ap (λ bit. read + 1 + bit) lead in
        let width : read + (1 + lead_bit (get_or text (place + read) 0))
        ≡ read + 1 + lead_bit (get_or text (place + read) 0) = omega arith in
        subst (λ n. WritesFront chars IsUtf8 Means (drop place text) first
        (set dst (at + count) byte) at n (count + 1)) (width ∙ sym (ends ∙ ends_at))
        (writes_then writes (of_rest text place read (short_written text (place + read) byte
        (later_utf8 text place writes)
        (omega arith) char_is.1 (omega (arith, char_is.0, char_is.1)) means room)))
