-- Where text is written over other text, all is well-formed once the rest of a character is made
-- 00.
use Rattle.std.proofs.Common.{◌≡◌, ℕ, zero, suc, ◌+◌, ◌-◌, ◌<◌, ◌≤◌, ◌&&◌, Bool, true, false, nat_le, nat_lt}
use Rattle.std.proofs.Common.{List, [], ◌∷◌, ◌++◌, length, take, drop, refl, ap, ◌∙◌, sym, subst}
use Rattle.std.proofs.Common.{arith, drop-drop, inl, inr}
use Rattle.std.proofs.lemmas.Bool.{and_parts, cases_lt}
use Rattle.std.proofs.lemmas.Bool.Decides.{nat_tests}
use Rattle.std.proofs.lemmas.List.{take-append-drop, drop-append-le}
use Rattle.std.proofs.lemmas.Str.{IsUtf8-append, IsUtf8-encode, encode_ascii}
use Rattle.std.proofs.Math.Seq.{drop-nil, drop-append-add}
use Rattle.std.specs.Char.{encode_utf8}
use Rattle.std.specs.Str.{IsUtf8, all_scalars, encode_utf8_all}
use Rattle.enc_utf8.specs.Text.{AreScalars, units_of_text}
use Rattle.enc_output.specs.Rest.{without_continuations}
use Rattle.enc_utf8.proofs.UnitsLemmas.{their_units}
use Rattle.enc_utf8.proofs.Utf8FormLemmas.{Form, One, Two, Three, Four, form_of}

-- bytes that follow another in a character
abbrev AreContinuations : List ℕ → Type 0
AreContinuations [] = Unit {0}
AreContinuations (b ∷ bs) = ((0x80 ≤ b) × (b < 0xC0)) × AreContinuations bs

AreContinuations-drop : (n : ℕ) (bs : List ℕ) → AreContinuations bs → AreContinuations (drop n bs)
AreContinuations-drop zero bs continue = continue
AreContinuations-drop (suc n) [] continue = tt
AreContinuations-drop (suc n) (b ∷ bs) continue = AreContinuations-drop n bs continue.1

abbrev is_continuation : ℕ → Bool
is_continuation b = nat_le 0x80 b && nat_lt b 0xC0

-- such bytes become 00
all_cleared : (bs z : List ℕ) → AreContinuations bs → IsUtf8 (without_continuations z)
    → IsUtf8 (without_continuations (bs ++ z))
all_cleared [] z continue utf8 = utf8
all_cleared (b ∷ bs) z continue utf8 =
    let from = continue.0.0 in
    let below = continue.0.1 in
    let test : is_continuation b ≡ true = grind (arith, nat_tests, from, below) in
    let rest = without_continuations (bs ++ z) in
    rw test (subst (λ x. IsUtf8 (x ++ rest)) (encode_ascii 0 (omega arith))
    (IsUtf8-append (encode_utf8 0) rest (IsUtf8-encode 0 refl) (all_cleared bs z continue.1 utf8)))

-- what begins with a character stays

stays : (b : ℕ) (z : List ℕ) → is_continuation b ≡ false → without_continuations (b ∷ z) ≡ b ∷ z
stays b z test = rw test refl

char_stays : (c : ℕ) (z : List ℕ) → Form c
    → without_continuations (encode_utf8 c ++ z) ≡ encode_utf8 c ++ z
char_stays c z (One low code) = rw code (stays _ _ (grind (arith, nat_tests)))
char_stays c z (Two from below code) = rw code (stays _ _ (grind (arith, nat_tests)))
char_stays c z (Three from below code) = rw code (stays _ _ (grind (arith, nat_tests)))
char_stays c z (Four from code) = rw code (stays _ _ (grind (arith, nat_tests)))

text_stays : (text : List ℕ) → all_scalars text ≡ true
    → without_continuations (encode_utf8_all text) ≡ encode_utf8_all text
text_stays [] scalars = refl
text_stays (c ∷ text) scalars = char_stays c (encode_utf8_all text) (form_of c)

-- the bytes of a character after the first
tail_by : (c : ℕ) → Form c → AreContinuations (drop 1 (encode_utf8 c))
tail_by c (One low code) = rw code tt
tail_by c (Two from below code) = rw code ((omega arith, omega arith), tt)
tail_by c (Three from below code) =
    rw code ((omega arith, omega arith), ((omega arith, omega arith), tt))
tail_by c (Four from code) =
    rw code
    ((omega arith, omega arith), ((omega arith, omega arith), ((omega arith, omega arith), tt)))

-- the rest of a character after its first bytes, and other text
rest_by : (c n : ℕ) (z : List ℕ) → IsUtf8 (encode_utf8 c ++ z) → IsUtf8 (without_continuations z)
    → IsUtf8 (without_continuations (drop n (encode_utf8 c) ++ z))
rest_by c zero z utf8 rest_utf8 = subst IsUtf8 (sym (char_stays c z (form_of c))) utf8
rest_by c (suc n) z utf8 rest_utf8 =
    let place : 1 + n ≡ suc n = omega arith in
    let tail = drop-drop n 1 (encode_utf8 c) ∙ ap (λ k. drop k (encode_utf8 c)) place in
    subst (λ x. IsUtf8 (without_continuations (x ++ z))) tail
    (all_cleared _ z (AreContinuations-drop n (drop 1 (encode_utf8 c)) (tail_by c (form_of c)))
    rest_utf8)

rest_of : (text : List ℕ) (n : ℕ) → all_scalars text ≡ true
    → IsUtf8 (without_continuations (drop n (encode_utf8_all text)))
rest_of [] n scalars =
    subst (λ x. IsUtf8 (without_continuations x)) (sym (drop-nil n)) ([], (refl, refl))
rest_of (c ∷ text) n scalars =
    let parts = and_parts _ _ scalars in
    let rest = encode_utf8_all text in
    elim (cases_lt n (length (encode_utf8 c))) [
      | inl within ↦
          subst (λ x. IsUtf8 (without_continuations x))
          (sym (drop-append-le n (encode_utf8 c) rest (omega arith)))
          (rest_by c n rest (c ∷ text, (scalars, refl))
          (subst IsUtf8 (sym (text_stays text parts.1)) (text, (parts.1, refl))))
      | inr beyond ↦
          let further = n - length (encode_utf8 c) in
          let count : n ≡ length (encode_utf8 c) + further = omega arith in
          subst (λ x. IsUtf8 (without_continuations x))
          (sym (ap (λ k. drop k (encode_utf8 c ++ rest)) count
          ∙ drop-append-add (encode_utf8 c) rest further)) (rest_of text further parts.1)
    ]

-- the text that is written is well-formed with the bytes after it, once the rest of a character is
-- made 00
pub is_text : (bytes old : List ℕ) (n : ℕ) (text : List ℕ) → IsUtf8 old → AreScalars text
    → take n bytes ≡ units_of_text encode_utf8 text
    → drop n bytes ≡ without_continuations (drop n old) → IsUtf8 bytes
is_text bytes old n text utf8 scalars front rest =
    let written = sym (their_units text) ∙ sym front in
    subst IsUtf8 (take-append-drop n bytes)
    (IsUtf8-append (take n bytes) (drop n bytes) (text, (scalars, written))
    (subst IsUtf8 (sym rest) (subst (λ x. IsUtf8 (without_continuations (drop n x))) utf8.1.1
    (rest_of utf8.0 n utf8.1.0))))

-- the loop over the rest: of the bytes after the first `at`, those before `end` are done
pub record Cleared (at end : ℕ) (old new : List ℕ) : Type 0 where
  pub from : at ≤ end
  pub within : end ≤ length new
  pub len : length new ≡ length old
  pub front : take at new ≡ take at old
  pub whole : take end new ++ without_continuations (drop end new)
      ≡ take at old ++ without_continuations (drop at old)
