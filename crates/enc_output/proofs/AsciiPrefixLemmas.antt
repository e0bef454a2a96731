-- Runs of ASCII in front of what fits, and what was gathered apart.
use Rattle.std.proofs.Common.{◌≡◌, ℕ, ◌<◌, ◌≤◌, List, length, get_or, take, ap, ◌∙◌, arith, inl, inr}
use Rattle.std.proofs.lemmas.Bool.{cases_lt}
use Rattle.std.proofs.lemmas.List.{take-take, get_or-take}
use Rattle.std.specs.Prelude.{min}
use Rattle.std.specs.Str.{IsUtf8}
use Rattle.enc_utf8.proofs.LengthLemmas.{lengths}
use Rattle.enc_output.specs.Output.{Output, with_appended}
use Rattle.enc_utf8.specs.Text.{units_of_text}
use Rattle.enc_utf8.specs.Validity.{AreAscii}
use Rattle.enc_output.specs.AsciiRun.{PutsAscii}
use Rattle.enc_output.proofs.Utf8SliceLemmas.{puts_own}
use Rattle.enc_utf8.proofs.UnitsLemmas.{ascii_utf8}

-- the ASCII in front of as many bytes as there are, or fit
pub puts_front : {units_of : ℕ → List ℕ}
    → ((bs : List ℕ) → AreAscii bs → units_of_text units_of bs ≡ bs)
    → {before after : Output} {src front : List ℕ} {n : ℕ} (most : ℕ) → front ≡ take most src
    → most ≡ min (length src) before.room → n ≤ length front → AreAscii (take n front)
    → (n < length front → 0x80 ≤ get_or front n 0) → after ≡ with_appended before (take n src)
    → PutsAscii units_of before after src n
puts_front own {before} {src = src} {front = front} {n = n} most is_front most_is within ascii ends
    written =
    let few : n ≤ most = omega (arith, lengths, ap length is_front) in
    let same = ap (take n) is_front ∙ take-take n most src few in
    puts_own own (omega arith) (omega arith) (rw same at ascii)
    (λ more low. elim (cases_lt n most) [
      | inl less ↦
          let here = ap (λ z. get_or z n 0) is_front ∙ get_or-take most src n 0 less in
          absurd (omega (arith, ends (omega (arith, lengths, ap length is_front)), here))
      | inr all ↦ omega arith
    ]) written

pub front_utf8 : (src front : List ℕ) (n most : ℕ) → front ≡ take most src → n ≤ length front
    → AreAscii (take n front) → IsUtf8 (take n src)
front_utf8 src front n most is_front within ascii =
    let few : n ≤ most = omega (arith, lengths, ap length is_front) in
    ascii_utf8 src n (rw (ap (take n) is_front ∙ take-take n most src few) at ascii)
