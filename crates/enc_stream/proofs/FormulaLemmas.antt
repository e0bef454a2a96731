-- The length that a formula gives does not fall with the number of bytes.
use Rattle.std.proofs.Common.{◌≡◌, ℕ, ◌+◌, ◌*◌, ◌/◌, ◌^◌, ◌<◌, ◌≤◌, Bool, true, false, cond}
use Rattle.std.proofs.Common.{nat_lt, Option, Some, None, refl, ap}
use Rattle.std.proofs.Common.{◌∙◌, arith}
use Rattle.std.proofs.lemmas.Bool.Decides.{nat_tests}
use Rattle.enc_utf8.specs.Checked.{checked_usize, checked_add, checked_mul, checked_half}
use Rattle.enc_decoder.specs.declared.text_lengths.TextLengths.{TextLengths}
use Rattle.enc_decoder.specs.declared.text_lengths.TextLengths.TheVariants as by
use Rattle.enc_decoder.proofs.EnoughLemmas.{same_some}
use Rattle.enc_stream.specs.declared.lengths.Query.{Query}
use Rattle.enc_stream.specs.declared.lengths.Query.TheVariants as query
use Rattle.enc_stream.specs.Lengths.{formula_length}
use Rattle.std.proofs.lemmas.Bool.{cond-true}

-- if the second query has an answer, the first has one that is no greater
abbrev IsNoMore : Option ℕ → Option ℕ → Type 0
IsNoMore few many = (m : ℕ) → many ≡ Some m → (n : ℕ) × (few ≡ Some n) × (n ≤ m)

fitting_fits : (m q : ℕ) (t : Bool) → nat_lt m (2 ^ 64) ≡ t → cond t (Some m) None ≡ Some q
    → (m < 2 ^ 64) × (q ≡ m)
fitting_fits m q true t e = (grind (arith, nat_tests), cc)
fitting_fits m q false t e = absurd (cc)

fits_below : (n m : ℕ) → n ≤ m → m < 2 ^ 64 → checked_usize n ≡ Some n
fits_below n m l h = cond-true (nat_lt n (2 ^ 64)) _ _ (grind (arith, nat_tests))

no_more_fitting : (n m : ℕ) → n ≤ m → IsNoMore (checked_usize n) (checked_usize m)
no_more_fitting n m at_most q e =
    let fits = fitting_fits m q (nat_lt m (2 ^ 64)) refl e in
    (n, fits_below n m at_most fits.0, omega (arith, at_most, fits.1))

no_more_some : (n m : ℕ) → n ≤ m → IsNoMore (Some n) (Some m)
no_more_some n m l q e = (n, refl, omega (arith, l, same_some m q e))

no_more_plus : (few many : Option ℕ) (k : ℕ) → IsNoMore few many
    → IsNoMore (checked_add few k) (checked_add many k)
no_more_plus few None k h q e = absurd (cc)
no_more_plus few (Some m) k h q e =
    let fewer = h m refl in
    let fits = no_more_fitting (fewer.0 + k) (m + k) (omega (arith, fewer.2)) q e in
    (fits.0, ap (λ o. checked_add o k) fewer.1 ∙ fits.1, fits.2)

no_more_times : (few many : Option ℕ) → IsNoMore few many
    → IsNoMore (checked_mul few 3) (checked_mul many 3)
no_more_times few None h q e = absurd (cc)
no_more_times few (Some m) h q e =
    let fewer = h m refl in
    let fits = no_more_fitting (fewer.0 * 3) (m * 3) (omega (arith, fewer.2)) q e in
    (fits.0, ap (λ o. checked_mul o 3) fewer.1 ∙ fits.1, fits.2)

no_more_half : (few many : Option ℕ) → IsNoMore few many
    → IsNoMore (checked_half few) (checked_half many)
no_more_half few None h q e = absurd (cc)
no_more_half few (Some m) h q e =
    let fewer = h m refl in
    (fewer.0 / 2, ap checked_half fewer.1, omega (arith, fewer.2, same_some (m / 2) q e))

no_more_sum : (n h m k : ℕ) → n + h ≤ m + k
    → IsNoMore (checked_add (Some n) h) (checked_add (Some m) k)
no_more_sum n h m k l = no_more_fitting (n + h) (m + k) l

pub no_more : (q : Query) (f : TextLengths) (n h m k : ℕ) → n ≤ m → n + h ≤ m + k
    → IsNoMore (formula_length q f n h) (formula_length q f m k)
no_more query.Utf8 by.Utf8 n h m k l s =
    no_more_plus _ _ 3 (no_more_times _ _ (no_more_sum n h m k s))
no_more query.Utf8 by.Utf16 n h m k l s = no_more_plus _ _ 1 (no_more_times _ _
    (no_more_half _ _ (no_more_plus _ _ 1 (no_more_sum n h m k s))))
no_more query.Utf8 by.OneByte n h m k l s = no_more_times _ _ (no_more_some n m l)
no_more query.Utf8 by.Replacement n h m k l s = no_more_some 3 3 (omega arith)
no_more query.Utf8 by.MultiByte n h m k l s = no_more_times _ _ (no_more_sum n h m k s)
no_more query.Utf8Reporting by.Utf8 n h m k l s = no_more_plus _ _ 3 (no_more_sum n h m k s)
no_more query.Utf8Reporting by.Utf16 n h m k l s = no_more_plus _ _ 1 (no_more_times _ _
    (no_more_half _ _ (no_more_plus _ _ 1 (no_more_sum n h m k s))))
no_more query.Utf8Reporting by.OneByte n h m k l s = no_more_times _ _ (no_more_some n m l)
no_more query.Utf8Reporting by.Replacement n h m k l s = no_more_some 3 3 (omega arith)
no_more query.Utf8Reporting by.MultiByte n h m k l s = no_more_times _ _ (no_more_sum n h m k s)
no_more query.Utf16 by.Utf8 n h m k l s = no_more_plus _ _ 1 (no_more_sum n h m k s)
no_more query.Utf16 by.Utf16 n h m k l s = no_more_plus _ _ 1 (no_more_half _ _
    (no_more_plus _ _ 1 (no_more_sum n h m k s)))
no_more query.Utf16 by.OneByte n h m k l s = no_more_some n m l
no_more query.Utf16 by.Replacement n h m k l s = no_more_some 1 1 (omega arith)
no_more query.Utf16 by.MultiByte n h m k l s = no_more_sum n h m k s
