-- Whether the longest prefix with a property is all bytes.
use Rattle.std.proofs.Common.{◌≡◌, ◌≢◌, ℕ, ◌≤◌, Bool, true, false, nat_eq, List, length, take, refl}
use Rattle.std.proofs.Common.{subst, sym, arith}
use Rattle.std.specs.Prelude.{MatchBool}
use Rattle.std.proofs.lemmas.Bool.Decides.{nat_tests}
use Rattle.std.proofs.lemmas.List.{take_all}
use Rattle.enc_utf8.specs.Validity.{IsLongestPrefix, IsWellFormedUtf8, AreAscii}
use Rattle.enc_utf8.proofs.UnitsLemmas.{ascii_utf8}

-- all bytes have it
pub whole_has :
    {Has : List ℕ → Type 0} {bytes : List ℕ} {k : ℕ}
    → IsLongestPrefix Has bytes k → k ≡ length bytes → Has bytes
whole_has {Has = Has} {bytes = bytes} {k = k} longest is_whole =
    let enough : length bytes ≤ k = omega arith in
    subst Has (take_all k bytes enough) longest.has

-- they do not
pub whole_lacks :
    {Has : List ℕ → Type 0} {bytes : List ℕ} {k : ℕ}
    → IsLongestPrefix Has bytes k → k ≢ length bytes → ¬ (Has bytes)
whole_lacks {Has = Has} {bytes = bytes} {k = k} longest is_part has =
    let all : length bytes ≤ length bytes = omega arith in
    longest.longest (length bytes) (omega (arith, longest.within)) all
    (subst Has (sym (take_all (length bytes) bytes all)) has)

-- ASCII bytes are well-formed UTF-8
pub ascii_is_well_formed : (bytes : List ℕ) → AreAscii bytes → IsWellFormedUtf8 bytes
ascii_is_well_formed bytes ascii =
    let all : length bytes ≤ length bytes = omega arith in
    let same : take (length bytes) bytes ≡ bytes = take_all (length bytes) bytes all in
    subst IsWellFormedUtf8 same (ascii_utf8 bytes (length bytes) (subst AreAscii (sym same) ascii))

-- whether they do, by a test of the length
pub whole_or_not :
    {Has : List ℕ → Type 0} {bytes : List ℕ} {k : ℕ}
    → IsLongestPrefix Has bytes k
    → MatchBool (nat_eq k (length bytes)) (Has bytes) (¬ (Has bytes))
whole_or_not {Has = Has} {bytes = bytes} {k = k} longest = by_test (nat_eq k (length bytes)) refl
  where
    by_test :
        (b : Bool) → nat_eq k (length bytes) ≡ b → MatchBool b (Has bytes) (¬ (Has bytes))
    by_test true e = whole_has longest (grind (arith, nat_tests))
    by_test false e = whole_lacks longest (λ same. grind (arith, nat_tests))
