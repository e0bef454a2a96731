-- Sixteen bytes as code units of UTF-16, as `code_units.rt` computes them. The result of
-- `big_units` is found from the steps, and callers unfold it.
use Rattle.std.proofs.Common.{◌≡◌, ℕ, zero, suc, ◌+◌, ◌*◌, ◌/◌, ◌%◌, ◌<◌, true, false, List, [], ◌∷◌, map, length, w8}
use Rattle.std.proofs.Common.{refl, ap, ◌∙◌, arith}
use Rattle.enc_output.specs.CodeUnits.{units_of_bytes}
use Rattle.enc_utf8.proofs.Lanes.{itself, by_op}
use Rattle.enc_utf8.proofs.ByteLanes.{add16}
use lib.Lanes.{Each1, number_l, digits_l}
use mir.Val.{Fits}
use Rattle.enc_utf8.proofs.UnitLanes.{shl16, shr16, all}

-- bytes as code units

low_two : (a b rest : ℕ) → a < 256 → b < 256 → (a + 256 * (b + 256 * rest)) % 65536 ≡ b * 256 + a
low_two a b rest first_fits second_fits = omega arith

after_two : (a b rest : ℕ) → a < 256 → b < 256 → (a + 256 * (b + 256 * rest)) / 65536 ≡ rest
after_two a b rest first_fits second_fits = omega arith

pub little_units : (n : ℕ) (bytes : List ℕ) → length bytes ≡ n + n → Each1 (Fits w8) bytes
    → digits_l 65536 n (number_l 256 bytes) ≡ units_of_bytes false bytes
little_units zero [] two_each fit = refl
little_units zero (a ∷ bs) two_each fit = absurd (omega arith)
little_units (suc n) [] two_each fit = absurd (omega arith)
little_units (suc n) (a ∷ []) two_each fit = absurd (omega arith)
little_units (suc n) (a ∷ b ∷ bs) two_each fit =
    rw (
      low_two a b (number_l 256 bs) fit.0.fits fit.1.0.fits,
      after_two a b (number_l 256 bs) fit.0.fits fit.1.0.fits,
      little_units n bs (omega arith) fit.1.1,
    ) refl

abbrev swap : ℕ → ℕ
swap u = add16 (shl16 u 8) (shr16 u 8)

swaps : (a b : ℕ) → a < 256 → b < 256 → swap (b * 256 + a) ≡ a * 256 + b
swaps a b first_fits second_fits = omega arith

pub swapped : (bytes : List ℕ) → Each1 (Fits w8) bytes
    → map swap (units_of_bytes false bytes) ≡ units_of_bytes true bytes
swapped [] fit = refl
swapped (a ∷ []) fit = refl
swapped (a ∷ b ∷ bs) fit = rw (swaps a b fit.0.fits fit.1.0.fits, swapped bs fit.1.1) refl

abbrev pub big_units : (bytes : List ℕ) → length bytes ≡ 16 → Each1 (Fits w8) bytes
    → (m : List ℕ) × (m ≡ units_of_bytes true bytes)
big_units bytes two_each fit =
    let us = digits_l 65536 8 (number_l 256 bytes) in
    let own = itself us in
    let lanes = by_op (by_op own (all us refl 8) shl16) (by_op own (all us refl 8) shr16) add16 in
    (_, lanes.is ∙ ap (map swap) (little_units 8 bytes two_each fit) ∙ swapped bytes fit)
