-- u8x16::swizzle_dyn: with places below sixteen, lane k is the byte at the k-th place.
use Rattle.std.proofs.Common.{◌≡◌, ℕ, ◌+◌, ◌*◌, ◌/◌, ◌<◌, List, w8, map, length, get_or, refl, ap, ◌∙◌, sym, arith}
use Rattle.std.proofs.lemmas.Grind.{same_number_lists}
use Rattle.std.proofs.lemmas.List.{length-map, get_or-map}
use Rattle.std.proofs.lemmas.Simd.{swz_l, SwzOk, SwzOk-from_below, get_or-swz_l_below, length-swz_l, Each1-from_get_or}

pub places_fit : (places : List ℕ) → length places ≡ 16
    → ((k : ℕ) → k < 16 → get_or places k 0 < 16)
    → SwzOk w8 16 16 0 places
places_fit places long h =
    SwzOk-from_below w8 16 1 16 0 places refl (omega arith)
    (Each1-from_get_or (λ j. j < 16) places 0 (λ i l. h i (omega arith)))

pub picked : (bytes places : List ℕ) → length places ≡ 16
    → ((k : ℕ) → k < 16 → get_or places k 0 < 16)
    → swz_l w8 16 bytes 0 places ≡ map (λ p. get_or bytes p 0) places
picked bytes places long h =
    same_number_lists _ _ (length-swz_l w8 16 bytes 0 places
    ∙ sym (length-map places (λ p. get_or bytes p 0))) (λ k l.
    let few : k < 16 = omega (arith, length-swz_l w8 16 bytes 0 places) in
    let place : 16 * ((0 + k) / 16) + get_or places k 0 ≡ get_or places k 0 = omega arith in
    get_or-swz_l_below w8 16 bytes 0 places k (omega arith) (h k few)
    ∙ ap (λ i. get_or bytes i 0) place
    ∙ sym (get_or-map (λ p. get_or bytes p 0) places k 0 0 (omega arith)))
