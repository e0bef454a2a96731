-- ASCII among 64 bytes, by the mask of those that are not.
use Rattle.std.proofs.Common.{◌≡◌, ◌∙◌, ℕ, ◌+◌, ◌-◌, ◌/◌, ◌%◌, ◌^◌, ◌≤◌, cond, leb, leb-false, List, map, length}
use Rattle.std.proofs.Common.{take, drop, replicate, ap, subst, arith, w8}
use Rattle.std.proofs.lemmas.List.{drop-map, drop-take, take-take}
use lib.Count.{count_trailing_zeros}
use lib.Lanes.{zip2, mask_l, top}
use Rattle.enc_utf8.proofs.LengthLemmas.{lengths}
use Rattle.enc_utf8.specs.Validity.{AreAscii}
use Rattle.enc_utf8.proofs.LaneLemmas.{splat_mask_of, mask_after, before_lowest}

abbrev others_of : List ℕ → ℕ
others_of xs = mask_l (map (top 7) (zip2 (λ a b. cond (leb a b) 255 0) (replicate 64 128) xs)) % 2 ^
    64

pub ascii_after : (xs : List ℕ) (from n : ℕ) → length xs ≡ 64 → from + n ≤ 64
    → n ≤ count_trailing_zeros 64 (others_of xs / 2 ^ from) → AreAscii (take n (drop from xs))
ascii_after xs from n long within h k d l =
    let mask = ap (λ m. m / 2 ^ from) (splat_mask_of 64 (omega arith) w8 leb 128 xs long)
    ∙ mask_after from (map (leb 128) xs) ∙ ap mask_l (drop-map (leb 128) from xs) in
    let left : length (drop from xs) ≡ 64 - from = omega (arith, lengths) in
    leb-false _ _ (before_lowest (leb 128) (drop from xs) n (omega arith) (omega arith)
    (subst (λ m. n ≤ count_trailing_zeros 64 m) mask h) k d l)

-- the same of the bytes that were loaded
pub ascii_loaded : (src : List ℕ) (from n : ℕ) (lanes : List ℕ) → lanes ≡ take 64 src
    → from + n ≤ 64 → AreAscii (take n (drop from lanes)) → AreAscii (take n (drop from src))
ascii_loaded src from n lanes are_lanes within ascii =
    let whole : 64 ≡ from + (64 - from) = omega arith in
    let same = ap (λ z. take n (drop from z)) (are_lanes ∙ ap (λ k. take k src) whole)
    ∙ ap (take n) (drop-take from (64 - from) src)
    ∙ take-take n (64 - from) (drop from src) (omega arith) in
    subst AreAscii same ascii
