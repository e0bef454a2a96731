-- The first lanes of a vector that are stored, where the others keep what was there.
use Rattle.std.proofs.Common.{◌≡◌, ℕ, ◌+◌, ◌≤◌, cond, ltb, List, ◌++◌, map, length, take, drop}
use Rattle.std.proofs.Common.{replicate, ap, ◌∙◌, sym, arith, append_assoc, drop-drop}
use Rattle.std.proofs.Common.{take-append-drop, w8}
use Rattle.std.proofs.lemmas.List.{drop-append-le}
use Rattle.std.proofs.lemmas.Simd.{put_chunk_is}
use Rattle.std.specs.List.{range_with_len}
use Rattle.enc_utf8.proofs.FrontLanes.{front_lanes}
use Rattle.enc_utf8.proofs.LengthLemmas.{lengths}
use lib.Lanes.{zip2, top, sel_l, put_chunk}

-- where the numbers of m lanes are compared with n
pub stored_front : (m at n : ℕ) (numbers old lanes : List ℕ) → numbers ≡ range_with_len 0 m
    → length numbers ≡ m → at + m ≤ length old → n ≤ m → length lanes ≡ m
    → put_chunk at old
    (sel_l (map (top 7) (zip2 (λ a b. cond (ltb a b) 255 0) numbers (replicate m n))) lanes
    (take m (drop at old)))
    ≡ take at old ++ (take n lanes ++ drop (at + n) old)
stored_front m at n numbers old lanes are_numbers all fits few long =
    let old_rest = drop at old in
    let old_lanes = take m old_rest in
    let old_long : length old_lanes ≡ m =
    omega (arith, lengths) in
    let ys = take n lanes ++ drop n old_lanes in
    let ys_long : length ys ≡ m = omega (arith, lengths, long, old_long) in
    let blended = front_lanes w8 m n numbers lanes old_lanes are_numbers all long old_long in
    let whole : drop n old_lanes ++ drop m old_rest ≡ drop n old_rest =
    sym (drop-append-le n old_lanes (drop m old_rest) (omega arith))
    ∙ ap (drop n) (take-append-drop m old_rest) in
    ap (put_chunk at old) blended ∙ put_chunk_is at old ys (omega arith)
    ∙ ap (λ j. take at old ++ (ys ++ drop j old_rest)) ys_long
    ∙ ap (λ z. take at old ++ z) (append_assoc (take n lanes) (drop n old_lanes) (drop m old_rest)
    ∙ ap (λ z. take n lanes ++ z) (whole ∙ drop-drop n at old))
