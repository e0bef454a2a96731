-- The first lanes of a vector and the others of another, chosen by the numbers of the lanes.
use Rattle.std.proofs.Common.{◌≡◌, ℕ, zero, suc, ◌+◌, ◌≤◌, ltb, List, [], ◌∷◌, ◌++◌, map, length, take, drop}
use Rattle.std.proofs.Common.{replicate, lt-ltb, le-ltb, refl, ap, ◌∙◌, sym, arith}
use Rattle.std.proofs.lemmas.Simd.{tops_compared, zip2_splat}
use Rattle.std.specs.List.{range_with_len}
use Rattle.enc_utf8.proofs.Lanes.{flag}
use lib.Lanes.{zip2, top, sel_l}
use mir.Syntax.{Width}
use mir.Val.{hbits}

none_front : (i j : ℕ) (a b : List ℕ) → j ≤ i → length a ≡ length b
    → sel_l (map (λ k. ltb k j) (range_with_len i (length a))) a b ≡ b
none_front i j [] [] h e = refl
none_front i j [] (y ∷ b) h e = absurd (omega arith)
none_front i j (x ∷ a) [] h e = absurd (omega arith)
none_front i j (x ∷ a) (y ∷ b) h e =
    rw (le-ltb i j h) (ap (λ z. y ∷ z) (none_front (i + 1) j a b (omega arith) (omega arith)))

some_front : (i n j : ℕ) (a b : List ℕ) → j ≡ i + n → length a ≡ length b
    → sel_l (map (λ k. ltb k j) (range_with_len i (length a))) a b ≡ take n a ++ drop n b
some_front i zero j a b place e = none_front i j a b (omega arith) e
some_front i (suc n) j [] [] place e = refl
some_front i (suc n) j [] (y ∷ b) place e = absurd (omega arith)
some_front i (suc n) j (x ∷ a) [] place e = absurd (omega arith)
some_front i (suc n) j (x ∷ a) (y ∷ b) place e =
    rw (lt-ltb i j (omega arith)) (ap (λ z. x ∷ z) (some_front
    (i + 1) n j a b (omega arith) (omega arith)))

-- where the numbers of m lanes are compared with n
pub front_lanes : (w : Width) (m n : ℕ) (numbers a b : List ℕ) → numbers ≡ range_with_len 0 m
    → length numbers ≡ m → length a ≡ m → length b ≡ m
    → sel_l (map (top (hbits w)) (zip2 (flag w ltb) numbers (replicate m n))) a b
    ≡ take n a ++ drop n b
front_lanes w m n numbers a b are_numbers all long others_long =
    ap (λ ms. sel_l ms a b)
    (tops_compared w ltb numbers (replicate m n) ∙ zip2_splat ltb numbers m n all
    ∙ ap (map (λ k. ltb k n)) are_numbers)
    ∙ ap (λ j. sel_l (map (λ k. ltb k n) (range_with_len 0 j)) a b) (sym long)
    ∙ some_front 0 n n a b (omega arith) (long ∙ sym others_long)
