-- Code units of two and three bytes of UTF-8 in sixteen lanes.
use Rattle.std.proofs.Common.{◌≡◌, ℕ, ◌+◌, ◌*◌, ◌%◌, ◌<◌, List, length, get_or, w8, arith}
use Rattle.std.proofs.lemmas.Simd.{Each1-get_or}
use Rattle.enc_utf8.proofs.Lanes.{IsLanes, places, splat, by_op}
use lib.Lanes.{Each1}
use mir.Val.{Fits}

abbrev pub add16 : ℕ → ℕ → ℕ
add16 a b = (a + b) % 0x1_0000

abbrev pub times16 : ℕ → ℕ → ℕ
times16 a b = (a * b) % 0x1_0000

-- the code units of characters of at most three bytes, and those of four

abbrev pub pair : ℕ → ℕ → ℕ
pair a b = add16 (times16 a 0x40) b

abbrev pub two : ℕ → ℕ → ℕ
two a b = add16 (pair a b) 0xCF80

abbrev pub three : ℕ → ℕ → ℕ → ℕ
three a b c = add16 (add16 (times16 (pair a b) 0x40) c) 0xDF80

module _ {f g : ℕ → ℕ} {xs ys : List ℕ} (first : IsLanes places xs f)
    (second : IsLanes places ys g) where
  abbrev pub pairs : (m : List ℕ) × IsLanes places m (λ k. pair (f k) (g k))
  pairs = (_, by_op (by_op first (splat 0x40) times16) second add16)

  abbrev pub twos : (m : List ℕ) × IsLanes places m (λ k. two (f k) (g k))
  twos = (_, by_op pairs.1 (splat 0xCF80) add16)

  abbrev pub threes : {h : ℕ → ℕ} {zs : List ℕ} → IsLanes places zs h
      → (m : List ℕ) × IsLanes places m (λ k. three (f k) (g k) (h k))
  threes third = (
    _,
    by_op (by_op (by_op pairs.1 (splat 0x40) times16) third add16) (splat 0xDF80) add16,
  )

pub lane_bound : (xs : List ℕ) (k : ℕ) → (length xs ≡ 16) × Each1 (Fits w8) xs → k < 16
    → get_or xs k 0 < 0x100
lane_bound xs k sixteen_bytes below =
    (Each1-get_or (Fits w8) xs k 0 (omega (arith, sixteen_bytes.0)) sixteen_bytes.1).fits
