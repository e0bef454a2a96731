-- Lists of bytes.
use Rattle.std.proofs.Common.{◌≡◌, ℕ, ◌≤◌, zero, suc, List, [], ◌∷◌, ◌++◌, get_or, take, drop, Fits, w8, ap, ◌∙◌, sym}
use Rattle.std.proofs.Common.{append_assoc, length, subst, inl, inr, arith}
use Rattle.std.proofs.lemmas.List.{take-append-drop, take-take, take-append-le}
use Rattle.std.proofs.lemmas.Bool.{cases_lt}
use Rattle.std.proofs.Math.Seq.{take-append_seam}
use Rattle.enc_decoder.specs.Sequence.{Sequence}
use Rattle.enc_decoder.specs.Remainder.{AreBytes, Determines}

pub bytes-append : (x y : List ℕ) → AreBytes x → AreBytes y → AreBytes (x ++ y)
bytes-append [] y are_bytes others_are = others_are
bytes-append (c ∷ x) y are_bytes others_are = (are_bytes.0, bytes-append x y are_bytes.1 others_are)

pub bytes-take : (n : ℕ) (x : List ℕ) → AreBytes x → AreBytes (take n x)
bytes-take zero x are_bytes = tt
bytes-take (suc n) [] are_bytes = tt
bytes-take (suc n) (c ∷ x) are_bytes = (are_bytes.0, bytes-take n x are_bytes.1)

pub bytes-drop : (n : ℕ) (x : List ℕ) → AreBytes x → AreBytes (drop n x)
bytes-drop zero x are_bytes = are_bytes
bytes-drop (suc n) [] are_bytes = tt
bytes-drop (suc n) (c ∷ x) are_bytes = bytes-drop n x are_bytes.1

-- the elements of a slice of bytes are bytes
pub bytes_of_slice : (x : List ℕ) → ((i : ℕ) → Fits w8 (get_or x i 0)) → AreBytes x
bytes_of_slice [] fit = tt
bytes_of_slice (c ∷ x) fit = ((fit 0).fits, bytes_of_slice x (λ i. fit (suc i)))

-- what fewer bytes determine, more bytes determine
pub determines_by_more : (remaining : List ℕ → List Sequence) (src : List ℕ) (m n : ℕ)
    (ss : List Sequence)
    → AreBytes src → m ≤ n
    → Determines remaining (take m src) ss → Determines remaining (take n src) ss
determines_by_more remaining src m n ss b h d z c =
    let fewer_first : take m (take n src) ≡ take m src = take-take m n src h in
    let parted : take n src ≡ take m src ++ drop m (take n src) =
    sym (take-append-drop m (take n src)) ∙ ap (λ x. x ++ drop m (take n src)) fewer_first in
    let first = d (drop m (take n src) ++ z)
    (bytes-append (drop m (take n src)) z (bytes-drop m (take n src) (bytes-take n src b)) c) in (
      first.0,
      ap (λ x. remaining (x ++ z)) parted
          ∙ ap remaining (append_assoc (take m src) (drop m (take n src)) z)
          ∙ first.1,
    )

-- what bytes determine, those of them and of others do that do so by themselves or are all of them
pub determines_with : (remaining : List ℕ → List Sequence) (src more : List ℕ) (ss : List Sequence)
    → AreBytes src → AreBytes more → Determines remaining src ss
    → (n : ℕ) → (n ≤ length src → Determines remaining (take n src) ss)
    → Determines remaining (take n (src ++ more)) ss
determines_with remaining src more ss bytes also determines n fewer =
    elim (cases_lt (length src) n) [
      | inl past ↦ determines_by_more remaining (src ++ more) (length src) n ss
          (bytes-append src more bytes also) (omega arith)
          (subst (λ x. Determines remaining x ss) (sym (take-append_seam src more)) determines)
      | inr within ↦ subst (λ x. Determines remaining x ss)
          (sym (take-append-le n src more within)) (fewer within)
    ]
