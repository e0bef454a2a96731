-- A pull from a bounded source.
use Rattle.std.proofs.Common.{◌≡◌, ℕ, ◌-◌, ◌+◌, ◌≤◌, List, ◌++◌, length, Option, Some, None, ap, ◌∙◌, arith, subst}
use Rattle.std.specs.Prelude.{take}
use Rattle.std.specs.Io.KnownBytes.{Consumes, Keeps}
use Rattle.std.proofs.lemmas.List.{length-take-le, take-append-le}
use Rattle.std.proofs.Math.Seq.{take-append-add}
use Rattle.recode_part.specs.Bound.{bytes_within}

-- The bytes within the bound come next, and the bound is less by their number.
pub bytes_within-next : (left : ℕ) (old new : Option (List ℕ)) (bytes : List ℕ)
    → length bytes ≤ left → Consumes old new bytes
    → Consumes (bytes_within (Some left) old) (bytes_within (Some (left - length bytes)) new) bytes
bytes_within-next left None new bytes few given = tt
bytes_within-next left (Some all) None bytes few given = absurd given
bytes_within-next left (Some all) (Some rest) bytes few given =
    let whole : left ≡ length bytes + (left - length bytes) = omega arith in
    rw given (ap (λ n. take n (bytes ++ rest)) whole
    ∙ take-append-add bytes rest (left - length bytes))

-- So do those that a pull has written to the front of a buffer.
pub bytes_within-pulled : (left n : ℕ) (old new : Option (List ℕ)) (front back : List ℕ)
    → n ≤ length front → n ≤ left → Consumes old new (take n front)
    → Consumes (bytes_within (Some left) old) (bytes_within (Some (left - n)) new)
    (take n (front ++ back))
bytes_within-pulled left n old new front back all few given =
    let pulled : length (take n front) ≡ n = length-take-le n front all in
    rw (take-append-le n front back all)
    (subst (λ m. Consumes (bytes_within (Some left) old) (bytes_within (Some (left - m)) new)
    (take n front)) pulled
    (bytes_within-next left old new (take n front) (omega arith) given))

-- and a pull that has given nothing keeps them
pub bytes_within-kept : (left : ℕ) (old new : Option (List ℕ)) → Keeps old new
    → Keeps (bytes_within (Some left) old) (bytes_within (Some left) new)
bytes_within-kept left None new kept = tt
bytes_within-kept left (Some all) None kept = absurd kept
bytes_within-kept left (Some all) (Some rest) kept = ap (take left) kept
