-- The longest well-formed prefix of bytes that begin with well-formed ones.
use Rattle.std.proofs.Common.{◌≡◌, ℕ, ◌+◌, ◌-◌, ◌≤◌, List, length, take, drop, ap, ◌∙◌, sym, subst, arith}
use Rattle.std.proofs.Common.{take-add}
use Rattle.std.proofs.lemmas.List.{drop-take, take-take}
use Rattle.std.proofs.lemmas.Str.{IsUtf8-append, IsUtf8-drop, IsCharBoundary-from_take}
use Rattle.enc_utf8.proofs.LengthLemmas.{lengths, rest_is}
use Rattle.enc_utf8.specs.Validity.{IsLongestPrefix, IsWellFormedUtf8}

module _ (bytes : List ℕ) (front k : ℕ) (within : front ≤ length bytes)
    (utf8 : IsWellFormedUtf8 (take front bytes))
    (slice : IsLongestPrefix IsWellFormedUtf8 (take (length bytes - front) (drop front bytes)) k)
  where
    rest : IsLongestPrefix IsWellFormedUtf8 (drop front bytes) k
    rest = rw (rest_is front bytes) at slice

    -- the rest of a longer prefix is one of the rest
    rest_utf8 : (m : ℕ) → front ≤ m → m ≤ length bytes → IsWellFormedUtf8 (take m bytes)
        → IsWellFormedUtf8 (take (m - front) (drop front bytes))
    rest_utf8 m longer fits has =
        let all = take m bytes in
        let parts : m ≡ front + (m - front) = omega arith in
        let in_all : front ≤ length all = omega (arith, lengths, longer, fits) in
        let begins : IsWellFormedUtf8 (take front all) =
        subst IsWellFormedUtf8 (sym (take-take front m bytes longer)) utf8 in
        subst IsWellFormedUtf8
        (ap (λ n. drop front (take n bytes)) parts ∙ drop-take front (m - front) bytes)
        (IsUtf8-drop all front has (IsCharBoundary-from_take all front has in_all begins))

    pub longest_after : IsLongestPrefix IsWellFormedUtf8 bytes (front + k)
    longest_after = record {
      within = let rest_within = rest.within in
          omega (arith, lengths, within, rest_within);
      has = subst IsWellFormedUtf8 (sym (take-add front k bytes))
          (IsUtf8-append (take front bytes) (take k (drop front bytes)) utf8 rest.has);
      longest = λ m more fits has.
          rest.longest (m - front) (omega (arith, more))
          (omega (arith, lengths, fits))
          (rest_utf8 m (omega (arith, more)) fits has);
    }
