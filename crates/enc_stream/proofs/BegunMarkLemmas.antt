-- Byte order marks that some bytes begin: more bytes begin fewer, and the one that is found is the
-- same.
use Rattle.std.proofs.Common.{◌≡◌, ℕ, zero, suc, ◌<◌, Bool, true, false, ◌&&◌, if◌then◌else◌, List, [], ◌∷◌, ◌++◌}
use Rattle.std.proofs.Common.{length, refl, ap, sym, arith, eqb, inl, inr, Some, None}
use Rattle.std.specs.Prelude.{nat_eq}
use Rattle.std.specs.List.{starts_with}
use Rattle.std.proofs.lemmas.Bool.{false≢true}
use Rattle.enc_decoder.proofs.FirstSequenceLemmas.{true_or_false}
use Rattle.std.proofs.lemmas.Bool.Decides.{nat_tests}
use Rattle.enc_decoder.specs.Sequence.{Sequence}
use Rattle.enc_stream.specs.Bom.{Mark, find_mark, is_proper_prefix, marks_begun, any_mark}
use Rattle.enc_stream.specs.Decoding.{marks_after, are_still_held, held_after}
use Rattle.enc_stream.proofs.FoundMarkLemmas.{EachMark}

-- bytes that begin no others begin none with more bytes after them
begin_no_more : (x y bytes : List ℕ) → is_proper_prefix x bytes ≡ false
    → is_proper_prefix (x ++ y) bytes ≡ false
begin_no_more x y [] none = refl
begin_no_more [] y (b ∷ bytes) none = absurd (false≢true (sym none))
begin_no_more (a ∷ x) y (b ∷ bytes) none = elim (true_or_false (eqb b a)) [
  | inl same ↦ rw same (begin_no_more x y bytes (rw same at none))
  | inr differs ↦ rw differs refl
]

-- and are not in front of others, unless they already have them in front
start_no_more : (x y bytes : List ℕ) → is_proper_prefix x bytes ≡ false
    → starts_with nat_eq x bytes ≡ false → starts_with nat_eq (x ++ y) bytes ≡ false
start_no_more x y [] none not_whole = not_whole
start_no_more [] y (b ∷ bytes) none not_whole = absurd (false≢true (sym none))
start_no_more (a ∷ x) y (b ∷ bytes) none not_whole = elim (true_or_false (eqb b a)) [
  | inl same ↦ rw same
      (start_no_more x y bytes (rw same at none) (rw same at not_whole))
  | inr differs ↦ rw differs refl
]

pub begun_more : (marks : List Mark) (x y : List ℕ)
    → marks_begun (marks_begun marks x) (x ++ y) ≡ marks_begun marks (x ++ y)
begun_more [] x y = refl
begun_more (m ∷ others) x y = elim (true_or_false (is_proper_prefix x m.bytes)) [
  | inl begun ↦ rw begun (ap (λ ms. if is_proper_prefix (x ++ y) m.bytes then m ∷ ms else ms)
      (begun_more others x y))
  | inr not_begun ↦ rw (not_begun, begin_no_more x y m.bytes not_begun) (begun_more others x y)
]

-- if none is in front of some bytes, the one in front of more is among those begun
pub begun_find : (marks : List Mark) (x y : List ℕ) → find_mark marks x ≡ None
    → find_mark (marks_begun marks x) (x ++ y) ≡ find_mark marks (x ++ y)
begun_find [] x y none = refl
begun_find (m ∷ others) x y none =
    elim (true_or_false (starts_with nat_eq x m.bytes)) [
      | inl whole ↦ absurd (let found = rw whole at none in cc)
      | inr not_whole ↦
          let others_too = begun_find others x y (rw not_whole at none) in
          elim (true_or_false (is_proper_prefix x m.bytes)) [
            | inl begun ↦ rw begun
                (ap (λ found. if starts_with nat_eq (x ++ y) m.bytes then Some m else found)
                others_too)
            | inr not_begun ↦ rw (not_begun, start_no_more x y m.bytes not_begun not_whole)
                others_too
          ]
    ]

-- bytes that begin others are fewer
begin_longer : (x bytes : List ℕ) → is_proper_prefix x bytes ≡ true → length x < length bytes
begin_longer x [] begin = absurd (false≢true begin)
begin_longer [] (b ∷ bytes) begin = omega arith
begin_longer (a ∷ x) (b ∷ bytes) begin = elim (true_or_false (eqb b a)) [
  | inl same ↦ omega (arith, begin_longer x bytes (rw same at begin))
  | inr differs ↦ absurd (let no : false ≡ true = rw differs at begin in false≢true no)
]

pub begun_are_longer : (marks : List Mark) (x : List ℕ)
    → EachMark (λ m. length x < length m.bytes) (marks_begun marks x)
begun_are_longer [] x = tt
begun_are_longer (m ∷ others) x = elim (true_or_false (is_proper_prefix x m.bytes)) [
  | inl begun ↦ rw begun (begin_longer x m.bytes begun, begun_are_longer others x)
  | inr not_begun ↦ rw not_begun (begun_are_longer others x)
]

-- no byte order mark may come once a sequence is done
pub none_once_done : (marks : List Mark) (done : List Sequence) (pending : List ℕ) → (done ≡ [] → ⊥)
    → marks_after marks false done pending ≡ []
none_once_done marks [] pending some = absurd (some refl)
none_once_done marks (s ∷ ss) pending some = refl

pub none_of : (pending : List ℕ) → held_after false pending ≡ false
none_of [] = refl
none_of (b ∷ pending) = refl

pub not_zero : (n : ℕ) → 0 < n → eqb n 0 ≡ false
not_zero n some = grind (arith, nat_tests)

-- bytes that begin none of these byte order marks are not held
pub not_begun_any : (marks : List Mark) (held : Bool) (so_far : List ℕ) (read : ℕ)
    → marks_begun marks so_far ≡ [] → 0 < read
    → are_still_held held marks so_far read ≡ false
not_begun_any [] true so_far read none some = not_zero read some
not_begun_any [] false so_far read none some = refl
not_begun_any (m ∷ others) held so_far read none some = ap any_mark none

-- Bytes that were held are still held only if none is read and some are left.
pub held_by : (held : Bool) (read : ℕ) (pending : List ℕ)
    → (held ≡ true → read ≡ 0 → pending ≡ []) → held_after (held && eqb read 0) pending ≡ false
held_by held read [] none = refl
held_by false read (b ∷ pending) none = refl
held_by true zero (b ∷ pending) none = let no = none refl refl in cc
held_by true (suc read) (b ∷ pending) none = not_zero (suc read) (omega arith)
