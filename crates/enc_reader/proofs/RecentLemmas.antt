-- Lists that end with the same elements, and the bytes decoded last.
use Rattle.std.proofs.Common.{◌≡◌, ℕ, ◌+◌, ◌-◌, ◌≤◌, List, [], ◌∷◌, ◌++◌, length, take, drop, refl, ap, ◌∙◌, sym}
use Rattle.std.proofs.Common.{arith, append_assoc, length-append, inl, inr, drop-drop, append-nil}
use Rattle.std.proofs.Math.Seq.{drop-length}
use Rattle.std.proofs.lemmas.List.{drop-append-le, drop_at, take_at, drop_all, take_more, take_more_set, length-drop}
use Rattle.std.proofs.Common.{◌<◌, get_or, set}
use Rattle.std.proofs.lemmas.Bool.{cases_lt}
use Rattle.enc_reader.specs.Recent.{SameEnd}

-- more than a front is left out
drop-past : (xs ys : List ℕ) (n k : ℕ) → n ≡ length xs + k → drop n (xs ++ ys) ≡ drop k ys
drop-past xs ys n k is = ap (λ m. drop m (xs ++ ys)) is
    ∙ sym (drop-drop k (length xs) (xs ++ ys)) ∙ ap (drop k) (drop_at xs ys (length xs) refl)

pub SameEnd-nil : (ys : List ℕ) → SameEnd [] ys
SameEnd-nil ys d few within =
    let none : length ys - d ≡ length ys = omega (arith, few) in
    drop_all (length {A = ℕ} [] - d) [] (omega arith)
    ∙ sym (ap (λ n. drop n ys) none ∙ drop-length ys)

-- Both lists grow by the same elements.
pub SameEnd-append : (xs ys zs : List ℕ) → SameEnd xs ys → SameEnd (xs ++ zs) (ys ++ zs)
SameEnd-append xs ys zs same d few within = elim (cases_lt d (length zs)) [
  | inl short ↦
      drop-past xs zs (length (xs ++ zs) - d) (length zs - d)
      (omega (arith, short, length-append xs zs))
      ∙ sym (drop-past ys zs (length (ys ++ zs) - d) (length zs - d)
      (omega (arith, short, length-append ys zs)))
  | inr long ↦
      let over = d - length zs in
      let left : length (xs ++ zs) - d ≡ length xs - over =
      omega (arith, long, few, length-append xs zs) in
      let right : length (ys ++ zs) - d ≡ length ys - over =
      omega (arith, long, within, length-append ys zs) in
      ap (λ n. drop n (xs ++ zs)) left
      ∙ drop-append-le (length xs - over) xs zs (omega arith)
      ∙ ap (λ l. l ++ zs) (same over (omega (arith, long, few, length-append xs zs))
      (omega (arith, long, within, length-append ys zs)))
      ∙ sym (ap (λ n. drop n (ys ++ zs)) right
      ∙ drop-append-le (length ys - over) ys zs (omega arith))
]

-- One of them loses a front.
pub SameEnd-left : (fs xs ys : List ℕ) → SameEnd (fs ++ xs) ys → SameEnd xs ys
SameEnd-left fs xs ys same d few within =
    sym (drop-past fs xs (length (fs ++ xs) - d) (length xs - d)
    (omega (arith, few, length-append fs xs)))
    ∙ same d (omega (arith, few, length-append fs xs)) within

pub SameEnd-right : (xs ys : List ℕ) (n : ℕ) → n ≤ length ys → SameEnd xs ys
    → SameEnd xs (drop n ys)
SameEnd-right xs ys n few_dropped same d few within =
    let all : n + (length (drop n ys) - d) ≡ length ys - d =
    omega (arith, few_dropped, within, length-drop n ys) in
    same d few (omega (arith, within, length-drop n ys))
    ∙ sym (drop-drop (length (drop n ys) - d) n ys ∙ ap (λ m. drop m ys) all)

-- A list before the last elements of another is found by its place before the end.
pub bytes_at_end : (fs bytes after ys : List ℕ) → SameEnd (fs ++ (bytes ++ after)) ys
    → length bytes + length after ≤ length ys
    → take (length bytes) (drop (length ys - length after - length bytes) ys) ≡ bytes
bytes_at_end fs bytes after ys same enough =
    let both = length bytes + length after in
    let place : length ys - length after - length bytes ≡ length ys - both =
    omega (arith, enough) in
    let last : drop (length ys - both) ys ≡ bytes ++ after =
    sym (same both (omega (arith, length-append fs (bytes ++ after), length-append bytes after))
    enough)
    ∙ drop-past fs (bytes ++ after) (length (fs ++ (bytes ++ after)) - both) 0
    (omega (arith, length-append fs (bytes ++ after), length-append bytes after)) in
    ap (λ n. take (length bytes) (drop n ys)) place ∙ ap (take (length bytes)) last
    ∙ take_at bytes after (length bytes) refl

-- a byte more
pub pushed : (xs ys : List ℕ) (n : ℕ) (b : ℕ) → n ≤ length (xs ++ ys)
    → drop 1 (drop n (xs ++ ys) ++ b ∷ []) ≡ drop (n + 1) (xs ++ (ys ++ b ∷ []))
pushed xs ys n b few =
    ap (drop 1) (sym (drop-append-le n (xs ++ ys) (b ∷ []) few))
    ∙ drop-drop 1 n ((xs ++ ys) ++ b ∷ [])
    ∙ ap (drop (n + 1)) (append_assoc xs ys (b ∷ []))

-- The bytes before `at` in a buffer move to the bytes that are kept, of which the last eight stay.
pub SameEnd-shifted : (pending recent : List ℕ) (at : ℕ) (input : List ℕ) {shifted : List ℕ}
    (rest : List ℕ) → at ≤ length input → SameEnd pending (recent ++ take at input)
    → shifted ≡ drop (length (take at input)) (recent ++ take at input)
    → SameEnd pending (shifted ++ take 0 rest)
SameEnd-shifted pending recent at input rest within same shifted_is =
    rw (shifted_is, append-nil (drop (length (take at input)) (recent ++ take at input)))
    (SameEnd-right pending (recent ++ take at input) (length (take at input))
    (omega (arith, length-append recent (take at input))) same)

-- A byte more of a list is stored.
pub stored_more : (found ys : List ℕ) (at b : ℕ) → at < length found → at < length ys
    → take at found ≡ take at ys → b ≡ get_or ys at 0
    → take (at + 1) (set found at b) ≡ take (at + 1) ys
stored_more found ys at b room within so_far is =
    take_more_set found at b room ∙ ap (λ l. l ++ b ∷ []) so_far
    ∙ ap (λ x. take at ys ++ x ∷ []) is ∙ sym (take_more ys at 0 within)
