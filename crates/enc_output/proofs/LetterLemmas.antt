-- Letters in lanes, and their code units.
use Rattle.std.proofs.Common.{◌≡◌, ℕ, ◌+◌, ◌<◌, ◌≤◌, ◌&&◌, ◌||◌, Bool, true, false, cond, leb, ltb, List, [], ◌∷◌}
use Rattle.std.proofs.Common.{suc, map, length, take, drop, get_or, bit_and, refl, ap, ◌∙◌, sym, subst, arith, inl, inr}
use Rattle.std.proofs.Common.{◌-◌}
use Rattle.std.proofs.lemmas.Bool.{cases_lt}
use Rattle.std.proofs.lemmas.Bool.Decides.{nat_tests}
use Rattle.std.proofs.lemmas.List.{get_or_default}
use Rattle.std.specs.Prelude.{All}
use Rattle.std.specs.Char.Escape.{encode_utf16}
use Rattle.enc_utf8.specs.declared.letters.Letters.{Letters}
use Rattle.enc_utf8.specs.Letters.{AreLetters, MeansUnit}
use Rattle.enc_output.specs.Letters.{IsPlain, plain_unit}
use Rattle.enc_output.specs.Output.{Output, with_appended}
use Rattle.enc_output.specs.PieceRuns.{PutsPieces}
use Rattle.enc_utf8.proofs.Lanes.{IsFlags, places, by_op}
use Rattle.enc_utf8.proofs.LaneLemmas.{all_more}
use Rattle.enc_utf8.proofs.LengthLemmas.{lengths}
use Rattle.std.proofs.Math.Utf8.{low_scalar}
use Rattle.enc_utf8.specs.Pieces.{KeepsAscii}
use Rattle.enc_output.proofs.GatherLemmas.{unit_put}
use Rattle.enc_output.proofs.OutputLemmas.{with_appended-nil, with_appended-with_appended}
use Rattle.enc_output.proofs.PiecesLemmas.{start, then_rest}
use lib.Lanes.{zip2}

-- lanes of which both flags are set
pub both : (t u : ℕ → Bool) {a b : List ℕ} → IsFlags a t → IsFlags b u
    → IsFlags (zip2 bit_and a b) (λ k. t k && u k)
both t u first second = record {
  is = (by_op first second bit_and).is ∙ ap (λ f. map f places) (λ i k. and_flag (t k) (u k) i);
}
  where
    and_flag : (a b : Bool) → bit_and (cond a 255 0) (cond b 255 0) ≡ cond (a && b) 255 0
    and_flag true true = refl
    and_flag true false = refl
    and_flag false true = refl
    and_flag false false = refl

-- a byte that is none of the others
pub plain_byte : (letters : Letters) (b : ℕ)
    → (leb 0x80 b && (ltb b letters.first || ltb letters.last b)) ≡ false → IsPlain letters b
plain_byte letters b none = elim (cases_lt b 0x80) [
  | inl low ↦ inl low
  | inr high ↦
      inr (high, grind (arith, nat_tests, none, high), grind (arith, nat_tests, none, high))
]

-- a byte is the character of one code unit
abbrev pub IsUnitOf : (List ℕ → ℕ → Type 0) → ℕ → ℕ → Type 0
IsUnitOf Means b unit = MeansUnit Means (b ∷ []) unit × (unit < 0x1_0000)

-- the code unit of a byte that is ASCII or a letter
pub plain_is : (Means : List ℕ → ℕ → Type 0) (letters : Letters) (b : ℕ) → AreLetters Means letters
    → KeepsAscii Means → IsPlain letters b → IsUnitOf Means b (plain_unit letters b)
plain_is Means letters b are keeps (inl low) =
    let unit : plain_unit letters b ≡ b = grind (arith, nat_tests, low) in
    subst (IsUnitOf Means b) (sym unit)
    (record { scalar = low_scalar b (omega (arith, low)); means = keeps b low }, omega arith)
plain_is Means letters b are keeps (inr letter) =
    let is = are b letter.1 letter.2 in
    let low = letter.0 in
    let fits = is.1 in
    let unit : plain_unit letters b ≡ b + letters.shift = grind (arith, nat_tests, low, fits) in
    subst (IsUnitOf Means b) (sym unit) is

take_one : (b : ℕ) (bs src : List ℕ) → take (suc (length bs)) src ≡ b ∷ bs → take 1 src ≡ b ∷ []
take_one b bs [] front = cc
take_one b bs (s ∷ src) front = ap (take 1) front

rest_is : (b : ℕ) (bs src : List ℕ) → take (suc (length bs)) src ≡ b ∷ bs
    → take (length bs) (drop 1 src) ≡ bs
rest_is b bs [] front = cc
rest_is b bs (s ∷ src) front = ap (drop 1) front

-- code units of bytes, each by itself
pub units_put : {Means : List ℕ → ℕ → Type 0} (bs us : List ℕ) (before : Output) (src : List ℕ)
    → length us ≡ length bs → take (length bs) src ≡ bs → length bs ≤ before.room
    → ((k : ℕ) → k < length bs → IsUnitOf Means (get_or bs k 0) (get_or us k 0))
    → PutsPieces encode_utf16 Means before (with_appended before us) src (length bs)
units_put {Means} [] [] before src long front room are =
    subst (λ o. PutsPieces encode_utf16 Means before o src 0) (sym (with_appended-nil before)) start
units_put [] (u ∷ us) before src long front room are = absurd (omega (arith, long))
units_put (b ∷ bs) [] before src long front room are = absurd (omega (arith, long))
units_put {Means} (b ∷ bs) (u ∷ us) before src long front room are =
    let mid = with_appended before (u ∷ []) in
    let one = are 0 (omega arith) in
    let within : suc (length bs) ≤ length src = omega (arith, lengths, ap length front) in
    let first = unit_put {before = before} {after = mid} {src = src} {bytes = b ∷ []} {n = 1} one.1
    (take_one b bs src front) one.0 (omega arith) (omega (arith, within)) (omega (arith, room))
    refl in
    let more = units_put bs us mid (drop 1 src) (omega (arith, long)) (rest_is b bs src front)
    (omega (arith, room)) (λ k below. are (suc k) (omega (arith, below))) in
    subst (λ o. PutsPieces encode_utf16 Means before o src (suc (length bs)))
    (with_appended-with_appended before (u ∷ []) us)
    (subst (PutsPieces encode_utf16 Means before (with_appended mid us) src) (omega arith)
    (then_rest {a = 1} refl first more))

-- the code units of sixteen bytes, each ASCII or a letter
pub plain_put : {Means : List ℕ → ℕ → Type 0} {before after : Output} (letters : Letters)
    (src units : List ℕ) → AreLetters Means letters → KeepsAscii Means → 16 ≤ length src
    → length units ≡ 16 → 16 ≤ before.room
    → ((k : ℕ) → k < 16 → IsPlain letters (get_or (take 16 src) k 0))
    → ((k : ℕ) → k < 16 → get_or units k 0 ≡ plain_unit letters (get_or (take 16 src) k 0))
    → after ≡ with_appended before units → PutsPieces encode_utf16 Means before after src 16
plain_put {Means} {before} letters src units are keeps within long room plain each appended =
    let bytes = take 16 src in
    let count : length bytes ≡ 16 = omega (arith, lengths, within) in
    let front : take (length bytes) src ≡ bytes = ap (λ n. take n src) count in
    let one : (k : ℕ) → k < length bytes → IsUnitOf Means (get_or bytes k 0) (get_or units k 0) =
    λ k below. subst (IsUnitOf Means (get_or bytes k 0))
    (sym (each k (omega (arith, count, below))))
    (plain_is Means letters (get_or bytes k 0) are keeps (plain k (omega (arith, count, below)))) in
    let put = units_put bytes units before src (long ∙ sym count) front
    (omega (arith, count, room)) one in
    rw appended (subst (PutsPieces encode_utf16 Means before (with_appended before units) src) count
    put)

-- sixteen bytes more
pub plain_more : (letters : Letters) (i : ℕ) (src : List ℕ) → 16 ≤ length src - i
    → All (IsPlain letters) (take i src)
    → ((k : ℕ) → k < 16 → IsPlain letters (get_or (take 16 (drop i src)) k 0))
    → All (IsPlain letters) (take (i + 16) src)
plain_more letters i src long front each =
    let next = take 16 (drop i src) in
    let more : All (IsPlain letters) next = λ k d inside.
    let below : k < 16 = omega (arith, lengths, inside) in
    subst (IsPlain letters) (get_or_default next k 0 d inside) (each k below) in
    all_more (IsPlain letters) i 16 src front more
