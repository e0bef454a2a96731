-- Characters that are collected in a buffer.
use Rattle.std.proofs.Common.{◌≡◌, ℕ, ◌+◌, ◌-◌, ◌/◌, ◌<◌, ◌≤◌, List, [], ◌∷◌, ◌++◌, length, take, drop, ap, ◌∙◌, sym}
use Rattle.std.proofs.Common.{arith, subst, refl, get_or, drop-cons, drop-drop}
use Rattle.std.proofs.Math.Seq.{take-append-add}
use Rattle.std.proofs.lemmas.List.{take_all, take-take}
use borrow.Rule.Slice.PartMut.{put_mid}
use Rattle.std.proofs.lemmas.Simd.{put_chunk_is}
use lib.Lanes.{put_chunk}
use Rattle.enc_utf8.proofs.PutLemmas.{Put, put_copied, put_front, put_length}
use Rattle.std.proofs.Math.Seq.{drop-nil}
use Rattle.std.specs.Borrow.{GName}
use Rattle.std.specs.Char.{encode_utf8}
use Rattle.std.specs.Char.Escape.{encode_utf16}
use Rattle.std.specs.Int.{w32, to_le_bytes}
use Rattle.enc_output.specs.Output.{Output, with_appended, string_output}
use Rattle.enc_output.specs.Pairs.{MeansWord}
use Rattle.enc_utf8.specs.Letters.{MeansUnit}
use Rattle.enc_output.specs.PieceRuns.{PutsPieces}
use Rattle.enc_utf8.proofs.LengthLemmas.{lengths}
use Rattle.enc_utf8.proofs.UnitsLemmas.{one_unit}
use Rattle.enc_output.specs.AsciiRun.{PutsAscii}
use Rattle.enc_utf8.specs.Text.{units_of_text}
use Rattle.enc_utf8.specs.Validity.{AreAscii}
use Rattle.enc_output.proofs.OutputLemmas.{same_output}
use Rattle.enc_output.proofs.Utf8SliceLemmas.{puts_own}
use Rattle.enc_output.proofs.PiecesLemmas.{start, then_rest, one_char}

-- a buffer once units are stored after its text
pub stored : {len end : ℕ} (old new units : List ℕ) (borrow : GName) → len ≤ length old
    → end ≤ length new → length new ≡ length old → take end new ≡ take len old ++ units
    → string_output (take end new) (length new - end) borrow
    ≡ with_appended (string_output (take len old) (length old - len) borrow) units
stored old new units borrow within bound long text =
    same_output borrow text (omega (arith, lengths, ap length text, long))
    (sym (drop-nil (length units)))

-- of which the first n are kept, stored in the rest of the buffer
pub lanes_put : (len n : ℕ) (old lanes : List ℕ) (borrow : GName) → len ≤ length old
    → length lanes ≤ length old - len → n ≤ length lanes
    → (let rest = take (length old - len) (drop len old) in
    let new = put_mid len (length old - len) old (put_chunk 0 rest lanes) in
    string_output (take (len + n) new) (length new - (len + n)) borrow
    ≡ with_appended (string_output (take len old) (length old - len) borrow) (take n lanes))
lanes_put len n old lanes borrow within room few =
    let rest = take (length old - len) (drop len old) in
    let count = length lanes in
    let whole = take_all count lanes (omega arith) in
    let stores : put_chunk 0 rest lanes ≡ take count lanes ++ drop count rest =
    put_chunk_is 0 rest lanes (omega (arith, lengths))
    ∙ ap (λ z. z ++ drop count rest) (sym whole) in
    let put = put_copied len count old lanes (put_chunk 0 rest lanes) within (omega arith) room
    stores in
    let front = put_front put ∙ ap (λ z. take len old ++ z) whole in
    let shorter : take (len + n) (put_mid len (length old - len) old (put_chunk 0 rest lanes))
    ≡ take len old ++ take n lanes =
    sym (take-take (len + n) (len + count) _ (omega arith)) ∙ ap (take (len + n)) front
    ∙ ap (λ m. take m (take len old ++ lanes)) (omega (arith, lengths))
    ∙ take-append-add (take len old) lanes n in
    stored old _ (take n lanes) borrow within (omega (arith, put_length put)) (put_length put)
    shorter

-- units that are copied there
pub part_put : {len n : ℕ} {old units new : List ℕ} (borrow : GName) → Put len n old units new
    → string_output (take (len + n) new) (length new - (len + n)) borrow
    ≡ with_appended (string_output (take len old) (length old - len) borrow) units
part_put {old = old} {units} {new} borrow put =
    stored old new units borrow (omega (arith, put.fits)) (omega (arith, put.fits, put_length put))
    (put_length put) (put_front put)

-- the invariant of a loop that collects characters: `read` bytes are read, and the buffer, which
-- has room for `capacity` in all, has their characters
pub record Gathered (units_of : ℕ → List ℕ) (Means : List ℕ → ℕ → Type 0) (before after : Output)
    (src : List ℕ) (capacity read : ℕ) : Type 0 where
  pub ends : length after.written + after.room ≡ capacity
  pub puts : PutsPieces units_of Means before after src read

-- the loop begins
pub gathered_none : {units_of : ℕ → List ℕ} {Means : List ℕ → ℕ → Type 0} {o : Output}
    {src : List ℕ} {capacity : ℕ} → length o.written + o.room ≡ capacity
    → Gathered units_of Means o o src capacity 0
gathered_none ends = record { ends = ends; puts = start }

-- and goes on
pub gathered_then : {units_of : ℕ → List ℕ} {Means : List ℕ → ℕ → Type 0}
    {before mid after : Output} {src : List ℕ} {capacity read n : ℕ}
    → Gathered units_of Means before mid src capacity read
    → PutsPieces units_of Means mid after (drop read src) n
    → Gathered units_of Means before after src capacity (read + n)
gathered_then {mid = mid} {src = src} {read = read} gathered more =
    let units = ap (λ (o : Output). length o.written) more.written in
    let room = ap (λ (o : Output). o.room) more.written in
    record {
      ends = omega (arith, lengths, gathered.ends, more.fits, units, room);
      puts = then_rest {rest = drop read src} refl gathered.puts more;
    }

-- the byte after those that were read
pub byte_front : (from read : ℕ) (src : List ℕ) → from + read < length src
    → take 1 (drop read (drop from src)) ≡ get_or src (from + read) 0 ∷ []
byte_front from read src inside =
    ap (take 1) (drop-drop read from src ∙ drop-cons src (from + read) 0 inside)

-- a character by its word
pub word_put : {Means : List ℕ → ℕ → Type 0} {before after : Output} {src bytes : List ℕ}
    {n word : ℕ} → take n src ≡ bytes → MeansWord Means bytes word → 0 < n → n ≤ length src
    → 4 ≤ before.room
    → after ≡ with_appended before (take (word / 0x100_0000) (to_le_bytes w32 word))
    → PutsPieces encode_utf8 Means before after src n
word_put {Means} {before} front is_word some within room appended =
    one_char is_word.char some within is_word.scalar
    (subst (λ z. Means z is_word.char) (sym front) is_word.means)
    (omega (arith, lengths, ap length is_word.utf8, is_word.bound))
    (appended ∙ ap (with_appended before) is_word.utf8)

-- and by its code unit
pub unit_put : {Means : List ℕ → ℕ → Type 0} {before after : Output} {src bytes : List ℕ}
    {n unit : ℕ} → unit < 0x1_0000 → take n src ≡ bytes → MeansUnit Means bytes unit → 0 < n
    → n ≤ length src
    → 1 ≤ before.room → after ≡ with_appended before (unit ∷ [])
    → PutsPieces encode_utf16 Means before after src n
unit_put {Means} {before} {unit = unit} fits front is_unit some within room appended =
    let units = one_unit unit fits in
    one_char unit some within is_unit.scalar
    (subst (λ z. Means z unit) (sym front) is_unit.means) (omega (arith, ap length units))
    (appended ∙ ap (with_appended before) (sym units))

-- sixteen ASCII characters
pub sixteen_put : {units_of : ℕ → List ℕ}
    → ((bs : List ℕ) → AreAscii bs → units_of_text units_of bs ≡ bs)
    → {before after : Output} {ascii : List ℕ} → length ascii ≡ 16 → AreAscii ascii
    → 16 ≤ before.room → after ≡ with_appended before (take 16 ascii)
    → PutsAscii units_of before after ascii 16
sixteen_put alone {ascii = ascii} long are_ascii room written =
    puts_own alone (omega arith) room
    (subst AreAscii (sym (take_all 16 ascii (omega arith))) are_ascii)
    (λ more low. absurd (omega arith)) written
