-- Pieces that follow one another, read and put out.
use Rattle.std.proofs.Common.{◌≡◌, ℕ, ◌+◌, ◌<◌, ◌≤◌, true, List, [], ◌∷◌, ◌++◌, length, take, drop, refl, ap, ◌∙◌, sym}
use Rattle.std.proofs.Common.{subst, arith, append-nil, take-add, nat_le, Bool}
use Rattle.std.proofs.lemmas.Bool.Decides.{nat_tests}
use Rattle.std.proofs.lemmas.List.{take-take}
use Rattle.std.proofs.lemmas.List.Elements.{All-take}
use Rattle.std.specs.Char.{IsScalar}
use Rattle.enc_output.specs.Output.{Output, with_appended}
use Rattle.enc_utf8.specs.Text.{units_of_text}
use Rattle.enc_utf8.specs.Validity.{AreAscii}
use Rattle.enc_output.specs.AsciiRun.{PutsAscii}
use Rattle.enc_utf8.specs.Pieces.{AreWrittenAsThemselves, IsWrittenAsItself, KeepsAscii, Piece, EachMeansChar}
use Rattle.enc_output.specs.PieceRuns.{ReadsPieces, PutsPieces}
use Rattle.enc_utf8.proofs.PieceListLemmas.{piece_bytes-append, piece_chars-append, EachMeansChar-append, alone}
use Rattle.enc_utf8.proofs.PieceListLemmas.{units_alone, pieces_of, bytes_of, chars_of, they_mean}
use Rattle.enc_utf8.proofs.LengthLemmas.{lengths}
use Rattle.enc_output.proofs.OutputLemmas.{with_appended-nil, with_appended-with_appended, room_left}
use Rattle.enc_utf8.proofs.ScalarLemmas.{one_scalar, scalars-append, ascii_scalars}
use Rattle.enc_utf8.proofs.UnitsLemmas.{units-append}

-- pieces that are read

module _ {Means : List ℕ → ℕ → Type 0} where
  pub reads_none : (src : List ℕ) → ReadsPieces Means src 0 []
  reads_none src = record {
    pieces = [];
    within = omega arith;
    bytes = refl;
    chars = refl;
    mean = tt;
    none = λ _. refl;
  }

  -- more pieces after them
  pub reads_then : {src : List ℕ} {a n : ℕ} {s t : List ℕ} → ReadsPieces Means src a s
      → ReadsPieces Means (drop a src) n t → ReadsPieces Means src (a + n) (s ++ t)
  reads_then {src} {a} {n} {s} {t} first then_more = record {
    pieces = first.pieces ++ then_more.pieces;
    within = omega (arith, first.within, then_more.within, lengths);
    bytes = piece_bytes-append first.pieces then_more.pieces
        ∙ rw (first.bytes, then_more.bytes, take-add a n src) refl;
    chars = piece_chars-append first.pieces then_more.pieces
        ∙ rw (first.chars, then_more.chars) refl;
    mean = EachMeansChar-append Means first.pieces then_more.pieces first.mean then_more.mean;
    none = λ z. ap (λ ps. ps ++ then_more.pieces) (first.none (omega arith))
        ∙ then_more.none (omega arith);
  }

  -- one piece
  pub reads_one : {src : List ℕ} {n : ℕ} (c : ℕ) → 0 < n → n ≤ length src → Means (take n src) c
      → ReadsPieces Means src n (c ∷ [])
  reads_one {src} {n} c some within means = record {
    pieces = record { bytes = take n src; char = c } ∷ [];
    within = within;
    bytes = append-nil (take n src);
    chars = refl;
    mean = (means, tt);
    none = λ z. absurd (omega arith);
  }

  -- bytes that are their own characters
  pub reads_own : {src : List ℕ} {n : ℕ} → n ≤ length src
      → AreWrittenAsThemselves Means (take n src) → ReadsPieces Means src n (take n src)
  reads_own {src} {n} within own = record {
    pieces = pieces_of alone (take n src);
    within = within;
    bytes = bytes_of alone (take n src) ∙ units_alone (take n src);
    chars = chars_of alone (take n src);
    mean = they_mean alone Means (take n src) (λ k d inside. (own k d inside).1);
    none = λ z. ap (λ k. pieces_of alone (take k src)) z;
  }

  -- pieces of the first m bytes are pieces of all
  pub reads_wider : (m : ℕ) {src : List ℕ} {n : ℕ} {text : List ℕ}
      → ReadsPieces Means (take m src) n text → ReadsPieces Means src n text
  reads_wider m {src} {n} reads = record {
    pieces = reads.pieces;
    within = omega (arith, reads.within, lengths);
    bytes = reads.bytes ∙ take-take n m src (omega (arith, reads.within, lengths));
    chars = reads.chars;
    mean = reads.mean;
    none = reads.none;
  }

-- ASCII bytes, where each has that number as its character
pub own_ascii : (Means : List ℕ → ℕ → Type 0) (bs : List ℕ) → KeepsAscii Means → AreAscii bs
    → AreWrittenAsThemselves Means bs
own_ascii Means bs keeps are_ascii k d inside =
    (are_ascii k d inside, keeps _ (are_ascii k d inside))

-- pieces that are put out

module _ {units_of : ℕ → List ℕ} {Means : List ℕ → ℕ → Type 0} where
  pub start : {o : Output} {src : List ℕ} → PutsPieces units_of Means o o src 0
  start {o} {src} = record {
    text = [];
    scalars = refl;
    reads = reads_none src;
    fits = omega arith;
    written = sym (with_appended-nil o);
  }

  -- more pieces after them
  pub then_rest : {before mid after : Output} {src rest : List ℕ} {a n : ℕ} → rest ≡ drop a src
      → PutsPieces units_of Means before mid src a → PutsPieces units_of Means mid after rest n
      → PutsPieces units_of Means before after src (a + n)
  then_rest {before} {mid} rest_is first then_more =
      let first_units = units_of_text units_of first.text in
      let more_units = units_of_text units_of then_more.text in
      let both = units-append units_of first.text then_more.text in
      let room = room_left before mid first_units first.written in
      record {
        text = first.text ++ then_more.text;
        scalars = scalars-append first.text then_more.text first.scalars then_more.scalars;
        reads = reads_then first.reads (rw rest_is at then_more.reads);
        fits = omega (arith, ap length both, lengths, first.fits, then_more.fits, room);
        written = then_more.written ∙ rw (first.written, both)
            (with_appended-with_appended before first_units more_units);
      }

  -- bytes that are their own characters
  written_pieces : {before after : Output} {src : List ℕ} {n : ℕ}
      → AreWrittenAsThemselves Means (take n src) → PutsAscii units_of before after src n
      → PutsPieces units_of Means before after src n
  written_pieces {src = src} {n = n} own puts = record {
    text = take n src;
    scalars = ascii_scalars (take n src) puts.ascii;
    reads = reads_own puts.within own;
    fits = puts.fits;
    written = puts.written;
  }

  pub ascii_pieces : {before after : Output} {src : List ℕ} {n : ℕ} → KeepsAscii Means
      → PutsAscii units_of before after src n → PutsPieces units_of Means before after src n
  ascii_pieces {src = src} {n = n} keeps puts =
      written_pieces (own_ascii Means (take n src) keeps puts.ascii) puts

  -- one piece
  pub one_char : {before after : Output} {src : List ℕ} {n : ℕ} (c : ℕ) → 0 < n → n ≤ length src
      → IsScalar c → Means (take n src) c → length (units_of c) ≤ before.room
      → after ≡ with_appended before (units_of c) → PutsPieces units_of Means before after src n
  one_char {before = before} c some within scalar means fits appended =
      let units = append-nil (units_of c) in
      record {
        text = c ∷ [];
        scalars = one_scalar c scalar;
        reads = reads_one c some within means;
        fits = omega (arith, fits, ap length units);
        written = appended ∙ ap (with_appended before) (sym units);
      }

  -- by a test of whether it fits
  pub one_piece : {before after : Output} {src : List ℕ} {n : ℕ} (c : ℕ) → 0 < n → n ≤ length src
      → IsScalar c → Means (take n src) c → nat_le (length (units_of c)) before.room ≡ true
      → after ≡ with_appended before (units_of c) → PutsPieces units_of Means before after src n
  one_piece c some within scalar means test appended =
      one_char c some within scalar means (grind (arith, nat_tests)) appended

  -- a piece that was found, after them
  pub then_one : {before mid after : Output} {src : List ℕ} {a n : ℕ} {appended : Bool} (c : ℕ)
      → PutsPieces units_of Means before mid src a → 0 < n → n ≤ length (drop a src)
      → Means (take n (drop a src)) c → IsScalar c
      → appended ≡ nat_le (length (units_of c)) mid.room → appended ≡ true
      → after ≡ with_appended mid (units_of c)
      → PutsPieces units_of Means before after src (a + n)
  then_one c first some within means scalar test was_appended written =
      then_rest refl first (one_piece c some within scalar means (sym test ∙ was_appended) written)

  -- the same, where the output is known to be as it was
  pub same_then : {before mid after : Output} {src : List ℕ} {n : ℕ} → after ≡ mid
      → PutsPieces units_of Means before mid src n → PutsPieces units_of Means before after src n
  same_then {before = before} {src = src} {n = n} same puts =
      subst (λ (o : Output). PutsPieces units_of Means before o src n) (sym same) puts

  -- pieces of the first m bytes are pieces of all
  pub puts_wider : {before after : Output} {src : List ℕ} (m : ℕ) {n : ℕ} {front : List ℕ}
      → front ≡ take m src → PutsPieces units_of Means before after front n
      → PutsPieces units_of Means before after src n
  puts_wider {src = src} m {n} front_is puts = record {
    text = puts.text;
    scalars = puts.scalars;
    reads = reads_wider m (subst (λ z. ReadsPieces Means z n puts.text) front_is puts.reads);
    fits = puts.fits;
    written = puts.written;
  }

  -- bytes that are their own characters and code units
  pub kept_pieces : {before after : Output} {src : List ℕ} {n : ℕ}
      → ((bs : List ℕ) → AreAscii bs → units_of_text units_of bs ≡ bs) → n ≤ length src
      → AreWrittenAsThemselves Means (take n src) → n ≤ before.room
      → after ≡ with_appended before (take n src) → PutsPieces units_of Means before after src n
  kept_pieces {before} {src = src} {n = n} alone within own fits appended =
      let ascii : AreAscii (take n src) = λ k d inside. (own k d inside).0 in
      let units = alone (take n src) ascii in
      record {
        text = take n src;
        scalars = ascii_scalars (take n src) ascii;
        reads = reads_own within own;
        fits = omega (arith, ap length units, lengths);
        written = appended ∙ ap (with_appended before) (sym units);
      }

  -- pieces that were put out to an empty output, whose units are appended to another
  pub puts_gathered : {before after o then : Output} {src : List ℕ} {n : ℕ} {units : List ℕ}
      → then ≡ with_appended o units → length units ≤ o.room
      → PutsPieces units_of Means before after src n → before.written ≡ [] → after.written ≡ units
      → PutsPieces units_of Means o then src n
  puts_gathered {before = before} {o = o} {units = units} appended fits puts empty text =
      let same : units ≡ units_of_text units_of puts.text =
      sym text ∙ ap (λ (o : Output). o.written) puts.written
      ∙ ap (λ z. z ++ units_of_text units_of puts.text) empty in
      record {
        text = puts.text;
        scalars = puts.scalars;
        reads = puts.reads;
        fits = omega (arith, ap length same);
        written = appended ∙ ap (with_appended o) same;
      }

  -- bytes among the first m, which are the ASCII characters with their numbers
  pub own_pieces : {before after : Output} {src : List ℕ} (m : ℕ) {n : ℕ}
      → AreWrittenAsThemselves Means (take m src) → PutsAscii units_of before after (take m src) n
      → PutsPieces units_of Means before after src n
  own_pieces {src = src} m {n} own puts =
      let own_front = All-take (IsWrittenAsItself Means) n (take m src) own in
      puts_wider m refl (written_pieces own_front puts)

-- what the bytes mean by one reading, they mean by another

EachMeansChar-weaker : (Means Other : List ℕ → ℕ → Type 0)
    → ((bytes : List ℕ) (c : ℕ) → Means bytes c → Other bytes c) → (ps : List Piece)
    → EachMeansChar Means ps
    → EachMeansChar Other ps
EachMeansChar-weaker Means Other weaker [] mean = tt
EachMeansChar-weaker Means Other weaker (p ∷ ps) mean =
    (weaker p.bytes p.char mean.0, EachMeansChar-weaker Means Other weaker ps mean.1)

pub puts_as : (units_of : ℕ → List ℕ) (Means Other : List ℕ → ℕ → Type 0) (before after : Output)
    (src : List ℕ) (n : ℕ)
    → ((bytes : List ℕ) (c : ℕ) → Means bytes c → Other bytes c)
    → PutsPieces units_of Means before after src n → PutsPieces units_of Other before after src n
puts_as units_of Means Other before after src n h puts =
    let reads = puts.reads in
    record {
      text = puts.text;
      scalars = puts.scalars;
      reads = record {
        pieces = reads.pieces;
        within = reads.within;
        bytes = reads.bytes;
        chars = reads.chars;
        mean = EachMeansChar-weaker Means Other h reads.pieces reads.mean;
        none = reads.none;
      };
      fits = puts.fits;
      written = puts.written;
    }
