-- Characters of one code unit of UTF-16.
use Rattle.std.proofs.Common.{◌≡◌, ℕ, zero, suc, ◌+◌, ◌*◌, ◌≤◌, Bool, List, [], ◌∷◌, length, take, refl, ap, ◌∙◌}
use Rattle.std.proofs.Common.{◌-◌, ◌++◌, sym, subst, arith, drop, drop-drop, take-add}
use Rattle.std.proofs.lemmas.Bool.{and_parts}
use Rattle.std.specs.Char.Escape.{encode_utf16}
use Rattle.enc_utf8.proofs.LengthLemmas.{lengths}
use Rattle.enc_output.specs.CodeUnits.{unit_of, units_of_bytes, AreCodeUnits}
use Rattle.enc_output.specs.Output.{Output, with_appended, string_output}
use Rattle.std.specs.Borrow.{GName}
use lib.Lanes.{put_chunk}
use borrow.Rule.Slice.PartMut.{put_mid}
use Rattle.enc_output.proofs.GatherLemmas.{lanes_put}
use Rattle.enc_utf8.specs.Text.{AreScalars, units_of_text}
use Rattle.enc_output.specs.PieceRuns.{ReadsPieces, PutsPieces}
use Rattle.enc_output.proofs.PiecesLemmas.{reads_none, reads_one, reads_then, reads_wider}

-- characters of one code unit each

pub units_long : (big : Bool) (n : ℕ) (bytes : List ℕ) → length bytes ≡ n + n
    → length (units_of_bytes big bytes) ≡ n
units_long big zero [] e = refl
units_long big zero (a ∷ bs) e = absurd (omega arith)
units_long big (suc n) [] e = absurd (omega arith)
units_long big (suc n) (a ∷ []) e = absurd (omega arith)
units_long big (suc n) (a ∷ b ∷ bs) e = ap suc (units_long big n bs (omega arith))

units_append : (big : Bool) (n : ℕ) (bytes more : List ℕ) → length bytes ≡ n + n
    → units_of_bytes big (bytes ++ more) ≡ units_of_bytes big bytes ++ units_of_bytes big more
units_append big zero [] more e = refl
units_append big zero (a ∷ bs) more e = absurd (omega arith)
units_append big (suc n) [] more e = absurd (omega arith)
units_append big (suc n) (a ∷ []) more e = absurd (omega arith)
units_append big (suc n) (a ∷ b ∷ bs) more e =
    ap (λ us. unit_of big a b ∷ us) (units_append big n bs more (omega arith))

-- those of sixteen bytes and of sixteen more
pub units_joined : (big : Bool) (src : List ℕ) {units next : List ℕ} → 32 ≤ length src
    → units ≡ units_of_bytes big (take 16 src)
    → next ≡ units_of_bytes big (take 16 (drop 16 src))
    → units ++ next ≡ units_of_bytes big (take 32 src)
units_joined big src {units} {next} long first more =
    ap (λ us. us ++ next) first
    ∙ ap (λ us. units_of_bytes big (take 16 src) ++ us) more
    ∙ sym (units_append big 8 (take 16 src) (take 16 (drop 16 src)) (omega (arith, lengths)))
    ∙ ap (units_of_bytes big) (sym (take-add 16 16 src))

-- what holds of any input that begins with sixteen bytes and sixteen more holds of the rest whose
-- bytes were loaded
pub of_rest : {Holds : List ℕ → Type 0} (read : ℕ) (src : List ℕ) → read + 32 ≤ length src
    → ((rest : List ℕ) → 32 ≤ length rest → take 16 (drop read src) ≡ take 16 rest
    → take 16 (drop (read + 16) src) ≡ take 16 (drop 16 rest) → Holds rest)
    → Holds (drop read src)
of_rest read src within holds =
    holds (drop read src) (omega (arith, lengths)) refl
    (ap (take 16) (sym (drop-drop 16 read src)))

module _ {Means : List ℕ → ℕ → Type 0} (big : Bool) (mean : AreCodeUnits Means big) where
  reads_units : (n : ℕ) (bytes : List ℕ) → n + n ≤ length bytes
      → AreScalars (take n (units_of_bytes big bytes))
      → ReadsPieces Means bytes (n + n) (take n (units_of_bytes big bytes))
  reads_units zero bytes h are_scalars = reads_none bytes
  reads_units (suc n) [] h are_scalars = absurd (omega arith)
  reads_units (suc n) (a ∷ []) h are_scalars = absurd (omega arith)
  reads_units (suc n) (a ∷ b ∷ bs) h are_scalars =
      let unit = unit_of big a b in
      let more = take n (units_of_bytes big bs) in
      let long : 2 + (n + n) ≡ suc n + suc n = omega arith in
      subst (λ k. ReadsPieces Means (a ∷ b ∷ bs) k (unit ∷ more)) long
      (reads_then (reads_one unit (omega arith) (omega arith)
      (mean a b (and_parts _ _ are_scalars).0))
      (reads_units n bs (omega arith) (and_parts _ _ are_scalars).1))

  -- the characters of code units that were stored, the first n of those of m
  pub units_put : {units_of : ℕ → List ℕ} (m n : ℕ) {before after : Output} {src units : List ℕ}
      → n ≤ m → 2 * m ≤ length src → units ≡ units_of_bytes big (take (2 * m) src)
      → AreScalars (take n units) → length (units_of_text units_of (take n units)) ≤ before.room
      → after ≡ with_appended before (units_of_text units_of (take n units))
      → PutsPieces units_of Means before after src (2 * n)
  units_put {units_of} m n {before} {after} {src} few long are_units are_scalars fits stored =
      let twice : n + n ≡ 2 * n = omega arith in
      let text = subst (λ us. AreScalars (take n us)) are_units are_scalars in
      subst (λ k. PutsPieces units_of Means before after src k) twice (record {
        text = _;
        scalars = are_scalars;
        reads = subst (λ us. ReadsPieces Means src (n + n) (take n us)) (sym are_units)
            (reads_wider (2 * m) (reads_units n (take (2 * m) src) (omega (arith, lengths)) text));
        fits = fits;
        written = stored;
      })

  -- those of eight lanes in UTF-16, of which the first n are kept
  pub lanes_units : (len n : ℕ) (old units : List ℕ) {src : List ℕ} (borrow : GName)
      → len ≤ length old → 8 ≤ length old - len → n ≤ 8 → 16 ≤ length src
      → units ≡ units_of_bytes big (take 16 src) → AreScalars (take n units)
      → units_of_text encode_utf16 (take n units) ≡ take n units
      → (let rest = take (length old - len) (drop len old) in
      let new = put_mid len (length old - len) old (put_chunk 0 rest units) in
      PutsPieces encode_utf16 Means (string_output (take len old) (length old - len) borrow)
      (string_output (take (len + n) new) (length new - (len + n)) borrow) src (2 * n))
  lanes_units len n old units {src} borrow within room few long are_units are_scalars alone =
      let eight = ap length are_units
      ∙ units_long big 8 (take 16 src) (omega (arith, lengths)) in
      units_put 8 n few long are_units are_scalars (omega (arith, lengths, ap length alone, room))
      (lanes_put len n old units borrow within (omega (arith, eight)) (omega (arith, eight))
      ∙ ap (with_appended (string_output (take len old) (length old - len) borrow)) (sym alone))
