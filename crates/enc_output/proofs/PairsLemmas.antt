-- Characters of one byte or two.
use Rattle.std.proofs.Common.{◌≡◌, ◌∙◌, ℕ, suc, ◌+◌, ◌-◌, ◌/◌, ◌%◌, ◌^◌, ◌≤◌, Bool, true, false, List, []}
use Rattle.std.proofs.Common.{◌∷◌, length, take, drop, get_or, ap, sym, subst, arith, drop-cons}
use Rattle.std.proofs.Common.{◌<◌, eqb-true, refl}
use Rattle.std.proofs.lemmas.Bool.{eqb-false}
use Rattle.std.proofs.lemmas.List.{get_or-drop, get_or-take}
use Rattle.std.proofs.lemmas.Nat.{shr-shr}
use Rattle.enc_utf8.proofs.LengthLemmas.{lengths}
use Rattle.enc_output.specs.Output.{Output}
use Rattle.enc_output.specs.PieceRuns.{PutsPieces}
use Rattle.enc_output.specs.Pairs.{byte_or_pair}
use Rattle.enc_output.specs.Places.{has_bit, ArePlaces}
use Rattle.enc_output.proofs.PiecesLemmas.{then_rest, puts_wider}

-- a character with one byte, or two if the bit of the first is set
module _ (src : List ℕ) (leads read next : ℕ)
    (ends_at : next ≡ read + 1 + leads / 2 ^ read % 2) (inside : read + 2 ≤ length src) where
  abbrev first : ℕ
  first = get_or src read 0

  abbrev second : ℕ
  second = get_or (drop 1 src) read 0

  two_front : take 2 (drop read src) ≡ first ∷ second ∷ []
  two_front =
      let place : suc read ≡ 1 + read = omega arith in
      rw (
        drop-cons src read 0 (omega arith),
        drop-cons src (suc read) 0 (omega arith),
        place,
        get_or-drop 1 src read 0,
      ) refl

  -- the bytes up to where the next character begins
  front_is : (t : Bool) → has_bit leads read ≡ t
      → take (next - read) (drop read src) ≡ byte_or_pair t first second
  front_is true is_pair =
      let two : next - read ≡ 2 = omega (arith, ends_at, eqb-true _ _ is_pair) in
      ap (λ k. take k (drop read src)) two ∙ two_front
  front_is false is_single =
      let one : next - read ≡ 1 = omega (arith, ends_at, eqb-false _ _ is_single) in
      ap (λ k. take k (drop read src)) one ∙ ap (take 1) (drop-cons src read 0 (omega arith))

  -- one more character
  pub puts_stored : {units_of : ℕ → List ℕ} {Means : List ℕ → ℕ → Type 0}
      {before mid after : Output} → PutsPieces units_of Means before mid src read
      → (let bytes = byte_or_pair (has_bit leads read) first second in
      PutsPieces units_of Means mid after bytes (length bytes))
      → PutsPieces units_of Means before after src next
  puts_stored {units_of} {Means} {before} {mid} {after} puts one =
      let bytes = byte_or_pair (has_bit leads read) first second in
      let front = front_is (has_bit leads read) refl in
      let count : length bytes ≡ next - read =
      omega (arith, lengths, ends_at, ap length front) in
      let whole : read + (next - read) ≡ next = omega (arith, ends_at) in
      subst (λ n. PutsPieces units_of Means before after src n) whole
      (then_rest refl puts (puts_wider (next - read) (sym front)
      (subst (λ n. PutsPieces units_of Means mid after bytes n) count one)))

pub some_byte : (is_pair : Bool) (first second : ℕ) → 0 < length (byte_or_pair is_pair first second)
some_byte true first second = omega arith
some_byte false first second = omega arith

-- places

module _ (StandsFor : ℕ → List ℕ → Type 0) (places : List ℕ) (leads : ℕ) (src : List ℕ) where
  -- the places of the bytes after the first n
  pub places_after : (n : ℕ) → n ≤ 8 → ArePlaces StandsFor 16 places leads src (drop 1 src)
      → ArePlaces StandsFor 8 (drop n places) (leads / 2 ^ n) (drop n src) (drop 1 (drop n src))
  places_after n few are i below =
      let second : get_or (drop 1 src) (n + i) 0 ≡ get_or (drop 1 (drop n src)) i 0 =
      get_or-drop 1 src (n + i) 0 ∙ ap (λ k. get_or src k 0) (omega arith)
      ∙ sym (get_or-drop 1 (drop n src) i 0 ∙ get_or-drop n src (1 + i) 0) in
      rw (get_or-drop n places i 0, shr-shr leads n i, get_or-drop n src i 0, ← second)
      (are (n + i) (omega arith))

  -- the places of sixteen bytes that were loaded, as those of the rest of the input
  pub places_of_rest : (read : ℕ)
      → ArePlaces StandsFor 16 places leads (take 16 (drop read src))
      (take 16 (drop (read + 1) src))
      → ArePlaces StandsFor 16 places leads (drop read src) (drop 1 (drop read src))
  places_of_rest read are i below =
      let second : get_or (drop (read + 1) src) i 0 ≡ get_or (drop 1 (drop read src)) i 0 =
      get_or-drop (read + 1) src i 0 ∙ ap (λ k. get_or src k 0) (omega arith)
      ∙ sym (get_or-drop 1 (drop read src) i 0 ∙ get_or-drop read src (1 + i) 0) in
      rw (
        ← get_or-take 16 (drop read src) i 0 below,
        ← second,
        ← get_or-take 16 (drop (read + 1) src) i 0 below,
      ) (are i below)
