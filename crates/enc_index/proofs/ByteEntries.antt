-- A table with an entry for each byte has the words or the units of the bytes' characters, by a
-- test that goes through it once.
use Rattle.std.proofs.Common.{◌≡◌, ℕ, ◌<◌, Bool, true, ◌==◌, Option, Some, None, List, length, get_or, refl, arith}
use Rattle.std.proofs.Common.{eqb-true}
use Rattle.std.specs.Char.{IsScalar}
use Rattle.enc_index.specs.Grid.{HasWord}
use Rattle.enc_index.proofs.GridTests.{Found, all_at, all_at-at}
use Rattle.enc_index.proofs.GridEntries.{is_word, is_unit, word_found, unit_found}

module _ (kind : ℕ → ℕ → Bool) (character : ℕ → Option ℕ) where
  -- the entry is right for the character, or 0 if there is none
  unfoldable pub fits : Option ℕ → ℕ → Bool
  fits None g = g == 0
  fits (Some c) g = kind c g

  -- the entries fit the bytes from b on
  unfoldable pub bytes_fit : ℕ → List ℕ → Bool
  bytes_fit b gs = all_at (λ k. fits (character k)) b gs

  found_by : (found : Option ℕ) (g : ℕ) → fits found g ≡ true → (found ≡ None → 0 < g)
      → Found kind found g
  unfolding fits
  found_by None g ok some =
      let is_some = some refl in absurd (omega (arith, eqb-true g 0 ok))
  found_by (Some c) g ok some = (c, refl, ok)

  -- an entry that fits, of a byte that has a character or an entry that is not 0
  byte_found : (gs : List ℕ) (b : ℕ) → bytes_fit 0 gs ≡ true → b < length gs
      → (character b ≡ None → 0 < get_or gs b 0)
      → Found kind (character b) (get_or gs b 0)
  unfolding bytes_fit
  byte_found gs b ok within some =
      found_by (character b) (get_or gs b 0)
      (all_at-at (λ k. fits (character k)) 0 0 gs b b ok within (omega arith)) some

module _ (character : ℕ → Option ℕ) (gs : List ℕ) (b : ℕ) (within : b < length gs)
    (some : character b ≡ None → 0 < get_or gs b 0) where
  pub word_at : bytes_fit is_word character 0 gs ≡ true → HasWord (character b) (get_or gs b 0)
  word_at ok = word_found _ _ (byte_found is_word character gs b ok within some)

  pub unit_at : bytes_fit is_unit character 0 gs ≡ true
      → (character b ≡ Some (get_or gs b 0)) × IsScalar (get_or gs b 0)
  unit_at ok = unit_found _ _ (byte_found is_unit character gs b ok within some)
