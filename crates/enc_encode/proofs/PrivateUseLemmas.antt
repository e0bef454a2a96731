-- Which characters have rows beside index gb18030: none outside of U+E5E6 to U+E864.
use Rattle.std.proofs.Common.{◌≡◌, ℕ, ◌≤◌, Bool, true, false, cond, nat_le, ◌&&◌, ◌==◌, Some, None, List, [], ◌∷◌, refl}
use Rattle.std.proofs.Common.{ap, ◌∙◌, arith, if◌then◌else◌}
use Rattle.std.proofs.lemmas.Bool.{cond-false}
use Rattle.std.proofs.lemmas.Bool.Decides.{nat_tests}
use Rattle.std.specs.Cmp.{first_so, second_so}
use Rattle.enc_index_pointers.specs.Pointers.{gb18030_pointer}
use Rattle.enc_encode.specs.PrivateUse.{private_use_rows}
use Rattle.enc_encode.specs.Gb18030.{two_or_four_bytes, row_bytes, row_or_index_bytes, gb18030_other}

abbrev are_within : List (ℕ × ℕ × ℕ) → Bool
are_within [] = true
are_within (row ∷ rows) = (nat_le 0xE5E6 row.0 && nat_le row.0 0xE864) && are_within rows

other_row : (a c : ℕ) → (nat_le 0xE5E6 a && nat_le a 0xE864) ≡ true
    → (nat_le 0xE5E5 c && nat_le c 0xE864) ≡ false → (a == c) ≡ false
other_row a c within out = grind (arith, nat_tests)

no_row : (rows : List (ℕ × ℕ × ℕ)) (c : ℕ) → are_within rows ≡ true
    → (nat_le 0xE5E5 c && nat_le c 0xE864) ≡ false → row_bytes rows c ≡ None
no_row [] c within out = refl
no_row (row ∷ rows) c within out =
    cond-false _ _ _ (other_row row.0 c (first_so _ _ within) out)
    ∙ no_row rows c (second_so _ _ within) out

pub no_private_use_row : (c : ℕ) → (nat_le 0xE5E5 c && nat_le c 0xE864) ≡ false
    → row_bytes private_use_rows c ≡ None
no_private_use_row c out = no_row private_use_rows c refl out

not_e5e5 : (c : ℕ) → (nat_le 0xE5E5 c && nat_le c 0xE864) ≡ false → (c == 0xE5E5) ≡ false
not_e5e5 c out = grind (arith, nat_tests)

-- outside of them the indexes alone count
pub by_index : (is_gbk : Bool) (c : ℕ) → (nat_le 0xE5E5 c && nat_le c 0xE864) ≡ false
    → gb18030_other is_gbk c
    ≡ (if is_gbk && c == 0x20AC then Some (0x80 ∷ [])
    else two_or_four_bytes is_gbk c (gb18030_pointer c))
by_index is_gbk c out =
    cond-false _ _ _ (not_e5e5 c out)
    ∙ ap (λ o. cond (is_gbk && c == 0x20AC) (Some (0x80 ∷ [])) (row_or_index_bytes is_gbk c o))
    (no_private_use_row c out)

not_euro : (is_gbk : Bool) (c : ℕ) → 0xE5E5 ≤ c → (is_gbk && c == 0x20AC) ≡ false
not_euro true c l = grind (arith, nat_tests)
not_euro false c l = refl

-- from U+E5E6 on, rows and then the indexes
pub by_row : (is_gbk : Bool) (c : ℕ) → 0xE5E5 ≤ c → (c == 0xE5E5) ≡ false
    → gb18030_other is_gbk c ≡ row_or_index_bytes is_gbk c (row_bytes private_use_rows c)
by_row is_gbk c l n = cond-false _ _ _ n ∙ cond-false _ _ _ (not_euro is_gbk c l)
