-- A table of the bytes of the first characters has ASCII as itself, and for others the pointers
-- that the pages have, by a test that goes through the table once.
use Rattle.std.proofs.Common.{◌≡◌, ℕ, ◌+◌, ◌<◌, ◌≤◌, Bool, true, ◌==◌, ap, ◌∙◌, sym, cond}
use Rattle.std.proofs.Common.{◌&&◌, nat_lt, List, get_or, length, arith, eqb-true, lt-ltb, le-ltb}
use Rattle.std.proofs.lemmas.Bool.{cond-true, cond-false, and_parts}
use Rattle.enc_index_pointers.specs.Pages.{number_in_pages}
use Rattle.enc_index.proofs.GridTests.{all_at, all_at-at, within_list}
use Rattle.enc_index_pointers.proofs.TreeLemmas.{Tree, plant, number_in_tree, number_in_tree-plant}

-- whether a byte is the character itself, or has its pointer in the pages, or is 0
unfoldable pub byte_ok : Tree → Tree → ℕ → ℕ → ℕ → Bool
byte_ok page_of pointers length c b =
    let own = b == c in
    let paged = b == number_in_tree page_of pointers length c + 0x80 in
    let right = cond (nat_lt c 0x80) own paged in
    cond (nat_lt 0 b) right true

-- that each byte passes, and that the last character has none; the pointers and the pages are trees
-- of heights m and k
unfoldable pub direct_ok : ℕ → ℕ → List ℕ → List ℕ → List ℕ → Bool
direct_ok m k page_of pointers bytes =
    get_or bytes 0x7FF 0 == 0
    && all_at (byte_ok (plant k page_of) (plant m pointers) (length pointers)) 0 bytes

module _ (m k : ℕ) (page_of pointers bytes : List ℕ)
    (ok : direct_ok m k page_of pointers bytes ≡ true) where
  abbrev byte : ℕ → ℕ
  byte c = get_or bytes c 0

  right : (c : ℕ) → 0 < byte c → cond (nat_lt c 0x80) (byte c == c)
      (byte c == number_in_tree (plant k page_of) (plant m pointers) (length pointers) c + 0x80)
      ≡ true
  unfolding byte_ok direct_ok
  right c some = sym (cond-true _ _ _ (lt-ltb 0 (byte c) some))
      ∙ all_at-at _ 0 0 bytes c c (and_parts _ _ ok).1 (within_list bytes c some) (omega arith)

  pub last_byte : byte 0x7FF ≡ 0
  unfolding direct_ok
  last_byte = eqb-true _ _ (and_parts _ _ ok).0

  pub own_byte : (c : ℕ) → c < 0x80 → 0 < byte c → byte c ≡ c
  own_byte c low some =
      eqb-true _ _ (sym (cond-true _ _ _ (lt-ltb c 0x80 low)) ∙ right c some)

  pub paged_byte : (c : ℕ) → 0x80 ≤ c → 0 < byte c
      → byte c ≡ number_in_pages page_of pointers c + 0x80
  paged_byte c high some =
      eqb-true _ _ (sym (cond-false _ _ _ (le-ltb c 0x80 high)) ∙ right c some)
      ∙ ap (λ n. n + 0x80) (number_in_tree-plant m k page_of pointers c)
