-- Pages have the one pointer of a character, by a test that goes through the table once.
use Rattle.std.proofs.Common.{◌≡◌, ℕ, ◌==◌, Bool, true, false, refl, sym, ap, ◌∙◌, cond, List, get_or, length}
use Rattle.std.proofs.Common.{Option, None, Some, arith, eqb-true, ltb-true}
use Rattle.std.proofs.lemmas.Bool.{cond-true, and_parts}
use Rattle.enc_index.specs.declared.table.Planes.{Planes}
use Rattle.enc_index.specs.Index.{entry_character, is_entry_code_point}
use Rattle.enc_index_pointers.specs.Pages.{number_in_pages}
use Rattle.enc_index.proofs.PlaceLemmas.{same_some}
use Rattle.enc_index.proofs.GridTests.{all_at, all_at-at, within_list}
use Rattle.enc_index_pointers.proofs.TreeLemmas.{Tree, plant, number_in_tree, number_in_tree-plant}

-- whether the pages have this pointer for its code point, if that is one of an entry
unfoldable pub once_ok : Planes → Tree → Tree → ℕ → ℕ → ℕ → Bool
once_ok planes page_of pointers length p t =
    let same = number_in_tree page_of pointers length t == p in
    cond (is_entry_code_point planes t) same true

its_character : (b : Bool) (t c : ℕ) → cond b (Some t) None ≡ Some c → (b ≡ true) × (t ≡ c)
its_character true t c h = (refl, same_some t c h)
its_character false t c h = cc

-- no other pointer has the character of an entry; the pointers and the pages are trees of heights m
-- and k
pub only_pointer : (planes : Planes) (m k : ℕ) (table page_of pointers : List ℕ)
    → all_at (once_ok planes (plant k page_of) (plant m pointers) (length pointers)) 0 table ≡ true
    → (p c : ℕ) → entry_character planes (get_or table p 0) ≡ Some c
    → number_in_pages page_of pointers c ≡ p
unfolding once_ok
only_pointer planes m k table page_of pointers ok p c has =
    let word = get_or table p 0 in
    let entry = its_character (is_entry_code_point planes word) word c has in
    let listed = within_list table p (ltb-true 0 word (and_parts _ _ entry.0).0) in
    let tested = all_at-at (once_ok planes (plant k page_of) (plant m pointers) (length pointers)) 0
    0 table p p ok listed (omega arith) in
    ap (number_in_pages page_of pointers) (sym entry.1)
    ∙ sym (number_in_tree-plant m k page_of pointers word)
    ∙ eqb-true _ _ (sym (cond-true _ _ _ entry.0) ∙ tested)
