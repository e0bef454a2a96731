-- The pages of pointers give each character's pointer in the single-byte indexes, and the table of
-- the first characters has their bytes.
use Rattle.std.proofs.Common.{◌≡◌, ℕ, ◌+◌, ◌-◌, ◌*◌, ◌<◌, ◌≤◌, Bool, true, ◌&&◌, refl, sym, ap, ◌∙◌, subst, List}
use Rattle.std.proofs.Common.{get_or, length, slice_range, Some, arith, lt-ltb}
use Rattle.std.proofs.lemmas.Bool.{and_parts, cond-true}
use Rattle.enc_index.specs.declared.table.Planes.TheVariants.{Basic}
use Rattle.enc_index.specs.declared.single_byte_index.SingleByteIndex.{SingleByteIndex}
use Rattle.enc_index.specs.declared.single_byte_index.SingleByteIndex.TheVariants.{Ibm866}
use Rattle.enc_index.specs.Index.{index_at}
use Rattle.enc_index.specs.Runs.{single_byte_runs}
use Rattle.enc_index.specs.SingleByteTables.{table_number}
use Rattle.enc_index.proofs.SingleByteLemmas.{table_of, single_byte_table}
use Rattle.enc_index.proofs.GridTests.{all_at}
use Rattle.enc_index_pointers.specs.declared.pages.single_byte.TheConstants.{SINGLE_BYTE_PAGE_OF, SINGLE_BYTE_POINTERS}
use Rattle.enc_index_pointers.specs.declared.pages.single_byte_direct.TheConstants.{SINGLE_BYTE_DIRECT}
use Rattle.enc_index_pointers.specs.Pages.{number_in_pages, pointer_in_pages}
use Rattle.enc_index_pointers.specs.Pointers.{any_pointer, no_character, single_byte_pointer}
use Rattle.enc_index_pointers.proofs.PageLemmas.{tables_ok, pointer_in_pages-pointer_of}
use Rattle.enc_index_pointers.proofs.DirectLemmas.{direct_ok, last_byte, own_byte, paged_byte}
use Rattle.enc_index_pointers.proofs.OnceLemmas.{once_ok, only_pointer}
use Rattle.enc_index_pointers.proofs.TreeLemmas.{plant}
use Rattle.enc_index_pointers.proofs.Computing.{tests}

abbrev pub page_of : SingleByteIndex → List ℕ
page_of index = slice_range SINGLE_BYTE_PAGE_OF (table_number index * 1024)
    (table_number index * 1024 + 1024)

-- the bytes of the first characters, in the table of the index with a number
abbrev pub bytes_of : ℕ → List ℕ
bytes_of n = slice_range SINGLE_BYTE_DIRECT (n * 0x800) (n * 0x800 + 0x800)

abbrev pages_fit : SingleByteIndex → Bool
pages_fit index =
    tables_ok Basic any_pointer no_character 128 7 14 10 (table_of index) (page_of index)
    SINGLE_BYTE_POINTERS

abbrev bytes_fit : SingleByteIndex → Bool
bytes_fit index =
    direct_ok 14 10 (page_of index) SINGLE_BYTE_POINTERS (bytes_of (table_number index))

pointers_ok : SingleByteIndex → Bool
pointers_ok index = pages_fit index && bytes_fit index

all_pages : (index : SingleByteIndex) → pointers_ok index ≡ true
unfolding tests pointers_ok
all_pages Ibm866 = refl
all_pages _ = refl

parts : (index : SingleByteIndex) → (pages_fit index ≡ true) × (bytes_fit index ≡ true)
unfolding pointers_ok
parts index = and_parts (pages_fit index) (bytes_fit index) (all_pages index)

pub single_byte_pages : (index : SingleByteIndex) (c : ℕ)
    → pointer_in_pages (page_of index) SINGLE_BYTE_POINTERS 128 c ≡ single_byte_pointer index c
unfolding single_byte_pointer
single_byte_pages index c =
    pointer_in_pages-pointer_of Basic any_pointer no_character 128 7 14 10 (table_of index)
    (page_of index) SINGLE_BYTE_POINTERS (parts index).0
    (λ p. index_at Basic (single_byte_runs index) p) (single_byte_table index) c

-- the byte of a character, in the table of the index with the number n
module _ (index : SingleByteIndex) (n b c : ℕ) (is_number : n ≡ table_number index)
    (is_entry : b ≡ get_or (bytes_of n) c 0) where
  direct : direct_ok 14 10 (page_of index) SINGLE_BYTE_POINTERS (bytes_of n) ≡ true
  direct = subst (λ k. direct_ok 14 10 (page_of index) SINGLE_BYTE_POINTERS (bytes_of k) ≡ true)
      (sym is_number) (parts index).1

  some : 0 < b → 0 < get_or (bytes_of n) c 0
  some h = subst (λ x. 0 < x) is_entry h

  pub ascii_byte : c < 0x80 → 0 < b → b ≡ c
  ascii_byte low h = is_entry
      ∙ own_byte 14 10 (page_of index) SINGLE_BYTE_POINTERS (bytes_of n) direct c low (some h)

  pub pointer_byte : 0x80 ≤ c → 0 < b → b < 0x100
      → (0x80 ≤ b) × (single_byte_pointer index c ≡ Some (b - 0x80))
  pointer_byte high h fits =
      let number = number_in_pages (page_of index) SINGLE_BYTE_POINTERS c in
      let paged =
      is_entry ∙ paged_byte 14 10 (page_of index) SINGLE_BYTE_POINTERS (bytes_of n) direct c high
      (some h) in
      let few : number < 128 = omega (arith, paged, fits) in
      let less : number ≡ b - 0x80 = omega (arith, paged) in (
        omega (arith, paged),
        sym (single_byte_pages index c) ∙ cond-true _ _ _ (lt-ltb number 128 few) ∙ ap Some less,
      )

  pub no_last_byte : c ≡ 0x7FF → b ≡ 0
  no_last_byte last = is_entry ∙ ap (λ k. get_or (bytes_of n) k 0) last
      ∙ last_byte 14 10 (page_of index) SINGLE_BYTE_POINTERS (bytes_of n) direct

-- no two pointers have one character

once_fit : SingleByteIndex → Bool
once_fit index =
    all_at (once_ok Basic (plant 10 (page_of index)) (plant 14 SINGLE_BYTE_POINTERS)
    (length SINGLE_BYTE_POINTERS)) 0 (table_of index)

all_once : (index : SingleByteIndex) → once_fit index ≡ true
unfolding tests once_fit once_ok
all_once Ibm866 = refl
all_once _ = refl

pub single_byte_once : (index : SingleByteIndex) (p c : ℕ) → p < 128
    → index_at Basic (single_byte_runs index) p ≡ Some c → single_byte_pointer index c ≡ Some p
unfolding once_fit
single_byte_once index p c few has =
    let number = only_pointer Basic 14 10 (table_of index) (page_of index) SINGLE_BYTE_POINTERS
    (all_once index) p c (single_byte_table index p ∙ has) in
    sym (single_byte_pages index c)
    ∙ rw number (cond-true _ _ _ (lt-ltb p 128 few))
