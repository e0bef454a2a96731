-- Pages of pointers give each character's pointer, by a test that goes through the pages and the
-- table once.
use Rattle.std.proofs.Common.{◌≡◌, ℕ, zero, suc, ◌+◌, ◌*◌, ◌/◌, ◌%◌, ◌<◌, Bool, true, false, refl, sym, ap}
use Rattle.std.proofs.Common.{◌∙◌, cond, ◌&&◌, nat_lt, nat_le, List, get_or, length, Option, None, Some}
use Rattle.std.proofs.Common.{arith, inl, inr, eqb-true, lt-ltb, leb-true, ltb-true}
use Rattle.std.proofs.lemmas.Bool.{cond-true, cond-false, cases_lt, and_parts, and_from, cond_both}
use Rattle.std.proofs.lemmas.List.{get_or_past}
use Rattle.enc_index.specs.declared.table.Planes.{Planes}
use Rattle.enc_index.specs.Index.{entry_character, is_entry_code_point}
use Rattle.enc_index_pointers.specs.Pages.{number_in_pages, pointer_in_pages}
use Rattle.enc_index_pointers.specs.Pointers.{pointer_of, is_character, first_below, last_below}
use Rattle.enc_index.proofs.GridTests.{all_at, all_at-at, within_list}
use Rattle.enc_index_pointers.proofs.TreeLemmas.{Tree, plant, look, look-plant, number_in_tree, number_in_tree-plant}
use Rattle.enc_index_pointers.proofs.BelowLemmas.{first_below-is, last_below-is}

-- each number below n passes
unfoldable pub all_below : (ℕ → Bool) → ℕ → Bool
all_below test zero = true
all_below test (suc n) = test n && all_below test n

all_below-at : (test : ℕ → Bool) (n j : ℕ) → all_below test n ≡ true → j < n → test j ≡ true
unfolding all_below
all_below-at test zero j h l = absurd (omega arith)
all_below-at test (suc n) j h l = elim (cases_lt j n) [
  | inl below ↦ all_below-at test n j (and_parts _ _ h).1 below
  | inr last ↦ let same : j ≡ n = omega arith in rw same (and_parts _ _ h).0
]

is_character-cond : (b : Bool) (c t : ℕ) → is_character c (cond b (Some t) None) ≡ true → (b ≡ true)
    × (t ≡ c)
is_character-cond true c t h = (refl, eqb-true t c h)
is_character-cond false c t h = cc

module _ (planes : Planes) (counts is_by_last : ℕ → Bool) (bound : ℕ) where
  -- whether the pointer in a place of the pages is one of the character, if there is a pointer
  unfoldable pub place_ok : Tree → Tree → ℕ → ℕ → Bool
  place_ok table pointers place c =
      let pointer = look 0xFFFF pointers place in
      let right = counts pointer
      && is_character c (entry_character planes (look 0 table pointer)) in
      cond (nat_lt pointer bound) right true

  -- whether a page has only pointers of its characters, and page 0 none
  unfoldable pub page_ok : Tree → Tree → ℕ → ℕ → Bool
  page_ok table pointers k page =
      let each = all_below (λ j. place_ok table pointers (page * 64 + j) (k * 64 + j)) 64 in
      cond (nat_lt 0 page) each true

  unfoldable pub blank_ok : Tree → Bool
  blank_ok pointers = all_below (λ j. nat_le bound (look 0xFFFF pointers j)) 64

  -- whether the pages have no later pointer than p for its code point, or none before where the
  -- last counts
  unfoldable pub entry_ok : Tree → Tree → ℕ → ℕ → ℕ → Bool
  entry_ok page_of pointers length p t =
      let pointer = number_in_tree page_of pointers length t in
      let last = nat_le p pointer && nat_lt pointer bound in
      let each = cond (is_by_last t) last (nat_le pointer p) in
      cond (nat_lt p bound && (counts p && is_entry_code_point planes t)) each true

  -- That each pointer that the pages have is one of the character's, and that they have the pointer
  -- of each entry that counts. The table, the pointers and the pages are trees of heights n, m and
  -- k.
  unfoldable pub tables_ok : ℕ → ℕ → ℕ → List ℕ → List ℕ → List ℕ → Bool
  tables_ok n m k table page_of pointers =
      (nat_le bound 0xFFFF && blank_ok (plant m pointers))
      && (all_at (page_ok (plant n table) (plant m pointers)) 0 page_of
      && all_at (entry_ok (plant k page_of) (plant m pointers) (length pointers)) 0 table)

  module _ (n m k : ℕ) (table page_of pointers : List ℕ)
      (ok : tables_ok n m k table page_of pointers ≡ true) where
    abbrev in_pages : ℕ → ℕ
    in_pages c = number_in_pages page_of pointers c

    abbrev at : ℕ → Option ℕ
    at p = entry_character planes (get_or table p 0)

    -- whether a pointer counts and has the character
    abbrev test : ℕ → ℕ → Bool
    test c p = counts p && is_character c (at p)

    place_ok-at : (place c : ℕ) → place_ok (plant n table) (plant m pointers) place c ≡ true
        → get_or pointers place 0xFFFF < bound → test c (get_or pointers place 0xFFFF) ≡ true
    unfolding place_ok
    place_ok-at place c passes below_bound =
        let pointer = get_or pointers place 0xFFFF in
        sym (cond-true _ _ _ (lt-ltb pointer bound below_bound))
        ∙ rw (look-plant 0xFFFF m pointers place, look-plant 0 n table pointer) at passes

    -- a pointer that the pages give is one of the character
    sound : (c : ℕ) → in_pages c < bound → test c (in_pages c) ≡ true
    unfolding tables_ok page_ok blank_ok
    sound c below_bound =
        let first : (nat_le bound 0xFFFF ≡ true) × (blank_ok (plant m pointers) ≡ true) =
        and_parts _ _ (and_parts _ _ ok).0 in
        let pages : all_at (page_ok (plant n table) (plant m pointers)) 0 page_of ≡ true =
        (and_parts _ _ (and_parts _ _ ok).1).0 in
        let page = get_or page_of (c / 64) (length pointers) in
        elim (cases_lt (c / 64) (length page_of)) [
          | inr beyond ↦
              let none : in_pages c ≡ 0xFFFF =
              rw (get_or_past page_of (c / 64) (length pointers) beyond)
              (get_or_past pointers (length pointers * 64 + c % 64) 0xFFFF (omega arith)) in
              absurd (omega (arith, none, leb-true bound 0xFFFF first.0))
          | inl within ↦ elim (cases_lt 0 page) [
            | inl some ↦
                let back : c / 64 * 64 + c % 64 ≡ c = omega arith in
                let page_passes = all_at-at (page_ok (plant n table) (plant m pointers))
                (length pointers) 0 page_of (c / 64) (c / 64) pages within (omega arith) in
                rw back at (place_ok-at (page * 64 + c % 64) (c / 64 * 64 + c % 64)
                (all_below-at (λ j. place_ok (plant n table) (plant m pointers) (page * 64 + j)
                (c / 64 * 64 + j)) 64 (c % 64)
                (sym (cond-true _ _ _ (lt-ltb 0 page some)) ∙ page_passes) (omega arith))
                below_bound)
            | inr blank ↦
                let place : page * 64 + c % 64 ≡ c % 64 = omega arith in
                let same = ap (λ x. get_or pointers x 0xFFFF) place in
                let none = leb-true _ _
                (all_below-at (λ j. nat_le bound (look 0xFFFF (plant m pointers) j)) 64 (c % 64)
                first.1 (omega arith)) in
                let looked = look-plant 0xFFFF m pointers (c % 64) in
                absurd (omega (arith, same, looked, none, below_bound))
          ]
        ]

    -- no pointer of a character is missed
    complete : (c p : ℕ) → p < bound → test c p ≡ true
        → cond (is_by_last c) (nat_le p (in_pages c) && nat_lt (in_pages c) bound)
        (nat_le (in_pages c) p) ≡ true
    unfolding tables_ok entry_ok
    complete c p below_bound passes =
        let word = get_or table p 0 in
        let number = number_in_tree (plant k page_of) (plant m pointers) (length pointers) word in
        let counted = and_parts (counts p) (is_character c (at p)) passes in
        let entry = is_character-cond (is_entry_code_point planes word) c word counted.1 in
        let listed = within_list table p (ltb-true 0 word (and_parts _ _ entry.0).0) in
        let considered = and_from (nat_lt p bound) (counts p && is_entry_code_point planes word)
        (lt-ltb p bound below_bound) (and_from _ _ counted.0 entry.0) in
        let each : cond (is_by_last word) (nat_le p number && nat_lt number bound) (nat_le number p)
        ≡ true = sym (cond-true _ _ _ considered)
        ∙ all_at-at (entry_ok (plant k page_of) (plant m pointers) (length pointers)) 0 0 table p p
        (and_parts _ _ (and_parts _ _ ok).1).1 listed (omega arith) in
        rw (number_in_tree-plant m k page_of pointers word, entry.1) at each

    by_first : (c : ℕ) → is_by_last c ≡ false
        → first_below (test c) bound ≡ pointer_in_pages page_of pointers bound c
    by_first c not_by_last =
        first_below-is (test c) (in_pages c) bound (sound c)
        (λ q l t. leb-true _ _ (sym (cond-false _ _ _ not_by_last) ∙ complete c q l t))

    by_latest : (c : ℕ) → is_by_last c ≡ true
        → last_below (test c) bound ≡ pointer_in_pages page_of pointers bound c
    by_latest c by_last =
        last_below-is (test c) (in_pages c) bound (sound c)
        (λ q l t.
        let both = and_parts _ _ (sym (cond-true _ _ _ by_last) ∙ complete c q l t) in
        (leb-true _ _ both.0, ltb-true _ _ both.1))

    -- pages that pass give each character's pointer in the index that the table has
    pub pointer_in_pages-pointer_of : (index : ℕ → Option ℕ) → ((p : ℕ) → at p ≡ index p)
        → (c : ℕ) → pointer_in_pages page_of pointers bound c
        ≡ pointer_of index counts is_by_last bound c
    pointer_in_pages-pointer_of index same c =
        let alike : (λ p. at p) ≡ index = λ i p. same p i in
        sym (cond_both (is_by_last c) (last_below (test c) bound) (first_below (test c) bound)
        (λ o. o ≡ pointer_in_pages page_of pointers bound c) (by_latest c) (by_first c))
        ∙ ap (λ f. pointer_of f counts is_by_last bound c) alike
