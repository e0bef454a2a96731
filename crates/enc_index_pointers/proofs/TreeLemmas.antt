-- A list as a tree, for a test that looks many places up.
use Rattle.std.proofs.Common.{◌≡◌, ℕ, zero, suc, ◌+◌, ◌-◌, ◌*◌, ◌/◌, ◌%◌, ◌^◌, refl, ap, ◌∙◌, cond, nat_lt}
use Rattle.std.proofs.Common.{List, get_or, drop, length, arith, inl, inr, lt-ltb, le-ltb, get_or-drop}
use Rattle.std.proofs.lemmas.Bool.{cond-true, cond-false, cases_lt}
use Rattle.enc_index_pointers.specs.Pages.{number_in_pages}

pub data Tree : Type 0 where
  leaf : List ℕ → Tree
  node : ℕ → Tree → Tree → Tree

-- a list as a tree of height n, which halves its first 2 ^ n places
unfoldable pub plant : ℕ → List ℕ → Tree
plant zero xs = leaf xs
plant (suc n) xs = node (2 ^ n) (plant n xs) (plant n (drop (2 ^ n) xs))

-- what the list has at a place, and the default d beyond it
unfoldable pub look : ℕ → Tree → ℕ → ℕ
look d (leaf xs) i = get_or xs i d
look d (node m a b) i =
    let low = look d a i in let high = look d b (i - m) in cond (nat_lt i m) low high

pub look-plant : (d n : ℕ) (xs : List ℕ) (i : ℕ) → look d (plant n xs) i ≡ get_or xs i d
unfolding plant look
look-plant d zero xs i = refl
look-plant d (suc n) xs i =
    elim (cases_lt i (2 ^ n)) [
      | inl low ↦ cond-true _ _ _ (lt-ltb i (2 ^ n) low) ∙ look-plant d n xs i
      | inr high ↦
          cond-false _ _ _ (le-ltb i (2 ^ n) high)
          ∙ look-plant d n (drop (2 ^ n) xs) (i - 2 ^ n)
          ∙ get_or-drop (2 ^ n) xs (i - 2 ^ n) d ∙ ap (λ k. get_or xs k d) (omega arith)
    ]

-- the number in the pages at a code point
unfoldable pub number_in_tree : Tree → Tree → ℕ → ℕ → ℕ
number_in_tree page_of pointers length c =
    look 0xFFFF pointers (look length page_of (c / 64) * 64 + c % 64)

pub number_in_tree-plant : (m k : ℕ) (page_of pointers : List ℕ) (c : ℕ)
    → number_in_tree (plant k page_of) (plant m pointers) (length pointers) c
    ≡ number_in_pages page_of pointers c
unfolding number_in_tree
number_in_tree-plant m k page_of pointers c =
    look-plant 0xFFFF m pointers _
    ∙ ap (λ x. get_or pointers (x * 64 + c % 64) 0xFFFF)
    (look-plant (length pointers) k page_of (c / 64))
