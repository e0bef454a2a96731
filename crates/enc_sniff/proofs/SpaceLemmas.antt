-- White space at the front of some bytes, and bytes that are copied one by one.
use Rattle.std.proofs.Common.{◌≡◌, ℕ, suc, ◌+◌, ◌<◌, true, false, List, [], ◌∷◌, ◌++◌, length, take}
use Rattle.std.proofs.Common.{refl, sym, ap, ◌∙◌, arith}
use Rattle.std.specs.Prelude.{set}
use Rattle.std.specs.List.{prefix_len, list_all}
use Rattle.std.specs.Char.{is_ascii_whitespace}
use Rattle.std.proofs.lemmas.List.{take_more_set, append_assoc}
use Rattle.enc_sniff.specs.Positions.{past}

-- white space at the front
pub space_first :
    (s : List ℕ) (b : ℕ) (rest : List ℕ) → s ≡ b ∷ rest → is_ascii_whitespace b ≡ true
    → past is_ascii_whitespace rest ≡ past is_ascii_whitespace s
space_first s b rest same is_space =
    let here : past is_ascii_whitespace (b ∷ rest) ≡ past is_ascii_whitespace rest =
    rw (is_space, one_more (prefix_len is_ascii_whitespace rest)) refl in
    sym here ∙ ap (past is_ascii_whitespace) (sym same)
  where
    one_more : (n : ℕ) → 1 + n ≡ suc n
    one_more n = omega arith

-- another byte at the front
pub other_first :
    (s : List ℕ) (b : ℕ) (rest : List ℕ) → s ≡ b ∷ rest → is_ascii_whitespace b ≡ false
    → s ≡ past is_ascii_whitespace s
other_first s b rest same is_other =
    let here : b ∷ rest ≡ past is_ascii_whitespace (b ∷ rest) = rw is_other refl in
    same ∙ here ∙ ap (past is_ascii_whitespace) (sym same)

-- whether all bytes are white space, by the first
pub all_after_space :
    (s : List ℕ) (b : ℕ) (rest : List ℕ) → s ≡ b ∷ rest → is_ascii_whitespace b ≡ true
    → list_all is_ascii_whitespace rest ≡ list_all is_ascii_whitespace s
all_after_space s b rest same is_space =
    let here : list_all is_ascii_whitespace (b ∷ rest) ≡ list_all is_ascii_whitespace rest =
    rw is_space refl in
    sym here ∙ ap (list_all is_ascii_whitespace) (sym same)

pub not_all :
    (s : List ℕ) (b : ℕ) (rest : List ℕ) → s ≡ b ∷ rest → is_ascii_whitespace b ≡ false
    → false ≡ list_all is_ascii_whitespace s
not_all s b rest same is_other =
    let here : false ≡ list_all is_ascii_whitespace (b ∷ rest) = rw is_other refl in
    here ∙ ap (list_all is_ascii_whitespace) (sym same)

-- a byte more is copied
pub one_copied :
    (room s rest whole : List ℕ) (len b : ℕ) → s ≡ b ∷ rest → take len room ++ s ≡ whole
    → len < length room → take (len + 1) (set room len b) ++ rest ≡ whole
one_copied room s rest whole len b same copied within =
    ap (λ (front : List ℕ). front ++ rest) (take_more_set room len b within)
    ∙ append_assoc (take len room) (b ∷ []) rest
    ∙ ap (λ (t : List ℕ). take len room ++ t) (sym same) ∙ copied
