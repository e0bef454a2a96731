-- The place of a label in the table gives its encoding.
use Rattle.std.proofs.Common.{◌≡◌, ◌∙◌, ℕ, suc, ◌<◌, Bool, true, false, List, [], ◌∷◌, map, length, get_or, inl, inr}
use Rattle.std.proofs.Common.{Option, Some, None, is_some, refl, sym, subst, ap, arith}
use Rattle.std.specs.Prelude.{option_map, IfSome}
use Rattle.std.specs.List.{list_all}
use Rattle.std.specs.Char.{to_ascii_lowercase}
use Rattle.std.specs.Str.{bytes_eq, IsTrimAscii}
use Rattle.std.proofs.lemmas.Bool.{false≢true, cases_Bool, and_parts}
use Rattle.std.proofs.lemmas.List.{get_or-map, length-map}
use Rattle.std.proofs.lemmas.Slice.Eq.{bytes_eq-Decides}
use Rattle.std.proofs.lemmas.Str.Ascii.{trim_ascii_is}
use Rattle.enc_names.specs.Place.{word_place}
use Rattle.enc_names.specs.Table.{table}
use Rattle.enc_names.specs.declared.encoding_id.EncodingId.{EncodingId}
use Rattle.enc_names.proofs.WordSearchLemmas.{differs}
use Rattle.enc_names.specs.LabelIds.{id_pairs, id_paired_with, trim_start, trim_end, id_of_label}

-- at the place of a word stands that word
placed : (labels : List (List ℕ)) (word : List ℕ)
    → IfSome (word_place labels word) (λ i. get_or labels i [] ≡ word)
placed [] word = tt
placed (label ∷ labels) word = elim (cases_Bool (bytes_eq label word)) [
  | inl equal ↦ rw equal ((bytes_eq-Decides label word).0 equal)
  | inr differ ↦ rw differ (later (word_place labels word) (placed labels word))
]
  where
    later : (o : Option ℕ) → IfSome o (λ i. get_or labels i [] ≡ word)
        → IfSome (option_map suc o) (λ i. get_or (label ∷ labels) i [] ≡ word)
    later None in_rest = tt
    later (Some i) in_rest = in_rest

-- a word that is no label of the table is no label

have_places : List (List ℕ × EncodingId) → Bool
have_places pairs = list_all (λ pair. is_some (word_place table pair.0)) pairs

all_have_places : have_places id_pairs ≡ true
unfolding have_places id_pairs table
all_have_places = refl

unplaced : (pairs : List (List ℕ × EncodingId)) (word : List ℕ) → have_places pairs ≡ true
    → word_place table word ≡ None → id_paired_with pairs word ≡ None
unfolding have_places
unplaced [] word places_hold not_found = refl
unplaced (pair ∷ pairs) word places_hold not_found =
    let both = and_parts _ _ places_hold in
    let other : bytes_eq pair.0 word ≡ false = differs pair.0 word
    (λ same. false≢true (sym (ap is_some (ap (word_place table) same ∙ not_found)) ∙ both.0)) in
    rw (other, unplaced pairs word both.1 not_found) refl

-- the place of a trimmed label gives its encoding
module _ (label trimmed : List ℕ) (trim : IsTrimAscii label trimmed) where
  word_is : map to_ascii_lowercase trimmed ≡ map to_ascii_lowercase (trim_end (trim_start label))
  word_is = ap (map to_ascii_lowercase) (trim_ascii_is label trimmed (trim_start label) refl trim)

  pub gets : (encodings : List EncodingId) (i : ℕ) (d : EncodingId) → map Some encodings
      ≡ map (id_paired_with id_pairs) table → i < length encodings
      → Some i ≡ word_place table (map to_ascii_lowercase trimmed)
      → Some (get_or encodings i d) ≡ id_of_label label
  gets encodings i d listed within place_is =
      let word = map to_ascii_lowercase trimmed in
      sym (get_or-map Some encodings i d None within) ∙ ap (λ ids. get_or ids i None) listed
      ∙ get_or-map (id_paired_with id_pairs) table i [] None (omega (
        arith,
        ap length listed,
        length-map encodings Some,
        length-map table (id_paired_with id_pairs),
      ))
      ∙ ap (id_paired_with id_pairs)
      (subst (λ o. IfSome o (λ k. get_or table k [] ≡ word)) (sym place_is) (placed table word)
      ∙ word_is)

  pub gets_none : None ≡ word_place table (map to_ascii_lowercase trimmed)
      → None ≡ id_of_label label
  gets_none p = sym (unplaced id_pairs (map to_ascii_lowercase trimmed) all_have_places (sym p))
      ∙ ap (id_paired_with id_pairs) word_is
