-- Places of the bytes of a multi-byte encoding: of a byte that is a character, and of two.
use Rattle.std.proofs.Common.{◌≡◌, ◌∙◌, ℕ, ◌<◌, Bool, true, false, cond, nat_le, List, [], ◌∷◌, sym, subst, arith, refl}
use Rattle.std.proofs.lemmas.Bool.Decides.{nat_tests}
use Rattle.enc_decoder.specs.declared.byte_codec.Kind.TheVariants.{Valid}
use Rattle.enc_decoder.specs.declared.byte_codec.Text.TheVariants.{One}
use Rattle.enc_decoder.specs.Taking.{IsWholeChar}
use Rattle.enc_index.specs.Grid.{Shape, IsPlaceOf}
use Rattle.enc_index.proofs.GridLemmas.{grid_char-of_ascii}
use Rattle.enc_index.proofs.PlaceLemmas.{places_of, same_some}
use Rattle.enc_output.specs.Pairs.{byte_or_pair}
use Rattle.enc_decoder.specs.declared.prefix.Prefix.{Prefix}
use Rattle.enc_decoder.specs.declared.prefix.Prefix.TheVariants.{Complete, Incomplete}
use Rattle.enc_decoder.specs.Prefixes.{prefix_rule, HasAscii}
use Rattle.enc_decoder.proofs.PrefixLemmas.{complete_one, complete_two}
use Rattle.enc_decoder_multi_byte.specs.MultiByte.{IsCharPair}

-- the place of a byte: that of the pair that it leads, and its own number if it is ASCII
module _ (shape : Shape) (prefix : List ℕ → Prefix) (a b pair : ℕ) (ascii : HasAscii prefix)
    (of_pair : IsPlaceOf shape (IsCharPair prefix a b) pair) where
  abbrev IsPlace : Bool → ℕ → Type 0
  IsPlace leads place =
      IsPlaceOf shape (IsWholeChar (prefix_rule prefix) 0 (byte_or_pair leads a b)) place

  either_place : (t : Bool) → nat_le 0x80 a ≡ t → IsPlace t (cond t pair a)
  either_place true e = places_of of_pair (λ c p. complete_two prefix a b c p.first p.both)
  either_place false e =
      let low : a < 0x80 = grind (arith, nat_tests, e) in
      record {
        within = omega arith;
        char = λ c has. subst (IsWholeChar (prefix_rule prefix) 0 (a ∷ []))
            (same_some a c (sym (grid_char-of_ascii shape a low) ∙ has))
            (complete_one prefix a a (ascii a low));
      }

  pub byte_place : {leads : Bool} {place : ℕ} → leads ≡ nat_le 0x80 a
      → place ≡ cond (nat_le 0x80 a) pair a
      → IsPlace leads place
  byte_place {leads} {place} e f =
      subst (λ t. IsPlace t place) (sym e)
      (subst (IsPlace (nat_le 0x80 a)) (sym f) (either_place (nat_le 0x80 a) refl))
