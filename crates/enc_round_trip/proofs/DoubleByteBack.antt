-- Encodings of one byte and two: a pair is read where its lead leads and its text is found.
use Rattle.std.proofs.Common.{◌≡◌, ℕ, ◌<◌, ◌≤◌, Bool, true, false, nat_lt, nat_le, ◌&&◌, Option, Some, None, []}
use Rattle.std.proofs.Common.{◌∷◌, ap, ◌∙◌, if◌then◌else◌}
use Rattle.std.proofs.lemmas.Bool.{lt-ltb, le-leb, cond-true, and_from}
use Rattle.enc_decoder.specs.declared.byte_codec.Text.{Text}
use Rattle.enc_decoder.specs.declared.byte_codec.Text.TheVariants.{One}
use Rattle.enc_decoder.specs.Taking.{IsWholeChar}
use Rattle.enc_decoder_multi_byte.specs.DoubleByte.{first_prefix, trail_prefix, double_byte_prefix}
use Rattle.enc_decoder.specs.Prefixes.{single_prefix, prefix_rule}
use Rattle.enc_decoder.proofs.PrefixLemmas.{complete_one, complete_two}
use Rattle.enc_encoder.specs.Stateless.{with_ascii, bytes_of_pointer}
use Rattle.enc_round_trip.proofs.ReadBackLemmas.{IsReadBack, with_ascii_is_read}
use Rattle.enc_round_trip.proofs.PointerLemmas.{by_pointer}

pub within : (low high b : ℕ) → low ≤ b → b ≤ high → (nat_le low b && nat_le b high) ≡ true
within low high b l h = and_from _ _ (le-leb low b l) (le-leb b high h)

module _ (is_lead : ℕ → Bool) (single : ℕ → Option ℕ) (pair : ℕ → ℕ → Option Text) where
  pub single_piece : (b c : ℕ) → is_lead b ≡ false → single b ≡ Some c
      → IsWholeChar (prefix_rule (double_byte_prefix is_lead single pair)) 0 (b ∷ []) c
  single_piece b c l e =
      complete_one _ b c (ap (λ t. first_prefix t (single b)) l ∙ ap single_prefix e)

  pub pair_piece : (a b c : ℕ) → is_lead a ≡ true → pair a b ≡ Some (One c)
      → IsWholeChar (prefix_rule (double_byte_prefix is_lead single pair)) 0 (a ∷ b ∷ []) c
  pair_piece a b c l e =
      complete_two _ a b c (ap (λ t. first_prefix t (single a)) l) (ap (trail_prefix 1 b) e)

-- the lead and the trail that a pointer has make the pair of its character
pub record IsPair (is_lead : ℕ → Bool) (pair : ℕ → ℕ → Option Text)
    (lead trail c : ℕ) : Type 0 where
  pub leads : is_lead lead ≡ true
  pub has : pair lead trail ≡ Some (One c)

-- if no ASCII byte leads, and all other characters have pointers
pub by_pairs : (is_lead : ℕ → Bool) (pair : ℕ → ℕ → Option Text) (lead trail : ℕ → ℕ)
    (pointer : ℕ → Option ℕ)
    → ((b : ℕ) → b < 0x80 → is_lead b ≡ false)
    → ((c p : ℕ) → pointer c ≡ Some p → IsPair is_lead pair (lead p) (trail p) c)
    → IsReadBack
    (prefix_rule (double_byte_prefix is_lead (λ b. if nat_lt b 0x80 then Some b else None)
    pair))
    (with_ascii (λ c. bytes_of_pointer (λ p. lead p ∷ trail p ∷ []) (pointer c))) (λ c. c)
by_pairs is_lead pair lead trail pointer alone pairs =
    let single : ℕ → Option ℕ = λ b. if nat_lt b 0x80 then Some b else None in
    let rule = prefix_rule (double_byte_prefix is_lead single pair) in
    with_ascii_is_read rule (λ c. bytes_of_pointer (λ p. lead p ∷ trail p ∷ []) (pointer c))
    (λ c. c)
    (λ c is_low. single_piece is_lead single pair c c (alone c is_low)
    (cond-true _ _ _ (lt-ltb c 0x80 is_low)))
    (λ c high. by_pointer (λ x. IsWholeChar rule 0 x c) (λ p. lead p ∷ trail p ∷ []) (pointer c)
    (λ p found. (let paired = pairs c p found in
    pair_piece is_lead single pair (lead p) (trail p) c paired.leads paired.has)))
