-- Encodings by the kinds of prefixes: the laws of their rules, and that incomplete bytes determine
-- nothing.
use Rattle.std.proofs.Common.{◌≡◌, ℕ, ◌+◌, ◌-◌, ◌<◌, zero, suc, List, [], ◌∷◌, ◌++◌, length, take, refl, ap, ◌∙◌}
use Rattle.std.proofs.Common.{true, sym, arith, subst, append-nil, append_assoc, inl, inr}
use Rattle.std.proofs.lemmas.Bool.{false≢true}
use Rattle.std.proofs.lemmas.List.{length-append, take_at}
use Rattle.enc_decoder.specs.declared.byte_codec.Kind.{Kind}
use Rattle.enc_decoder.specs.declared.byte_codec.Kind.TheVariants as kinds
use Rattle.enc_decoder.specs.declared.byte_codec.Text.{Text}
use Rattle.enc_decoder.specs.declared.byte_codec.Text.TheVariants.{One}
use Rattle.enc_decoder.specs.declared.prefix.Prefix.{Prefix}
use Rattle.enc_decoder.specs.declared.prefix.Prefix.TheVariants.{Complete, Malformed, Incomplete}
use Rattle.enc_decoder.specs.Sequence.{is_malformed}
use Rattle.enc_decoder.specs.Segmentation.{Head}
use Rattle.enc_decoder.specs.Remainder.{IsUndetermined}
use Rattle.enc_decoder.specs.CodecState.{remainder_of}
use Rattle.enc_decoder.specs.CodecLaw.{text_chars}
use Rattle.enc_decoder.specs.Latin1.{HasNoByteSequences}
use Rattle.enc_decoder.specs.RuleLaws.{HasTexts, IsSmallText, IsDeterminedWithin, IsLookahead}
use Rattle.enc_decoder.specs.RuleLaws.{IsDeterminedByEnd, ReplacesMalformed, IsLawfulRule}
use Rattle.enc_decoder.specs.Prefixes.{IsPrefixText}
use Rattle.enc_decoder.specs.Prefixes.{prefix_head, prefix_rule}
use Rattle.enc_decoder.specs.Prefixes.{prefix_state, AreIncomplete, ArePrefixes}
use Rattle.enc_decoder.proofs.Latin1Lemmas.{has_bytes_by}
use Rattle.enc_decoder.proofs.EmissionLemmas.{nothing_pending}
use Rattle.enc_decoder.proofs.EndLemmas.{by_end_of}
use Rattle.enc_decoder.proofs.PrefixLaws.{one_is_text}
use Rattle.enc_decoder.proofs.FirstSequenceLemmas.{determined_by_head, looks_at_none, looks_by, IsDeterminedSoon}
use Rattle.enc_decoder.proofs.FirstSequenceLemmas.{lookahead_by, within_by, undetermined_by_end}
use Rattle.enc_decoder.proofs.PrefixLemmas.{still_incomplete, one_more, rule_at, Settles}
use Rattle.enc_decoder.proofs.PrefixLemmas.{settles_complete, settles_malformed, all_malformed}

module _ (prefix : List ℕ → Prefix) (laws : ArePrefixes prefix) where
  -- each head has a small text

  abbrev HasForm : Head → Type 0
  HasForm h = (text : Text) × IsPrefixText text × (h.text ≡ text_chars text)

  has_form : (set : ℕ) (front : List ℕ) (r : Prefix) (z : List ℕ) → prefix front ≡ r
      → HasForm (prefix_head prefix set front r z)
  has_form set front (Complete text) z front_is = (text, laws.texts front text front_is, refl)
  has_form set front (Malformed n) z front_is = (One 0xFFFD, one_is_text 0xFFFD, refl)
  has_form set front Incomplete [] front_is = (One 0xFFFD, one_is_text 0xFFFD, refl)
  has_form set front Incomplete (c ∷ z) front_is = has_form set (front ++ c ∷ []) _ z refl

  first_has_form : (set b : ℕ) (z : List ℕ) → HasForm (prefix_rule prefix set b z)
  unfolding prefix_rule
  first_has_form set b z = has_form set (b ∷ []) _ z refl

  -- and a malformed one U+FFFD

  replaced_head : (set : ℕ) (front : List ℕ) (r : Prefix) (z : List ℕ)
      → is_malformed (prefix_head prefix set front r z).kind ≡ true
      → (prefix_head prefix set front r z).text ≡ 0xFFFD ∷ []
  replaced_head set front (Complete text) z valid = absurd (false≢true valid)
  replaced_head set front (Malformed n) z malformed = refl
  replaced_head set front Incomplete [] malformed = refl
  replaced_head set front Incomplete (c ∷ z) malformed =
      replaced_head set (front ++ c ∷ []) _ z malformed

  replaced : ReplacesMalformed (prefix_rule prefix)
  unfolding prefix_rule
  replaced set b z malformed = replaced_head set (b ∷ []) _ z malformed

  pub prefixes_have_texts : HasTexts (prefix_rule prefix)
  prefixes_have_texts set b z no_text =
      let form = first_has_form set b z in form.1.some (sym form.2 ∙ no_text)

  -- incomplete bytes at the end of the input

  at_more : (set a : ℕ) (w more : List ℕ) → AreIncomplete prefix [] (a ∷ w)
      → prefix_rule prefix set a (w ++ more)
      ≡ prefix_head prefix set (a ∷ w) Incomplete more
  at_more set a w [] are_incomplete =
      rw (append-nil w) (all_malformed prefix set a w are_incomplete)
  at_more set a w (c ∷ z) are_incomplete =
      rule_at prefix set (a ∷ w) c z a (w ++ c ∷ z) are_incomplete refl

  pub by_end : (set a : ℕ) (w : List ℕ) → AreIncomplete prefix [] (a ∷ w)
      → IsDeterminedByEnd (prefix_rule prefix) set a w
  by_end set a w are_incomplete =
      let incomplete = still_incomplete prefix [] (a ∷ w) laws.nothing are_incomplete in
      let can_be = laws.can_be_other (a ∷ w) (omega arith) incomplete in
      by_end_of (prefix_rule prefix) set a w can_be.more
      (all_malformed prefix set a w are_incomplete) (at_more set a w can_be.more are_incomplete)
      (can_be.other set) can_be.bytes (omega arith) (omega arith)

  -- the same without the byte after them
  by_end_at : (set : ℕ) (w : List ℕ) (c : ℕ) (z : List ℕ) (b : ℕ) (x : List ℕ) → 0 < length w
      → AreIncomplete prefix [] w → b ∷ x ≡ w ++ c ∷ z
      → IsDeterminedByEnd (prefix_rule prefix) set b (take (length w - 1) x)
  by_end_at set [] c z b x some are_incomplete parts = absurd (omega arith)
  by_end_at set (a ∷ w) c z b x some are_incomplete parts =
      let same_first : b ≡ a = cc in
      let same_rest : x ≡ w ++ c ∷ z = cc in
      rw (same_first, same_rest, take_at w (c ∷ z) (length (a ∷ w) - 1) (omega arith))
      (by_end set a w are_incomplete)

  -- the bytes that determine a sequence

  module _ (set : ℕ) (w : List ℕ) (c : ℕ) (z : List ℕ) (b : ℕ) (x : List ℕ)
      (are_incomplete : AreIncomplete prefix [] w) (parts : b ∷ x ≡ w ++ c ∷ z) where
    one_longer : length (w ++ c ∷ []) ≡ length w + 1
    one_longer = length-append w (c ∷ [])

    first_is : {n : ℕ} {text : Text} {kind : Kind} → Settles prefix (w ++ c ∷ []) n text kind
        → prefix_rule prefix set b x
        ≡ record { more = n - 1; text = text_chars text; kind = kind; set = set }
    first_is settles = rule_at prefix set w c z b x are_incomplete parts ∙ settles.head set z

    settled_determined : {n : ℕ} {text : Text} {kind : Kind} (d : ℕ)
        → d + n ≡ length (w ++ c ∷ []) → Settles prefix (w ++ c ∷ []) n text kind
        → IsDeterminedWithin (prefix_rule prefix) set b x d
    settled_determined {n} d are_all settles =
        let own_and_rest : (n - 1) + d ≡ length w = omega (arith, settles.some, one_longer) in
        let length_is = ap length parts ∙ length-append w (c ∷ z) in
        let front_is : b ∷ take (length w) x ≡ w ++ c ∷ [] =
        ap (take (suc (length w))) (parts ∙ sym (append_assoc w (c ∷ []) z))
        ∙ take_at (w ++ c ∷ []) z (suc (length w)) (omega (arith, one_longer)) in
        determined_by_head (prefix_rule prefix) set b x d _ (first_is settles)
        (omega (arith, own_and_rest, length_is))
        (λ y. rule_at prefix set w c y b _ are_incomplete
        (ap (λ i. b ∷ (take i x ++ y)) own_and_rest ∙ ap (λ t. t ++ y) front_is
        ∙ append_assoc w (c ∷ []) y)
        ∙ settles.head set y)

    -- without the byte that breaks the sequence, only the end of the input would determine it
    malformed_looks : {n : ℕ} (d : ℕ) → d + n ≡ length (w ++ c ∷ [])
        → Settles prefix (w ++ c ∷ []) n (One 0xFFFD) kinds.Malformed
        → IsLookahead (prefix_rule prefix) set b x d
    malformed_looks zero are_all settles =
        looks_at_none (prefix_rule prefix) set b x (settled_determined 0 are_all settles)
    malformed_looks (suc i) are_all settles =
        let more_is = ap (λ (h : Head). h.more) (first_is settles) in
        looks_by (prefix_rule prefix) set b x i (length w - 1)
        (settled_determined (suc i) are_all settles)
        (omega (arith, more_is, one_longer, settles.some))
        (by_end_at set w c z b x (omega (arith, one_longer, settles.some)) are_incomplete parts)

    determined_with : (r : Prefix) → prefix (w ++ c ∷ []) ≡ r
        → (r ≡ Incomplete → IsDeterminedSoon (prefix_rule prefix) set b x)
        → IsDeterminedSoon (prefix_rule prefix) set b x
    determined_with (Complete text) is_prefix further =
        inl (settled_determined 0 (omega arith)
        (settles_complete prefix (w ++ c ∷ []) text (omega (arith, one_longer)) is_prefix))
    determined_with (Malformed n) is_prefix further =
        let settles = settles_malformed prefix laws (w ++ c ∷ []) n is_prefix in
        let few = laws.short w (still_incomplete prefix [] w laws.nothing are_incomplete) in
        let rest = length (w ++ c ∷ []) - n in
        inr (
          (λ valid. let kind_is = ap (λ (h : Head). h.kind) (first_is settles) in cc),
          inl (
            rest,
            omega (arith, settles.some, one_longer),
            malformed_looks rest (omega (arith, settles.own)) settles,
          ),
        )
    determined_with Incomplete is_prefix further = further refl

  determined_from : (set : ℕ) (w z : List ℕ) (b : ℕ) (x : List ℕ) → AreIncomplete prefix [] w
      → b ∷ x ≡ w ++ z
      → IsDeterminedSoon (prefix_rule prefix) set b x
  determined_from set [] [] b x are_incomplete parts = absurd (cc)
  determined_from set (a ∷ w) [] b x are_incomplete parts =
      let same_first : b ≡ a = cc in
      let same_rest : x ≡ w ++ [] = cc in
      rw (same_first, same_rest, append-nil w) (inr (
        (λ valid. let kind_is = ap (λ (h : Head). h.kind)
            (all_malformed prefix set a w are_incomplete) in cc),
        inr (by_end set a w are_incomplete),
      ))
  determined_from set w (c ∷ z) b x are_incomplete parts =
      determined_with set w c z b x are_incomplete parts (prefix (w ++ c ∷ [])) refl
      (λ incomplete. determined_from set (w ++ c ∷ []) z b x
      (one_more prefix [] w c are_incomplete incomplete)
      (parts ∙ sym (append_assoc w (c ∷ []) z)))

  pub prefixes_are_lawful : IsLawfulRule (prefix_rule prefix)
  prefixes_are_lawful = record {
    lookahead = lookahead_by (prefix_rule prefix)
        (λ set b z. determined_from set [] (b ∷ z) b z tt refl);
    small_texts = λ set b z. let form = first_has_form set b z in
        subst IsSmallText (sym form.2) form.1.small;
    replacements = replaced;
  }

  pub undetermined : (w : List ℕ) → AreIncomplete prefix [] w
      → IsUndetermined (remainder_of (prefix_state prefix w)).sequences
  undetermined [] are_incomplete = nothing_pending (prefix_state prefix []) refl
  undetermined (a ∷ w) are_incomplete =
      undetermined_by_end (prefix_rule prefix) 0 a w
      (within_by (prefix_rule prefix) prefixes_are_lawful.lookahead 0 a)
      (by_end 0 a w are_incomplete)

-- a byte that is complete is valid by itself
pub prefixes_have_bytes : (prefix : List ℕ → Prefix) (b : ℕ) (text : Text)
    → prefix (b ∷ []) ≡ Complete text
    → ¬ (HasNoByteSequences (prefix_rule prefix))
prefixes_have_bytes prefix b text complete =
    let is_head = rule_at prefix 0 [] b [] b [] tt refl
    ∙ ap (λ r. prefix_head prefix 0 (b ∷ []) r []) complete in
    has_bytes_by (prefix_rule prefix) b [] (ap (λ (t : Head). t.kind) is_head)
    (ap (λ (t : Head). t.more) is_head)
