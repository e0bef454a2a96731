-- Sequences that are put out one by one, malformed ones among them.
use Rattle.std.proofs.Common.{◌≡◌, ℕ, ◌+◌, ◌<◌, ◌≤◌, true, List, [], ◌∷◌, ◌++◌, length, get_or, take, drop, ap}
use Rattle.std.proofs.Common.{◌∙◌, sym, subst, arith, append-nil, length-drop}
use Rattle.std.proofs.Common.{nat_le}
use Rattle.std.proofs.lemmas.Bool.{leb-true}
use Rattle.enc_output.specs.Output.{Output, with_appended}
use Rattle.enc_utf8.specs.Text.{AreScalars}
use Rattle.enc_decoder.specs.declared.byte_codec.Kind.{Kind}
use Rattle.enc_decoder.specs.Sequence.{Sequence}
use Rattle.enc_decoder.specs.Segmentation.{Rule, sequences_of}
use Rattle.enc_decoder.specs.CodecState.{CodecState}
use Rattle.enc_decoder.specs.Taking.{IsSequenceBefore, IsWholeSequence, IsReplacedCharAt, TakesSequences}
use Rattle.enc_decoder.proofs.TakingLemmas.{takes_more}
use Rattle.std.proofs.Common.{get_or-drop, refl}

-- bytes that are a sequence whatever follows them
pub whole_at : {rule : Rule} {set : ℕ} {src : List ℕ} {at n c : ℕ} (kind : Kind) (bytes : List ℕ)
    → take n (drop at src) ≡ bytes → IsWholeSequence kind rule set bytes c
    → IsReplacedCharAt rule set src at n c
whole_at {rule} {set} {c = c} kind bytes bytes_are whole = record {
  kind = kind;
  first = λ y _. subst (λ x. IsSequenceBefore y kind rule set x c) (sym bytes_are) (whole y);
}

-- bytes that are a sequence since the byte after them follows
pub before_byte : {rule : Rule} {set : ℕ} {src : List ℕ} {at n c : ℕ} (kind : Kind)
    (bytes : List ℕ)
    → take n (drop at src) ≡ bytes → at + n < length src
    → ((z : List ℕ) → IsSequenceBefore (get_or src (at + n) 0 ∷ z) kind rule set bytes c)
    → IsReplacedCharAt rule set src at n c
before_byte {rule} {set} {c = c} kind bytes bytes_are more before = record {
  kind = kind;
  first = λ y may_follow.
      let begins = may_follow more in
      subst (λ x. IsSequenceBefore y kind rule set x c) (sym bytes_are)
      (subst (λ x. IsSequenceBefore x kind rule set bytes c) (sym begins.1) (before begins.0));
}

-- One more is put out.
module _ {units_of : ℕ → List ℕ} (v : CodecState) {src : List ℕ} {at n c : ℕ}
    {before mid after : Output} where
  pub one_more : v.pending ≡ [] → TakesSequences units_of v v src at before mid
      → 0 < n → n ≤ length (drop at src) → IsReplacedCharAt v.rule v.set src at n c
      → AreScalars (c ∷ []) → nat_le (length (units_of c)) mid.room ≡ true
      → after ≡ with_appended mid (units_of c)
      → TakesSequences units_of v v src (at + n) before after
  one_more none_pending so_far some within found scalar fits_room onto =
      let bytes = take n (drop at src) in
      let next : Sequence =
      record { bytes = bytes; text = c ∷ []; kind = found.kind; set = v.set } in
      let same_units : units_of c ≡ units_of c ++ [] = sym (append-nil (units_of c)) in
      takes_more so_far (record {
        taken = next ∷ [];
        within = within;
        bytes = append-nil bytes;
        first = λ y may_follow.
            ap (λ q. sequences_of v.rule v.set (q ++ (bytes ++ y))) none_pending
            ∙ found.first y (λ more.
            let begins = may_follow (omega (arith, length-drop at src)) in
            (begins.0, begins.1 ∙ ap (λ b. b ∷ begins.0) (get_or-drop at src n 0)))
            ∙ ap (λ q. next ∷ sequences_of v.rule v.set (q ++ y)) (sym none_pending);
        next_state = refl;
        scalars = scalar;
        fits = omega (
          arith,
          ap length same_units,
          leb-true (length (units_of c)) mid.room fits_room,
        );
        written = onto ∙ ap (with_appended mid) same_units;
        none_pending = λ _. none_pending;
        none_taken = λ none. absurd (omega arith);
      })
