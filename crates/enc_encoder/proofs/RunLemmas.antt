-- Runs of characters that the designated character set has are steps.
use Rattle.std.proofs.Common.{◌≡◌, ℕ, ◌≤◌, Bool, false, None, List, [], ◌∷◌, ◌++◌, length, refl, ap, ◌∙◌, sym, subst}
use Rattle.std.proofs.Common.{arith, length-append}
use Rattle.enc_utf8.specs.Pieces.{Piece, EachMeansChar}
use Rattle.enc_utf8.specs.Pieces as pieces
use Rattle.enc_input.specs.Mappings.{WritesMapped}
use Rattle.enc_encoder.specs.declared.character_set.CharacterSet.{CharacterSet}
use Rattle.enc_encoder.specs.EncoderRule.{EncoderRule, RawEncoderState}
use Rattle.enc_encoder.specs.Steps.{Step, steps_of, steps_from_state, step_chars, step_bytes, any_reported}
use Rattle.enc_encoder.specs.Steps.{set_after_steps}
use Rattle.enc_encoder.specs.Writes.{Place, Writes, place}
use Rattle.enc_encoder.specs.Runs.{IsWrittenIn, WritesRun}
use Rattle.enc_encoder.proofs.LeavesLemmas.{writes_nothing}

-- no steps are added
pub no_more_steps : {last : Bool} {from to : Place} → Writes last from to
    → length (steps_from_state to.state last to.rest)
    ≤ length (steps_from_state from.state last from.rest)
no_more_steps {last} {to = to} writes =
    let all = length-append writes.done (steps_from_state to.state last to.rest) in
    omega (arith, ap length writes.leaves.remaining, all)

-- an empty run
pub writes_none : (v : RawEncoderState) (src before : List ℕ) (at : ℕ) → at ≤ length before
    → WritesRun v src src before before at 0
writes_none v src before at within last to to_is =
    subst (λ n. Writes last (place v src before at) (place v src before n))
    (omega (arith, to_is)) (writes_nothing last (place v src before at) within)

module _ (e : EncoderRule) (s : CharacterSet) where
  abbrev steps_in : List Piece → List Step
  steps_in [] = []
  steps_in (p ∷ ps) = record { bytes = p.bytes; reads = p.char ∷ []; report = None; set = s }
      ∷ steps_in ps

  their_chars : (ps : List Piece) → step_chars (steps_in ps) ≡ pieces.piece_chars ps
  their_chars [] = refl
  their_chars (p ∷ ps) = ap (λ x. p.char ∷ x) (their_chars ps)

  their_bytes : (ps : List Piece) → step_bytes (steps_in ps) ≡ pieces.piece_bytes ps
  their_bytes [] = refl
  their_bytes (p ∷ ps) = ap (λ x. p.bytes ++ x) (their_bytes ps)

  no_reports : (ps : List Piece) → any_reported (steps_in ps) ≡ false
  no_reports [] = refl
  no_reports (p ∷ ps) = no_reports ps

  same_set : (ps : List Piece) → s ≡ set_after_steps s (steps_in ps)
  same_set [] = refl
  same_set (p ∷ ps) = same_set ps

  their_steps : (last : Bool) (rest : List ℕ) (ps : List Piece) → EachMeansChar (IsWrittenIn e s) ps
      → steps_of e last s (pieces.piece_chars ps ++ rest) ≡ steps_in ps ++ steps_of e last s rest
  unfolding steps_of
  their_steps last rest [] each_means = refl
  their_steps last rest (p ∷ ps) each_means =
      rw (each_means.0.0, each_means.0.1)
      (ap (λ x. record { bytes = p.bytes; reads = p.char ∷ []; report = None; set = s } ∷ x)
      (their_steps last rest ps each_means.1))

  pub writes_in_set : {src rest before after : List ℕ} {at n : ℕ}
      → WritesMapped (IsWrittenIn e s) src rest before after at n
      → WritesRun (record { rule = e; set = s }) src rest before after at n
  writes_in_set {rest = rest} mapped last to to_is =
      let pieces = mapped.pieces in
      record {
        done = steps_in pieces;
        leaves = record {
          reads = mapped.reads ∙ ap (λ x. x ++ rest) (sym (their_chars pieces));
          remaining = ap (steps_of e last s) mapped.reads
              ∙ their_steps last rest pieces mapped.mean;
          rule = refl;
          set = same_set pieces;
        };
        none_reported = no_reports pieces;
        adds = rw (their_bytes pieces, to_is)
            (record { count = rw mapped.count refl; fits = mapped.fits; onto = mapped.onto });
      }
