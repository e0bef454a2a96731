-- Runs of whole sequences, taken one after another, and how far an event brings the loop.
use Rattle.std.proofs.Common.{◌≡◌, ℕ, zero, suc, ◌+◌, ◌<◌, List, [], ◌∷◌, ◌++◌, length, take}
use Rattle.std.proofs.Common.{drop, refl, ap, ◌∙◌, sym, subst, arith, append_assoc, length-append}
use Rattle.std.proofs.Common.{length-drop, take-add, drop-cons, get_or-drop, inl, inr}
use Rattle.std.proofs.lemmas.Bool.{cases_lt}
use Rattle.enc_output.specs.Output.{Output}
use Rattle.enc_utf8.specs.Text.{units_of_text}
use Rattle.enc_output.proofs.OutputLemmas.{with_appended-nil, with_appended-with_appended, room_left}
use Rattle.enc_decoder.specs.Sequence.{sequence_text, set_after}
use Rattle.enc_decoder.specs.CodecState.{CodecState}
use Rattle.enc_decoder.specs.CodecLaw.{MayFollow}
use Rattle.enc_decoder.specs.Taking.{TakesSequences, TakesRun}
use Rattle.enc_decoder.proofs.SequenceLemmas.{sequence_bytes-append, units-append, any_malformed-append}
use Rattle.enc_decoder.proofs.SequenceLemmas.{set_after-append, scalars_of-append}

pub front : (k : ℕ) (xs : List ℕ) (b : ℕ) (zs : List ℕ) → 0 < k → xs ≡ b ∷ zs → (z : List ℕ)
    × (take k xs ≡ b ∷ z)
front zero xs b zs h e = absurd (omega arith)
front (suc k) xs b zs h e = (take k zs, ap (take (suc k)) e)

-- What may follow two parts of the bytes may follow the second of them, and the second with it may
-- follow the first.

pub follows_second : (src : List ℕ) (read more : ℕ) (y : List ℕ) → MayFollow src (read + more) y
    → MayFollow (drop read src) more y
follows_second src read more y may_follow there =
    let begins = may_follow (omega (arith, length-drop read src)) in
    (begins.0, begins.1 ∙ ap (λ b. b ∷ begins.0) (sym (get_or-drop read src more 0)))

pub follows_first : (src : List ℕ) (read more : ℕ) (y : List ℕ) → MayFollow src (read + more) y
    → MayFollow src read (take more (drop read src) ++ y)
follows_first src read zero y may_follow =
    let same_place : read + 0 ≡ read = omega arith in
    subst (λ k. MayFollow src k y) same_place may_follow
follows_first src read (suc more) y may_follow = λ there. (
  take more (drop (suc read) src) ++ y,
  ap (λ x. take (suc more) x ++ y) (drop-cons src read 0 there),
)

-- Nothing is taken.
abbrev pub takes_nothing : (units_of : ℕ → List ℕ) (v : CodecState) (src : List ℕ) (o : Output)
    → TakesSequences units_of v v src 0 o o
takes_nothing units_of v src o = record {
  taken = [];
  within = omega arith;
  bytes = refl;
  first = λ y _. refl;
  next_state = refl;
  scalars = refl;
  fits = omega arith;
  written = sym (with_appended-nil o);
  none_pending = λ h. absurd (omega arith);
  none_taken = λ _. refl;
}

pub takes_none : {C : Type 0} (units_of : ℕ → List ℕ) (state : C → CodecState) (c : C)
    (src : List ℕ) (o : Output)
    → TakesRun units_of state c c src 0 o o
takes_none units_of state c src o =
    record { run = takes_nothing units_of (state c) src o; none_malformed = refl }

-- more of them after those that are taken
module _ {units_of : ℕ → List ℕ} {u v : CodecState} {src : List ℕ} {read : ℕ}
    {before mid : Output} (first : TakesSequences units_of u v src read before mid) where
  pub takes_more : {w : CodecState} {more : ℕ} {after : Output}
      → TakesSequences units_of v w (drop read src) more mid after
      → TakesSequences units_of u w src (read + more) before after
  takes_more {w} {more} next =
      let bytes = take more (drop read src) in
      let first_units = units_of_text units_of (sequence_text first.taken) in
      let more_units = units_of_text units_of (sequence_text next.taken) in
      let both = units-append units_of first.taken next.taken in
      record {
        taken = first.taken ++ next.taken;
        within = omega (arith, first.within, next.within, length-drop read src);
        bytes = rw (sequence_bytes-append, first.bytes, next.bytes, take-add read more src) refl;
        first = λ y may_follow. rw (
          take-add read more src,
          append_assoc (take read src) bytes y,
          first.first (bytes ++ y) (follows_first src read more y may_follow),
          next.first y (follows_second src read more y may_follow),
          append_assoc first.taken next.taken,
        ) refl;
        next_state = next.next_state
            ∙ ap (λ (s : CodecState). record s { set = set_after s.set next.taken })
            first.next_state
            ∙ ap (λ k. record u { set = k }) (sym (set_after-append u.set first.taken next.taken));
        scalars = scalars_of-append first.taken next.taken first.scalars next.scalars;
        fits = omega (
          arith,
          ap length both,
          length-append first_units more_units,
          first.fits,
          next.fits,
          room_left before mid first_units first.written,
        );
        written = rw (
          next.written,
          first.written,
          with_appended-with_appended before first_units more_units,
          both,
        ) refl;
        none_pending = λ some. elim (cases_lt 0 read) [
          | inl some_first ↦ first.none_pending some_first
          | inr none_first ↦ sym (ap (λ (s : CodecState). s.pending) first.next_state)
              ∙ next.none_pending (omega arith)
        ];
        none_taken = λ none. ap (λ ss. ss ++ next.taken) (first.none_taken (omega arith))
            ∙ next.none_taken (omega arith);
      }

-- a run is taken after another
module _ {C : Type 0} {units_of : ℕ → List ℕ} {state : C → CodecState} {c : C} {src : List ℕ}
    {before : Output} where
  pub takes_both : {m n : C} {read more : ℕ} {mid after : Output} {rest : List ℕ}
      → rest ≡ drop read src → TakesRun units_of state c m src read before mid
      → TakesRun units_of state m n rest more mid after
      → TakesRun units_of state c n src (read + more) before after
  unfolding takes_more
  takes_both {m} {n} {more = more} {mid} {after} is_rest first given =
      let next = subst (λ z. TakesRun units_of state m n z more mid after) is_rest given in
      record {
        run = takes_more first.run next.run;
        none_malformed = any_malformed-append first.run.taken next.run.taken
            ∙ rw (first.none_malformed, next.none_malformed) refl;
      }
