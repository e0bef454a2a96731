-- A call over what earlier calls left is, with them, one call; and what both leave.
use Rattle.std.proofs.Common.{◌≡◌, ℕ, ◌+◌, ◌-◌, ◌<◌, ◌≤◌, Bool, true, List, [], ◌∷◌, ◌++◌, length, take, drop}
use Rattle.std.proofs.Common.{refl, ap, ◌∙◌, sym, arith, append_assoc, inl, inr, subst, ◌⊎◌, drop-drop}
use Rattle.std.proofs.Common.{length-drop}
use Rattle.std.proofs.Math.Seq.{take-add}
use Rattle.enc_output.specs.declared.decoder_result.DecoderResult.{DecoderResult}
use Rattle.enc_output.specs.declared.decoder_result.DecoderResult.TheVariants.{InputEmpty, OutputFull, Malformed}
use Rattle.enc_decoder.specs.Sequence.{Sequence, sequence_bytes, set_after}
use Rattle.enc_decoder.specs.Remainder.{Remainder, AreBytes, AreFirstSequences, Determines}
use Rattle.enc_decoder.specs.Call.{IsCall, IsRawCall, shifted_result}
use Rattle.enc_decoder.specs.CallRecord.{Call}
use Rattle.enc_decoder.proofs.SequenceLemmas.{sequence_bytes-append, set_after-append}
use Rattle.enc_decoder.proofs.DeterminedLemmas.{begins_after, determines_fewer}
use Rattle.enc_decoder.proofs.ByteLemmas.{bytes-drop, determines_by_more}
use Rattle.enc_decoder.proofs.StageLemmas.{Stage, HasWritten, IsPartAt, call_from, stage_at, stage_after}
use Rattle.enc_decoder.proofs.InnerInputLemmas.{ShiftsInput, MatchesRead, none_after_shown, determines_outside}
use Rattle.enc_decoder.proofs.InnerCallLemmas.{call_outside, reports_escape}

-- Calls that have come to this stage leave the remainder `mid` for the bytes after those read.
-- These determine the sequences done, at the latest with the next byte, and none after them.
pub record Leaves (old mid : Remainder) (stage : Stage) : Type 0 where
  pub sure : ℕ
  pub surely : stage.read ≤ sure
  pub soon : sure ≤ stage.read + 1
  pub within : stage.read ≤ length stage.src
  pub residual : (z : List ℕ) → (stage.last ≡ true → z ≡ [])
      → old.sequences (stage.src ++ z)
      ≡ stage.done ++ mid.sequences (drop stage.read stage.src ++ z)
  pub goes_on : (y : List ℕ)
      → AreFirstSequences stage.done (old.sequences (take stage.read stage.src ++ y))
      → old.sequences (take stage.read stage.src ++ y) ≡ stage.done ++ mid.sequences y
  pub set : mid.set ≡ set_after old.set stage.done
  pub shown : (n : ℕ) → sure ≤ n → n ≤ length stage.src
      → Determines old.sequences (take n stage.src) stage.done
  pub none_after : (stage.read ≡ 0)
      ⊎ ((s : Sequence)
      → Determines old.sequences (take stage.read stage.src) (stage.done ++ s ∷ []) → ⊥)

-- the bytes read are those of the sequences done and those pending
abbrev pub AreAccounted : Remainder → Remainder → Stage → Type 0
AreAccounted old mid stage =
    old.pending ++ take stage.read stage.src ≡ sequence_bytes stage.done ++ mid.pending

-- a call over the unread bytes of a stage, in its mode and with this room
abbrev pub call_at : Stage → ℕ → DecoderResult → ℕ → List ℕ → Bool → Call
call_at stage room result read wrote replaced = record {
  src = drop stage.read stage.src;
  last = stage.last;
  mode = stage.mode;
  room = room;
  result = result;
  read = read;
  wrote = wrote;
  replaced = replaced;
}

unshifted : (result : DecoderResult) → shifted_result result 0 ≡ result
unshifted InputEmpty = refl
unshifted OutputFull = refl
unshifted (Malformed l a) = let none_added : a + 0 ≡ a = omega arith in ap (Malformed l) none_added

module _ {old mid : Remainder} {stage : Stage} (bytes : AreBytes stage.src)
    (leaves : Leaves old mid stage) where
  into : (m : ℕ) (y : List ℕ) → take (stage.read + m) stage.src ++ y
      ≡ take stage.read stage.src ++ (take m (drop stage.read stage.src) ++ y)
  into m y = ap (λ x. x ++ y) (take-add stage.read m stage.src)
      ∙ append_assoc (take stage.read stage.src) (take m (drop stage.read stage.src)) y

  -- below how many bytes nothing more is determined
  below : (n : ℕ) × ((stage.read ≤ n) × ((stage.read ≡ 0) ⊎ (stage.read < n)))
      × ((k : ℕ) → k < n → (s : Sequence) (ss : List Sequence)
      → Determines old.sequences (take k stage.src) (stage.done ++ s ∷ ss) → ⊥)
  below = elim leaves.none_after [
    | inl none_read ↦ (0, (omega arith, inl none_read), λ k few. absurd (omega arith))
    | inr none ↦ (
      stage.read + 1,
      (omega arith, inr (omega arith)),
      λ k few s ss determines. none s
          (determines_fewer old.sequences (take stage.read stage.src) (stage.done ++ s ∷ []) ss
          (subst (Determines old.sequences (take stage.read stage.src))
          (sym (append_assoc stage.done (s ∷ []) ss))
          (determines_by_more old.sequences stage.src k stage.read (stage.done ++ s ∷ ss) bytes
          (omega arith) determines))),
    )
  ]

  abbrev shift : (room : ℕ) (result : DecoderResult) (n : ℕ) (more : List ℕ) (replaced : Bool)
      → ShiftsInput old mid stage (call_at stage room result n more replaced)
  shift room result n more replaced = record {
    held = 0;
    from = stage.read;
    sure = leaves.sure;
    below = below.0;
    len = omega (arith, length-drop stage.read stage.src, leaves.within);
    near = below.1.0;
    surely = leaves.surely;
    shift = omega arith;
    plain = leaves.residual;
    by_prefix = λ k far within_src y first.
        let unread : ℕ = k + 0 - stage.read in
        let past_read : k ≡ stage.read + unread = omega arith in
        let parted : take k stage.src ++ y
        ≡ take stage.read stage.src ++ (take unread (drop stage.read stage.src) ++ y) =
        ap (λ i. take i stage.src ++ y) past_read ∙ into unread y in
        ap old.sequences parted
        ∙ leaves.goes_on (take unread (drop stage.read stage.src) ++ y)
        (subst (λ x. AreFirstSequences stage.done (old.sequences x)) parted first);
    begun = leaves.shown;
    none_below = below.2;
  }

  module _ {room : ℕ} {result : DecoderResult} (n : ℕ) {more : List ℕ}
      {replaced : Bool} where
    reads : n ≤ length (drop stage.read stage.src)
        → MatchesRead (shift room result n more replaced) (stage.read + n)
    reads within_rest = record {
      within = omega (arith, length-drop stage.read stage.src, leaves.within);
      there = omega arith;
      back = omega arith;
      soon = omega (arith, leaves.soon);
      exact = inr (inr (omega arith, omega arith));
      none = λ none_read. elim below.1.1 [
        | inl at_start ↦ inl (omega arith)
        | inr far ↦ inr (omega (arith, far))
      ];
    }

    -- The next call is, with those before, one call.
    pub one_call : {units_of : ℕ → List ℕ} {new : Remainder} → HasWritten units_of stage
        → IsPartAt stage (call_at stage room result n more replaced)
        → (call : IsCall units_of mid new (call_at stage room result n more replaced))
        → (reports_escape (call_at stage room result n more replaced) call ≡ true
        → leaves.sure ≤ stage.read + n)
        → (e : IsCall units_of old new
        (call_from stage stage.last result (stage.read + n) more replaced))
        × (e.done ≡ stage.done ++ call.done)
    one_call {units_of} {new} written part call sure =
        subst (λ r. (e : IsCall units_of old new
        (call_from stage stage.last r (stage.read + n) more replaced))
        × (e.done ≡ stage.done ++ call.done)) (unshifted result)
        (call_outside (bytes-drop stage.read stage.src bytes)
        (shift room result n more replaced) written part (reads call.within) call (record {
          after = λ z ends. ap (λ x. new.sequences (x ++ z)) (drop-drop n stage.read stage.src);
          set = call.set ∙ ap (λ x. set_after x call.done) leaves.set
              ∙ sym (set_after-append old.set stage.done call.done);
          pending = omega arith;
          none_pending = λ is_last is_empty. none_pending_at result call is_last is_empty;
          same = inl refl;
          escape = inl sure;
          held = λ l a _. inl refl;
        }))
      where
        none_pending_at : (result : DecoderResult)
            → IsCall units_of mid new (call_at stage room result n more replaced)
            → stage.last ≡ true → result ≡ InputEmpty → new.pending ≡ []
        none_pending_at InputEmpty call is_last is_empty = call.stops.none_pending is_last
        none_pending_at OutputFull call is_last is_empty = cc
        none_pending_at (Malformed l a) call is_last is_empty = cc

  goes_on_after : (new : Remainder) (n : ℕ) (ss : List Sequence) (y : List ℕ)
      → (AreFirstSequences ss (mid.sequences (take n (drop stage.read stage.src) ++ y))
      → mid.sequences (take n (drop stage.read stage.src) ++ y) ≡ ss ++ new.sequences y)
      → AreFirstSequences (stage.done ++ ss)
      (old.sequences (take (stage.read + n) stage.src ++ y))
      → old.sequences (take (stage.read + n) stage.src ++ y)
      ≡ (stage.done ++ ss) ++ new.sequences y
  goes_on_after new n ss y inside first =
      let tail : List ℕ = take n (drop stage.read stage.src) ++ y in
      let all_first = rw (into n y) at first in
      let outside : old.sequences (take stage.read stage.src ++ tail)
      ≡ stage.done ++ mid.sequences tail =
      leaves.goes_on tail
      (ss ++ all_first.0, all_first.1 ∙ append_assoc stage.done ss all_first.0) in
      rw (into n y) (outside
      ∙ ap (λ u. stage.done ++ u) (inside (begins_after stage.done ss (mid.sequences tail)
      (old.sequences (take stage.read stage.src ++ tail)) outside all_first))
      ∙ sym (append_assoc stage.done ss (new.sequences y)))

  pub accounted_on : (new : Remainder) (n : ℕ) (ss : List Sequence) → AreAccounted old mid stage
      → mid.pending ++ take n (drop stage.read stage.src) ≡ sequence_bytes ss ++ new.pending
      → old.pending ++ take (stage.read + n) stage.src
      ≡ sequence_bytes (stage.done ++ ss) ++ new.pending
  accounted_on new n ss before after =
      rw (take-add, ← append_assoc, before, append_assoc)
      (rw (after, sequence_bytes-append, append_assoc) refl)

  -- the same for decoders that look for no byte order mark
  pub raw_call : {units_of : ℕ → List ℕ} {new : Remainder} {room : ℕ} {result : DecoderResult}
      {n : ℕ} {more : List ℕ} {replaced : Bool}
      → HasWritten units_of stage → AreAccounted old mid stage
      → IsPartAt stage (call_at stage room result n more replaced)
      → (next : IsRawCall units_of mid new (call_at stage room result n more replaced))
      → (reports_escape (call_at stage room result n more replaced) next.call ≡ true
      → leaves.sure ≤ stage.read + n)
      → IsRawCall units_of old new
      (call_from stage stage.last result (stage.read + n) more replaced)
  raw_call {new = new} {n = n} written accounted part next sure =
      let both = one_call n written part next.call sure in
      record {
        call = both.0;
        accounted = accounted_on new n next.call.done accounted next.accounted
            ∙ ap (λ x. sequence_bytes x ++ new.pending) (sym both.1);
        goes_on = λ y ends first. goes_on_after new n next.call.done y (next.goes_on y ends)
            (subst (λ x. AreFirstSequences x
            (old.sequences (take (stage.read + n) stage.src ++ y))) both.1 first)
            ∙ ap (λ x. x ++ new.sequences y) (sym both.1);
      }

  -- what both leave, if the next calls leave something again
  pub leaves_on : {new : Remainder} {n : ℕ} {ss : List Sequence} {more : List ℕ} {replaced : Bool}
      → Leaves mid new (stage_at stage n ss more replaced)
      → Leaves old new (stage_after stage n ss more replaced)
  leaves_on {new} {n} {ss} {more} {replaced} next =
      let shift_on = shift 0 InputEmpty n more replaced in
      record {
        sure = stage.read + n + 1;
        surely = omega arith;
        soon = omega arith;
        within = omega (arith, next.within, length-drop stage.read stage.src, leaves.within);
        residual = λ z ends.
            rw (leaves.residual z ends, next.residual z ends, drop-drop, append_assoc) refl;
        goes_on = λ y first. goes_on_after new n ss y (next.goes_on y) first;
        set = next.set ∙ ap (λ x. set_after x ss) leaves.set
            ∙ sym (set_after-append old.set stage.done ss);
        shown = λ k is_sure within_src. determines_outside shift_on
            (bytes-drop stage.read stage.src bytes) (k - stage.read) k ss
            (omega (arith, leaves.soon)) within_src (omega arith)
            (next.shown (k - stage.read) (omega (arith, next.soon))
            (omega (arith, length-drop stage.read stage.src)));
        none_after = none_after_shown shift_on (reads n next.within) ss next.none_after;
      }

-- nothing is read or done yet
abbrev pub nothing_read : {old : Remainder} (stage : Stage)
    → Leaves old old (record stage { read = 0; done = [] })
nothing_read stage = record {
  sure = 0;
  surely = omega arith;
  soon = omega arith;
  within = omega arith;
  residual = λ z _. refl;
  goes_on = λ y _. refl;
  set = refl;
  shown = λ n _ _ z _. (_, refl);
  none_after = inl refl;
}
