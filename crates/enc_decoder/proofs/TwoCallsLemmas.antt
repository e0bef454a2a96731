-- Two successive calls, the first of which reads its chunk, are one call.
use Rattle.std.proofs.Common.{◌≡◌, ℕ, ◌+◌, ◌-◌, Bool, false, List, [], ◌∷◌, ◌++◌, length, take, drop}
use Rattle.std.proofs.Common.{refl, ap, ◌∙◌, sym, arith, append_assoc, inr, subst, ◌||◌}
use Rattle.std.proofs.lemmas.Bool.{false≢true}
use Rattle.std.proofs.lemmas.List.{length-append, take-append-le, drop-append-le}
use Rattle.std.proofs.Math.ListN.{drop_of_length-le}
use Rattle.std.proofs.Math.Seq.{take-length}
use Rattle.enc_output.specs.declared.decoder_result.DecoderResult.TheVariants.{InputEmpty}
use Rattle.enc_decoder.specs.Remainder.{Remainder, AreBytes, Determines}
use Rattle.enc_decoder.specs.Call.{IsRawCall}
use Rattle.enc_decoder.specs.CallRecord.{Call}
use Rattle.enc_decoder.proofs.ByteLemmas.{bytes-append, determines_with, determines_by_more}
use Rattle.enc_decoder.proofs.StageLemmas.{Stage, HasWritten}
use Rattle.enc_decoder.proofs.LeavesLemmas.{Leaves, raw_call}

-- a call that has read its chunk, and more bytes follow
abbrev pub chunk_read : Call → Call
chunk_read c = record c { result = InputEmpty; last = false }

-- both as one
abbrev pub joined : Call → Call → Call
joined first second = record {
  src = first.src ++ second.src;
  last = second.last;
  mode = first.mode;
  room = first.room;
  result = second.result;
  read = first.read + second.read;
  wrote = first.wrote ++ second.wrote;
  replaced = first.replaced || second.replaced;
}

module _ {units_of : ℕ → List ℕ} {old mid : Remainder} (c : Call)
    (call : IsRawCall units_of old mid (chunk_read c)) (bytes : AreBytes c.src) where
  -- the stage after it, with the chunk that follows
  abbrev stage_with : List ℕ → Bool → Stage
  stage_with more last = record {
    src = c.src ++ more;
    last = last;
    mode = c.mode;
    room = c.room;
    read = c.read;
    done = call.call.done;
    wrote = c.wrote;
    replaced = c.replaced;
  }

  whole : take c.read c.src ≡ c.src
  whole = ap (λ k. take k c.src) call.call.stops.all_read ∙ take-length c.src

  -- what it leaves
  abbrev leaves : (more : List ℕ) (last : Bool) → AreBytes more
      → Leaves old mid (stage_with more last)
  leaves more last also =
      let all_read = call.call.stops.all_read in
      let same_taken : take c.read (c.src ++ more) ≡ take c.read c.src =
      take-append-le c.read c.src more call.call.within in
      let shown : Determines old.sequences c.src call.call.done =
      λ z _. (_, call.call.residual z (λ e. absurd (false≢true e))) in
      record {
        sure = c.read;
        surely = omega arith;
        soon = omega arith;
        within = omega (arith, all_read, length-append c.src more);
        residual = λ z _.
            let same_rest = drop-append-le c.read c.src more call.call.within in
            rw (append_assoc, same_rest, append_assoc)
            (call.call.residual (more ++ z) (λ e. absurd (false≢true e)));
        goes_on = λ y first. rw same_taken
            (call.goes_on y (λ e. absurd (false≢true e)) (rw same_taken at first));
        set = call.call.set;
        shown = λ n is_sure _. determines_with old.sequences c.src more call.call.done bytes also
            shown n (λ _. determines_by_more old.sequences c.src c.read n call.call.done bytes
            is_sure (subst (λ x. Determines old.sequences x call.call.done) (sym whole) shown));
        none_after = rw same_taken (inr (λ s determines. call.call.stops.none_determined refl s
            (subst (λ x. Determines old.sequences x (call.call.done ++ s ∷ [])) whole
            determines)));
      }

  written : (more : List ℕ) (last : Bool) → HasWritten units_of (stage_with more last)
  written more last =
      let all_put : call.call.put ≡ call.call.done = sym call.call.stops.only_put in
      record {
        text = rw all_put at call.call.text;
        scalars = rw all_put at call.call.scalars;
        fits = call.call.fits;
        flag = rw all_put at call.call.flag;
        none_replaced = call.call.none_replaced;
      }

  -- The second call has the room that is left.
  pub two_calls : {new : Remainder} {second : Call} → AreBytes second.src
      → second.mode ≡ c.mode → second.room ≡ c.room - length c.wrote
      → IsRawCall units_of mid new second → IsRawCall units_of old new (joined c second)
  two_calls {new} {second} also same_mode is_room next =
      let all_read = call.call.stops.all_read in
      let rest : second.src ≡ drop c.read (c.src ++ second.src) =
      ap (λ x. x ++ second.src) (sym (drop_of_length-le c.src (omega (arith, all_read))))
      ∙ sym (drop-append-le c.read c.src second.src call.call.within) in
      let second_rest : IsRawCall units_of mid new
      (record second { src = drop c.read (c.src ++ second.src); mode = c.mode }) =
      subst (λ m. IsRawCall units_of mid new
      (record second { src = drop c.read (c.src ++ second.src); mode = m })) same_mode
      (subst (λ x. IsRawCall units_of mid new (record second { src = x })) rest next) in
      raw_call (bytes-append c.src second.src bytes also) (leaves second.src second.last also)
      (written second.src second.last)
      (ap (λ x. old.pending ++ x) (take-append-le c.read c.src second.src call.call.within)
      ∙ call.accounted)
      (record { room = is_room; mode = refl }) second_rest (λ _. omega arith)
