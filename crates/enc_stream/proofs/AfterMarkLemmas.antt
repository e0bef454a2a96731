-- A decoder's call after a byte order mark, or after bytes that might have begun one.
use Rattle.std.proofs.Common.{◌≡◌, ℕ, ◌+◌, ◌≤◌, Bool, true, false, List, [], ◌∷◌, ◌++◌, length, take, drop, refl}
use Rattle.std.proofs.Common.{ap, ◌∙◌, sym, arith, append_assoc, append-nil, subst, inr}
use Rattle.std.proofs.lemmas.Bool.{false≢true}
use Rattle.std.proofs.lemmas.List.{take-append-drop}
use Rattle.std.proofs.Math.ListN.{drop_of_length-le}
use Rattle.std.proofs.Math.Seq.{take-add, drop-append_seam}
use Rattle.enc_stream.specs.declared.encoding.Encoding.{Encoding}
use Rattle.enc_stream.specs.declared.life_cycle.LifeCycle.{LifeCycle}
use Rattle.enc_output.specs.declared.decoder_result.DecoderResult.{DecoderResult}
use Rattle.enc_output.specs.declared.decoder_result.DecoderResult.TheVariants.{InputEmpty}
use Rattle.enc_output.specs.Output.{Output}
use Rattle.enc_output.proofs.OutputLemmas.{with_appended-nil}
use Rattle.enc_utf8.proofs.LengthLemmas.{lengths}
use Rattle.enc_decoder.specs.Sequence.{Sequence, sequence_bytes, sequence_text, any_malformed, set_after}
use Rattle.enc_decoder.specs.Segmentation.{sequences_of}
use Rattle.enc_decoder.specs.CodecState.{CodecState}
use Rattle.enc_decoder.specs.Remainder.{AreBytes, AreFirstSequences, Determines}
use Rattle.enc_decoder.specs.declared.error_mode.ErrorMode.{ErrorMode}
use Rattle.enc_decoder.specs.Call.{reaches_end}
use Rattle.enc_decoder.specs.CallRecord.{CallInto}
use Rattle.enc_decoder.proofs.ByteLemmas.{determines_by_more}
use Rattle.enc_decoder.proofs.DeterminedLemmas.{begins_after}
use Rattle.enc_decoder.proofs.SegmentationLemmas.{sequences_of-nil}
use Rattle.enc_decoder.proofs.SequenceLemmas.{sequence_bytes-append}
use Rattle.enc_decoder.proofs.StageLemmas.{Stage, start_stage}
use Rattle.enc_decoder.proofs.LeavesLemmas.{Leaves, one_call}
use Rattle.enc_stream.specs.Encodings.{rule_of}
use Rattle.enc_stream.specs.Bom.{Mark, find_mark, any_mark, marks_begun, mark_sequence, sequences_by_mark}
use Rattle.enc_stream.specs.Bom.{mark_sequences, encoding_of_mark_or}
use Rattle.enc_stream.specs.LifeCycle.{marks_of, awaits_mark, held_mark_bytes, holds_bytes}
use Rattle.enc_stream.specs.LifeCycle.{decoder_state_of, HeldBytesMatchCodec}
use Rattle.enc_stream.specs.Sniffing.{ExtendsHeldMark, CompletesMark}
use Rattle.enc_stream.specs.Decoding.{DecoderState, remaining_sequences, decoder_remainder, DecodesInto}
use Rattle.enc_stream.specs.Decoding.{marks_after, are_still_held, held_after}
use Rattle.enc_stream.proofs.BegunMarkLemmas.{begun_more}
use Rattle.enc_stream.proofs.LifeCycleLemmas.{holds_marks, awaiting_goes_on}
use Rattle.enc_stream.proofs.SniffingLemmas.{found_later}
use Rattle.enc_stream.proofs.UnmarkedTextLemmas.{undetermined_in_front}
use Rattle.enc_stream.proofs.PendingBytesLemmas.{pending_of_held}
use Rattle.enc_stream.proofs.RemainingRuleLemmas.{marked_remaining}

-- After the first bytes of its chunk a decoder goes on as another one: after a byte order mark,
-- which is done then, or with more bytes held.
pub record GoesOnAs (old mid : DecoderState) (src : List ℕ) (len : ℕ) : Type 0 where
  pub done : List Sequence
  pub no_text : sequence_text done ≡ []
  pub none_malformed : any_malformed done ≡ false
  pub within : len ≤ length src
  pub set : mid.set ≡ set_after old.set done
  pub same : (y : List ℕ)
      → remaining_sequences old (take len src ++ y) ≡ done ++ remaining_sequences mid y
  pub nothing : (s : Sequence)
      → Determines (remaining_sequences old) (take len src) (done ++ s ∷ []) → ⊥
  pub accounted : old.pending ++ take len src ≡ sequence_bytes done ++ mid.pending
  pub mark : (y : List ℕ) (ts : List Sequence)
      → AreFirstSequences (mark_sequences (find_mark mid.marks (mid.pending ++ y))) ts
      → AreFirstSequences
      (mark_sequences (find_mark old.marks (old.pending ++ (take len src ++ y)))) (done ++ ts)
  pub encoding : (y : List ℕ)
      → encoding_of_mark_or (find_mark old.marks (old.pending ++ (take len src ++ y)))
      old.encoding
      ≡ encoding_of_mark_or (find_mark mid.marks (mid.pending ++ y)) mid.encoding
  pub marks : (end : Bool) (ts : List Sequence) (x z : List ℕ)
      → mid.pending ++ x ≡ sequence_bytes ts ++ z
      → marks_after mid.marks end ts z ≡ marks_after old.marks end (done ++ ts) z
  pub held : (x : List ℕ) (n : ℕ) → are_still_held mid.held mid.marks (mid.pending ++ x) n
      ≡ are_still_held old.held old.marks (old.pending ++ (take len src ++ x)) (len + n)

-- a call, by its values one by one
abbrev pub made_call : List ℕ → Bool → ErrorMode → Output → Output → DecoderResult → ℕ → Bool
    → CallInto
made_call src last mode before after result read replaced = record {
  src = src;
  last = last;
  mode = mode;
  before = before;
  after = after;
  result = result;
  read = read;
  replaced = replaced;
}

module _ {old mid : DecoderState} {src : List ℕ} {len : ℕ} (bytes : AreBytes src)
    (goes_on : GoesOnAs old mid src len) where
  abbrev reaches : Bool → ErrorMode → ℕ → Stage
  reaches last mode room =
      record (start_stage src last mode room) { read = len; done = goes_on.done }

  abbrev leaves : (last : Bool) (mode : ErrorMode) (room : ℕ)
      → Leaves (decoder_remainder old) (decoder_remainder mid) (reaches last mode room)
  leaves last mode room = record {
    sure = len;
    surely = omega arith;
    soon = omega arith;
    within = goes_on.within;
    residual = λ z _.
        ap (λ x. remaining_sequences old (x ++ z)) (sym (take-append-drop len src))
        ∙ ap (remaining_sequences old) (append_assoc (take len src) (drop len src) z)
        ∙ goes_on.same (drop len src ++ z);
    goes_on = λ y _. goes_on.same y;
    set = goes_on.set;
    shown = λ n is_sure within_src. determines_by_more (remaining_sequences old) src len n
        goes_on.done bytes is_sure (λ z _. (_, goes_on.same z));
    none_after = inr goes_on.nothing;
  }

  pub after_prefix : {units_of : ℕ → List ℕ} {mode : ErrorMode} {last : Bool}
      {before after : Output} {new : DecoderState} {result : DecoderResult} {n : ℕ}
      {replaced : Bool}
      → DecodesInto units_of mid new
      (made_call (drop len src) last mode before after result n replaced)
      → DecodesInto units_of old new
      (made_call src last mode before after result (len + n) replaced)
  after_prefix {mode = mode} {last} {before} {new = new} {result} {n} {replaced} rest =
      let stage : Stage = reaches last mode before.room in
      let called =
      one_call bytes (leaves last mode before.room) n (record {
        text = rw goes_on.no_text refl;
        scalars = rw goes_on.no_text refl;
        fits = omega arith;
        flag = sym goes_on.none_malformed;
        none_replaced = λ _. refl;
      }) (record { room = omega arith; mode = refl }) rest.decodes.call
      (λ _. omega arith) in
      let read : List ℕ = take n (drop len src) in
      let parted : take (len + n) src ≡ take len src ++ read = take-add len n src in
      let later = rest.decodes.call.done in
      let both : called.0.done ≡ goes_on.done ++ later = called.1 in
      record {
        wrote = rest.wrote;
        onto = rest.onto;
        decodes = record {
          call = called.0;
          accounted = rw (both, parted, ← append_assoc, goes_on.accounted, append_assoc)
              (rw (rest.decodes.accounted, sequence_bytes-append, append_assoc) refl);
          goes_on = rw (both, parted) (λ y ends first.
              let inside = goes_on.same (read ++ y) in
              let split = append_assoc (take len src) read y in
              ap (remaining_sequences old) split ∙ inside
              ∙ ap (λ ts. goes_on.done ++ ts) (rest.decodes.goes_on y ends
              (begins_after goes_on.done later (remaining_sequences mid (read ++ y))
              (remaining_sequences old (take len src ++ (read ++ y))) inside
              (rw split at first)))
              ∙ sym (append_assoc goes_on.done later (remaining_sequences new y)));
          mark = rw (both, parted) (goes_on.mark read later rest.decodes.mark);
          encoding = rw parted (rest.decodes.encoding ∙ sym (goes_on.encoding read));
          marks = rw both (rest.decodes.marks
              ∙ goes_on.marks (reaches_end last result) later read new.pending
              rest.decodes.accounted);
          held = rw parted (rest.decodes.held
              ∙ ap (λ held. held_after held new.pending) (goes_on.held read n));
          finished = rest.decodes.finished;
        };
      }

-- where a byte order mark may come, bytes are held as long as they begin one
pub held_in_front : (marks : List Mark) (held : Bool) (so_far : List ℕ) (n : ℕ)
    → any_mark marks ≡ true
    → are_still_held held marks so_far n ≡ any_mark (marks_begun marks so_far)
held_in_front [] held so_far n some = absurd (false≢true some)
held_in_front (m ∷ others) held so_far n some = refl

pending_reaches : (life : LifeCycle) (e : Encoding) (v : CodecState) → HeldBytesMatchCodec life v
    → awaits_mark life ≡ true → (decoder_state_of e life v).pending ≡ held_mark_bytes life
pending_reaches life e v holds awaits =
    pending_of_held (held_mark_bytes life) v.pending (holds.unread awaits).1

none_after_mark : (end : Bool) (marks : List Mark) (m : Sequence) (ts : List Sequence)
    (z : List ℕ) → marks_after [] end ts z ≡ marks_after marks end (m ∷ ts) z
none_after_mark true marks m ts z = refl
none_after_mark false marks m [] z = refl
none_after_mark false marks m (t ∷ ts) z = refl

-- After a byte order mark.
module _ (e : Encoding) {to : Encoding} {life : LifeCycle} {v : CodecState} (src : List ℕ) (len : ℕ)
    (holds : HeldBytesMatchCodec life v) (within : len ≤ length src)
    (completes : CompletesMark life (take len src) to) where
  abbrev old : DecoderState
  old = decoder_state_of e life v

  abbrev mid : DecoderState
  mid = record {
    encoding = to;
    marks = [];
    set = 0;
    pending = [];
    held = false;
    finished = false;
  }

  at_mark : (y : List ℕ) → old.pending ++ (take len src ++ y) ≡ completes.mark.bytes ++ y
  at_mark y = rw (pending_reaches life e v holds completes.awaits, ← completes.whole)
      (sym (append_assoc (held_mark_bytes life) (take len src) y))

  after_mark : (y : List ℕ) → remaining_sequences old (take len src ++ y)
      ≡ mark_sequence completes.mark ∷ remaining_sequences mid y
  after_mark y =
      marked_remaining old (take len src ++ y) completes.mark
      (awaiting_goes_on life completes.awaits) (rw (at_mark y) (completes.found y))
      ∙ ap (λ x. mark_sequence completes.mark
      ∷ sequences_of (rule_of completes.mark.encoding) 0 (drop (length completes.mark.bytes) x))
      (at_mark y)
      ∙ ap (λ x. mark_sequence completes.mark ∷ sequences_of (rule_of completes.mark.encoding) 0 x)
      (drop-append_seam completes.mark.bytes y)
      ∙ ap (λ t. mark_sequence completes.mark ∷ sequences_of (rule_of t) 0 y) completes.is_encoding

  pub goes_on_after_mark : GoesOnAs old mid src len
  goes_on_after_mark = record {
    done = mark_sequence completes.mark ∷ [];
    no_text = refl;
    none_malformed = refl;
    within = within;
    set = refl;
    same = after_mark;
    nothing = λ s determines.
        let first = determines [] tt in
        let alone = ap (λ ss. mark_sequence completes.mark ∷ ss)
        (sequences_of-nil (rule_of to) 0) in
        let both = sym (after_mark [] ∙ alone) ∙ first.1 in cc;
    accounted = ap (λ x. old.pending ++ x) (sym (append-nil (take len src))) ∙ at_mark []
        ∙ ap (λ x. x ++ []) (sym (append-nil completes.mark.bytes));
    mark = λ y ts _. rw (at_mark y, completes.found y) (ts, refl);
    encoding = λ y. rw (at_mark y, completes.found y) completes.is_encoding;
    marks = λ end ts x z _. none_after_mark end (marks_of life) (mark_sequence completes.mark) ts z;
    held = λ x n. sym (held_in_front (marks_of life) (holds_bytes (held_mark_bytes life))
        (old.pending ++ (take len src ++ x)) (len + n) completes.awaits
        ∙ ap (λ t. any_mark (marks_begun (marks_of life) t)) (at_mark x)
        ∙ ap any_mark (completes.none_begun x));
  }

-- After bytes that might have begun one.
module _ (e : Encoding) {life now : LifeCycle} {v : CodecState} (src : List ℕ) (len : ℕ)
    (holds : HeldBytesMatchCodec life v)
    (extends : ExtendsHeldMark life now (take len src))
    (awaits : awaits_mark life ≡ true) where
  abbrev from : DecoderState
  from = decoder_state_of e life v

  abbrev held : DecoderState
  held = decoder_state_of e now v

  still : awaits_mark now ≡ true
  still = extends.awaits ∙ awaits

  held_pending : held.pending ≡ held_mark_bytes now
  held_pending = pending_of_held (held_mark_bytes now) v.pending (holds.unread awaits).1

  at_held : (y : List ℕ) → from.pending ++ (take len src ++ y) ≡ held.pending ++ y
  at_held y = rw (pending_reaches life e v holds awaits, held_pending, ← extends.held)
      (sym (append_assoc (held_mark_bytes life) (take len src) y))

  same_mark : (y : List ℕ)
      → find_mark (marks_of life) (held.pending ++ y) ≡ find_mark (marks_of now) (held.pending ++ y)
  same_mark y = rw held_pending (found_later life now extends y)

  after_held : (y : List ℕ)
      → remaining_sequences from (take len src ++ y) ≡ remaining_sequences held y
  after_held y = rw (
    awaiting_goes_on life awaits,
    awaiting_goes_on now still,
    at_held y,
    same_mark y,
  ) refl

  none_determined : (s : Sequence) (ss : List Sequence)
      → Determines (remaining_sequences held) [] (s ∷ ss) → ⊥
  none_determined s ss determines =
      undetermined_in_front e v.set now still s ss (λ y bytes.
      subst (λ x. AreFirstSequences (s ∷ ss)
      (sequences_by_mark (find_mark (marks_of now) (x ++ y)) e v.set (x ++ y)))
      held_pending (rw (awaiting_goes_on now still) at (determines y bytes)))

  begun_later : (x : List ℕ)
      → marks_begun (marks_of now) (held.pending ++ x)
      ≡ marks_begun (marks_of life) (held.pending ++ x)
  begun_later x = rw (extends.marks, held_pending)
      (begun_more (marks_of life) (held_mark_bytes now) x)

  marks_later : (end : Bool) (ts : List Sequence) (x z : List ℕ)
      → held.pending ++ x ≡ sequence_bytes ts ++ z
      → marks_after (marks_of now) end ts z ≡ marks_after (marks_of life) end ts z
  marks_later true ts x z accounted = refl
  marks_later false [] x z accounted = rw (← accounted) (begun_later x)
  marks_later false (t ∷ ts) x z accounted = refl

  goes_on_after_held : len ≤ length src → GoesOnAs from held src len
  goes_on_after_held within = record {
    done = [];
    no_text = refl;
    none_malformed = refl;
    within = within;
    set = refl;
    same = after_held;
    nothing = λ s determines. none_determined s [] (λ y bytes.
        subst (AreFirstSequences (s ∷ [])) (after_held y) (determines y bytes));
    accounted = ap (λ x. from.pending ++ x) (sym (append-nil (take len src))) ∙ at_held []
        ∙ append-nil held.pending;
    mark = λ y ts first. rw (at_held y, same_mark y) first;
    encoding = λ y. rw (at_held y, same_mark y) refl;
    marks = marks_later;
    held = λ x n.
        held_in_front (marks_of now) (holds_bytes (held_mark_bytes now)) (held.pending ++ x) n still
        ∙ ap any_mark (begun_later x)
        ∙ ap (λ t. any_mark (marks_begun (marks_of life) t)) (sym (at_held x))
        ∙ sym (held_in_front (marks_of life) (holds_bytes (held_mark_bytes life))
        (from.pending ++ (take len src ++ x)) (len + n) awaits);
  }

  holds_now : HeldBytesMatchCodec now v
  holds_now = record {
    unread = λ _. holds.unread awaits;
    held = rw ((holds.unread awaits).1, pending_of_held) refl;
  }

  -- a call without input does nothing
  idle : {units_of : ℕ → List ℕ} {mode : ErrorMode} {out : Output}
      → DecodesInto units_of held held (made_call [] false mode out out InputEmpty 0 false)
  idle {out = out} =
      let holds_them = holds_marks e now v holds_now in
      record {
        wrote = [];
        onto = sym (with_appended-nil out);
        decodes = record {
          call = record {
            put = [];
            done = [];
            within = omega arith;
            residual = λ z ends. refl;
            set = refl;
            text = refl;
            scalars = refl;
            fits = omega arith;
            flag = refl;
            none_replaced = λ _. refl;
            stops = record {
              only_put = refl;
              all_read = refl;
              none_determined = λ _ s determines. none_determined s [] determines;
              none_left = λ is_last. absurd (false≢true is_last);
              none_pending = λ is_last. absurd (false≢true is_last);
            };
          };
          accounted = append-nil held.pending;
          goes_on = λ y ends first. refl;
          mark = rw (append-nil, holds_them.unmarked) ([], refl);
          encoding = rw (append-nil, holds_them.unmarked) refl;
          marks = sym holds_them.begun;
          held = rw append-nil (sym holds_them.held);
          finished = awaiting_goes_on now still;
        };
      }

  -- All of the chunk might begin one.
  pub all_held : AreBytes src → {units_of : ℕ → List ℕ} {mode : ErrorMode} {out : Output}
      → len ≡ length src
      → DecodesInto units_of from held (made_call src false mode out out InputEmpty len false)
  all_held bytes {units_of} {mode} {out} reads_all =
      let none_left : drop len src ≡ [] = drop_of_length-le src (omega arith) in
      let none_more : len + 0 ≡ len = omega arith in
      subst (λ n. DecodesInto units_of from held
      (made_call src false mode out out InputEmpty n false)) none_more
      (after_prefix bytes (goes_on_after_held (omega arith)) (rw none_left idle))

-- After the bytes before text.
pub after_text : (e : Encoding) {life now : LifeCycle} {v : CodecState} (src : List ℕ) (len : ℕ)
    (awaits : Bool)
    → HeldBytesMatchCodec life v → len ≤ length src → ExtendsHeldMark life now (take len src)
    → awaits_mark life ≡ awaits → AreBytes src
    → {units_of : ℕ → List ℕ} {mode : ErrorMode} {last : Bool} {before after : Output}
    {new : DecoderState} {result : DecoderResult} {n : ℕ} {replaced : Bool}
    → DecodesInto units_of (decoder_state_of e now v) new
    (made_call (drop len src) last mode before after result n replaced)
    → DecodesInto units_of (decoder_state_of e life v) new
    (made_call src last mode before after result (len + n) replaced)
after_text e src len true holds within extends awaits bytes rest =
    after_prefix bytes (goes_on_after_held e src len holds extends awaits within) rest
after_text e {life} {now} {v} src len false holds within extends awaits bytes {n = n} rest =
    let same : now ≡ life = extends.stays awaits in
    let none : len ≡ 0 =
    omega (arith, lengths, ap length (extends.held ∙ ap held_mark_bytes same), within) in
    let only_rest : len + n ≡ n = omega (arith, none) in
    rw only_rest (rw (none, same) at rest)
