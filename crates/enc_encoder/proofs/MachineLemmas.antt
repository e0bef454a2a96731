-- The turns of the loop over the characters of one call, and why it stops.
use Rattle.std.proofs.Common.{◌≡◌, ℕ, ◌+◌, ◌-◌, ◌<◌, ◌≤◌, Bool, true, false, Option, Some, None, List, [], ◌∷◌, ◌++◌}
use Rattle.std.proofs.Common.{length, take, drop, refl, ap, ◌∙◌, sym, subst, arith, append-nil, length-append}
use Rattle.std.proofs.lemmas.List.{take-append-drop}
use Rattle.std.proofs.lemmas.Bool.{false≢true}
use Rattle.enc_utf8.specs.Text.{units_of_text}
use Rattle.enc_input.specs.Bytes.{byte_list}
use Rattle.enc_input.specs.declared.encoder_result.EncoderResult.{EncoderResult}
use Rattle.enc_input.specs.declared.encoder_result.EncoderResult.TheVariants.{InputEmpty, OutputFull, Unmappable}
use Rattle.enc_encoder.specs.declared.transition.Transition.{Transition}
use Rattle.enc_encoder.specs.declared.character_set.CharacterSet.TheVariants.{Ascii}
use Rattle.enc_encoder.specs.EncoderRule.{RawEncoderState, IsLawfulEncoderRule}
use Rattle.enc_encoder.specs.Steps.{Step, steps_from_state, step_chars, step_bytes}
use Rattle.enc_encoder.specs.Writes.{Leaves, Adds, Place, place, Writes}
use Rattle.enc_encoder.specs.Call.{EncoderCall, EncoderCallInto, EncoderStops}
use Rattle.enc_encoder.specs.CharLaw.{IsNextStep, step_of, read_chars, unread_chars}
use Rattle.enc_encoder.proofs.StepLemmas.{step_bytes-one, units_of_text-append}
use Rattle.enc_encoder.proofs.LeavesLemmas.{leaves_on, same_length}
use Rattle.enc_encoder.proofs.TextLemmas.{done_is, keeps_text}
use Rattle.enc_encoder.proofs.NeedLemmas.{meets_need}

-- the code units of the characters left, and of those read
pub units_read : (units_of : ℕ → List ℕ) (front rest : List ℕ) {src : List ℕ} {a b : ℕ}
    → src ≡ front ++ rest
    → a ≡ length (units_of_text units_of src) → b ≡ length (units_of_text units_of rest)
    → (b ≤ a) × (a - b ≡ length (units_of_text units_of front))
units_read units_of front rest parts all left =
    let sum = ap (λ t. length (units_of_text units_of t)) parts
    ∙ ap length (units_of_text-append units_of front rest)
    ∙ length-append (units_of_text units_of front) (units_of_text units_of rest) in
    (omega (arith, sum, all, left), omega (arith, sum, all, left))

-- no report is no report
pub no_report : (r : Option ℕ) → ((c : ℕ) → r ≡ Some c → ⊥) → r ≡ None
no_report None none = refl
no_report (Some c) none = absurd (none c refl)

parts : (reads : Bool) (rest : List ℕ)
    → rest ≡ (read_chars reads rest ++ []) ++ unread_chars reads rest
parts true rest = rw (append-nil (take 1 rest)) (sym (take-append-drop 1 rest))
parts false rest = refl

-- the character that is read
read_one : (reads : Bool) (rest : List ℕ) → reads ≡ true → (rest ≡ [] → ⊥)
    → (x : ℕ) × (read_chars reads rest ≡ x ∷ [])
read_one true [] reads_is some = absurd (some refl)
read_one true (x ∷ rest) reads_is some = (x, refl)
read_one false rest reads_is some = absurd (false≢true reads_is)

-- the next step of a call
module _ {E : Type 0} {state : E → RawEncoderState} {e : E} {last : Bool} {rest : List ℕ}
    {t : Transition E} (next : IsNextStep state e last rest t) where
  abbrev step : Step
  step = step_of state t rest

  pub step_leaves : {left : List ℕ} → left ≡ unread_chars t.reads rest
      → Leaves last (state e) (state t.next) rest left (step ∷ [])
  step_leaves left_is = rw left_is (record {
    reads = parts t.reads rest;
    remaining = next.first;
    rule = next.same;
    set = refl;
  })

  pub step_writes : {slice then left : List ℕ} {written : ℕ} → left ≡ unread_chars t.reads rest
      → t.report ≡ None → t.bytes.len ≡ length (byte_list t.bytes)
      → written + length (byte_list t.bytes) ≤ length slice
      → then ≡ take written slice
      ++ (byte_list t.bytes ++ drop (written + length (byte_list t.bytes)) slice)
      → Writes last (place (state e) rest slice written)
      (place (state t.next) left then (written + t.bytes.len))
  step_writes {slice} {then} {left} {written} left_is unreported len fits onto = record {
    done = step ∷ [];
    leaves = step_leaves left_is;
    none_reported = rw unreported refl;
    adds = subst (λ n. Adds slice then written (written + n) (byte_list t.bytes ++ [])) (sym len)
        (rw (append-nil (byte_list t.bytes)) (record { count = refl; fits = fits; onto = onto }));
  }

  -- one step fewer is left
  pub fewer_steps : {left : List ℕ} → left ≡ unread_chars t.reads rest
      → length (steps_from_state (state t.next) last left)
      < length (steps_from_state (state e) last rest)
  fewer_steps left_is = omega (arith, ap length (step_leaves left_is).remaining)

  -- the character that a report reads is the next one
  pub report_reads : {k : ℕ} → t.report ≡ Some k → {left : List ℕ} → left ≡ drop 1 rest
      → (left ≡ unread_chars t.reads rest) × ((x : ℕ) × (step.reads ≡ x ∷ []))
  report_reads reported left_is =
      let reads = (next.reports _ reported).0 in
      (rw reads left_is, read_one t.reads rest reads (next.some reads))

-- where a call stops: `a` is the number of code units given, `b` of those left
module _ (units_of : ℕ → List ℕ) {last : Bool} {old : RawEncoderState} {src before : List ℕ}
    {now : Place} (writes : Writes last (place old src before 0) now)
    (lawful : IsLawfulEncoderRule old.rule) where
  stop : {new : RawEncoderState} {rest : List ℕ} {done : List Step}
      → Leaves last old new src rest done → step_bytes writes.done ≡ step_bytes done
      → {a b : ℕ} → a ≡ length (units_of_text units_of src)
      → b ≡ length (units_of_text units_of rest) → (result : EncoderResult)
      → EncoderStops new rest last (length before) done result
      → EncoderCallInto units_of last (place old src before 0)
      (place new rest now.slice now.written) result (a - b)
  stop {new} {rest} {done} leaves bytes_are counted left_count result stops =
      let adds = writes.adds in
      let count : now.written ≡ length (step_bytes writes.done) = omega (arith, adds.count) in
      let call : EncoderCall old new src rest last (length before) result
      (step_bytes writes.done) =
      record {
        done = done;
        reads = leaves.reads;
        remaining = leaves.remaining;
        rule = leaves.rule;
        set = leaves.set;
        bytes = bytes_are;
        fits = omega (arith, adds.fits, count);
        stops = stops;
      } in
      record {
        wrote = step_bytes writes.done;
        adds = adds;
        call = call;
        units = (units_read units_of (step_chars done) rest leaves.reads counted left_count).1;
        text = keeps_text leaves lawful result (step_bytes writes.done) (done_is call);
        need = rw count (meets_need result call);
      }

  pub stop_empty : {a b : ℕ} → a ≡ length (units_of_text units_of src)
      → b ≡ length (units_of_text units_of now.rest) → now.rest ≡ []
      → (last ≡ true → now.state.set ≡ Ascii)
      → EncoderCallInto units_of last (place old src before 0) now InputEmpty (a - b)
  stop_empty counted left_count all_read ended =
      stop writes.leaves refl counted left_count InputEmpty
      (record { none_reported = writes.none_reported; all_read = all_read; ended = ended })

  module _ {new : RawEncoderState} {left : List ℕ} {q : Step}
      (next : Leaves last now.state new now.rest left (q ∷ [])) where
    pub stop_full : {a b : ℕ} → a ≡ length (units_of_text units_of src)
        → b ≡ length (units_of_text units_of now.rest) → q.report ≡ None
        → length now.slice < now.written + length q.bytes
        → EncoderCallInto units_of last (place old src before 0) now OutputFull (a - b)
    stop_full counted left_count unreported full =
        stop writes.leaves refl counted left_count OutputFull (record {
          none_reported = writes.none_reported;
          next = q;
          others = steps_from_state new last left;
          comes = next.remaining;
          not_report = unreported;
          full = omega (arith, full, writes.adds.count, same_length writes.adds);
        })

    pub stop_report : {a b : ℕ} → a ≡ length (units_of_text units_of src)
        → b ≡ length (units_of_text units_of left) → {k : ℕ}
        → q.report ≡ Some k → q.bytes ≡ [] → ((x : ℕ) × (q.reads ≡ x ∷ []))
        → EncoderCallInto units_of last (place old src before 0)
        (place new left now.slice now.written) (Unmappable k) (a - b)
    stop_report counted left_count {k} reported none_written read =
        stop (leaves_on writes.leaves next)
        (rw (step_bytes-one writes.done q, none_written)
        (sym (append-nil (step_bytes writes.done))))
        counted left_count (Unmappable k) (record {
          before = writes.done;
          none_reported = writes.none_reported;
          report = q;
          then_report = refl;
          reported = reported;
          none_written = none_written;
          char = read.0;
          char_read = read.1;
        })
