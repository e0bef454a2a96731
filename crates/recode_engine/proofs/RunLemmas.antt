-- What a run has done after some reads, and where a fault stops it.
use Rattle.std.proofs.Common.{◌≡◌, ℕ, ◌+◌, ◌-◌, ◌*◌, ◌^◌, ◌<◌, ◌≤◌, inl, inr, Bool, true, false, ◌||◌, List, []}
use Rattle.std.proofs.Common.{◌++◌, length, Option, Some, None, refl, ap, ◌∙◌, sym}
use Rattle.std.proofs.Common.{append-nil, length-append, arith, chars, subst}
use Rattle.std.proofs.lemmas.Bool.{false≢true}
use Rattle.std.proofs.lemmas.Str.{chars-encodes, chars-append, chars-nil}
use Rattle.std.specs.Prelude.{IfSome, if◌then◌else◌}
use Rattle.enc_utf8.proofs.UnitsLemmas.{their_units}
use Rattle.enc_decoder.specs.Sequence.{sequence_text, any_malformed}
use Rattle.enc_decoder.proofs.SequenceLemmas.{sequence_text-append}
use Rattle.enc_encoder.specs.declared.character_set.CharacterSet.TheVariants.{Ascii}
use Rattle.enc_encoder.specs.EncoderRule.{EncoderRule}
use Rattle.enc_encoder.specs.Text.{bytes_of_text, with_references}
use Rattle.enc_encoder.specs.Unmappable.{any_unmappable}
use Rattle.enc_stream.specs.declared.bom.BomHandling.{BomHandling}
use Rattle.enc_stream.specs.declared.encoding.Encoding.{Encoding}
use Rattle.enc_stream.specs.Encodings.{output_rule}
use Rattle.enc_stream.specs.Encoder.{whole_bytes}
use Rattle.enc_stream.specs.Decoding.{has_finished, fresh_decoder, whole_sequences}
use Rattle.enc_stream.proofs.EndOfInputLemmas.{none_left}
use Rattle.enc_stream.proofs.EncoderProgressLemmas.{output_rule_is}
use Rattle.enc_reader.specs.Source.{IsExhausted}
use Rattle.std.specs.Io.KnownBytes.{Consumes}
use Rattle.enc_reader.specs.Reading.{ReaderState, ReadsOwed, HandsOut, FailsToRead, IsReaderAtEnd, distance_to_end}
use Rattle.enc_reader.specs.Reading.{fresh_reader, owed_sequences}
use Rattle.std.proofs.KnownBytes.{Consumes-trans}
use Rattle.enc_reader.proofs.ReadingLemmas.{ReaderPlace, reader_at, ReadsOwed-none, ReadsOwed-then, handed_utf_8}
use Rattle.enc_writer.specs.Sink.{AppendsContents}
use Rattle.enc_writer.specs.Writing.{WriterState, HasWrittenText, TakesPrefix, StopsWithin, EndsText, WritesText}
use Rattle.enc_writer.specs.Writing.{fresh_writer, owed_bytes}
use Rattle.enc_writer.proofs.WritingLemmas.{HasWrittenText-none}
use Rattle.enc_writer.proofs.StoppingLemmas.{StopsWithin-none}
use Rattle.enc_stream.specs.Recoding.{whole_text, recoded_bytes, any_replaced}
use Rattle.recode_engine.specs.Run.{RunsToEnd, RunsToFault}
use Rattle.recode_engine.proofs.SourceLemmas.{all_given, none_remaining}

pub not_ended : {P : Type 0} → false ≡ true → P
not_ended e = cc

-- The text owed before is that handed out and that owed now.

pub handed_is : {t₀ t : Option (List ℕ)} {a b : ReaderState} {x wrote : List ℕ} {m : Bool}
    (reads_owed : ReadsOwed t₀ t a b x wrote m) → chars wrote ≡ sequence_text reads_owed.done
handed_is reads_owed =
    ap chars (reads_owed.text ∙ their_units (sequence_text reads_owed.done))
    ∙ chars-encodes (sequence_text reads_owed.done) reads_owed.scalars

owed_text : {t₀ t : Option (List ℕ)} {a b : ReaderState} {x wrote : List ℕ} {m : Bool}
    → ReadsOwed t₀ t a b x wrote m → (z : List ℕ) → (b.ended ≡ true → z ≡ [])
    → sequence_text (owed_sequences a (x ++ z)) ≡ chars wrote ++ sequence_text (owed_sequences b z)
owed_text {b = b} reads_owed z n =
    ap sequence_text (reads_owed.residual z n)
    ∙ sequence_text-append reads_owed.done (owed_sequences b z)
    ∙ ap (λ u. u ++ sequence_text (owed_sequences b z)) (sym (handed_is reads_owed))

-- What a run begins with: the byte order marks that it looks for, the two encodings, and what its
-- sides model.
pub record RunStart : Type 0 where
  pub handling : BomHandling
  pub from : Encoding
  pub to : Encoding
  pub remaining : Option (List ℕ)
  pub taken : Option (List ℕ)

-- A run after `made` reads.
pub record RunState : Type 0 where
  pub source : ReaderPlace
  pub taken : Option (List ℕ)
  pub writer : WriterState
  pub malformed : Bool
  pub made : ℕ

-- Each of the reads has handed out a text: all of it is written and pushed.
pub record HasRun (start : RunStart) (now : RunState) : Type 0 where
  pub bytes : List ℕ
  pub wrote : List ℕ
  pub reads : ReadsOwed start.remaining now.source.remaining
      (fresh_reader start.handling start.from)
      now.source.state bytes wrote now.malformed
  pub is_exhausted : now.source.state.ended ≡ true → IsExhausted now.source.remaining
  pub written : HasWrittenText start.taken now.taken (fresh_writer start.to) now.writer
      (chars wrote)
  pub none_held : now.writer.held ≡ []
  pub enough : now.made + distance_to_end now.source.state ≤ 1 + 2 * length bytes

-- A run begins one step before the end of an empty source, at most.
one_at_most : (finished : Bool) → (if finished then 0 else 1) ≤ 1
one_at_most false = omega arith
one_at_most true = omega arith

distance_at_start : (handling : BomHandling) (from : Encoding)
    → distance_to_end (fresh_reader handling from) ≤ 1
distance_at_start handling from = one_at_most (has_finished (fresh_decoder handling from))

pub HasRun-start : {start : RunStart} {remaining : Option (List ℕ)} {reader : ReaderState}
    {taken : Option (List ℕ)} {writer : WriterState} {malformed : Bool}
    → remaining ≡ start.remaining → reader ≡ fresh_reader start.handling start.from
    → taken ≡ start.taken
    → writer ≡ fresh_writer start.to → malformed ≡ false
    → HasRun start (record {
      source = reader_at remaining reader;
      taken = taken;
      writer = writer;
      malformed = malformed;
      made = 0;
    })
HasRun-start {start} all_remaining is_fresh none_taken fresh none_malformed =
    rw (all_remaining, is_fresh, none_taken, fresh, none_malformed) (record {
      bytes = [];
      wrote = [];
      reads = ReadsOwed-none start.remaining (fresh_reader start.handling start.from);
      is_exhausted = λ e. not_ended e;
      written = rw chars-nil (HasWrittenText-none start.taken (fresh_writer start.to));
      none_held = refl;
      enough = omega (arith, distance_at_start start.handling start.from);
    })

-- The bytes of a whole text are those that a fresh writer owes for it.
pub whole_is_owed : (to : Encoding) (text : List ℕ)
    → whole_bytes [] to text ≡ owed_bytes (fresh_writer to) text
whole_is_owed to text =
    ap (λ (rule : EncoderRule). bytes_of_text rule Ascii (with_references rule text))
    (sym (output_rule_is [] to))

-- The bytes of a whole input are those that a fresh writer owes for its text.
owed_is : (handling : BomHandling) (from to : Encoding) (bytes : List ℕ)
    → recoded_bytes handling from to bytes
    ≡ owed_bytes (fresh_writer to)
    (sequence_text (owed_sequences (fresh_reader handling from) bytes))
owed_is handling from to bytes =
    whole_is_owed to (whole_text handling from bytes)

-- At the end nothing is owed.
none_after : (s : ReaderState) → has_finished s.decoder ≡ true → (z : List ℕ)
    → owed_sequences s z ≡ []
none_after s f z = none_left s.decoder (s.unread ++ z) f

-- A source that says all its bytes gives no more than they are.
whole_given : (old new : Option (List ℕ)) (bytes : List ℕ) {failed : Bool}
    → Consumes old new bytes → (length bytes < 2 ^ 62 → failed ≡ true)
    → IfSome old (λ all. length all < 2 ^ 62 → failed ≡ true)
whole_given None new bytes given fails = tt
whole_given (Some all) None bytes given fails = absurd given
whole_given (Some all) (Some rest) bytes given fails =
    rw given (λ few. fails (omega (arith, few, length-append bytes rest)))

-- Some reads have handed out `text`, of which the sink has taken a prefix of the bytes.
RunsToFault-by_prefix : (start : RunStart) (next : ReaderPlace) {taken : Option (List ℕ)}
    {bytes wrote text : List ℕ} {malformed last : Bool}
    → ReadsOwed start.remaining next.remaining (fresh_reader start.handling start.from) next.state
    bytes wrote malformed → (next.state.ended ≡ true → IsExhausted next.remaining)
    → text ≡ chars wrote → (last ≡ true → has_finished next.state.decoder ≡ true)
    → TakesPrefix start.taken taken (fresh_writer start.to) text last
    → RunsToFault start.handling start.from start.to start.remaining next.remaining start.taken
    taken
RunsToFault-by_prefix start next {bytes = bytes} {wrote = wrote} {text = text} reads exhausted
    text_is finished takes =
    let later : List ℕ → List ℕ = λ z. sequence_text (owed_sequences next.state z) in
    record {
      bytes = bytes;
      given = reads.given;
      ended = next.state.ended;
      none_left = exhausted;
      wrote = takes.pushed;
      written = takes.taken;
      prefix = λ z ends.
          let others = takes.prefix (later z)
          (λ is_last. ap sequence_text (none_after next.state (finished is_last) z)) in (
            others.0,
            owed_is start.handling start.from start.to (bytes ++ z)
                ∙ ap (owed_bytes (fresh_writer start.to)) (owed_text reads z ends
                ∙ ap (λ t. t ++ later z) (sym text_is))
                ∙ others.1,
          );
    }

-- one read more
module _ {start : RunStart} {now : RunState} (next : ReaderPlace) {text : List ℕ} {malformed : Bool}
    (so_far : HasRun start now)
    (hands_out : HandsOut now.source.remaining next.remaining now.source.state next.state text
    now.malformed malformed) where
  reads_on : ReadsOwed start.remaining next.remaining (fresh_reader start.handling start.from)
      next.state
      (so_far.bytes ++ hands_out.bytes) (so_far.wrote ++ text) malformed
  reads_on = rw hands_out.flag
      (ReadsOwed-then (reader_at start.remaining (fresh_reader start.handling start.from))
      now.source next so_far.reads hands_out.reads)

  chars_on : chars (so_far.wrote ++ text) ≡ chars so_far.wrote ++ chars text
  chars_on = chars-append so_far.wrote text (handed_utf_8 so_far.reads)

  -- its text is written
  module _ {between : Option (List ℕ)} {mid : WriterState}
      (writes : WritesText now.taken between now.writer mid (chars text)) where
    written_on : HasWrittenText start.taken between (fresh_writer start.to) mid
        (chars (so_far.wrote ++ text))
    written_on = rw chars_on
        (writes.after start.taken (fresh_writer start.to) (chars so_far.wrote) so_far.written)

    -- and the bytes held are pushed
    pub HasRun-more : {taken : Option (List ℕ)} {writer : WriterState}
        → WritesText between taken mid writer [] → writer.held ≡ [] → 0 < length text
        → HasRun start (record {
          source = next;
          taken = taken;
          writer = writer;
          malformed = malformed;
          made = now.made + 1;
        })
    HasRun-more flushes none_held some = record {
      none_held = none_held;
      bytes = so_far.bytes ++ hands_out.bytes;
      wrote = so_far.wrote ++ text;
      reads = reads_on;
      is_exhausted = hands_out.exhausted;
      written = rw append-nil at
          (flushes.after start.taken (fresh_writer start.to) (chars (so_far.wrote ++ text))
          written_on);
      enough = omega (arith, length-append so_far.bytes hands_out.bytes);
    }

    -- or a fault stops the push
    pub RunsToFault-pushing : {taken : Option (List ℕ)} → StopsWithin between taken mid [] false
        → RunsToFault start.handling start.from start.to start.remaining next.remaining start.taken
        taken
    RunsToFault-pushing stops =
        RunsToFault-by_prefix start next reads_on hands_out.exhausted
        (append-nil (chars (so_far.wrote ++ text))) (λ is_last. not_ended is_last)
        (stops start.taken (fresh_writer start.to) (chars (so_far.wrote ++ text)) written_on)

  -- a fault while its text is written
  pub RunsToFault-writing : {taken : Option (List ℕ)}
      → StopsWithin now.taken taken now.writer (chars text) false
      → RunsToFault start.handling start.from start.to start.remaining next.remaining start.taken
      taken
  RunsToFault-writing stops =
      RunsToFault-by_prefix start next reads_on hands_out.exhausted (sym chars_on)
      (λ is_last. not_ended is_last)
      (stops start.taken (fresh_writer start.to) (chars so_far.wrote) so_far.written)

  -- the end
  module _ (end : IsReaderAtEnd next.remaining next.state) (none : text ≡ []) where
    text_stays : chars (so_far.wrote ++ text) ≡ chars so_far.wrote
    text_stays = ap (λ t. chars (so_far.wrote ++ t)) none ∙ ap chars (append-nil so_far.wrote)

    -- a fault while it is written
    pub RunsToFault-ending : {taken : Option (List ℕ)}
        → StopsWithin now.taken taken now.writer [] true
        → RunsToFault start.handling start.from start.to start.remaining next.remaining start.taken
        taken
    RunsToFault-ending stops =
        RunsToFault-by_prefix start next reads_on hands_out.exhausted
        (append-nil (chars so_far.wrote) ∙ sym text_stays) (λ _. end.finished)
        (stops start.taken (fresh_writer start.to) (chars so_far.wrote) so_far.written)

    all_done : whole_sequences start.handling start.from (so_far.bytes ++ hands_out.bytes)
        ≡ reads_on.done
    all_done =
        ap (owed_sequences (fresh_reader start.handling start.from))
        (sym (append-nil (so_far.bytes ++ hands_out.bytes)))
        ∙ reads_on.residual [] (λ _. refl)
        ∙ ap (λ ss. reads_on.done ++ ss) end.none_owed ∙ append-nil reads_on.done

    text_is : chars so_far.wrote ≡ whole_text start.handling start.from
        (so_far.bytes ++ hands_out.bytes)
    text_is = sym text_stays ∙ handed_is reads_on ∙ ap sequence_text (sym all_done)

    bytes_are : owed_bytes (fresh_writer start.to) (chars so_far.wrote)
        ≡ recoded_bytes start.handling start.from start.to (so_far.bytes ++ hands_out.bytes)
    bytes_are =
        ap (owed_bytes (fresh_writer start.to)) text_is
        ∙ sym (whole_is_owed start.to (whole_text start.handling start.from
        (so_far.bytes ++ hands_out.bytes)))

    flag_is : (malformed || now.writer.had_unmappables)
        ≡ any_replaced start.handling start.from start.to (so_far.bytes ++ hands_out.bytes)
    flag_is =
        let all = so_far.bytes ++ hands_out.bytes in
        ap (λ b. b || now.writer.had_unmappables)
        (reads_on.flag ∙ ap any_malformed (sym all_done))
        ∙ ap (λ u. any_malformed (whole_sequences start.handling start.from all) || u)
        (so_far.written.flag
        ∙ ap (λ (rule : EncoderRule). any_unmappable rule (chars so_far.wrote))
        (output_rule_is [] start.to)
        ∙ ap (any_unmappable (output_rule [] start.to)) text_is)

    pub RunsToEnd-last : {taken : Option (List ℕ)} → EndsText now.taken taken now.writer
        → RunsToEnd start.handling start.from start.to start.remaining next.remaining start.taken
        taken
        (malformed || now.writer.had_unmappables)
    RunsToEnd-last {taken = taken} ends = record {
      bytes = so_far.bytes ++ hands_out.bytes;
      all_read = all_given start.remaining next.remaining (so_far.bytes ++ hands_out.bytes)
          reads_on.given end.exhausted;
      none_left = none_remaining start.remaining next.remaining (so_far.bytes ++ hands_out.bytes)
          reads_on.given end.exhausted;
      flag = flag_is;
      written = subst (AppendsContents start.taken taken) bytes_are
          (ends start.taken (fresh_writer start.to) (chars so_far.wrote) so_far.written);
    }

-- a fault between two texts
module _ {start : RunStart} {now : RunState} (so_far : HasRun start now) where
  stops_at : (next : ReaderPlace) (x : List ℕ) (malformed : Bool)
      → ReadsOwed now.source.remaining next.remaining now.source.state next.state x [] malformed
      → (next.state.ended ≡ true → IsExhausted next.remaining)
      → RunsToFault start.handling start.from start.to start.remaining next.remaining start.taken
      now.taken
  stops_at next x malformed reads_owed is_exhausted =
      RunsToFault-by_prefix start next
      (ReadsOwed-then (reader_at start.remaining (fresh_reader start.handling start.from))
      now.source next so_far.reads reads_owed)
      is_exhausted (sym (chars-append so_far.wrote [] (handed_utf_8 so_far.reads)))
      (λ is_last. not_ended is_last)
      (StopsWithin-none now.taken now.writer (chars []) false start.taken
      (fresh_writer start.to) (chars so_far.wrote) so_far.written)

  -- after `made` reads
  pub RunsToFault-between : RunsToFault start.handling start.from start.to start.remaining
      now.source.remaining
      start.taken now.taken
  RunsToFault-between =
      stops_at now.source [] false (ReadsOwed-none now.source.remaining now.source.state)
      so_far.is_exhausted

  -- and there are not that many reads
  pub has_failed-between : (failed : Bool) → now.made ≡ 2 ^ 64 - 1
      → IfSome start.remaining (λ all. length all < 2 ^ 62 → failed ≡ true)
  has_failed-between failed many =
      whole_given start.remaining now.source.remaining so_far.bytes so_far.reads.given
      (λ few. absurd (omega (arith, few, many, so_far.enough)))

  -- in a read
  module _ (next : ReaderPlace) {failed_before failed_after : Bool}
      (fails : FailsToRead now.source.remaining next.remaining failed_before failed_after
      now.source.state next.state) where
    pub RunsToFault-reading : RunsToFault start.handling start.from start.to start.remaining
        next.remaining
        start.taken now.taken
    RunsToFault-reading =
        stops_at next fails.bytes false fails.reads
        (λ e. absurd (false≢true (sym fails.not_ended ∙ e)))

    -- so the source has failed
    pub has_failed-reading : IfSome start.remaining
        (λ all. length all < 2 ^ 62 → failed_after ≡ true)
    has_failed-reading =
        whole_given start.remaining next.remaining (so_far.bytes ++ fails.bytes)
        (Consumes-trans start.remaining now.source.remaining next.remaining so_far.bytes
        fails.bytes so_far.reads.given fails.reads.given)
        (λ few. elim fails.why [
          | inl failed ↦ failed
          | inr many ↦ absurd (omega (arith, few, many, length-append so_far.bytes fails.bytes))
        ])
