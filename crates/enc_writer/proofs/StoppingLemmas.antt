-- A writer that fails: the text taken until then, and its bytes.
use Rattle.std.proofs.Common.{◌≡◌, ℕ, Bool, true, false, ◌||◌, Option, List, [], ◌++◌, refl, ap, ◌∙◌, sym, subst}
use Rattle.std.proofs.Common.{append_assoc, append-nil}
use Rattle.std.proofs.Math.Bool.{or_assoc}
use Rattle.enc_encoder.specs.Unmappable.{any_unmappable}
use Rattle.enc_encoder.proofs.UnmappableLemmas.{any_unmappable-append}
use Rattle.enc_stream.specs.Encoder.{raw_state}
use Rattle.std.specs.Io.KnownBytes.{Keeps}
use Rattle.enc_writer.specs.Sink.{AppendsPrefix}
use Rattle.enc_writer.specs.EncodedText.{EncodesText, bytes_from_state, text_to_encode}
use Rattle.enc_writer.specs.Writing.{WriterState, HasEncoded, HasWrittenText, TakesPrefix, StopsWithin, EndsText}
use Rattle.enc_writer.specs.Writing.{ended_writer, owed_bytes}
use Rattle.enc_writer.specs.Stopping.{HasStopped, StopsText}
use Rattle.enc_writer.proofs.SinkLemmas.{AppendsContents-none, AppendsContents-then}
use Rattle.enc_writer.proofs.SinkLemmas.{AppendsContents-keeps}
use Rattle.enc_writer.proofs.EncodingLemmas.{EncodesText-none, EncodesText-then, none_owed}
use Rattle.enc_writer.proofs.WritingLemmas.{HasWrittenText-none, or_false, owed_by, same_rule}

-- A push leaves the encoder and the flag.
abbrev pub SameState : WriterState → WriterState → Type 0
SameState b c = (c.encoder ≡ b.encoder) × (c.had_unmappables ≡ b.had_unmappables)

-- a writer of the same encoder and flag, whatever it holds
pub same_state : (P : WriterState → Type 0) (b c : WriterState) → SameState b c
    → P (record { encoder = b.encoder; held = c.held; had_unmappables = b.had_unmappables }) → P c
same_state P b c same h =
    subst (λ x. P (record { encoder = x; held = c.held; had_unmappables = c.had_unmappables }))
    (sym same.0)
    (subst (λ x. P (record { encoder = b.encoder; held = c.held; had_unmappables = x }))
    (sym same.1) h)

-- A part of a text is encoded, and of the bytes of another part, which follow those held, the sink
-- takes a prefix.
module _ {k₀ k₁ k₂ : Option (List ℕ)} {a b c : WriterState} where
  pub HasStopped-pushed : {t u left bytes : List ℕ} {last : Bool} → HasEncoded k₀ k₁ a b t u last
      → EncodesText (text_to_encode b.encoder u) (text_to_encode b.encoder left) last bytes false
      → AppendsPrefix k₁ k₂ (b.held ++ bytes) → SameState b c → HasStopped k₀ k₂ a c t last
  HasStopped-pushed {t} {left = left} {bytes = bytes} {last = last} encoded encodes part same =
      let both = EncodesText-then encoded.encoded encodes in
      same_state (λ w. HasStopped k₀ k₂ a w t last) b c same (record {
        encoding = both.encoding;
        barred = both.barred;
        front = both.front;
        rest = left;
        reads = both.reads;
        flag = encoded.flag ∙ ap (λ x. a.had_unmappables || x)
            (or_false encoded.replaced ∙ both.flag);
        pushed = encoded.pushed ++ part.wrote;
        lost = part.unwritten;
        taken = AppendsContents-then k₀ k₁ k₂ encoded.pushed part.wrote encoded.taken part.taken;
        owed = λ z ends.
            let later = bytes_from_state b.encoder (left ++ z) in
            owed_by encoded z ends
            ∙ ap (λ x. encoded.pushed ++ (b.held ++ x)) (encodes.residual z ends)
            ∙ ap (λ x. encoded.pushed ++ x) (sym (append_assoc b.held bytes later)
            ∙ ap (λ x. x ++ later) part.prefix
            ∙ append_assoc part.wrote part.unwritten later)
            ∙ sym (append_assoc encoded.pushed part.wrote (part.unwritten ++ later));
      })

-- a part is encoded, and a push of the bytes held fails
pub HasStopped-held : {k₀ k₁ k₂ : Option (List ℕ)} {a b c : WriterState} {t u : List ℕ}
    {last : Bool} → HasEncoded k₀ k₁ a b t u last → AppendsPrefix k₁ k₂ b.held → SameState b c
    → HasStopped k₀ k₂ a c t last
HasStopped-held {b = b} {u = u} {last = last} encoded part same =
    HasStopped-pushed encoded (EncodesText-none (text_to_encode b.encoder u) last)
    (rw (append-nil b.held) part) same

-- a part is encoded, and the rest fails
pub HasStopped-after : {k₀ k₁ k₂ : Option (List ℕ)} {a b c : WriterState} {t u : List ℕ}
    {last : Bool}
    → HasEncoded k₀ k₁ a b t u last → HasStopped k₁ k₂ b c u last → HasStopped k₀ k₂ a c t last
HasStopped-after {k₀} {k₁} {k₂} {a} {b} encoded next =
    let rule = (raw_state a.encoder).rule in
    let front = encoded.encoded.front in
    record {
      encoding = next.encoding ∙ encoded.encoded.encoding;
      barred = next.barred ∙ encoded.encoded.barred;
      front = front ++ next.front;
      rest = next.rest;
      reads = encoded.encoded.reads ∙ ap (λ x. front ++ x) next.reads
          ∙ sym (append_assoc front next.front next.rest);
      flag = next.flag
          ∙ ap (λ r. b.had_unmappables || any_unmappable r next.front)
          (same_rule a.encoder b.encoder encoded.encoded.encoding encoded.encoded.barred)
          ∙ ap (λ x. x || any_unmappable rule next.front) encoded.flag
          ∙ or_assoc a.had_unmappables encoded.replaced (any_unmappable rule next.front)
          ∙ ap (λ x. a.had_unmappables || (x || any_unmappable rule next.front))
          encoded.encoded.flag
          ∙ ap (λ x. a.had_unmappables || x) (sym (any_unmappable-append rule front next.front));
      pushed = encoded.pushed ++ next.pushed;
      lost = next.lost;
      taken = AppendsContents-then k₀ k₁ k₂ encoded.pushed next.pushed encoded.taken next.taken;
      owed = λ z ends. owed_by encoded z ends ∙ ap (λ x. encoded.pushed ++ x) (next.owed z ends)
          ∙ sym (append_assoc encoded.pushed next.pushed _);
    }

-- no call is made
pub HasStopped-none : (k : Option (List ℕ)) (w : WriterState) (t : List ℕ) (last : Bool)
    → HasStopped k k w w t last
HasStopped-none k w t last = record {
  encoding = refl;
  barred = refl;
  front = [];
  rest = t;
  reads = refl;
  flag = or_false w.had_unmappables;
  pushed = [];
  lost = w.held;
  taken = AppendsContents-none k;
  owed = λ z ends. refl;
}

pub same_by : {b c : WriterState} → c ≡ b → SameState b c
same_by same =
    (ap (λ (w : WriterState). w.encoder) same, ap (λ (w : WriterState). w.had_unmappables) same)

-- all of a text is written, and the sink then fails without taking any more
pub HasStopped-written : {k₀ k₁ k₂ : Option (List ℕ)} {a b c : WriterState} {t : List ℕ}
    → HasWrittenText k₀ k₁ a b t → Keeps k₁ k₂ → SameState b c → HasStopped k₀ k₂ a c t false
HasStopped-written {k₀} {k₁} {k₂} {a} {b} {c} {t} written none_taken same =
    same_state (λ w. HasStopped k₀ k₂ a w t false) b c same (record {
      encoding = written.encoding;
      barred = written.barred;
      front = t;
      rest = [];
      reads = sym (append-nil t);
      flag = written.flag;
      pushed = written.pushed;
      lost = b.held;
      taken = AppendsContents-keeps k₀ k₁ k₂ written.pushed written.taken none_taken;
      owed = λ z ends. written.owed z;
    })

-- the end of a text is written, and the sink then fails without taking any more
pub HasStopped-ended : {k₀ k₁ k₂ : Option (List ℕ)} {a c : WriterState} → EndsText k₀ k₁ a
    → Keeps k₁ k₂ → SameState (ended_writer a) c → HasStopped k₀ k₂ a c [] true
HasStopped-ended {k₀} {k₁} {k₂} {a} {c} ends none_taken same =
    let ended = ended_writer a in
    same_state (λ w. HasStopped k₀ k₂ a w [] true) ended c same (record {
      encoding = refl;
      barred = refl;
      front = [];
      rest = [];
      reads = refl;
      flag = or_false a.had_unmappables;
      pushed = owed_bytes a [];
      lost = [];
      taken = AppendsContents-keeps k₀ k₁ k₂ (owed_bytes a [])
          (ends k₀ a [] (HasWrittenText-none k₀ a)) none_taken;
      owed = λ z none.
          ap (owed_bytes a) (none refl) ∙ sym (append-nil (owed_bytes a []))
          ∙ ap (λ x. owed_bytes a [] ++ x) (sym (none_owed ended.encoder refl)
          ∙ ap (bytes_from_state ended.encoder) (sym (none refl)));
    })

-- What follows of the bytes alone.
pub TakesPrefix-stopped : {k₀ k₁ : Option (List ℕ)} {a c : WriterState} {t : List ℕ} {last : Bool}
    → HasStopped k₀ k₁ a c t last → TakesPrefix k₀ k₁ a t last
TakesPrefix-stopped {c = c} stopped = record {
  pushed = stopped.pushed;
  taken = stopped.taken;
  prefix = λ z ends.
      (stopped.lost ++ bytes_from_state c.encoder (stopped.rest ++ z), stopped.owed z ends);
}

-- after a text that is written
pub StopsText-by : {k₀ k₁ : Option (List ℕ)} {a c : WriterState} {t : List ℕ} {last : Bool}
    → HasStopped k₀ k₁ a c t last → StopsText k₀ k₁ a c t last
StopsText-by {k₀} {k₁} {a} {c} {t} stopped = record {
  alone = stopped;
  after = λ k start before first.
      let rule = (raw_state start.encoder).rule in
      record {
        encoding = stopped.encoding ∙ first.encoding;
        barred = stopped.barred ∙ first.barred;
        front = before ++ stopped.front;
        rest = stopped.rest;
        reads = ap (λ x. before ++ x) stopped.reads
            ∙ sym (append_assoc before stopped.front stopped.rest);
        flag = stopped.flag
            ∙ ap (λ r. a.had_unmappables || any_unmappable r stopped.front)
            (same_rule start.encoder a.encoder first.encoding first.barred)
            ∙ ap (λ x. x || any_unmappable rule stopped.front) first.flag
            ∙ or_assoc start.had_unmappables (any_unmappable rule before)
            (any_unmappable rule stopped.front)
            ∙ ap (λ x. start.had_unmappables || x)
            (sym (any_unmappable-append rule before stopped.front));
        pushed = first.pushed ++ stopped.pushed;
        lost = stopped.lost;
        taken = AppendsContents-then k k₀ k₁ first.pushed stopped.pushed first.taken stopped.taken;
        owed = λ z ends. ap (owed_bytes start) (append_assoc before t z) ∙ first.owed (t ++ z)
            ∙ ap (λ x. first.pushed ++ x) (stopped.owed z ends)
            ∙ sym (append_assoc first.pushed stopped.pushed _);
      };
}

pub StopsWithin-stopped : {k₀ k₁ : Option (List ℕ)} {a : WriterState} (c : WriterState) {t : List ℕ}
    {last : Bool} → HasStopped k₀ k₁ a c t last → StopsWithin k₀ k₁ a t last
StopsWithin-stopped c stopped k start before first =
    TakesPrefix-stopped ((StopsText-by stopped).after k start before first)

-- no call is made
pub StopsWithin-none : (k : Option (List ℕ)) (w : WriterState) (t : List ℕ) (last : Bool)
    → StopsWithin k k w t last
StopsWithin-none k w t last = StopsWithin-stopped w (HasStopped-none k w t last)
