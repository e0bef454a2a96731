-- Successive reads are one read, and what a read is made of.
use Rattle.std.proofs.Common.{◌≡◌, ℕ, ◌+◌, ◌-◌, ◌*◌, ◌^◌, ◌<◌, ◌≤◌, ◌⊎◌, inl, inr, Bool, true, false, ◌||◌, List, []}
use Rattle.std.proofs.Common.{◌++◌, length, take, drop, Option, refl, ap, ◌∙◌, sym, subst, arith}
use Rattle.std.proofs.Common.{append_assoc, append-nil}
use Rattle.std.proofs.Common.{length-append, if◌then◌else◌, IsUtf8, nat_eq}
use Rattle.std.proofs.Math.ListN.{length-drop}
use Rattle.std.proofs.Math.Seq.{take-add}
use Rattle.std.proofs.lemmas.List.{length-take}
use Rattle.std.proofs.lemmas.Bool.{false≢true, eqb-false}
use Rattle.enc_decoder.proofs.FirstSequenceLemmas.{true_or_false}
use Rattle.std.specs.Char.{encode_utf8}
use Rattle.enc_utf8.specs.Text.{units_of_text}
use Rattle.enc_utf8.proofs.UnitsLemmas.{text_utf8}
use Rattle.enc_decoder.specs.Sequence.{sequence_text, any_malformed}
use Rattle.enc_decoder.proofs.SequenceLemmas.{units-append, any_malformed-append, scalars_of-append}
use Rattle.enc_stream.specs.Decoding.{DecoderState, has_finished, remaining_sequences}
use Rattle.std.specs.Io.KnownBytes.{Consumes, Keeps}
use Rattle.enc_reader.specs.Reading.{ReaderState, ReadsOwed, FailsToRead, NoTextDetermined}
use Rattle.enc_reader.specs.Reading.{owed_sequences, owed_encoding}
use Rattle.enc_reader.specs.Reading.{distance_to_end}
use Rattle.enc_reader.specs.Turn.{IsWaiting, PullsChunk, IsTurn}
use Rattle.std.proofs.KnownBytes.{Consumes-nil, Consumes-trans, Consumes-kept}
use Rattle.enc_reader.proofs.NextSequenceLemmas.{no_text_before, unreplaced, waiting_determines_none}

-- A reader over a source that models these bytes.
pub record ReaderPlace : Type 0 where
  pub remaining : Option (List ℕ)
  pub state : ReaderState

abbrev pub reader_at : Option (List ℕ) → ReaderState → ReaderPlace
reader_at remaining state = record { remaining = remaining; state = state }

-- nothing yet
pub ReadsOwed-none : (known : Option (List ℕ)) (s : ReaderState)
    → ReadsOwed known known s s [] [] false
ReadsOwed-none known s = record {
  given = Consumes-nil known;
  none_after = λ e. (refl, e);
  done = [];
  residual = λ z h. refl;
  encoding = λ z h. refl;
  scalars = refl;
  text = refl;
  flag = refl;
  nearer = omega arith;
}

-- some reads, and some more
pub ReadsOwed-then : (a b c : ReaderPlace) {x y w₁ w₂ : List ℕ} {m₁ m₂ : Bool}
    → ReadsOwed a.remaining b.remaining a.state b.state x w₁ m₁
    → ReadsOwed b.remaining c.remaining b.state c.state y w₂ m₂
    → ReadsOwed a.remaining c.remaining a.state c.state (x ++ y) (w₁ ++ w₂) (m₁ || m₂)
ReadsOwed-then a b c {x = x} {y = y} {w₁ = w₁} {w₂ = w₂} {m₂ = m₂} first then_more =
    let rest_is_empty : (z : List ℕ) → (c.state.ended ≡ true → z ≡ []) → b.state.ended ≡ true
    → y ++ z ≡ [] =
    λ z h e. let ended = then_more.none_after e in ap (λ u. u ++ z) ended.0 ∙ h ended.1 in
    record {
      given = Consumes-trans a.remaining b.remaining c.remaining x y first.given
          then_more.given;
      none_after = λ e. let first_ended = first.none_after e in
          let then_ended = then_more.none_after first_ended.1 in
          (ap (λ u. u ++ y) first_ended.0 ∙ then_ended.0, then_ended.1);
      done = first.done ++ then_more.done;
      residual = λ z ends. ap (owed_sequences a.state) (append_assoc x y z)
          ∙ first.residual (y ++ z) (rest_is_empty z ends)
          ∙ ap (λ ss. first.done ++ ss) (then_more.residual z ends)
          ∙ sym (append_assoc first.done then_more.done (owed_sequences c.state z));
      encoding = λ z ends. then_more.encoding z ends
          ∙ first.encoding (y ++ z) (rest_is_empty z ends)
          ∙ ap (owed_encoding a.state) (sym (append_assoc x y z));
      scalars = scalars_of-append first.done then_more.done first.scalars then_more.scalars;
      text = ap (λ u. u ++ w₂) first.text
          ∙ ap (λ u. units_of_text encode_utf8 (sequence_text first.done) ++ u)
          then_more.text ∙ sym (units-append encode_utf8 first.done then_more.done);
      flag = ap (λ m. m || m₂) first.flag ∙ ap (λ m. any_malformed first.done || m) then_more.flag
          ∙ sym (any_malformed-append first.done then_more.done);
      nearer = omega (arith, length-append x y, length-append w₁ w₂);
    }

-- how far one is that has come to the end, and one that hasn't

pub ended_at : (s : ReaderState) → has_finished s.decoder ≡ true → distance_to_end s ≡ 0
ended_at s f = ap (λ b. if b then 0 else 1 + (2 * length s.unread + length s.decoder.pending)) f

pub before_end : (s : ReaderState) → has_finished s.decoder ≡ false
    → distance_to_end s ≡ 1 + (2 * length s.unread + length s.decoder.pending)
before_end s f = ap (λ b. if b then 0 else 1 + (2 * length s.unread + length s.decoder.pending)) f

-- A chunk that is pulled after the unread bytes, by places in the buffer: `held` bytes are unread,
-- and n more are pulled after them. All is owed that was owed.
abbrev pub PullsChunk-after : {t₀ t₁ : Option (List ℕ)} {d : DecoderState} {ended : Bool}
    {xs : List ℕ} (held n : ℕ) (ys : List ℕ)
    → ended ≡ false → has_finished d ≡ false → take held ys ≡ xs → n ≤ length ys - held
    → Consumes t₀ t₁ (take n (drop held ys))
    → PullsChunk t₀ t₁ (record { decoder = d; unread = xs; ended = ended })
    (record { decoder = d; unread = take (held + n - 0) (drop 0 ys); ended = nat_eq n 0 })
PullsChunk-after {d = d} {ended = ended} {xs = xs} held n ys not_ended going held_are bound given =
    let now : ReaderState = record {
      decoder = d;
      unread = take (held + n - 0) (drop 0 ys);
      ended = nat_eq n 0;
    } in
    let bytes : List ℕ = take n (drop held ys) in
    let all : held + n - 0 ≡ held + n = omega arith in
    let unread : now.unread ≡ xs ++ bytes =
    ap (λ k. take k ys) all ∙ take-add held n ys ∙ ap (λ u. u ++ bytes) held_are in
    let same_after : (z : List ℕ) → xs ++ (bytes ++ z) ≡ now.unread ++ z =
    λ z. sym (append_assoc xs bytes z) ∙ ap (λ u. u ++ z) (sym unread) in
    record {
      bytes = bytes;
      reads = record {
        given = given;
        none_after = λ e. absurd (false≢true (sym not_ended ∙ e));
        done = [];
        residual = λ z h. ap (remaining_sequences d) (same_after z);
        encoding = λ z h. ap (owed_encoding (record now { unread = [] })) (sym (same_after z));
        scalars = refl;
        text = refl;
        flag = refl;
        nearer = omega (
          arith,
          before_end (record now { unread = xs }) going,
          before_end now going,
          ap length unread,
          length-append xs bytes,
        );
      };
      some = λ more. omega (
        arith,
        eqb-false n 0 more,
        length-take n (drop held ys),
        length-drop held ys,
      );
      decoder = refl;
      unread = unread;
    }

-- A read up to now: the text handed out, and whether it waits, after `pulls` pulls. None was made
-- while text was determined.
pub record HasRead (start now : ReaderPlace) (wrote : List ℕ) (replaced waits : Bool)
    (pulls : ℕ) : Type 0 where
  pub bytes : List ℕ
  pub reads : ReadsOwed start.remaining now.remaining start.state now.state bytes wrote replaced
  pub enough : waits ≡ true → pulls ≤ length bytes
  pub waiting : waits ≡ true → IsWaiting now.state
  pub text_or_end : waits ≡ false → wrote ≡ [] → has_finished now.state.decoder ≡ true
  pub needed : (bytes ≡ []) ⊎ NoTextDetermined start.state

abbrev pub HasRead-turn : {known : Option (List ℕ)} {s₀ s : ReaderState} {wrote : List ℕ}
    {replaced waits : Bool}
    → IsTurn s₀ s wrote replaced waits
    → HasRead (reader_at known s₀) (reader_at known s) wrote replaced waits 0
HasRead-turn {known = known} turn =
    record {
      bytes = [];
      reads = turn.reads known;
      enough = λ _. omega arith;
      waiting = turn.waiting;
      text_or_end = turn.text_or_end;
      needed = inl refl;
    }

-- a chunk more, and a turn
abbrev pub HasRead-more : {start now next : ReaderPlace} {pulled : ReaderState} {wrote : List ℕ}
    {r₀ r₁ waits : Bool} {pulls : ℕ} → HasRead start now [] r₀ true pulls
    → PullsChunk now.remaining next.remaining now.state pulled
    → IsTurn pulled next.state wrote r₁ waits
    → HasRead start next wrote (r₀ || r₁) waits (pulls + 1)
HasRead-more {start = start} {now = now} {next = next} {pulled = pulled} so_far pull turn =
    let turn_reads = turn.reads next.remaining in
    record {
      bytes = so_far.bytes ++ pull.bytes;
      reads =
          rw (← append-nil pull.bytes)
          (ReadsOwed-then start now next so_far.reads
          (ReadsOwed-then now (reader_at next.remaining pulled) next pull.reads turn_reads));
      enough = λ w. elim (true_or_false pulled.ended) [
        | inl e ↦ absurd (false≢true (sym (turn.waiting w).not_ended ∙ (turn_reads.none_after e).1))
        | inr e ↦ (let some : 0 < length pull.bytes = pull.some e in
            omega (arith, some, so_far.enough refl, length-append so_far.bytes pull.bytes))
      ];
      waiting = turn.waiting;
      text_or_end = turn.text_or_end;
      needed = inr (elim so_far.needed [
        | inl none ↦ no_text_before so_far.reads none (so_far.waiting refl)
        | inr no_text ↦ no_text
      ]);
    }

-- a read that fails while it waits
pub FailsToRead-waiting : {start now : ReaderPlace} {failed_before failed_after : Bool}
    {r : Bool} {pulls : ℕ} (read : HasRead start now [] r true pulls)
    → failed_before ≡ false → (failed_after ≡ true) ⊎ (2 ^ 64 - 1 ≤ length read.bytes)
    → FailsToRead start.remaining now.remaining failed_before failed_after start.state now.state
FailsToRead-waiting {start = start} {now = now} read going why = record {
  bytes = read.bytes;
  reads = subst (ReadsOwed start.remaining now.remaining start.state now.state read.bytes [])
      (unreplaced read.reads) read.reads;
  none_determined = waiting_determines_none (read.waiting refl);
  not_ended = (read.waiting refl).not_ended;
  not_before = going;
  why = why;
}

-- the same after a pull that fails, which gives nothing
pub ReadsOwed-kept : (t₀ t₁ t₂ : Option (List ℕ)) {a b : ReaderState} {bytes wrote : List ℕ}
    {malformed : Bool} → Keeps t₁ t₂ → ReadsOwed t₀ t₁ a b bytes wrote malformed
    → ReadsOwed t₀ t₂ a b bytes wrote malformed
ReadsOwed-kept t₀ t₁ t₂ {bytes = bytes} kept reads = record {
  given = Consumes-kept t₀ t₁ t₂ bytes reads.given kept;
  none_after = reads.none_after;
  done = reads.done;
  residual = reads.residual;
  encoding = reads.encoding;
  scalars = reads.scalars;
  text = reads.text;
  flag = reads.flag;
  nearer = reads.nearer;
}

pub FailsToRead-kept : (t₀ t₁ t₂ : Option (List ℕ)) {failed_before failed_after : Bool}
    {a b : ReaderState} → Keeps t₁ t₂ → FailsToRead t₀ t₁ failed_before failed_after a b
    → FailsToRead t₀ t₂ failed_before failed_after a b
FailsToRead-kept t₀ t₁ t₂ kept fails = record {
  bytes = fails.bytes;
  reads = ReadsOwed-kept t₀ t₁ t₂ kept fails.reads;
  none_determined = fails.none_determined;
  not_ended = fails.not_ended;
  not_before = fails.not_before;
  why = fails.why;
}

-- the text handed out is UTF-8
pub handed_utf_8 : {t₀ t : Option (List ℕ)} {s₀ s : ReaderState} {bytes wrote : List ℕ}
    {malformed : Bool} → ReadsOwed t₀ t s₀ s bytes wrote malformed → IsUtf8 wrote
handed_utf_8 {wrote = wrote} reads_owed =
    text_utf8 wrote (sequence_text reads_owed.done) reads_owed.scalars reads_owed.text
