-- The count of the bytes given, and the malformed sequences passed, over several steps.
use Rattle.std.proofs.Common.{◌≡◌, ℕ, ◌+◌, ◌-◌, ◌^◌, ◌≤◌, min, Bool, true, false, List, [], ◌++◌, length}
use Rattle.std.proofs.Common.{take, drop, Option, None, inl, inr, refl, ap, ◌∙◌, sym, arith, append-nil, length-append}
use Rattle.std.proofs.Common.{nat_eq, ◌||◌}
use Rattle.std.proofs.Math.ListN.{length-drop}
use Rattle.std.proofs.lemmas.List.{length-take}
use Rattle.enc_decoder.specs.Sequence.{Sequence, sequence_bytes}
use Rattle.enc_decoder.specs.Segmentation.{sequences_of}
use Rattle.enc_decoder.specs.Remainder.{IsUndetermined}
use Rattle.enc_decoder.proofs.FirstSequenceLemmas.{true_or_false}
use Rattle.enc_decoder.proofs.SegmentationLemmas.{sequences_of-nil}
use Rattle.enc_decoder.proofs.SequenceLemmas.{sequence_bytes-append}
use Rattle.enc_stream.specs.declared.encoding.Encoding.{Encoding}
use Rattle.enc_stream.specs.declared.bom.BomHandling.{BomHandling}
use Rattle.enc_stream.specs.Encodings.{rule_of}
use Rattle.enc_stream.specs.Bom.{find_mark, marks_looked_for}
use Rattle.enc_stream.specs.Decoding.{DecoderState, has_finished, remaining_sequences}
use Rattle.enc_stream.specs.Faults.{faults_from, whole_faults}
use Rattle.enc_stream.proofs.FoundMarkLemmas.{looked_for_have}
use Rattle.enc_stream.proofs.RemainingRuleLemmas.{unmarked_remaining}
use Rattle.enc_stream.proofs.WholeInputLemmas.{joined, remaining_bytes}
use Rattle.enc_stream.proofs.EndOfInputLemmas.{none_left}
use Rattle.enc_stream.proofs.FaultLemmas.{faults-append}
use Rattle.enc_reader.specs.Source.{IsExhausted}
use Rattle.std.specs.Io.KnownBytes.{Consumes}
use Rattle.enc_reader.specs.Reading.{ReaderState, ReadsOwed, HandsOut, fresh_reader, owed_sequences}
use Rattle.enc_reader.specs.Turn.{IsTurn}
use Rattle.enc_reader.specs.Items.{items_from, whole_items}
use Rattle.enc_reader.specs.Counting.{HasGiven, owed_faults, owed_items, CountsBytes, PullsCounted}
use Rattle.enc_reader.specs.Counting.{Finds, owed_by, Passes}
use Rattle.enc_reader.specs.Counting.{HandsOutCounted}
use Rattle.enc_reader.proofs.ReadingLemmas.{ReaderPlace, reader_at, HasRead, HasRead-turn, HasRead-more}
use Rattle.enc_reader.proofs.ReadingLemmas.{PullsChunk-after}

-- The sequences owed are made of bytes pending, unread and still to come.

owed_bytes : (s : ReaderState) (z : List ℕ) → length (sequence_bytes (owed_sequences s z))
    ≤ length s.unread + length s.decoder.pending + length z
owed_bytes s z = elim (true_or_false (has_finished s.decoder)) [
  | inl finished ↦ omega (
    arith,
    ap (λ ss. length (sequence_bytes ss)) (none_left s.decoder (s.unread ++ z) finished),
  )
  | inr going ↦ omega (
    arith,
    ap length (remaining_bytes s.decoder (s.unread ++ z) going),
    length-append s.decoder.pending (s.unread ++ z),
    length-append s.unread z,
  )
]

-- A decoder without pending bytes has no sequence to put out.
nothing_remains : (d : DecoderState) → d.pending ≡ [] → find_mark d.marks [] ≡ None
    → remaining_sequences d [] ≡ []
nothing_remains d none_pending unmarked = elim (true_or_false (has_finished d)) [
  | inl finished ↦ none_left d [] finished
  | inr going ↦ unmarked_remaining d [] going (rw none_pending unmarked)
      ∙ ap (λ x. sequences_of (rule_of d.encoding) d.set (x ++ [])) none_pending
      ∙ sequences_of-nil (rule_of d.encoding) d.set
]

pub nothing_undetermined : (d : DecoderState) → d.pending ≡ [] → find_mark d.marks [] ≡ None
    → IsUndetermined (remaining_sequences d)
nothing_undetermined d none_pending unmarked next determined =
    let first = determined [] tt in
    let is = sym (nothing_remains d none_pending unmarked) ∙ first.1 in cc

pub none_found_at_start : (handling : BomHandling) (e : Encoding)
    → find_mark (marks_looked_for handling e) [] ≡ None
none_found_at_start = looked_for_have (λ marks. find_mark marks [] ≡ None) refl refl refl refl refl

-- What joined sequences have is joined.
abbrev pub Joins : {A : Type 0} → Finds A → Type 0
Joins found = (at : ℕ) (ss ts : List Sequence) → found at (ss ++ ts)
    ≡ found at ss ++ found (at + length (sequence_bytes ss)) ts

-- What is passed is that of the sequences done.
module _ {k₀ k₁ : Option (List ℕ)} {old new : ReaderState} {bytes wrote : List ℕ}
    {malformed : Bool} where
  module _ (reads_owed : ReadsOwed k₀ k₁ old new bytes wrote malformed) (given : ℕ)
      (among : length old.unread + length old.decoder.pending ≤ given) (z : List ℕ)
      (ends : new.ended ≡ true → z ≡ []) where
    abbrev pub first_offset : ℕ
    first_offset =
        given + length (bytes ++ z) - length (sequence_bytes (owed_sequences old (bytes ++ z)))

    pub offset_after : first_offset + length (sequence_bytes reads_owed.done)
        ≡ given + length bytes + length z - length (sequence_bytes (owed_sequences new z))
    offset_after = omega (
      arith,
      among,
      owed_bytes old (bytes ++ z),
      length-append bytes z,
      ap (λ ss. length (sequence_bytes ss)) (reads_owed.residual z ends),
      ap length (sequence_bytes-append reads_owed.done (owed_sequences new z)),
      length-append (sequence_bytes reads_owed.done) (sequence_bytes (owed_sequences new z)),
    )

    -- what they have, if that of joined sequences is joined
    pub passes_done : {A : Type 0} (found : Finds A) → Joins found
        → owed_by found given old (bytes ++ z)
        ≡ found first_offset reads_owed.done ++ owed_by found (given + length bytes) new z
    passes_done found joins =
        ap (found first_offset) (reads_owed.residual z ends)
        ∙ joins first_offset reads_owed.done (owed_sequences new z)
        ∙ ap (λ n. found first_offset reads_owed.done ++ found n (owed_sequences new z))
        offset_after

-- where none of the sequences done has anything
pub passes_none : {k₀ k₁ : Option (List ℕ)} {old new : ReaderState} {bytes wrote : List ℕ}
    {malformed : Bool} {A : Type 0} (found : Finds A) → Joins found
    → (reads_owed : ReadsOwed k₀ k₁ old new bytes wrote malformed)
    → ((at : ℕ) → found at reads_owed.done ≡ []) → (given : ℕ)
    → length old.unread + length old.decoder.pending ≤ given → Passes found given old new bytes []
passes_none {old = old} {new = new} {bytes = bytes} found joins reads_owed none given among z ends =
    passes_done reads_owed given among z ends found joins
    ∙ ap (λ passed. passed ++ owed_by found (given + length bytes) new z)
    (none (first_offset reads_owed given among z ends))

-- two steps, of which the second gives no bytes
pub Passes-turn : {A : Type 0} (found : Finds A) (given : ℕ) (a b c : ReaderState) (x : List ℕ)
    (passed : List A) → (b.ended ≡ true → c.ended ≡ true) → Passes found given a b x []
    → Passes found (given + length x) b c [] passed → Passes found given a c x passed
Passes-turn found given a b c x passed stays_ended first turn z ends =
    let same : given + length x + 0 ≡ given + length x = omega arith in
    first z (λ e. ends (stays_ended e)) ∙ turn z ends
    ∙ ap (λ n. passed ++ owed_by found n c z) same

-- the count

pub CountsBytes-none : (s : ReaderState) (n : ℕ) → CountsBytes s s n n []
CountsBytes-none s n = record {
  counted = λ given counted. let same : given ≡ given + 0 = omega arith in
      counted ∙ ap (λ m. min m (2 ^ 64 - 1)) same;
  among = omega arith;
}

pub CountsBytes-then : {a b c : ReaderState} {n₀ n₁ n₂ : ℕ} (x y : List ℕ)
    → CountsBytes a b n₀ n₁ x → CountsBytes b c n₁ n₂ y → CountsBytes a c n₀ n₂ (x ++ y)
CountsBytes-then x y first then_more = record {
  counted = λ given counted.
      let same : given + length x + length y ≡ given + length (x ++ y) =
      omega (arith, length-append x y) in
      then_more.counted (given + length x) (first.counted given counted)
      ∙ ap (λ m. min m (2 ^ 64 - 1)) same;
  among = omega (arith, first.among, then_more.among, length-append x y);
}

pub HasGiven-then : {old new : ReaderState} {n₀ n₁ : ℕ} {bytes : List ℕ}
    → CountsBytes old new n₀ n₁ bytes → (given : ℕ) → HasGiven n₀ old given
    → HasGiven n₁ new (given + length bytes)
HasGiven-then counts given has = record {
  counted = counts.counted given has.counted;
  among = omega (arith, counts.among, has.among);
}

module _ {k₀ k₁ : Option (List ℕ)} {old new : ReaderState} {n₀ n₁ : ℕ} where
  pub HandsOutCounted-by : {wrote : List ℕ} {had_before had_after : Bool}
      (hands_out : HandsOut k₀ k₁ old new wrote had_before had_after)
      → ((given : ℕ) → HasGiven n₀ old given → HasGiven n₁ new (given + length hands_out.bytes))
      → HandsOutCounted k₀ k₁ old new n₀ n₁ wrote had_before had_after
  HandsOutCounted-by hands_out counts = record {
    hands_out = hands_out;
    counts = counts;
    replaced = λ given has z ends. (
      faults_from (first_offset hands_out.reads given has.among z ends) hands_out.reads.done,
      passes_done hands_out.reads given has.among z ends faults_from faults-append,
    );
  }

-- a reader that has read nothing

pub HasGiven-fresh : (handling : BomHandling) (e : Encoding)
    → HasGiven 0 (fresh_reader handling e) 0
HasGiven-fresh handling e = record { counted = refl; among = omega arith }

-- The first sequence of an input has the offset 0.
starts_at_0 : (handling : BomHandling) (e : Encoding) (z : List ℕ)
    → 0 + length z - length (sequence_bytes (owed_sequences (fresh_reader handling e) z)) ≡ 0
starts_at_0 handling e z = omega (arith, ap length (joined handling e z))

pub fresh_faults : (handling : BomHandling) (e : Encoding) (z : List ℕ)
    → owed_faults 0 (fresh_reader handling e) z ≡ whole_faults handling e z
fresh_faults handling e z =
    ap (λ n. faults_from n (owed_sequences (fresh_reader handling e) z)) (starts_at_0 handling e z)

pub fresh_items : (handling : BomHandling) (e : Encoding) (z : List ℕ)
    → owed_items 0 (fresh_reader handling e) z ≡ whole_items handling e z
fresh_items handling e z =
    ap (λ n. items_from n (owed_sequences (fresh_reader handling e) z)) (starts_at_0 handling e z)

-- a chunk that is pulled, by places in the buffer
module _ {t₀ t₁ : Option (List ℕ)} {d : DecoderState} {ended : Bool} {xs : List ℕ} {n₀ n₁ : ℕ}
  where
    pub PullsCounted-after : (held n : ℕ) (ys : List ℕ)
        → ended ≡ false → has_finished d ≡ false → take held ys ≡ xs → n ≤ length ys - held
        → Consumes t₀ t₁ (take n (drop held ys)) → n₁ ≡ min (n₀ + n) (2 ^ 64 - 1)
        → PullsCounted t₀ t₁ (record { decoder = d; unread = xs; ended = ended })
        (record { decoder = d; unread = take (held + n - 0) (drop 0 ys); ended = nat_eq n 0 }) n₀ n₁
    PullsCounted-after held n ys not_ended going held_are bound given counted =
        let pulled : length (take n (drop held ys)) ≡ n = omega (
          arith,
          length-take n (drop held ys),
          length-drop held ys,
        ) in
        record {
          pulls = PullsChunk-after held n ys not_ended going held_are bound given;
          counts = record {
            counted = λ m were. omega (arith, were, counted, pulled);
            among = omega (
              arith,
              pulled,
              ap length held_are,
              length-take held ys,
              length-take (held + n - 0) (drop 0 ys),
            );
          };
        }

-- A read up to now, and the bytes counted.
pub record HasCounted (start now : ReaderPlace) (n₀ n₁ : ℕ) (wrote : List ℕ) (replaced waits : Bool)
    (pulls : ℕ) : Type 0 where
  pub read : HasRead start now wrote replaced waits pulls
  pub counts : CountsBytes start.state now.state n₀ n₁ read.bytes

abbrev pub HasCounted-turn : {known : Option (List ℕ)} {s₀ s : ReaderState} {n₀ n₁ : ℕ}
    {wrote : List ℕ} {replaced waits : Bool}
    → IsTurn s₀ s wrote replaced waits → CountsBytes s₀ s n₀ n₁ []
    → HasCounted (reader_at known s₀) (reader_at known s) n₀ n₁ wrote replaced waits 0
HasCounted-turn turn counts = record { read = HasRead-turn turn; counts = counts }

abbrev pub HasCounted-more : {start now next : ReaderPlace} {pulled : ReaderState} {n₀ n₁ n₂ n₃ : ℕ}
    {wrote : List ℕ} {r₀ r₁ waits : Bool} {pulls : ℕ} → HasCounted start now n₀ n₁ [] r₀ true pulls
    → PullsCounted now.remaining next.remaining now.state pulled n₁ n₂
    → IsTurn pulled next.state wrote r₁ waits → CountsBytes pulled next.state n₂ n₃ []
    → HasCounted start next n₀ n₃ wrote (r₀ || r₁) waits (pulls + 1)
HasCounted-more so_far pull turn counts = record {
  read = HasRead-more so_far.read pull.pulls turn;
  counts = rw (← append-nil pull.pulls.bytes)
      (CountsBytes-then so_far.read.bytes (pull.pulls.bytes ++ []) so_far.counts
      (CountsBytes-then pull.pulls.bytes [] pull.counts counts));
}

-- a read that has come to text or to the end
abbrev pub HandsOut-read : {start now : ReaderPlace} {n₀ n₁ : ℕ} {wrote : List ℕ}
    {replaced had_before had_after : Bool} {pulls : ℕ}
    → HasCounted start now n₀ n₁ wrote replaced false pulls → had_after ≡ (had_before || replaced)
    → (now.state.ended ≡ true → IsExhausted now.remaining)
    → HandsOut start.remaining now.remaining start.state now.state wrote had_before had_after
HandsOut-read {replaced = replaced} counted flag exhausted = record {
  bytes = counted.read.bytes;
  malformed = replaced;
  reads = counted.read.reads;
  flag = flag;
  exhausted = exhausted;
  needed = counted.read.needed;
}

pub HandsOutCounted-read : {start now : ReaderPlace} {n₀ n₁ : ℕ} {wrote : List ℕ}
    {replaced had_before had_after : Bool} {pulls : ℕ}
    → HasCounted start now n₀ n₁ wrote replaced false pulls → had_after ≡ (had_before || replaced)
    → (now.state.ended ≡ true → IsExhausted now.remaining)
    → HandsOutCounted start.remaining now.remaining start.state now.state n₀ n₁ wrote had_before
    had_after
HandsOutCounted-read counted flag exhausted =
    HandsOutCounted-by (HandsOut-read counted flag exhausted) (HasGiven-then counted.counts)
