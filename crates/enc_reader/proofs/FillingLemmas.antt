-- Chunks that are pulled one after another until something is determined.
use Rattle.std.proofs.Common.{◌≡◌, ℕ, ◌+◌, ◌-◌, ◌<◌, ◌≤◌, inl, inr, false, List, [], ◌++◌, length, Option}
use Rattle.std.proofs.Common.{take, drop, refl, ap, ◌∙◌, sym, subst, arith}
use Rattle.std.proofs.Common.{append_assoc, append-nil, length-append, if◌then◌else◌}
use Rattle.std.proofs.Math.ListN.{length-drop}
use Rattle.std.proofs.lemmas.List.{length-take}
use Rattle.std.proofs.lemmas.Bool.{false_from_ne_true}
use Rattle.enc_decoder.proofs.FirstSequenceLemmas.{true_or_false}
use Rattle.enc_utf8.specs.Utf8Sequences.{is_incomplete_sequence}
use Rattle.enc_decoder_utf.proofs.Utf8Incomplete.{incomplete_is_short}
use Rattle.enc_reader.specs.Reading.{ReaderState, NoneDetermined}
use Rattle.enc_reader.specs.Turn.{PullsChunk}
use Rattle.enc_reader.specs.Counting.{PullsCounted, FillsCounted}
use Rattle.enc_reader.proofs.ReadingLemmas.{reader_at, ReadsOwed-none, ReadsOwed-then}
use Rattle.enc_reader.proofs.CountingLemmas.{CountsBytes-none, CountsBytes-then}

-- nothing yet
pub FillsCounted-none : (known : Option (List ℕ)) (s : ReaderState) (n : ℕ)
    → FillsCounted known known s s n n
FillsCounted-none known s n = record {
  fills = record {
    bytes = [];
    reads = ReadsOwed-none known s;
    needed = inl (refl, refl);
    decoder = refl;
    unread = sym (append-nil s.unread);
  };
  counts = CountsBytes-none s n;
}

-- some chunks, and one more
pub FillsCounted-then : {t₀ t₁ t₂ : Option (List ℕ)} {a b c : ReaderState} {n₀ n₁ n₂ : ℕ}
    → FillsCounted t₀ t₁ a b n₀ n₁ → NoneDetermined b → PullsCounted t₁ t₂ b c n₁ n₂
    → FillsCounted t₀ t₂ a c n₀ n₂
FillsCounted-then {t₀ = t₀} {t₁ = t₁} {t₂ = t₂} {a = a} {b = b} {c = c} filled none pull =
    let fills = filled.fills in
    let pulls = pull.pulls in
    record {
      fills = record {
        bytes = fills.bytes ++ pulls.bytes;
        reads = ReadsOwed-then (reader_at t₀ a) (reader_at t₁ b) (reader_at t₂ c) fills.reads
            pulls.reads;
        needed = elim fills.needed [
          | inl same ↦ inr (subst NoneDetermined same.1 none)
          | inr none_before ↦ inr none_before
        ];
        decoder = pulls.decoder ∙ fills.decoder;
        unread = pulls.unread ∙ ap (λ u. u ++ pulls.bytes) fills.unread
            ∙ append_assoc a.unread fills.bytes pulls.bytes;
      };
      counts = CountsBytes-then fills.bytes pulls.bytes filled.counts pull.counts;
    }

-- What a fill still wants at most: bytes of the longest sequence, and the end.
abbrev pub wanted_len : ReaderState → ℕ
wanted_len s = (if s.ended then 0 else 1) + (4 - length s.unread)

pub PullsChunk-closer : {t₀ t₁ : Option (List ℕ)} {a b : ReaderState} → PullsChunk t₀ t₁ a b
    → a.ended ≡ false → length a.unread < 4 → wanted_len b < wanted_len a
PullsChunk-closer {a = a} {b = b} pulls not_ended few =
    let unread_len = ap length pulls.unread in
    let sum = length-append a.unread pulls.bytes in
    elim (true_or_false b.ended) [
      | inl ends ↦ rw (ends, not_ended) (omega arith)
      | inr goes_on ↦ (let some = pulls.some goes_on in rw (goes_on, not_ended) (omega arith))
    ]

-- more bytes than an incomplete sequence has
pub long_is_whole : (bytes : List ℕ) → 4 ≤ length bytes → is_incomplete_sequence bytes ≡ false
long_is_whole bytes long = false_from_ne_true _
    (λ incomplete. let short = incomplete_is_short bytes incomplete in omega arith)

-- the bytes at hand, by places in the buffer
module _ (filled at : ℕ) (xs : List ℕ) (decoded : at ≤ filled) (within : filled ≤ length xs) where
  pub unread_len : length (take (filled - at) (drop at xs)) ≡ filled - at
  unread_len = omega (
    arith,
    length-take (filled - at) (drop at xs),
    length-drop at xs,
  )

  pub some_unread : (at ≡ filled → ⊥) → 0 < length (take (filled - at) (drop at xs))
  some_unread differ = omega (arith, differ, unread_len)
