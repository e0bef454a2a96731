-- What bytes determine for an outer decoder, whose chunk is that of an inner one, shifted: after
-- sequences that are done, after bytes that are dropped, or with held bytes before it.
use Rattle.std.proofs.Common.{◌≡◌, ℕ, ◌+◌, ◌-◌, ◌<◌, ◌≤◌, true, List, [], ◌∷◌, ◌++◌, length, take}
use Rattle.std.proofs.Common.{refl, arith, append_assoc, inl, inr, subst, ◌⊎◌}
use Rattle.std.proofs.lemmas.Bool.Decides.{nat_tests, leb_tells}
use Rattle.enc_decoder.specs.Sequence.{Sequence}
use Rattle.enc_decoder.specs.Remainder.{Remainder, AreBytes, AreFirstSequences, Determines, AreDetermined}
use Rattle.enc_decoder.specs.CallRecord.{Call}
use Rattle.enc_decoder.proofs.DeterminedLemmas.{begins_after, determines_fewer, determined_after}
use Rattle.enc_decoder.proofs.ByteLemmas.{determines_by_more}
use Rattle.enc_decoder.proofs.StageLemmas.{Stage}

-- How the chunk of an inner call lies in that of an outer one: `held` bytes, and then those after
-- the bytes read at the stage. From `from` on, if what the outer one makes of its first n bytes
-- begins with the sequences done, those that the inner one makes of its bytes among these follow;
-- from `sure` on it begins so. Less than `below` bytes determine no more than the sequences done.
pub record ShiftsInput (old mid : Remainder) (stage : Stage) (inner : Call) : Type 0 where
  pub held : ℕ
  pub from : ℕ
  pub sure : ℕ
  pub below : ℕ
  pub len : length stage.src + held ≡ length inner.src + stage.read
  pub near : from ≤ below
  pub surely : from ≤ sure
  pub shift : stage.read ≤ from + held
  pub plain : (z : List ℕ) → (inner.last ≡ true → z ≡ [])
      → old.sequences (stage.src ++ z) ≡ stage.done ++ mid.sequences (inner.src ++ z)
  pub by_prefix : (n : ℕ) → from ≤ n → n ≤ length stage.src → (y : List ℕ)
      → AreFirstSequences stage.done (old.sequences (take n stage.src ++ y))
      → old.sequences (take n stage.src ++ y) ≡ stage.done
      ++ mid.sequences (take (n + held - stage.read) inner.src ++ y)
  pub begun : (n : ℕ) → sure ≤ n → n ≤ length stage.src
      → Determines old.sequences (take n stage.src) stage.done
  pub none_below : (n : ℕ) → n < below → (s : Sequence) (ss : List Sequence)
      → Determines old.sequences (take n stage.src) (stage.done ++ s ∷ ss) → ⊥

-- the number of bytes that the outer one has read, by that of the inner one
pub record MatchesRead {old mid : Remainder} {stage : Stage} {inner : Call}
    (shift : ShiftsInput old mid stage inner) (read : ℕ) : Type 0 where
  pub within : read ≤ length stage.src
  pub there : inner.read ≤ read + shift.held - stage.read
  pub back : stage.read ≤ read + shift.held
  pub soon : shift.sure ≤ read + 1
  pub exact : (read ≡ 0) ⊎ ((read < shift.below)
      ⊎ ((shift.from ≤ read) × (read + shift.held - stage.read ≡ inner.read)))
  pub none : inner.read ≡ 0 → (read ≡ 0) ⊎ (read < shift.below)

-- a list of sequences is not empty
abbrev pub HasSequence : List Sequence → Type 0
HasSequence ts = (first : Sequence) × (rest : List Sequence) × (ts ≡ first ∷ rest)

pub sequence_at_end : (ss : List Sequence) (s : Sequence) → HasSequence (ss ++ s ∷ [])
sequence_at_end [] s = (s, [], refl)
sequence_at_end (first ∷ ss) s = (first, ss ++ s ∷ [], refl)

-- one number is at most another, or more
pub most_or_more : (m n : ℕ) → (m ≤ n) ⊎ (n < m)
most_or_more m n = grind (arith, nat_tests, leb_tells m n)

module _ {old mid : Remainder} {stage : Stage} {inner : Call}
    (shift : ShiftsInput old mid stage inner) where
  -- what the inner one determines, the outer one determines after the sequences done
  pub determines_outside : AreBytes inner.src → (m k : ℕ) (ss : List Sequence) → shift.sure ≤ k
      → k ≤ length stage.src → m ≤ k + shift.held - stage.read
      → Determines mid.sequences (take m inner.src) ss
      → Determines old.sequences (take k stage.src) (stage.done ++ ss)
  determines_outside bytes m k ss is_sure within_src few determines z are_bytes =
      let first = determines_by_more mid.sequences inner.src m (k + shift.held - stage.read) ss
      bytes few determines z are_bytes in
      let outer = shift.by_prefix k (omega (arith, shift.surely)) within_src z
      (shift.begun k is_sure within_src z are_bytes) in
      (first.0, rw (outer, first.1, append_assoc) refl)

  -- and the other way
  pub determines_inside : (m k : ℕ) (ss : List Sequence) → shift.from ≤ k → k ≤ length stage.src
      → k + shift.held - stage.read ≡ m
      → Determines old.sequences (take k stage.src) (stage.done ++ ss)
      → Determines mid.sequences (take m inner.src) ss
  determines_inside m k ss far within_src is_shifted determines z are_bytes =
      subst (λ x. AreFirstSequences ss (mid.sequences (take x inner.src ++ z))) is_shifted
      (begins_after stage.done ss
      (mid.sequences (take (k + shift.held - stage.read) inner.src ++ z))
      (old.sequences (take k stage.src ++ z))
      (shift.by_prefix k far within_src z
      (determines_fewer old.sequences (take k stage.src) stage.done ss determines z are_bytes))
      (determines z are_bytes))

  pub none_before : (ts : List Sequence) → HasSequence ts → (k : ℕ) → k < shift.below
      → Determines old.sequences (take k stage.src) (stage.done ++ ts) → ⊥
  none_before ts some k few determines =
      shift.none_below k few some.0 some.1
      (subst (λ x. Determines old.sequences (take k stage.src) (stage.done ++ x)) some.2 determines)

  pub determined_outside : (ts : List Sequence)
      → AreDetermined inner.last mid.sequences inner.src ts
      → AreDetermined inner.last old.sequences stage.src (stage.done ++ ts)
  determined_outside = determined_after old.sequences mid.sequences stage.src inner.src stage.done
      inner.last shift.plain

  -- the same for the bytes that a call has read
  module _ {read : ℕ} (reads : MatchesRead shift read) where
    pub none_shown : (ts : List Sequence) → HasSequence ts
        → (inner.read ≡ 0) ⊎ (Determines mid.sequences (take inner.read inner.src) ts → ⊥)
        → (read ≡ 0) ⊎ (Determines old.sequences (take read stage.src) (stage.done ++ ts) → ⊥)
    none_shown ts some inside = elim reads.exact [
      | inl none_read ↦ inl none_read
      | inr some_read ↦ elim some_read [
        | inl few ↦ inr (none_before ts some read few)
        | inr far ↦ elim inside [
          | inl none ↦ elim (reads.none none) [
            | inl none_read ↦ inl none_read
            | inr few ↦ inr (none_before ts some read few)
          ]
          | inr hidden ↦ inr (λ determines.
              hidden (determines_inside inner.read read ts far.0 reads.within far.1 determines))
        ]
      ]
    ]

    -- none is shown after sequences, if none is for the inner one
    pub none_after_shown : (ts : List Sequence)
        → (inner.read ≡ 0) ⊎ ((s : Sequence)
        → Determines mid.sequences (take inner.read inner.src) (ts ++ s ∷ []) → ⊥)
        → (read ≡ 0) ⊎ ((s : Sequence)
        → Determines old.sequences (take read stage.src) ((stage.done ++ ts) ++ s ∷ []) → ⊥)
    none_after_shown ts inside = elim (most_or_more read 0) [
      | inl none_read ↦ inl (omega arith)
      | inr some_read ↦ inr (λ s determines. elim (none_shown (ts ++ s ∷ []) (sequence_at_end ts s)
          (elim inside [ inl none ↦ inl none | inr hidden ↦ inr (hidden s) ])) [
            | inl none_read ↦ absurd (omega arith)
            | inr hidden ↦ hidden (subst (Determines old.sequences (take read stage.src))
                (append_assoc stage.done ts (s ∷ [])) determines)
          ])
    ]

    pub shown_next : AreBytes inner.src → (ts : List Sequence)
        → (inner.read < length inner.src
        → Determines mid.sequences (take (inner.read + 1) inner.src) ts)
        → read < length stage.src
        → Determines old.sequences (take (read + 1) stage.src) (stage.done ++ ts)
    shown_next bytes ts next unread =
        determines_outside bytes (inner.read + 1) (read + 1) ts reads.soon (omega arith)
        (omega (arith, reads.there, reads.back))
        (next (omega (arith, reads.there, shift.len, reads.back)))

    pub inner_within : inner.read ≤ length inner.src
    inner_within = omega (arith, reads.there, reads.within, shift.len, reads.back)

    pub reads_all : inner.read ≡ length inner.src → read ≡ length stage.src
    reads_all all_read = omega (arith, reads.there, reads.within, shift.len, reads.back)
