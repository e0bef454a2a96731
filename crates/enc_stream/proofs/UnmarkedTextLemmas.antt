-- Text after bytes that might have begun a mark: the decoder makes the same of them, and of later
-- bytes, as its codec.
use Rattle.std.proofs.Common.{◌≡◌, ℕ, ◌+◌, ◌-◌, ◌<◌, ◌≤◌, zero, suc, Bool, true, false, if◌then◌else◌, List, [], ◌∷◌}
use Rattle.std.proofs.Common.{◌++◌, length, take, drop, refl, ap, ◌∙◌, sym, arith, append_assoc, inl, inr, subst, ◌⊎◌}
use Rattle.std.proofs.Common.{Option, Some, None}
use Rattle.std.proofs.lemmas.List.{append-nil, length-append}
use Rattle.std.proofs.Math.Seq.{take-append-add, drop-append-add}
use Rattle.enc_stream.specs.declared.encoding.Encoding.{Encoding}
use Rattle.enc_stream.specs.declared.life_cycle.LifeCycle.{LifeCycle}
use Rattle.enc_decoder.specs.Sequence.{Sequence, sequence_bytes, set_after}
use Rattle.enc_decoder.specs.Segmentation.{Rule, sequences_of}
use Rattle.enc_decoder.specs.CodecState.{CodecState, remainder_of}
use Rattle.enc_decoder.specs.Remainder.{AreBytes, AreFirstSequences, Determines}
use Rattle.enc_stream.specs.Encodings.{rule_of}
use Rattle.enc_stream.specs.Bom.{Mark, find_mark, marks_begun, sequences_by_mark}
use Rattle.enc_stream.specs.LifeCycle.{marks_of, awaits_mark, held_mark_bytes, has_ended, held_or_pending_bytes}
use Rattle.enc_stream.specs.LifeCycle.{decoder_state_of, unread_bytes, HeldBytesMatchCodec}
use Rattle.enc_stream.specs.Sniffing.{HasNoMark}
use Rattle.enc_stream.specs.Decoding.{DecoderState, remaining_sequences, decoder_remainder}
use Rattle.enc_stream.proofs.MarkFirstLemmas.{undetermined_in}
use Rattle.enc_stream.proofs.BegunMarkLemmas.{begun_are_longer}
use Rattle.enc_stream.proofs.FoundMarkLemmas.{EachMark, found_has}
use Rattle.enc_stream.proofs.LifeCycleLemmas.{held_unmarked, held_begin, may_begin, none_awaited}
use Rattle.enc_stream.proofs.RemainingRuleLemmas.{unmarked_remaining, marked_remaining}
use Rattle.enc_decoder.proofs.FirstSequenceLemmas.{true_or_false}
use Rattle.enc_decoder.specs.CallRecord.{Call}
use Rattle.enc_decoder.proofs.StageLemmas.{start_stage}
use Rattle.enc_decoder.proofs.InnerInputLemmas.{ShiftsInput, MatchesRead, most_or_more}
use Rattle.enc_decoder.proofs.SegmentationLemmas as segmentation
use Rattle.enc_utf8.proofs.LengthLemmas.{lengths}
use Rattle.enc_stream.proofs.PendingBytesLemmas.{pending_of_held}

-- as long as a mark may come, the bytes held determine nothing
pub undetermined_in_front : (e : Encoding) (set : ℕ) (life : LifeCycle) → awaits_mark life ≡ true
    → (s : Sequence) (ss : List Sequence)
    → Determines (λ bytes. sequences_by_mark (find_mark (marks_of life) bytes) e set bytes)
    (held_mark_bytes life) (s ∷ ss) → ⊥
undetermined_in_front e set life awaits s ss =
    let begins = may_begin life awaits in
    undetermined_in (marks_of life) (marks_of life) e set (held_mark_bytes life) s ss begins.0
    begins.1

-- from how many bytes on it is settled that no mark comes
abbrev pub settled_from : LifeCycle → ℕ
settled_from life = if awaits_mark life then 1 else 0

settled_soon : (life : LifeCycle) → settled_from life ≤ 1
settled_soon life = elim (awaits_mark life) as (λ awaits. (if awaits then 1 else 0) ≤ 1)
    [ true ↦ omega arith | false ↦ omega arith ]

pub settled_if_awaited : (life : LifeCycle) (n : ℕ) → settled_from life ≤ n
    → awaits_mark life ≡ true → 1 ≤ n
settled_if_awaited life n settled awaits = rw awaits at settled

pub awaited_unless_settled : (life : LifeCycle) (n : ℕ) → n < settled_from life → (n ≡ 0)
    × (awaits_mark life ≡ true)
awaited_unless_settled life n below = elim (true_or_false (awaits_mark life)) [
  | inl awaits ↦ let few : n < 1 = rw awaits at below in (omega (arith, few), awaits)
  | inr none ↦ let few : n < 0 = rw none at below in absurd (omega (arith, few))
]

pub first_byte : (n : ℕ) (src y : List ℕ) → 1 ≤ n → n ≤ length src
    → (b : ℕ) × (z : List ℕ) × (x : List ℕ) × (src ≡ b ∷ z) × (take n src ++ y ≡ b ∷ x)
first_byte n [] y some within = absurd (omega arith)
first_byte zero (b ∷ z) y some within = absurd (omega arith)
first_byte (suc n) (b ∷ z) y some within = (b, z, take n z ++ y, refl, refl)

-- A call over held bytes and src has read `total` of both: `left` held bytes are unread, and `read`
-- of src are read.
pub record HeldRead (held src : List ℕ) : Type 0 where
  pub total : ℕ
  pub left : ℕ
  pub read : ℕ
  pub within : total ≤ length held + length src
  pub left_is : left ≡ length held - total
  pub read_is : read ≡ total - length held

module _ {held src : List ℕ} (reads : HeldRead held src) where
  pub read_within : reads.read ≤ length src
  read_within = omega (arith, reads.within, reads.read_is)

  -- all bytes held are read
  all_and_read : reads.left ≡ 0 → reads.total ≡ length held + reads.read
  all_and_read none_left = omega (arith, none_left, reads.left_is, reads.read_is)

  pub taken_all : reads.left ≡ 0
      → take reads.total (held ++ src) ≡ held ++ take reads.read src
  taken_all none_left = ap (λ k. take k (held ++ src)) (all_and_read none_left)
      ∙ take-append-add held src reads.read

  pub dropped_all : reads.left ≡ 0 → drop reads.total (held ++ src) ≡ drop reads.read src
  dropped_all none_left = ap (λ k. drop k (held ++ src)) (all_and_read none_left)
      ∙ drop-append-add held src reads.read

-- A decoder of the encoding e, with the state v of its codec, reads src as text: it is not at its
-- end, and no byte order mark precedes src.
pub record ReadsText (e : Encoding) (life : LifeCycle) (v : CodecState) (src : List ℕ)
    (last : Bool) : Type 0 where
  pub bytes : AreBytes src
  pub same_rule : rule_of e ≡ v.rule
  pub going : has_ended life ≡ false
  pub no_mark : HasNoMark life src last
  pub holds : HeldBytesMatchCodec life v

pub reads_text : {e : Encoding} {life : LifeCycle} {v : CodecState} {src : List ℕ} {last : Bool}
    → AreBytes src → rule_of e ≡ v.rule → has_ended life ≡ false → HasNoMark life src last
    → HeldBytesMatchCodec life v → ReadsText e life v src last
reads_text bytes same_rule going no_mark holds = record {
  bytes = bytes;
  same_rule = same_rule;
  going = going;
  no_mark = no_mark;
  holds = holds;
}

module _ {e : Encoding} {life : LifeCycle} {v : CodecState} {src : List ℕ} {last : Bool}
    (text : ReadsText e life v src last) where
  abbrev pub held : List ℕ
  held = unread_bytes life (length v.pending)

  abbrev pub pending : List ℕ
  pending = held_or_pending_bytes (held_mark_bytes life) v.pending

  pub at_hand : (y : List ℕ) → pending ++ y ≡ v.pending ++ (held ++ y)
  at_hand y = ap (λ x. x ++ y) text.holds.held ∙ append_assoc v.pending held y

  pub length_at_hand : length pending ≡ length v.pending + length held
  length_at_hand = ap length text.holds.held ∙ length-append v.pending held

  pub pending_in_front : awaits_mark life ≡ true → pending ≡ held_mark_bytes life
  pending_in_front awaits =
      pending_of_held (held_mark_bytes life) v.pending (text.holds.unread awaits).1

  -- no mark comes

  unmarked_by : (y : List ℕ)
      → (awaits_mark life ≡ true
      → find_mark (marks_of life) (held_mark_bytes life ++ y) ≡ None)
      → find_mark (marks_of life) (pending ++ y) ≡ None
  unmarked_by y unmarked = elim (true_or_false (awaits_mark life)) [
    | inl awaits ↦ rw (pending_in_front awaits) (unmarked awaits)
    | inr none ↦ rw (none_awaited life none) refl
  ]

  pub unmarked_after : (n : ℕ) → (awaits_mark life ≡ true → 1 ≤ n) → n ≤ length src
      → (y : List ℕ)
      → find_mark (marks_of life) (pending ++ (take n src ++ y)) ≡ None
  unmarked_after n some within y = unmarked_by (take n src ++ y) (λ awaits.
      let first = first_byte n src y (some awaits) within in
      ap (λ x. find_mark (marks_of life) (held_mark_bytes life ++ x)) first.4
      ∙ (text.no_mark.rules_out first.0 first.1 first.3).no_mark first.2)

  -- and once one more byte is read, the bytes at hand begin none
  pub begun_no_more : (n : ℕ) → 0 < n → n ≤ length src → awaits_mark life ≡ true
      → marks_begun (marks_of life) (pending ++ take n src) ≡ []
  begun_no_more n some within awaits =
      let first = first_byte n src [] (omega (arith, some)) within in
      ap (λ x. marks_begun (marks_of life) (x ++ take n src)) (pending_in_front awaits)
      ∙ ap (λ x. marks_begun (marks_of life) (held_mark_bytes life ++ x))
      (sym (append-nil (take n src)) ∙ first.4)
      ∙ (text.no_mark.rules_out first.0 first.1 first.3).none_begun first.2

  pub unmarked_all : (z : List ℕ) → (last ≡ true → z ≡ [])
      → find_mark (marks_of life) (pending ++ (src ++ z)) ≡ None
  unmarked_all z ends = unmarked_by (src ++ z) (by_bytes src refl)
    where
      by_bytes : (x : List ℕ) → src ≡ x → awaits_mark life ≡ true
          → find_mark (marks_of life) (held_mark_bytes life ++ (src ++ z)) ≡ None
      by_bytes [] src_is awaits =
          rw (src_is, ends (text.no_mark.ends src_is awaits), append-nil) (held_unmarked life)
      by_bytes (b ∷ x) src_is awaits =
          rw src_is ((text.no_mark.rules_out b x src_is).no_mark (x ++ z))

  -- so the sequences are those of the codec
  pub by_codec : (y : List ℕ) → find_mark (marks_of life) (pending ++ y) ≡ None
      → remaining_sequences (decoder_state_of e life v) y ≡ (remainder_of v).sequences (held ++ y)
  by_codec y none =
      rw (text.going, none) refl
      ∙ ap (λ (r : Rule). sequences_of r v.set (pending ++ y)) text.same_rule
      ∙ ap (sequences_of v.rule v.set) (at_hand y)

  -- a call of the codec over the bytes held and src lies so in that of the decoder over src
  abbrev pub shifts : (c : Call)
      → ShiftsInput (decoder_remainder (decoder_state_of e life v)) (remainder_of v)
      (start_stage src last c.mode c.room) (record c { src = held ++ src; last = last })
  shifts c = record {
    held = length held;
    from = settled_from life;
    sure = settled_from life;
    below = settled_from life;
    len = omega (arith, length-append held src);
    near = omega arith;
    surely = omega arith;
    shift = omega arith;
    plain = λ z ends. by_codec (src ++ z) (unmarked_all z ends)
        ∙ ap (remainder_of v).sequences (sym (append_assoc held src z));
    by_prefix = λ n settled within y _.
        let as_shifted : length held + n ≡ n + length held - 0 = omega arith in
        by_codec (take n src ++ y)
        (unmarked_after n (settled_if_awaited life n settled) within y)
        ∙ ap (remainder_of v).sequences (sym (append_assoc held (take n src) y))
        ∙ ap (λ x. (remainder_of v).sequences (x ++ y)) (sym (take-append-add held src n))
        ∙ ap (λ k. (remainder_of v).sequences (take k (held ++ src) ++ y)) as_shifted;
    begun = λ n _ _ z _. (_, refl);
    none_below = λ n below s ss determines.
        let awaited = awaited_unless_settled life n below in
        undetermined_in_front e v.set life awaited.1 s ss (λ y are_bytes.
        subst (λ x. AreFirstSequences (s ∷ ss)
        (sequences_by_mark (find_mark (marks_of life) (x ++ y)) e v.set (x ++ y)))
        (pending_in_front awaited.1)
        (rw text.going at (subst (λ k. AreFirstSequences (s ∷ ss)
        (remaining_sequences (decoder_state_of e life v) (take k src ++ y)))
        awaited.0 (determines y are_bytes))));
  }

  -- It reads the bytes held first.
  pub reads_on : {total : ℕ} (c : Call) → total ≤ length held + length src → c.read ≡ total
      → MatchesRead (shifts c) (total - length held)
  reads_on {total} c within is_total = record {
    within = omega (arith, within);
    there = omega (arith, is_total);
    back = omega arith;
    soon = omega (arith, settled_soon life);
    exact = elim (most_or_more (length held) total) [
      | inl past ↦ by_number (total - length held) (omega (arith, is_total, past))
      | inr within_held ↦ inl (omega (arith, within_held))
    ];
    none = λ none_read. inl (omega (arith, is_total, none_read));
  }
    where
      by_number : (n : ℕ) → length held + n ≡ c.read
          → (n ≡ 0) ⊎ ((n < settled_from life)
          ⊎ ((settled_from life ≤ n) × (n + length held - 0 ≡ c.read)))
      by_number zero all_read = inl refl
      by_number (suc n) all_read =
          inr (inr (omega (arith, settled_soon life), omega (arith, all_read)))

  -- the bytes at hand that are read begin with no mark
  pub unmarked_read : (n : ℕ) → n ≤ length src
      → find_mark (marks_of life) (pending ++ take n src) ≡ None
  unmarked_read zero within =
      unmarked_by [] (λ awaits. rw append-nil (held_unmarked life))
  unmarked_read (suc n) within =
      ap (λ x. find_mark (marks_of life) (pending ++ x)) (sym (append-nil (take (suc n) src)))
      ∙ unmarked_after (suc n) (λ _. omega arith) within []

  -- Text follows: the sequences before and after a call are those of the rule.
  module _ {read : ℕ} (within : read ≤ length src) (done : List Sequence) (new : DecoderState)
      (some : read ≡ 0 → done ≡ [] → ⊥) (set : new.set ≡ set_after v.set done)
      (accounted : pending ++ take read src ≡ sequence_bytes done ++ new.pending)
      (by_rule : (y : List ℕ) → remaining_sequences new y
      ≡ sequences_of (rule_of e) new.set (new.pending ++ y)) where
    abbrev old : DecoderState
    old = decoder_state_of e life v

    -- a mark that may come is longer than the bytes pending
    no_mark_first : (m : Mark) (all : List Sequence) (y : List ℕ) → read < settled_from life
        → find_mark (marks_of life) (pending ++ (take read src ++ y)) ≡ Some m
        → all ≡ done
        → AreFirstSequences all (remaining_sequences old (take read src ++ y)) → ⊥
    no_mark_first m [] y few found is_done first =
        some (awaited_unless_settled life read few).0 (sym is_done)
    no_mark_first m (s ∷ ss) y few found is_done first =
        let awaited = awaited_unless_settled life read few in
        let longer : length (held_mark_bytes life) < length m.bytes =
        found_has (λ m. length (held_mark_bytes life) < length m.bytes) (marks_of life)
        (pending ++ (take read src ++ y)) m
        (subst (EachMark (λ m. length (held_mark_bytes life) < length m.bytes))
        (held_begin life) (begun_are_longer (marks_of life) (held_mark_bytes life))) found in
        let of_mark = sym (marked_remaining old (take read src ++ y) m text.going found)
        ∙ first.1 in
        let is_mark = ap (λ (t : Sequence). length t.bytes)
        (segmentation.first_of _ s _ _ of_mark) in
        omega (
          arith,
          lengths,
          longer,
          is_mark,
          ap length (pending_in_front awaited.1),
          ap length accounted,
          ap (λ ss. length (sequence_bytes ss)) is_done,
          awaited.0,
        )

    pub text_goes_on : (y : List ℕ)
        → AreFirstSequences done (remaining_sequences old (take read src ++ y))
        → remaining_sequences old (take read src ++ y) ≡ done ++ remaining_sequences new y
    text_goes_on y first =
        by_found (find_mark (marks_of life) (pending ++ (take read src ++ y))) refl
      where
        by_found : (found : Option Mark)
            → find_mark (marks_of life) (pending ++ (take read src ++ y)) ≡ found
            → remaining_sequences old (take read src ++ y) ≡ done ++ remaining_sequences new y
        by_found None none =
            let as_text = unmarked_remaining old (take read src ++ y) text.going none in
            as_text
            ∙ segmentation.goes_on (record { rule = rule_of e; set = v.set; pending = pending })
            (record { rule = rule_of e; set = new.set; pending = new.pending }) (take read src) y
            done refl set accounted (subst (AreFirstSequences done) as_text first)
            ∙ ap (λ ss. done ++ ss) (sym (by_rule y))
        by_found (Some m) found = elim (most_or_more (settled_from life) read) [
          | inl settled ↦
              let none = unmarked_after read (settled_if_awaited life read settled) within y in
              absurd (let no = sym found ∙ none in cc)
          | inr few ↦ absurd (no_mark_first m done y few found refl first)
        ]
